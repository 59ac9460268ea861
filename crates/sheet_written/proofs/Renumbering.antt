-- What document 02 [4] says of the renumbering holds (specs/Renumbering).
use Prim.Native.Nat.{ℕ, suc, ◌+◌, ◌≤◌, ◌<◌}
use native.Mathlib.Omega.{arith}
use mathlib.Core.Path.{◌≡◌, refl, sym, ap, ◌∙◌, subst}
use mathlib.Core.Bool.{Bool, true, false, ◌||◌}
use mathlib.Core.List.{List, [], ◌∷◌}
use lib.ListN.{length, length-append}
use lib.Dec.{eqb}
use Rattle.sheet_written.specs.Written.{Written, Writtens, Name, declare, retire, Sheet}
use Rattle.sheet_written.specs.Meaning.{meaning, declared, free, term_of, type_of}
use Rattle.sheet_written.specs.Fine.{WellFormed}
use Rattle.sheet_written.specs.Like.{Like}
use Rattle.sheet_written.specs.Mapped.{Mapped, to_skip, to_diverge}
use Rattle.sheet_written.specs.Mapped.{to_truth, to_number, to_call, to_fetch, to_operate, to_assign, to_sequence}
use Rattle.sheet_written.specs.Mapped.{to_choose, to_while, to_new, to_procedure, Mappeds, to_none, to_more}
use Rattle.sheet_written.specs.Rules.{with_term}
use Rattle.sheet_written.specs.Hiding.{is_held, Apart, Hiding, hiding, ApartRule}
use Rattle.sheet_written.specs.Width.{width, widths, heading_width}
use Rattle.sheet_written.specs.Renumber.{is_named, is_bound, taken_at_first, left, Change, Renumbering}
use Rattle.sheet_written.specs.Renumber.{renumbered, none_left, renumber_sheet}
use Rattle.sheet_written.specs.Renumbering.{Gives, Olds, replaced, RenumberRule, GivenRule, UnalteredRule}
use Rattle.sheet_written.specs.Renumbering.{NothingRule, Passes, EnoughRule, RefusedRule}
use Rattle.sheet_written.proofs.Tests.{by-test}
use Rattle.sheet_written.proofs.Mapping.{mapped-like, mapped-sheet}
use Rattle.sheet_written.proofs.Renumbered.{like-accepted}
use Rattle.sheet_written.proofs.Ruling.{same_sheets}
use Rattle.sheet_written.proofs.Lowest.{true-false, not-true, or_left, or_right, or_cases, unnamed-free}
use Rattle.sheet_written.proofs.Lowest.{left-some}
use Rattle.sheet_written.proofs.Known.{Known, known}
use Rattle.sheet_written.proofs.Giving.{Grows, Good, AllGood, Old, Around, Given, give}
use Rattle.sheet_written.proofs.Unaltered.{unaltered}
use Rattle.sheet_written.proofs.Places.{Within, within}
use Rattle.sheet_written.proofs.Hidings.{apart-rule}
use Rattle.sheet_written.proofs.Listing.{Listed, Lists, lists, gives_left}

-- a term mapped has as many bytes
mutual
  unfolding width widths

  mapped-width : {seen : ℕ → Bool} {f : ℕ → ℕ} {W X : Written} → Mapped seen f W X → width W ≡ width X
  mapped-width to_skip = refl
  mapped-width to_diverge = refl
  mapped-width to_truth = refl
  mapped-width to_number = refl
  mapped-width (to_call s e a) = rw (mapped-widths a)
  mapped-width (to_fetch x) = rw (mapped-width x)
  mapped-width (to_operate x y) = rw (mapped-width x, mapped-width y)
  mapped-width (to_assign x y) = rw (mapped-width x, mapped-width y)
  mapped-width (to_sequence x y) = rw (mapped-width x, mapped-width y)
  mapped-width (to_choose b x y) = rw (mapped-width b, mapped-width x, mapped-width y)
  mapped-width (to_while x y) = rw (mapped-width x, mapped-width y)
  mapped-width (to_new h x) = rw (mapped-width x)
  mapped-width (to_procedure h g x y) = rw (mapped-width x, mapped-width y)

  mapped-widths : {seen : ℕ → Bool} {f : ℕ → ℕ} {ws ws' : Writtens} → Mappeds seen f ws ws' → widths ws ≡ widths ws'
  mapped-widths to_none = refl
  mapped-widths (to_more x a) = rw (mapped-width x, mapped-widths a)

-- an id that is declared or retired means something
named-declared : (ns : List Name) (j : ℕ) → is_named ns j ≡ true → declared ns j ≡ free → ⊥
unfolding is_named declared
named-declared [] j e g = true-false false e refl
named-declared (declare often k ty tys ∷ ns) j e g =
    by-test (eqb k j)
    (λ t. let g' = rw t at g in let z : ◌≡◌ {A = ℕ} 0 1 = cc in absurd (omega arith))
    (λ t. named-declared ns j (rw t at e) (rw t at g))
named-declared (retire k ∷ ns) j e g =
    by-test (eqb k j)
    (λ t. let g' = rw t at g in let z : ◌≡◌ {A = ℕ} 0 1 = cc in absurd (omega arith))
    (λ t. named-declared ns j (rw t at e) (rw t at g))

-- "That space must have 1,020 bytes"
few-changes : (P : ℕ → Type 0) (taken then : ℕ → Bool) (cs : List Change) → Gives taken cs then → Olds P cs →
    ((j : ℕ) → P j → (j < 255) × (taken j ≡ true)) → length cs ≤ 254
unfolding Olds
few-changes P taken then [] g o h = omega arith
few-changes P taken then (c ∷ cs) g o h =
    let x = h c.old o.0 in
    omega (arith, gives_left (c ∷ cs) taken then g, left-some taken 255 c.old x.0 x.1)

replaced-length : (cs : List Change) → length (replaced cs) ≡ length cs
unfolding replaced
replaced-length [] = refl
replaced-length (c ∷ cs) = ap suc (replaced-length cs)

olds-map : (P Q : ℕ → Type 0) (cs : List Change) → ((j : ℕ) → P j → Q j) → Olds P cs → Olds Q cs
unfolding Olds
olds-map P Q [] h o = tt
olds-map P Q (c ∷ cs) h o = (h c.old o.0, olds-map P Q cs h o.1)

-- an accepted sheet
module _ (S : Sheet) (A : WellFormed S) where
  first-unnamed : (j : ℕ) → taken_at_first S j ≡ false → declared S.names j ≡ free
  unfolding taken_at_first
  first-unnamed j e =
      let n : Bool = is_named S.names j in
      let b : Bool = is_bound S.term j in
      unnamed-free S.names j (not-true n (λ t. true-false (n || b) (or_left n b t) e))

  sheet-known : Known S.names (taken_at_first S) S.term
  unfolding taken_at_first meaning
  sheet-known =
      known S.numbers S.names (taken_at_first S) S.term [] A.in_order.fine_term
      (λ j e. or_right (is_named S.names j) (is_bound S.term j) e)
      (λ j g. by-test (is_named S.names j) (λ t. or_left (is_named S.names j) (is_bound S.term j) t)
      (λ t. absurd (g (unnamed-free S.names j t))))

  around-sheet : Around S.names (taken_at_first S) first-unnamed (taken_at_first S) (λ j. j) [] [] (taken_at_first S)
  unfolding Grows is_held
  around-sheet = record {
    first = λ j e. e;
    sees = λ j e. e;
    becomes-taken = λ j e. e;
    becomes-itself = λ j e o. refl;
    below = λ j h. h;
    held-taken = λ j e. true-false false e refl;
    held-as-read = λ j e o. true-false false e refl;
    held-as-written = λ j e. true-false false e refl;
  }

  -- the sheet as written
  GivenSheet : Written → Type 0
  GivenSheet W = Given S.names (taken_at_first S) first-unnamed (taken_at_first S) (λ j. j) [] S.term W

  OldIn : ℕ → Type 0
  OldIn j = Old S.names (taken_at_first S) first-unnamed j

  given-sheet : AllGood OldIn (λ W then. GivenSheet W) (taken_at_first S) (renumber_sheet S)
  unfolding renumber_sheet GivenSheet OldIn
  given-sheet =
      give S.names (taken_at_first S) first-unnamed S.term (taken_at_first S) (λ j. j) [] [] (taken_at_first S)
      (heading_width S) around-sheet sheet-known

  good-sheet : (W : Written) (cs : List Change) (then : ℕ → Bool) → renumber_sheet S ≡ renumbered W cs then →
      Good OldIn (GivenSheet W) (taken_at_first S) cs then
  unfolding AllGood
  good-sheet W cs then e =
      subst (λ (a : Renumbering Written). AllGood OldIn (λ X t. GivenSheet X) (taken_at_first S) a) e given-sheet

  pub within-sheet : Within (heading_width S) (heading_width S + width S.term) (renumber_sheet S)
  unfolding renumber_sheet
  within-sheet = within S.names (taken_at_first S) S.term [] (λ j. j) (taken_at_first S) (heading_width S) sheet-known

  -- the old ids are bound
  old-bound : (j : ℕ) → OldIn j → (j < 255) × (is_bound S.term j ≡ true)
  unfolding OldIn taken_at_first
  old-bound j o = (
    o.0,
    or_cases (is_named S.names j) (is_bound S.term j) o.1
        (λ t. absurd (named-declared S.names j t o.2)) (λ t. t),
  )

-- the list of any sheet's changes
lists-sheet : (S : Sheet) → Lists (taken_at_first S) (hiding [] (heading_width S) S.term) (renumber_sheet S)
unfolding renumber_sheet
lists-sheet S = lists S.term [] (λ j. j) (taken_at_first S) (heading_width S)

listed-sheet : (S : Sheet) (W : Written) (cs : List Change) (then : ℕ → Bool) → renumber_sheet S ≡ renumbered W cs then →
    Listed (taken_at_first S) (hiding [] (heading_width S) S.term) cs then
unfolding Lists
listed-sheet S W cs then e =
    subst (λ (a : Renumbering Written). Lists (taken_at_first S) (hiding [] (heading_width S) S.term) a) e
    (lists-sheet S)

same-result : (W X : Written) (taken then : ℕ → Bool) → renumbered W [] taken ≡ renumbered X [] then → W ≡ X
same-result W X taken then e = cc

-- THEOREM: the sheet written
pub renumber-rule : RenumberRule
unfolding RenumberRule with_term GivenSheet OldIn Within
renumber-rule S W cs then A e =
    let g = good-sheet S A W cs then e in
    let n : Listed (taken_at_first S) (hiding [] (heading_width S) S.term) cs then = listed-sheet S W cs then e in
    let m : Mapped (taken_at_first S) (λ j. j) S.term W = g.so.mapped in
    let l : Like S.names [] [] S.term W =
    mapped-like S.names m [] [] (record { many = refl; same = λ j s. refl; names = λ j s n. refl }) in
    let T : Sheet = record { numbers = S.numbers; names = S.names; term = W } in
    let p : (term_of S ≡ term_of T) × (type_of S ≡ type_of T) = mapped-sheet S W (taken_at_first S) m in
    record {
      accepted = record { accepted = like-accepted S W l g.so.fine A; apart = g.so.apart };
      like = l;
      same_term = p.0;
      same_sheets = same_sheets S T refl p.1 p.0;
      same_size = rw (p.0, p.1) refl;
      same_width = mapped-width m;
      listed = n.listed;
      places = subst (λ (a : Renumbering Written). Within (heading_width S) (heading_width S + width S.term) a) e
          (within-sheet S A);
      olds = olds-map (OldIn S A) (λ j. (j < 255) × (is_bound S.term j ≡ true)) cs (old-bound S A) g.olds;
      few = few-changes (OldIn S A) (taken_at_first S) then cs n.gives g.olds (λ j o. (o.0, o.1));
      again = unfold renumber_sheet in
          unaltered W [] (λ j. j) (taken_at_first T) (heading_width T) (λ j. refl) g.so.apart;
    }

-- THEOREM: the ids given
pub given-rule : GivenRule
unfolding GivenRule
given-rule S W cs then e = (listed-sheet S W cs then e).gives

-- THEOREM: a sheet with nothing to change
pub unaltered-rule : UnalteredRule
unfolding UnalteredRule renumber_sheet
unaltered-rule S h = unaltered S.term [] (λ j. j) (taken_at_first S) (heading_width S) (λ j. refl) h

pub nothing-rule : NothingRule
unfolding NothingRule UnalteredRule ApartRule replaced
nothing-rule S W then e =
    let n : [] ≡ hiding [] (heading_width S) S.term = (listed-sheet S W [] then e).listed in
    let h : Apart [] S.term = (apart-rule S.term [] (heading_width S)).1 (sym n) in
    (h, same-result S.term W (taken_at_first S) then (sym (unaltered-rule S h) ∙ e))

-- THEOREM: a sheet not refused
by_result : (S : Sheet) (a : Renumbering Written) → renumber_sheet S ≡ a →
    Lists (taken_at_first S) (hiding [] (heading_width S) S.term) a →
    length (hiding [] (heading_width S) S.term) ≤ left (taken_at_first S) 255 → Passes S
unfolding Lists
by_result S (renumbered W cs then) e l h = record { written = W; changes = cs; taken = then; passes = e }
by_result S (none_left p) e l h =
    let hs : List Hiding = hiding [] (heading_width S) S.term in
    let stop : List Hiding = record { place = p; id = l.id } ∷ l.rest in
    let n : length hs ≡ length l.made + length stop =
    ap length (sym l.stopped) ∙ length-append (replaced l.made) stop
    ∙ ap (◌+ length stop) (replaced-length l.made) in
    absurd (omega (arith, h, n, l.many))

pub enough-rule : EnoughRule
unfolding EnoughRule
enough-rule S h = by_result S (renumber_sheet S) refl (lists-sheet S) h

-- THEOREM: a sheet refused
pub refused-rule : RefusedRule
unfolding RefusedRule Lists
refused-rule S p e =
    subst (λ (a : Renumbering Written). Lists (taken_at_first S) (hiding [] (heading_width S) S.term) a) e
    (lists-sheet S)
