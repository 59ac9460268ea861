-- What can keep the sheet of a part from being accepted: its length, its number of names and its size.
use Prim.Native.Nat.{ℕ, zero, suc, ◌+◌, ◌-◌, ◌≤◌, ◌<◌}
use native.Mathlib.Omega.{arith}
use native.Mathlib.Decide.{dec_le}
use mathlib.Core.Path.{◌≡◌, refl, ◌∙◌, subst}
use mathlib.Core.Logic.{◌⊎◌, inl, inr}
use mathlib.Core.Bool.{Bool, true, false}
use mathlib.Core.List.{List, [], ◌++◌}
use lib.ListN.{length, get_or}
use lib.Dec.{eqb, leb, ltb}
use borrow.Author.Tests.{eqb-false, le-ltb}
use Rattle.std.specs.Prelude.{Result, Ok, Err}
use Rattle.language.specs.Choice.{pick}
use Rattle.language.specs.declared.Numbers.{Numbers}
use Rattle.sheet_records.specs.Kind.{shape_of}
use Rattle.sheet_records.specs.Limits.{most_bytes, most_names, greatest_depth, greatest_size}
use Rattle.sheet_records.specs.Refusal.{too_long, cut_short, out_of_range, too_many_names, too_large}
use Rattle.sheet_records.specs.Standing.{retired, declared_standing}
use Rattle.sheet_records.specs.declared.edition.Edition.{Edition}
use Rattle.sheet_records.specs.declared.edition.Edition.TheVariants.{Present}
use Rattle.sheet_records.specs.declared.refusal.Refusal.{Refusal}
use Rattle.sheet_records.specs.declared.kind.Shape.{Shape}
use Rattle.sheet_records.specs.declared.kind.Shape.TheVariants.{Part, Declare, Retire, Unknown}
use Rattle.sheet_written.specs.Written.{Name, Sheet}
use Rattle.sheet_written.specs.Meaning.{typed}
use Rattle.sheet_written.proofs.Tests.{by-test}
use Rattle.sheet_reader.specs.Encoding.{encode, encode_names, encode_sheet}
use Rattle.sheet_reader.specs.Heading.{declare_of, retire_of, declare_at, retire_at}
use Rattle.sheet_reader.specs.Reader.{Tree, Answer, got, refused, bind, on_judged, read_part, Whole, whole, with_name}
use Rattle.sheet_reader.specs.Reader.{whole_of_shape, name_of, names_step, names_of, closed, nothing, whole_of, accepted}
use Rattle.sheet_reader.specs.Reader.{rejected, sheet_in, size_in, checks, read_under}
use Rattle.sheet_reader.proofs.Standings.{matches-nothing}
use Rattle.sheet_reader.proofs.NameList.{extends-first}
use Rattle.sheet_reader.proofs.CompleteNames.{RestRead, complete-names}
use Rattle.sheet_reader.proofs.Whole as opening
use Rattle.serve_part.specs.Part.{part_sheet}
use Rattle.serve_part.specs.Rules.{PartRefused}
use Rattle.serve_part.proofs.Sheets.{Nearly, part-in-order}
use Rattle.sheet_records.specs.declared.refusal.Reason.{Reason}

-- more than n names were read; refused by 9
unfoldable More : ℕ → Answer Whole → Type 0
More n (got (whole ns root t) ty end) = n < length ns
More n (refused k p) = ⊥

unfoldable Nine : Answer Whole → Type 0
Nine (got x ty end) = ⊥
Nine (refused k p) = k ≡ too_many_names

nine-bind : (A : Answer Whole) (f : Whole → ℕ → ℕ → Answer Whole) → Nine A → Nine (bind A f)
unfolding Nine bind
nine-bind (got x ty end) f h = absurd h
nine-bind (refused k p) f h = h

-- a record of a name, where what is read after it is read with fewer
name-nine : (n at : ℕ) (a : Name) (b : Bool) (j : Result (Unit {0}) Refusal) (A B : Answer Whole) →
    ((m : ℕ) → n ≡ suc m → More m A → Nine B) →
    More n (pick b (refused too_many_names at) (on_judged j (bind A (λ x ty end. got (with_name a x) ty end)))) →
    Nine (pick (eqb n 0) (refused too_many_names at) (on_judged j (bind B (λ x ty end. got (with_name a x) ty end))))
unfolding More Nine on_judged bind with_name
name-nine n at a true j A B f h = absurd h
name-nine n at a false (Err x) A B f h = absurd h
name-nine n at a false (Ok y) (refused k p) B f h = absurd h
name-nine n at a false (Ok y) (got (whole ns root t) ty end) B f h =
    by-test (eqb n 0) (λ e. rw e refl)
    (λ e. let z = eqb-false n 0 e in
    let k : n ≡ suc (n - 1) = omega arith in
    rw e (nine-bind B (λ x ty end. got (with_name a x) ty end) (f (n - 1) k (omega arith))))

no_more : (n at : ℕ) (A : Answer Tree) → More n (bind A (λ t ty end. got (whole [] at t) ty end)) → ⊥
unfolding More bind
no_more n at (got t ty end) h = omega arith
no_more n at (refused k p) h = h

module _ (ed : Edition) (N : Numbers) (s : List ℕ) where
  step-nine : (n k : ℕ) (st : List ℕ) (at : ℕ) (rec rec' : List ℕ → ℕ → Answer Whole) →
      ((st' : List ℕ) (at' m : ℕ) → n ≡ suc m → More m (rec' st' at') → Nine (rec st' at')) →
      More n (names_step ed rec' k N s st at) → Nine (names_step ed rec n N s st at)
  unfolding names_step whole_of_shape name_of More Nine
  step-nine n k st at rec rec' f h = go (leb (length s) at) (shape_of (get_or s at 0)) h
    where
      rest : ℕ → (List ℕ → ℕ → Answer Whole) → Shape → Answer Whole
      rest i r x = whole_of_shape x
          (λ body asks. name_of r i s st at body (declared_standing at asks) (declare_of s st at) (declare_at s at asks))
          (λ body. name_of r i s st at body retired (retire_of s st at) (retire_at s at))
          (bind (read_part ed greatest_depth N s st 0 at) (λ t ty end. got (whole [] at t) ty end))
          (refused out_of_range at)

      go : (b : Bool) (x : Shape) → More n (pick b (refused cut_short (length s)) (rest k rec' x)) →
          Nine (pick b (refused cut_short (length s)) (rest n rec x))
      go true x h = absurd h
      go false (Declare body asks) h =
          name-nine n at (declare_at s at asks) (eqb k 0) (declare_of s st at) _ _ (f _ _) h
      go false (Retire body) h = name-nine n at (retire_at s at) (eqb k 0) (retire_of s st at) _ _ (f _ _) h
      go false (Part body parts rule) h = absurd (no_more n at (read_part ed greatest_depth N s st 0 at) h)
      go false Unknown h = absurd h

  -- where more than n names can be read, but only n may, it is refused by 9
  names-nine : (n k : ℕ) (st : List ℕ) (at : ℕ) → More n (names_of ed k N s st at) → Nine (names_of ed n N s st at)
  unfolding names_of More
  names-nine zero zero st at h = step-nine 0 0 st at _ _ (λ st' at' m e. absurd (omega arith)) h
  names-nine zero (suc k) st at h = step-nine 0 (suc k) st at _ _ (λ st' at' m e. absurd (omega arith)) h
  names-nine (suc n) zero st at h = step-nine (suc n) 0 st at _ _ (λ st' at' m e i. absurd i) h
  names-nine (suc n) (suc k) st at h =
      let R = names-nine n in
      step-nine (suc n) (suc k) st at (names_of ed n N s) (names_of ed k N s)
      (λ st' at' m e i. let z : m ≡ n = omega arith in
      R k st' at' (subst (λ x. More x (names_of ed k N s st' at')) z i)) h

-- what was read, or refused by 1 or by 9
unfoldable Bounded : Answer Whole → Type 0
Bounded (got x ty end) = Unit
Bounded (refused k p) = (k ≡ too_long) ⊎ (k ≡ too_many_names)

bounded-nine : (s : List ℕ) (A : Answer Whole) → Nine A → Bounded (closed s A)
unfolding Nine Bounded closed bind
bounded-nine s (got x ty end) h = absurd h
bounded-nine s (refused k p) h = inr h

module _ (P : Sheet) (O : Nearly P) where
  abbrev bytes : List ℕ
  bytes = encode_sheet P

  abbrev names : ℕ → Answer Whole
  names n = names_of Present n P.numbers bytes nothing 2

  names-read : length bytes ≤ most_bytes → (n : ℕ) → length P.names ≤ n →
      RestRead bytes (names n) P.names P.term (typed P.names [] P.term) (length bytes)
  unfolding encode_sheet
  names-read l n h =
      let e : 2 + length (encode_names P.names ++ encode P.term) ≡ length bytes = omega arith in
      subst (λ x. RestRead bytes (names n) P.names P.term (typed P.names [] P.term) x) e
      (complete-names Present P.numbers bytes (λ k. 0) P.names P.term O.in_order.fine_term
      (λ i. O.apart)
      O.shallow P.names n [] nothing 2 (matches-nothing bytes (λ k. 0) l) (extends-first P.names)
      O.in_order.fine_names h refl)

  whole-opened : length bytes ≤ most_bytes → whole_of Present bytes ≡ closed bytes (names most_names)
  unfolding encode_sheet
  whole-opened l =
      opening.opened Present bytes l (omega arith) (λ e. omega (arith, O.in_order.z_above)) O.in_order.z_below
      (omega arith)
      O.rule_below

  closed-names : length bytes ≤ most_bytes → Dec (length P.names ≤ most_names) →
      Bounded (closed bytes (names most_names))
  unfolding Bounded More closed bind
  closed-names l (yes h) =
      let R = names-read l most_names h in
      rw (R.reads, le-ltb (length bytes) (length bytes) (omega arith)) tt
  closed-names l (no h) =
      let R = names-read l (length P.names) (omega arith) in
      bounded-nine bytes (names most_names)
      (names-nine Present P.numbers bytes most_names (length P.names) nothing 2 (rw R.reads (omega arith)))

  whole-bounded : Dec (length bytes ≤ most_bytes) → Bounded (whole_of Present bytes)
  unfolding Bounded
  whole-bounded (yes l) = rw (whole-opened l) (closed-names l (dec_le (length P.names) most_names))
  whole-bounded (no l) = rw (opening.too_long Present bytes (omega arith)) (inl refl)

-- THEOREM: if the sheet of a part is refused, then by 1, by 9 or by 11
pub part-refused : PartRefused
unfolding read_under checks Bounded
part-refused S C m A e n p h =
    let P = part_sheet S C m in
    go (encode_sheet P) (whole_of Present (encode_sheet P))
    (whole-bounded P (part-in-order S C m A e).0 (dec_le (length (encode_sheet P)) most_bytes)) h
  where
    sized : (b : Bool) (T : Sheet) (ty k : ℕ) → pick b (rejected too_large 0) (accepted T ty k) ≡ rejected n p →
        n ≡ too_large
    sized true T ty k e = cc
    sized false T ty k e = let z : ◌≡◌ {A = ℕ} 0 1 = cc in absurd (omega arith)

    either : {k : Reason} → (k ≡ too_long) ⊎ (k ≡ too_many_names) → n ≡ k →
        (n ≡ too_long) ⊎ ((n ≡ too_many_names) ⊎ (n ≡ too_large))
    either (inl x) e = inl (e ∙ x)
    either (inr x) e = inr (inl (e ∙ x))

    go : (s : List ℕ) (A : Answer Whole) → Bounded A → checks s A ≡ rejected n p →
        (n ≡ too_long) ⊎ ((n ≡ too_many_names) ⊎ (n ≡ too_large))
    go s (got x ty end) b e = inr (inr (sized (ltb greatest_size (size_in s x ty)) (sheet_in s x) ty (size_in s x ty) e))
    go s (refused k q) b e = either b cc
