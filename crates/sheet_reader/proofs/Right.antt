-- The reader is right: it accepts exactly the bytes of the sheets that are in order, and gives their type and size.
use Prim.Native.Nat.{ℕ, ◌+◌, ◌≤◌, ◌<◌}
use native.Mathlib.Omega.{arith}
use mathlib.Core.Path.{◌≡◌, refl, sym, ap, ap₂, ◌∙◌, subst}
use mathlib.Core.Bool.{Bool, true, false}
use mathlib.Core.List.{List, [], ◌∷◌, ◌++◌, append-nil}
use lib.ListN.{length, get_or, drop, drop_of_length-le}
use lib.Seq.{drop-cons}
use lib.Dec.{eqb, leb, ltb}
use borrow.Author.Tests.{eqb-false, leb-false, ltb-false, lt-leb, le-ltb, ne_eqb}
use Rattle.language.specs.Choice.{pick}
use Rattle.language.specs.Weight.{size}
use Rattle.language.specs.declared.Numbers.{Numbers}
use Rattle.sheet_records.specs.Limits.{greatest_z, greatest_rule}
use Rattle.sheet_records.specs.Refusal.{too_large, id_enclosed}
use Rattle.sheet_records.specs.declared.edition.Edition.{Edition}
use Rattle.sheet_records.specs.declared.edition.Edition.TheVariants.{Earlier, Present}
use Rattle.sheet_written.specs.Written.{Written, Name, Sheet}
use Rattle.sheet_written.specs.Meaning.{ty_of, term_of, type_of}
use Rattle.sheet_written.specs.Fine.{FineNames}
use Rattle.sheet_written.specs.Hiding.{Apart, Hiding, hiding}
use Rattle.sheet_written.specs.Width.{heading_width}
use Rattle.sheet_reader.specs.Encoding.{encode, encode_names, encode_sheet}
use Rattle.sheet_reader.specs.Fine.{AcceptedUnder}
use Rattle.sheet_reader.specs.Reader.{Tree, Answer, got, refused, bind, Whole, whole, names_of, closed, numbers_at}
use Rattle.sheet_reader.specs.Reader.{nothing, whole_by, whole_of, written, accepted, rejected, sheet_in, size_in, checks}
use Rattle.sheet_reader.specs.Reader.{read_under}
use Rattle.sheet_reader.specs.Agreement.{ReaderGives, ReaderAccepts, EarlierToo, PresentApart, HiddenRefused}
use Rattle.sheet_reader.proofs.Standings.{matches-nothing}
use Rattle.sheet_reader.proofs.Answers.{All, one, none', pick_all, bind_all}
use Rattle.sheet_reader.proofs.Sound.{Sound, sound}
use Rattle.sheet_reader.proofs.NameList.{extends-first, NamesRead, names-read, names-all}
use Rattle.sheet_reader.proofs.CompleteNames.{RestRead, complete-names}
use Rattle.sheet_reader.proofs.HidingBytes.{Hides}
use Rattle.sheet_reader.proofs.HiddenNames.{names-hide}

-- a sheet that is read passed every test but that of its size
pub record SheetRead (ed : Edition) (s : List ℕ) (π : ℕ → ℕ) (x : Whole) (ty end : ℕ) : Type 0 where
  pub short : length s ≤ 4096
  pub long : 1 < length s
  pub z_above : 0 < get_or s 0 0
  pub z_below : get_or s 0 0 ≤ greatest_z
  pub rule_below : get_or s 1 0 ≤ greatest_rule
  pub names : NamesRead ed (numbers_at s) s π 32 [] 2 x ty end
  pub ends : length s ≤ end

pub sheet-all : (ed : Edition) (s : List ℕ) (π : ℕ → ℕ) → All (SheetRead ed s π) (whole_of ed s)
unfolding whole_by closed
sheet-all ed s π =
    pick_all A (ltb 4096 (length s)) (λ e. none') (λ e₁.
    pick_all A (leb (length s) 0) (λ e. none') (λ e₂.
    pick_all A (eqb (get_or s 0 0) 0) (λ e. none') (λ e₃.
    pick_all A (ltb greatest_z (get_or s 0 0)) (λ e. none') (λ e₄.
    pick_all A (leb (length s) 1) (λ e. none') (λ e₅.
    pick_all A (ltb greatest_rule (get_or s 1 0)) (λ e. none') (λ e₆.
    bind_all _ (SheetRead ed s π) _ _
    (names-all ed (numbers_at s) s π 32 [] nothing 2 (matches-nothing s π (ltb-false 4096 (length s) e₁)))
    (λ x ty end q.
    pick_all A (ltb end (length s)) (λ e. none') (λ e₇.
    one (record {
      short = ltb-false 4096 (length s) e₁;
      long = leb-false (length s) 1 e₅;
      z_above = above (get_or s 0 0) (eqb-false (get_or s 0 0) 0 e₃);
      z_below = ltb-false greatest_z (get_or s 0 0) e₄;
      rule_below = ltb-false greatest_rule (get_or s 1 0) e₆;
      names = q;
      ends = ltb-false end (length s) e₇;
    })))))))))
  where
    A : Answer Whole → Type 0
    A = All (SheetRead ed s π)

    above : (n : ℕ) → (n ≡ 0 → ⊥) → 0 < n
    above n h = omega arith

-- what an accepted answer says
Gives : Edition → List ℕ → Sheet → ℕ → ℕ → Type 0
Gives ed s S ty n =
    (s ≡ encode_sheet S) × AcceptedUnder ed S × (ty ≡ type_of S) × (n ≡ size (ty_of S.numbers ty) (term_of S))

-- the sheet that was read
module _
    (ed : Edition) (s : List ℕ) (π : ℕ → ℕ) (ns : List Name) (root : ℕ) (t : Tree) (ty end : ℕ)
    (R : SheetRead ed s π (whole ns root t) ty end)
    (l : length ns ≤ 32) (f : FineNames [] ns) (b : drop 2 s ≡ encode_names ns ++ drop root s)
    (P : Sound ed (numbers_at s) s ns 32 [] root (written s t) ty end) where
  abbrev here : Sheet
  here = record { numbers = numbers_at s; names = ns; term = written s t }

  here-bytes : s ≡ encode_sheet here
  unfolding encode_sheet
  here-bytes =
      let e : drop end s ≡ [] = drop_of_length-le s R.ends in
      drop-cons s 0 0 (omega (arith, R.long)) ∙ ap (λ (x : List ℕ). get_or s 0 0 ∷ x) (drop-cons s 1 0 R.long
      ∙ ap (λ (x : List ℕ). get_or s 1 0 ∷ x) (b ∙ ap (λ (x : List ℕ). encode_names ns ++ x) (P.bytes
      ∙ ap (λ (x : List ℕ). encode (written s t) ++ x) e ∙ append-nil (encode (written s t)))))

  here-type : ty ≡ type_of here
  unfolding type_of
  here-type = sym P.types

  here-accepted : size (ty_of (numbers_at s) ty) (term_of here) ≤ 4096 → AcceptedUnder ed here
  here-accepted h = record {
    ordered = record {
      in_order = record { z_above = R.z_above; z_below = R.z_below; fine_names = f; fine_term = P.fine };
      rule_below = R.rule_below;
      few_names = l;
      shallow = P.shallow;
      small = subst (λ (x : ℕ). size (ty_of (numbers_at s) x) (term_of here) ≤ 4096) here-type h;
    };
    short = subst (λ (x : List ℕ). length x ≤ 4096) here-bytes R.short;
    apart = P.apart;
  }

  here-gives : size (ty_of (numbers_at s) ty) (term_of here) ≤ 4096 →
      Gives ed s here ty (size (ty_of (numbers_at s) ty) (term_of here))
  unfolding Gives
  here-gives h = (here-bytes, here-accepted h, here-type, refl)

-- the places of procedures, of which none encloses a whole term
abbrev places : ℕ → ℕ
places k = 0

read-gives : (ed : Edition) (s : List ℕ) (S : Sheet) (ty n : ℕ) → read_under ed s ≡ accepted S ty n → Gives ed s S ty n
unfolding read_under checks sheet_in size_in
read-gives ed s S ty n e = go (whole_of ed s) (sheet-all ed s places) e
  where
    sized : (x : Whole) (ty' : ℕ) (u : Bool) → ltb 4096 (size_in s x ty') ≡ u →
        pick u (rejected too_large 0) (accepted (sheet_in s x) ty' (size_in s x ty')) ≡ accepted S ty n →
        (size_in s x ty' ≤ 4096) × (sheet_in s x ≡ S) × (ty' ≡ ty) × (size_in s x ty' ≡ n)
    sized x ty' true g h = let z : ◌≡◌ {A = ℕ} 0 1 = cc in absurd (omega arith)
    sized x ty' false g h = (ltb-false 4096 (size_in s x ty') g, cc, cc, cc)

    go : (A : Answer Whole) → All (SheetRead ed s places) A → checks s A ≡ accepted S ty n → Gives ed s S ty n
    go A (one {x = x} {ty = ty'} {n = end} R) h = of x R.names R (sized x ty' (ltb 4096 (size_in s x ty')) refl h)
      where
        of : (x : Whole) → NamesRead ed (numbers_at s) s places 32 [] 2 x ty' end → SheetRead ed s places x ty' end →
            (size_in s x ty' ≤ 4096) × (sheet_in s x ≡ S) × (ty' ≡ ty) × (size_in s x ty' ≡ n) → Gives ed s S ty n
        of x (names-read {ns = ns} {root = root} {t = t} l f b p) R h =
            let P = sound (numbers_at s) s ns 32 (p ns (extends-first ns)) in
            let G = here-gives ed s places ns root t ty' end R l f b P h.0 in
            rw (h.3, h.1, h.2) at G
    go A none' h = let z : ◌≡◌ {A = ℕ} 0 1 = cc in absurd (omega arith)

-- THEOREM: what an accepted answer says is so
pub gives : ReaderGives
unfolding Gives
gives ed s S ty n e = read-gives ed s S ty n e

-- the bytes of a sheet that is in order
module _ (ed : Edition) (S : Sheet) (A : AcceptedUnder ed S) (s : List ℕ) (b : s ≡ encode_sheet S) where
  read_first : get_or s 0 0 ≡ S.numbers.z
  unfolding encode_sheet
  read_first = ap (λ (x : List ℕ). get_or x 0 0) b

  read-second : get_or s 1 0 ≡ S.numbers.rule
  unfolding encode_sheet
  read-second = ap (λ (x : List ℕ). get_or x 1 0) b

  read-rest : drop 2 s ≡ encode_names S.names ++ encode S.term
  unfolding encode_sheet
  read-rest = ap (λ (x : List ℕ). drop 2 x) b

  read_length : length s ≡ 2 + length (encode_names S.names ++ encode S.term)
  unfolding encode_sheet
  read_length = ap length b ∙ omega arith

  read_short : length s ≤ 4096
  read_short = subst (λ (x : List ℕ). length x ≤ 4096) (sym b) A.short

  read_names : RestRead s (names_of ed 32 S.numbers s nothing 2) S.names S.term (type_of S) (length s)
  unfolding type_of
  read_names =
      rw read_length (complete-names ed S.numbers s places S.names S.term
      A.ordered.in_order.fine_term A.apart
      A.ordered.shallow S.names 32 [] nothing 2 (matches-nothing s places read_short)
      (extends-first S.names) A.ordered.in_order.fine_names A.ordered.few_names read-rest)

  abbrev whole_read : Whole
  whole_read = whole S.names read_names.root read_names.tree

  read-numbers : numbers_at s ≡ S.numbers
  read-numbers = ap₂ (λ (x y : ℕ). record { z = x; rule = y }) read_first read-second

  read_whole : whole_of ed s ≡ got whole_read (type_of S) (length s)
  unfolding whole_by closed bind
  read_whole =
      let R = read_names in
      let l : 1 < length s = omega (arith, read_length) in
      let O = A.ordered in
      rw (
        read_first,
        read-second,
        le-ltb 4096 (length s) read_short,
        lt-leb (length s) 0 (omega arith),
        ne_eqb S.numbers.z 0 (λ e. omega (arith, O.in_order.z_above)),
        le-ltb greatest_z S.numbers.z O.in_order.z_below,
        lt-leb (length s) 1 l,
        le-ltb greatest_rule S.numbers.rule O.rule_below,
        R.reads,
        le-ltb (length s) (length s) (omega arith),
      ) refl

  read-sheet : sheet_in s whole_read ≡ S
  unfolding sheet_in
  read-sheet =
      ap₂ (λ (x : Numbers) (y : Written). record { numbers = x; names = S.names; term = y }) read-numbers
      read_names.writes

  read-size : size_in s whole_read (type_of S) ≡ size (ty_of S.numbers (type_of S)) (term_of S)
  unfolding size_in
  read-size =
      ap₂ (λ (x : Numbers) (y : Sheet). size (ty_of x (type_of S)) (term_of y)) read-numbers read-sheet

  accepts-bytes :
      read_under ed s ≡ accepted S (type_of S) (size (ty_of S.numbers (type_of S)) (term_of S))
  unfolding read_under checks
  accepts-bytes =
      let n = size (ty_of S.numbers (type_of S)) (term_of S) in
      ap (checks s) read_whole
      ∙ ap₂ (λ (x : ℕ) (y : Sheet). pick (ltb 4096 x) (rejected too_large 0) (accepted y (type_of S) x)) read-size
      read-sheet
      ∙ rw (le-ltb 4096 n A.ordered.small) refl

-- THEOREM: every sheet that is in order is accepted, with its type and size
pub accepts : ReaderAccepts
accepts ed S A = accepts-bytes ed S A (encode_sheet S) refl

-- one rule's sheet by the other: the bytes, the type and the size are those of the sheet
module _ (s : List ℕ) (S : Sheet) (ty n : ℕ) (ed ed' : Edition) (e : read_under ed s ≡ accepted S ty n) where
  also : (ed' ≡ Present → Apart [] S.term) → read_under ed' s ≡ accepted S ty n
  also f =
      let G = gives ed s S ty n e in
      let A = G.1 in
      let a = accepts ed' S (record { ordered = A.ordered; short = A.short; apart = f }) in
      ap (read_under ed') G.0 ∙ a
      ∙ ap₂ (λ (x k : ℕ). accepted S x k) (sym G.2)
      (ap (λ (x : ℕ). size (ty_of S.numbers x) (term_of S)) (sym G.2) ∙ sym G.3)

-- THEOREM: what the present rule accepts the earlier one accepted
pub earlier-too : EarlierToo
earlier-too s S ty n e = also s S ty n Present Earlier e (λ p. let z : ◌≡◌ {A = ℕ} 0 1 = cc in absurd (omega arith))

-- THEOREM: what the earlier rule accepted the present one accepts exactly if no binder hides another
pub present-apart : PresentApart
present-apart s S ty n e =
    ((λ h. (gives Present s S ty n h).1.apart refl), (λ a. also s S ty n Earlier Present e (λ p. a)))

-- the bytes of a sheet of the earlier rule, in whose term some binder hides another
module _ (S : Sheet) (A : AcceptedUnder Earlier S) (s : List ℕ) (b : s ≡ encode_sheet S) where
  names-refused : Hides (hiding [] (heading_width S) S.term) (names_of Present 32 S.numbers s nothing 2)
  unfolding heading_width
  names-refused =
      names-hide S.numbers s places S.names S.term A.ordered.in_order.fine_term A.ordered.shallow
      S.names 32 [] nothing 2 (matches-nothing s places (read_short Earlier S A s b)) (extends-first S.names)
      A.ordered.in_order.fine_names A.ordered.few_names (read-rest Earlier S A s b)

  whole-refused : (h : Hiding) (hs : List Hiding) → hiding [] (heading_width S) S.term ≡ h ∷ hs →
      whole_of Present s ≡ refused id_enclosed h.place
  unfolding whole_by closed bind
  whole-refused h hs e =
      let O = A.ordered in
      let l : 1 < length s = omega (arith, read_length Earlier S A s b) in
      rw (
        read_first Earlier S A s b,
        read-second Earlier S A s b,
        le-ltb 4096 (length s) (read_short Earlier S A s b),
        lt-leb (length s) 0 (omega arith),
        ne_eqb S.numbers.z 0 (λ z. omega (arith, O.in_order.z_above)),
        le-ltb greatest_z S.numbers.z O.in_order.z_below,
        lt-leb (length s) 1 l,
        le-ltb greatest_rule S.numbers.rule O.rule_below,
        names-refused.stops h hs e,
      ) refl

-- THEOREM: what the earlier rule accepted, and in which some binder hides another, the present one refuses by 16 at the
-- first that does
pub hidden-refused : HiddenRefused
unfolding read_under checks
hidden-refused s S ty n h hs e k =
    let G = gives Earlier s S ty n e in
    ap (checks s) (whole-refused S G.1 s G.0 h hs k)
