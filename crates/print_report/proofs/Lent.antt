-- What compare answers with 16,384 working words and 2,040 bytes of play space. The words do for sizes that add up to
-- 511 at most, and the bytes do for those. Document 01: "so that it can print 13 and never 14".
use Prim.Native.Nat.{ℕ, ◌+◌, ◌-◌, ◌*◌, ◌≤◌}
use native.Mathlib.Omega.{arith}
use mathlib.Core.Path.{◌≡◌, ◌∙◌, refl, sym, ap}
use mathlib.Core.Bool.{Bool, true, false}
use mathlib.Core.List.{List}
use mathlib.Core.Logic.{inl, inr}
use mathlib.Core.Option.{Option, none, some}
use lib.Dec.{ltb}
use borrow.Author.Tests.{ltb-true, ltb-false}
use Rattle.language.specs.declared.Numbers.{Numbers}
use Rattle.serve_conditions.specs.Lent.{words_asked}
use Rattle.serve_conditions.proofs.Figures.{asked_low}
use Rattle.language.specs.Choice.{pick}
use Rattle.sheet_written.specs.Width.{heading_width}
use Rattle.sheet_records.specs.declared.edition.Edition.TheVariants.{Present}
use Rattle.sheet_records.specs.declared.refusal.Cause.{Cause}
use Rattle.sheet_reader.specs.Reader.{Checks, accepted, rejected, read_sheet}
use Rattle.sheet_judge.specs.Check.{NumberOf}
use Rattle.sheet_judge.proofs.Places.{check-refused}
use Rattle.serve_conditions.specs.Pair.{refusing, matching, pair_refusal}
use Rattle.serve_compare.specs.Refusals.{on_read, compare_refusal}
use Rattle.print_report.specs.Program.{Never14}
use Rattle.print_text.specs.Text.{size_in}
use Rattle.sheet_records.specs.Refusal.{number_of}
use Rattle.sheet_records.specs.declared.refusal.Reason.{Reason}
use Rattle.sheet_records.specs.declared.refusal.Reason.TheVariants.{HeadingsDiffer, TooFewWords, SpaceTooShort, IdEnclosed}
use Rattle.sheet_records.specs.declared.refusal.Sheets.TheVariants.{Old, New, Both}

-- sizes that add up to 511 at most; or a refusal by a number up to 16 but not 14, at a place up to 4,096
unfoldable pub Bounded : ℕ → Option Cause → Type 0
Bounded n none = n ≤ 511
Bounded n (some x) = (number_of x.reason ≤ 16) × (x.reason ≡ SpaceTooShort → ⊥) × (x.place ≤ 4096)

-- a number of check's
from-check : {k : Reason} → NumberOf Present k → (number_of k ≤ 16) × (k ≡ SpaceTooShort → ⊥)
unfolding NumberOf
from-check (inl h) = (omega (arith, h.1), λ e. let n = ap number_of e in omega (arith, n, h.1))
from-check (inr e) = (let n = ap number_of e in omega (arith, n), λ f. let z : IdEnclosed ≡ SpaceTooShort = sym e ∙ f in cc)

-- the words and the bytes, for sizes that add up to n
lent : (N : Numbers) (t u v : Bool) (n : ℕ) → u ≡ ltb 16384 (words_asked N n) → v ≡ ltb 2040 (4 * (n - 1)) →
    Bounded n (pick t (pick u (refusing TooFewWords Both 0) (pick v (refusing SpaceTooShort Both 0) none)) (refusing HeadingsDiffer Both 0))
unfolding Bounded
lent N false u v n d e = (omega arith, λ z. cc, omega arith)
lent N true true v n d e = (omega arith, λ z. cc, omega arith)
lent N true false true n d e =
    let low = asked_low N n (ltb-false 16384 (words_asked N n) (sym d)) in
    absurd (omega (arith, low, ltb-true 2040 (4 * (n - 1)) (sym e)))
lent N true false false n d e = omega (arith, asked_low N n (ltb-false 16384 (words_asked N n) (sym d)))

-- for all old and new sheets
pub bounded : (old new : List ℕ) →
    Bounded (size_in (read_sheet old) + size_in (read_sheet new)) (compare_refusal old new 16384 2040)
unfolding compare_refusal on_read size_in Bounded
bounded old new = go (read_sheet old) (read_sheet new) refl refl
  where
    judged : Numbers → ℕ → ℕ → ℕ → ℕ → ℕ → ℕ → Option Cause
    judged N root ty n other b m = pair_refusal (matching old new root other ty b) N 16384 2040 (n + m)

    go : (A B : Checks) → read_sheet old ≡ A → read_sheet new ≡ B →
        Bounded (size_in A + size_in B)
        (on_read A Old (λ N root ty n. on_read B New (λ M other b m. judged N root ty n other b m)))
    go (accepted S ty n) (accepted T b m) e f =
        lent S.numbers (matching old new (heading_width S) (heading_width T) ty b) _ _ (n + m) refl refl
    go (accepted S ty n) (rejected k p) e f =
        let r = check-refused Present new f in
        let k = from-check r.known in
        (k.0, k.1, r.within)
    go (rejected k p) B e f =
        let r = check-refused Present old e in
        let k = from-check r.known in
        (k.0, k.1, r.within)

-- THEOREM: the program never prints 14
pub never-14 : Never14
unfolding Bounded
never-14 old new x e = let b = rw e at (bounded old new) in b.1
