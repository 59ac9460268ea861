-- Demand 1, of the numbers: check, follow, compare and look refuse by the numbers of documents 01 and 02 and no
-- others.
use Prim.Native.Nat.{ℕ, ◌+◌, ◌-◌, ◌*◌}
use mathlib.Core.Path.{◌≡◌, refl}
use mathlib.Core.Bool.{Bool, true, false}
use mathlib.Core.Logic.{inl, inr}
use mathlib.Core.List.{List}
use mathlib.Core.Option.{Option, none, some}
use Rattle.std.specs.Prelude.{Result, Ok, Err}
use native.Mathlib.Omega.{arith}
use lib.Dec.{ltb}
use lib.ListN.{length}
use Rattle.language.specs.declared.Numbers.{Numbers}
use Rattle.serve_conditions.specs.Lent.{words_asked}
use Rattle.language.specs.Choice.{pick}
use Rattle.sheet_records.specs.declared.edition.Edition.TheVariants.{Present}
use Rattle.sheet_records.specs.declared.refusal.Cause.{Cause}
use Rattle.sheet_records.specs.declared.refusal.Reason.{Reason}
use Rattle.sheet_records.specs.declared.refusal.Reason.TheVariants.{HeadingsDiffer, TooFewWords, SpaceTooShort}
use Rattle.sheet_records.specs.declared.refusal.Sheets.{Sheets}
use Rattle.sheet_records.specs.declared.refusal.Sheets.TheVariants.{Old, New, Both}
use Rattle.sheet_written.specs.Width.{heading_width}
use Rattle.sheet_reader.specs.Reader.{Checks, accepted, rejected, read_sheet}
use Rattle.sheet_judge.proofs.Places.{check-refused}
use Rattle.play_records.specs.Records.{Given, moves, bad, parse}
use Rattle.serve_conditions.specs.Pair.{refusing, matching}
use Rattle.serve_compare.specs.Refusals.{on_read, on_given, follow_refusal}
use Rattle.serve_compare.specs.Refusals.{compare_refusal}
use Rattle.serve_compare.specs.Look.{LookedBy, LookPromise}
use Rattle.serve_compare.specs.declared.Looking.{Looking}
use Rattle.serve_compare.specs.Demands.{CheckNumber, FollowNumber, CompareNumber, NumbersOnly}

-- no refusal, or one whose reason is among P
unfoldable Among : (Reason → Type 0) → Option Cause → Type 0
Among P none = Unit
Among P (some x) = P x.reason

from-check : (s : List ℕ) (reason : Reason) (place : ℕ) → read_sheet s ≡ rejected reason place → CheckNumber reason
from-check s reason place e = (check-refused Present s e).known

on_read_lem : (P : Reason → Type 0) → ((k : Reason) → CheckNumber k → P k) → (s : List ℕ) (sheet : Sheets)
    (k : Numbers → ℕ → ℕ → ℕ → Option Cause) → ((N : Numbers) (root ty size : ℕ) → Among P (k N root ty size)) →
    Among P (on_read (read_sheet s) sheet k)
unfolding on_read Among
on_read_lem P f s sheet k g = go (read_sheet s) refl
  where
    go : (A : Checks) → read_sheet s ≡ A → Among P (on_read A sheet k)
    go (accepted S ty size) e = g S.numbers (heading_width S) ty size
    go (rejected reason place) e = f reason (from-check s reason place e)

choice : (P : Reason → Type 0) (t : Bool) (a b : Option Cause) → Among P a → Among P b → Among P (pick t a b)
choice P true a b p q = p
choice P false a b p q = q

-- follow: the sheet's, 13, 15
from-sheet : (k : Reason) → CheckNumber k → FollowNumber k
unfolding FollowNumber
from-sheet k h = inl h

given : (g : Given) → Among FollowNumber (on_given g)
unfolding on_given Among FollowNumber
given (moves rs) = tt
given (bad place) = inr (inr refl)

follow-among : (s play : List ℕ) (words : ℕ) → Among FollowNumber (follow_refusal s play words)
unfolding follow_refusal
follow-among s play words =
    on_read_lem FollowNumber from-sheet s Old _ (λ N root ty size.
    choice FollowNumber (ltb words (words_asked N size)) (refusing TooFewWords Both 0) (on_given (parse 0 play))
    (unfold Among FollowNumber in inr (inl refl)) (given (parse 0 play)))

-- compare: the sheets', 12, 13, 14
from-sheets : (k : Reason) → CheckNumber k → CompareNumber k
unfolding CompareNumber
from-sheets k h = inl h

lent : (t u v : Bool) →
    Among CompareNumber (pick t (pick u (refusing TooFewWords Both 0) (pick v (refusing SpaceTooShort Both 0) none)) (refusing HeadingsDiffer Both 0))
unfolding Among CompareNumber
lent false u v = inr (inl refl)
lent true true v = inr (inr (inl refl))
lent true false true = inr (inr (inr refl))
lent true false false = tt

compare-among : (old new : List ℕ) (words space : ℕ) → Among CompareNumber (compare_refusal old new words space)
unfolding compare_refusal
compare-among old new words space =
    on_read_lem CompareNumber from-sheets old Old _ (λ N root ty size.
    on_read_lem CompareNumber from-sheets new New _ (λ M other type-of-other size-of-other.
    let n = size + size-of-other in
    lent (matching old new root other ty type-of-other) (ltb words (words_asked N n)) (ltb space (4 * (n - 1)))))

-- look: compare's; an answer is no refusal
never-refused : {a : Looking} (x : Cause) → Err x ≡ Ok a → ⊥
never-refused x e = let z : ◌≡◌ {A = ℕ} 0 1 = cc in omega arith

look-number : (old new : List ℕ) (limit : ℕ) (ws space : List ℕ) (x : Cause) (ws' space' : List ℕ) →
    LookPromise old new limit ws space (Err x) ws' space' → CompareNumber x.reason
unfolding LookedBy Among
look-number old new limit ws space x ws' space' p =
    go (compare_refusal old new (length ws) (length space)) (compare-among old new (length ws) (length space)) p
  where
    go : (y : Option Cause) → Among CompareNumber y → LookedBy y old new limit ws space (Err x) ws' space' →
        CompareNumber x.reason
    go none a h = absurd (never-refused x h.answer)
    go (some y) a h = let e : x ≡ y = (let f = h.0 in cc) in rw e a

-- THEOREM: demand 1, of the numbers
pub numbers-only : NumbersOnly
unfolding Among
numbers-only = record {
  of_check = from-check;
  of_follow = λ s play words x e. rw e at (follow-among s play words);
  of_compare = λ old new words space x e. rw e at (compare-among old new words space);
  of_look = look-number;
}
