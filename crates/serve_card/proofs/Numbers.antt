-- Card refuses by the sheet's own refusal, by 13 and by 14, and by no others.
use mathlib.Core.Bool.{Bool, false, true}
use mathlib.Core.Logic.{◌⊎◌, inl, inr}
use mathlib.Core.Option.{none, some}
use mathlib.Core.Path.{◌≡◌, refl}
use Prim.Native.Nat.{ℕ}
use native.Mathlib.Omega.{arith}
use lib.Dec.{ltb}
use Rattle.language.specs.Choice.{pick}
use Rattle.sheet_records.specs.Refusal.{both_sheets, cause, old_sheet}
use Rattle.sheet_records.specs.declared.refusal.Cause.{Cause}
use Rattle.sheet_reader.specs.Reader.{Checks, accepted, read_sheet, rejected}
use Rattle.serve_conditions.specs.Lent.{words_asked}
use Rattle.serve_compare.specs.Refusals.{on_read}
use Rattle.serve_conditions.specs.Pair.{refusing}
use Rattle.serve_compare.proofs.Numbers.{numbers-only}
use Rattle.serve_card.specs.Promise.{card_refusal, lent_refusal, space_for}
use Rattle.serve_card.specs.Rules.{CardNumbers, LentRefused, SheetRefused}
use Rattle.sheet_records.specs.declared.refusal.Reason.TheVariants.{TooFewWords, SpaceTooShort}

same-cause : {x y : Cause} → some x ≡ some y → y ≡ x
same-cause e = cc

no-cause : {x : Cause} → none ≡ some x → ⊥
no-cause e = let z : ◌≡◌ {A = ℕ} 0 1 = cc in absurd (omega arith)

-- 13 or 14
lent : (a b : Bool) (x : Cause)
    → pick a (refusing TooFewWords both_sheets 0) (pick b (refusing SpaceTooShort both_sheets 0) none) ≡ some x
    → (x ≡ cause TooFewWords both_sheets 0) ⊎ (x ≡ cause SpaceTooShort both_sheets 0)
lent true b x e = inl (same-cause e)
lent false true x e = inr (same-cause e)
lent false false x e = absurd (no-cause e)

-- THEOREM: a refusal of card is the sheet's own, or 13 or 14 of an accepted sheet
pub card-numbers : CardNumbers
unfolding card_refusal on_read
card-numbers s words space x e = go (read_sheet s) refl e
  where
    go : (A : Checks) → read_sheet s ≡ A
        → on_read A old_sheet (λ N root ty size. lent_refusal N words space size) ≡ some x
        → SheetRefused s x ⊎ LentRefused s x
    go (rejected reason place) r e = inl (record {
      reason = reason;
      place = place;
      reads = r;
      known = numbers-only.of_check s reason place r;
      says = same-cause e;
    })
    go (accepted S ty size) r e = inr (record {
      sheet = S;
      type = ty;
      size = size;
      reads = r;
      says = lent (ltb words (words_asked S.numbers size)) (ltb space (space_for S.numbers size)) x e;
    })
