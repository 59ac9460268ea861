-- The answer of check, as the code gives it, and the numbers by which it refuses. Document 01, "Three services": "A
-- service on one sheet names it "old"". SHEETS 8.2.
use Rattle.std.specs.Prelude.{ℕ, ◌≤◌, ◌≡◌, ◌⊎◌, Result, Ok, Err}
use Rattle.sheet_records.specs.Refusal.{cause, old_sheet, number_of, too_long, too_large, id_enclosed}
use Rattle.sheet_records.specs.declared.edition.Edition.{Edition}
use Rattle.sheet_records.specs.declared.edition.Edition.TheVariants.{Earlier, Present}
use Rattle.sheet_records.specs.declared.refusal.Cause.{Cause}
use Rattle.sheet_records.specs.declared.refusal.Reason.{Reason}
use Rattle.sheet_reader.specs.Reader.{Checks, accepted, rejected}
use Rattle.sheet_judge.specs.Mark.{uses_of}
use Rattle.sheet_judge.specs.declared.check.Checked.{Checked}
use Rattle.sheet_judge.specs.declared.mark.Uses.{Uses}

-- the answer of check to a sheet that it accepts
abbrev pub answered : ℕ → ℕ → Uses → Result Checked Cause
answered ty size uses = Ok (record { ty = ty; size = size; uses = uses })

unfoldable pub checked_of : Checks → Result Checked Cause
checked_of (accepted S ty size) = answered ty size (uses_of S)
checked_of (rejected n p) = Err (cause n old_sheet p)

-- document 01's 1 to 11, and from document 02 [3] on also 16
unfoldable pub NumberOf : Edition → Reason → Type 0
NumberOf Earlier k = (number_of too_long ≤ number_of k) × (number_of k ≤ number_of too_large)
NumberOf Present k = ((number_of too_long ≤ number_of k) × (number_of k ≤ number_of too_large)) ⊎ (k ≡ id_enclosed)
