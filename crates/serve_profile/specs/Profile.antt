-- The answer of the service profile. Document 02 [13]: "The profile check is separate and, where it refuses nothing,
-- answers as check does"; "Refused: 18 at the kind byte of the first offending record, after all the sheet's other
-- refusals."
use Rattle.std.specs.Prelude.{ℕ, List, [], ◌∷◌, Result, Err}
use Rattle.sheet_records.specs.Refusal.{cause, old_sheet, not_quiet}
use Rattle.sheet_records.specs.declared.refusal.Cause.{Cause}
use Rattle.sheet_reader.specs.Reader.{Checks, accepted, rejected}
use Rattle.sheet_judge.specs.Check.{checked_of}
use Rattle.sheet_judge.specs.declared.check.Checked.{Checked}
use Rattle.serve_profile.specs.Offence.{offences}

-- an answer, held to the places of the offending records
unfoldable pub held_to : List ℕ → Result Checked Cause → Result Checked Cause
held_to [] x = x
held_to (p ∷ ps) x = Err (cause not_quiet old_sheet p)

unfoldable pub profiled_of : Checks → Result Checked Cause
profiled_of (accepted S ty size) = held_to (offences S) (checked_of (accepted S ty size))
profiled_of (rejected n p) = checked_of (rejected n p)
