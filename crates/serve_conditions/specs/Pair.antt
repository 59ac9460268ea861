-- The refusals of two sheets together, each of which is read. Document 01, "Three services": "then 12, 13, 14"; "13 and
-- 14 are always "both"". SHEETS 9.1 and 9.3.
use Rattle.std.specs.Prelude.{ℕ, zero, suc, Bool, true, false, List, get_or, eqb, ltb}
use Rattle.std.specs.Prelude as std
use Rattle.std.proofs.Math.Option.{Option, none, some}
use Rattle.language.specs.Choice.{pick}
use Rattle.language.specs.declared.Numbers.{Numbers}
use Rattle.sheet_records.specs.Refusal.{cause, both_sheets, headings_differ, too_few_words, space_too_short}
use Rattle.sheet_records.specs.declared.refusal.Reason.{Reason}
use Rattle.sheet_records.specs.declared.refusal.Sheets.{Sheets}
use Rattle.sheet_records.specs.declared.refusal.Cause.{Cause}
use Rattle.serve_conditions.specs.Lent.{words_asked, bytes_asked}

-- the refusal with a reason, a sheet and a place
abbrev pub refusing : Reason → Sheets → ℕ → Option Cause
refusing reason sheet place = some (cause reason sheet place)

-- whether the first n bytes are the same
unfoldable pub same_first : ℕ → List ℕ → List ℕ → Bool
same_first zero s u = true
same_first (suc n) s u = pick (eqb (get_or s n 0) (get_or u n 0)) (same_first n s u) false

-- whether the headings, "all bytes up to the term", and the result types are the same
unfoldable pub matching : List ℕ → List ℕ → ℕ → ℕ → ℕ → ℕ → Bool
matching old new root other ty type-of-other =
    pick (eqb root other) (pick (same_first root old new) (eqb ty type-of-other) false) false

-- "then 12, 13, 14": of two sheets that are read, whether their headings and result types are the same, the range and
-- the rule of the old one, so many words and bytes of play space, and the sum of the sizes
abbrev pub pair_refusal : Bool → Numbers → ℕ → ℕ → ℕ → Option Cause
pair_refusal same N words space n =
    pick same
    (pick (ltb words (words_asked N n)) (refusing too_few_words both_sheets 0)
    (pick (ltb space (bytes_asked n)) (refusing space_too_short both_sheets 0) none))
    (refusing headings_differ both_sheets 0)

-- the reason alone, as the code gives it
unfoldable pub reason_of : Option Cause → std.Option Reason
reason_of none = std.None
reason_of (some x) = std.Some x.reason
