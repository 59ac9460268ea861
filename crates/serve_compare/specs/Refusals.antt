-- The refusals of follow and compare: reason, sheet and place. Document 01, "Three services": "Compare finishes the
-- old sheet before the new one, then 12, 13, 14. Follow: the sheet, 13, 15. A service on one sheet names it "old"; 13
-- and 14 are always "both"." SHEETS 9.1 and 9.3.
use Rattle.std.specs.Prelude.{ℕ, ◌+◌, List, ltb}
use Rattle.std.proofs.Math.Option.{Option, none}
use Rattle.language.specs.Choice.{pick}
use Rattle.language.specs.declared.Numbers.{Numbers}
use Rattle.sheet_records.specs.Refusal.{old_sheet, new_sheet, both_sheets, too_few_words}
use Rattle.sheet_records.specs.declared.refusal.Cause.{Cause}
use Rattle.sheet_records.specs.declared.refusal.Sheets.{Sheets}
use Rattle.sheet_written.specs.Width.{heading_width}
use Rattle.sheet_reader.specs.Reader.{Checks, accepted, rejected, read_sheet}
use Rattle.play_records.specs.Records.{Given, moves, bad, parse}
use Rattle.serve_conditions.specs.Lent.{words_asked}
use Rattle.serve_conditions.specs.Pair.{refusing, matching, pair_refusal}
use Rattle.sheet_records.specs.Refusal.{bad_play}

-- what an accepted sheet goes on to, by its range and rule, the length of its heading, its type and its size; or its
-- refusal
unfoldable pub on_read : Checks → Sheets → (Numbers → ℕ → ℕ → ℕ → Option Cause) → Option Cause
on_read (accepted S ty size) sheet k = k S.numbers (heading_width S) ty size
on_read (rejected reason place) sheet k = refusing reason sheet place

unfoldable pub on_given : Given → Option Cause
on_given (moves rs) = none
on_given (bad place) = refusing bad_play old_sheet place

-- follow on a sheet, a play and so many words
unfoldable pub follow_refusal : List ℕ → List ℕ → ℕ → Option Cause
follow_refusal s play words =
    on_read (read_sheet s) old_sheet (λ N root ty size.
    pick (ltb words (words_asked N size)) (refusing too_few_words both_sheets 0) (on_given (parse 0 play)))

-- compare on two sheets, so many words and bytes of play space
unfoldable pub compare_refusal : List ℕ → List ℕ → ℕ → ℕ → Option Cause
compare_refusal old new words space =
    on_read (read_sheet old) old_sheet (λ N root ty size.
    on_read (read_sheet new) new_sheet (λ M other type-of-other size-of-other.
    pair_refusal (matching old new root other ty type-of-other) N words space (size + size-of-other)))
