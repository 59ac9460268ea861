-- A refusal. Document 01, "Three services": "A refusal carries its number, which sheet, and the place".
use Rattle.std.specs.Prelude.{ℕ}
use Rattle.sheet_records.specs.declared.refusal.Reason.{Reason}
use Rattle.sheet_records.specs.declared.refusal.Reason.TheVariants.{TooLong, CutShort, OutOfRange, IdTaken, IdUnknown}
use Rattle.sheet_records.specs.declared.refusal.Reason.TheVariants.{IdRetired, WrongType, TooDeep, TooManyNames, LeftOver}
use Rattle.sheet_records.specs.declared.refusal.Reason.TheVariants.{TooLarge, HeadingsDiffer, TooFewWords, SpaceTooShort}
use Rattle.sheet_records.specs.declared.refusal.Reason.TheVariants.{BadPlay, IdEnclosed, NoIdLeft, NotQuiet}
use Rattle.sheet_records.specs.declared.refusal.Sheets.{Sheets}
use Rattle.sheet_records.specs.declared.refusal.Sheets.TheVariants.{Old, New, Both}
use Rattle.sheet_records.specs.declared.refusal.Refusal.{Refusal}
use Rattle.sheet_records.specs.declared.refusal.Cause.{Cause}

-- within a sheet: reason and place
abbrev pub refusal : Reason → ℕ → Refusal
refusal reason place = record { reason = reason; place = place }

-- as a service gives it: reason, sheet and place
abbrev pub cause : Reason → Sheets → ℕ → Cause
cause reason sheet place = record { reason = reason; sheet = sheet; place = place }

-- the sheets that it names
abbrev pub old_sheet : Sheets
old_sheet = Old

abbrev pub new_sheet : Sheets
new_sheet = New

abbrev pub both_sheets : Sheets
both_sheets = Both

-- the numbers by which it names them
abbrev pub sheet_number : Sheets → ℕ
sheet_number Old = 0
sheet_number New = 1
sheet_number Both = 2

-- the number of each reason, as the table has them: of a sheet's own 1 to 11
abbrev pub number_of : Reason → ℕ
number_of TooLong = 1
number_of CutShort = 2
number_of OutOfRange = 3
number_of IdTaken = 4
number_of IdUnknown = 5
number_of IdRetired = 6
number_of WrongType = 7
number_of TooDeep = 8
number_of TooManyNames = 9
number_of LeftOver = 10
number_of TooLarge = 11
-- of follow and compare 12 to 15; the space of 14 is that for a play, by document 02 [4] and [12] also those for a
-- sheet, its list of changes and a card
number_of HeadingsDiffer = 12
number_of TooFewWords = 13
number_of SpaceTooShort = 14
number_of BadPlay = 15
-- of a sheet by document 02 [3]
number_of IdEnclosed = 16
-- of renumber by document 02 [4]: no id is left; of profile by [13]: a record offends
number_of NoIdLeft = 17
number_of NotQuiet = 18

-- the reasons
abbrev pub too_long : Reason
too_long = TooLong

abbrev pub cut_short : Reason
cut_short = CutShort

abbrev pub out_of_range : Reason
out_of_range = OutOfRange

abbrev pub id_taken : Reason
id_taken = IdTaken

abbrev pub id_unknown : Reason
id_unknown = IdUnknown

abbrev pub id_retired : Reason
id_retired = IdRetired

abbrev pub wrong_type : Reason
wrong_type = WrongType

abbrev pub too_deep : Reason
too_deep = TooDeep

abbrev pub too_many_names : Reason
too_many_names = TooManyNames

abbrev pub left_over : Reason
left_over = LeftOver

abbrev pub too_large : Reason
too_large = TooLarge

abbrev pub headings_differ : Reason
headings_differ = HeadingsDiffer

abbrev pub too_few_words : Reason
too_few_words = TooFewWords

abbrev pub space_too_short : Reason
space_too_short = SpaceTooShort

abbrev pub bad_play : Reason
bad_play = BadPlay

abbrev pub id_enclosed : Reason
id_enclosed = IdEnclosed

abbrev pub no_id_left : Reason
no_id_left = NoIdLeft

abbrev pub not_quiet : Reason
not_quiet = NotQuiet
