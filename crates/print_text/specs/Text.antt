-- What the program prints, as bytes. Document 01, "A program reads `old.sheet` and `new.sheet`": "Line 1: both sizes.
-- Line 2: the sheet and the number of moves, or `same` alone. Then one move a line: kind, id, argument and, where it
-- has one, the signed value. A refusal is one line, `refused 7 old 3`: number, sheet, place." Document 02 [6]: "the
-- program prints a second line, `uses 3 of 5 and 2 of 5` (bits set, then records of kinds 1 and 3, old before new)".
use Rattle.std.specs.Prelude.{ℕ, zero, suc, ◌+◌, ◌/◌, ◌%◌, List, [], ◌∷◌, ◌++◌, get_or, drop, ltb, ℤ, pos, negsuc}
use Rattle.std.specs.Prelude.{Option, Some, None, Result, Ok, Err}
use Prim.Native.Char.{code}
use Prim.Native.String.{String, [] as end, ◌∷◌ as ◌then◌}
use Rattle.language.specs.Choice.{pick}
use Rattle.language.specs.Number.{from_byte}
use Rattle.sheet_records.specs.declared.refusal.Cause.{Cause}
use Rattle.sheet_written.specs.Uses.{declared_in}
use Rattle.sheet_reader.specs.Reader.{Checks, accepted, rejected, read_sheet}
use Rattle.sheet_judge.specs.declared.mark.Uses.{Uses}
use Rattle.play_records.specs.Records.{valued, width}
use Rattle.serve_compare.specs.declared.Comparison.{Comparison}
use Rattle.play_words.specs.declared.Difference.{Difference}
use Rattle.sheet_records.specs.Refusal.{number_of}
use Rattle.sheet_records.specs.declared.refusal.Sheets.{Sheets}
use Rattle.sheet_records.specs.declared.refusal.Sheets.TheVariants.{Old, New, Both}

-- the bytes of a text
abbrev pub ascii : String → List ℕ
ascii end = []
ascii (c then s) = code c ∷ ascii s

-- a number in decimal, of at most so many digits
unfoldable pub digits_in : ℕ → ℕ → List ℕ
digits_in zero v = []
digits_in (suc n) v = pick (ltb v 10) ((48 + v) ∷ []) (digits_in n (v / 10) ++ ((48 + v % 10) ∷ []))

-- a number in decimal
unfoldable pub digits : ℕ → List ℕ
digits v = digits_in (suc v) v

-- a whole number in decimal, with its sign where it is below 0
unfoldable pub signed_digits : ℤ → List ℕ
signed_digits (pos n) = digits n
signed_digits (negsuc n) = ascii "-" ++ digits (suc n)

-- the names of the sheets
unfoldable pub sheet_name : Sheets → List ℕ
sheet_name Old = ascii "old"
sheet_name New = ascii "new"
sheet_name Both = ascii "both"

-- "refused 7 old 3"
unfoldable pub refused_text : Cause → List ℕ
refused_text x =
    ascii "refused " ++ digits (number_of x.reason) ++ ascii " " ++ sheet_name x.sheet ++ ascii " " ++ digits x.place
    ++ ascii "\n"

-- "old 4 new 4"
unfoldable pub sizes_text : ℕ → ℕ → List ℕ
sizes_text old new = ascii "old " ++ digits old ++ ascii " new " ++ digits new ++ ascii "\n"

-- "3 of 5"
unfoldable pub names_text : ℕ → ℕ → List ℕ
names_text used declared = digits used ++ ascii " of " ++ digits declared

-- "uses 3 of 5 and 2 of 5"
unfoldable pub uses_text : ℕ → ℕ → ℕ → ℕ → List ℕ
uses_text used declared used' declared' =
    ascii "uses " ++ names_text used declared ++ ascii " and " ++ names_text used' declared' ++ ascii "\n"

-- "apart in old 2"
unfoldable pub apart_text : Sheets → ℕ → List ℕ
apart_text sheet moves = ascii "apart in " ++ sheet_name sheet ++ ascii " " ++ digits moves ++ ascii "\n"

-- the value of a move, where its kind has one; the byte is two's complement
unfoldable pub value_text : ℕ → ℕ → List ℕ
value_text kind byte = pick (ltb kind valued) [] (ascii " " ++ signed_digits (from_byte byte))

-- "5 255 0 -1"
unfoldable pub move_text : ℕ → ℕ → ℕ → ℕ → List ℕ
move_text kind id argument byte =
    digits kind ++ ascii " " ++ digits id ++ ascii " " ++ digits argument ++ value_text kind byte ++ ascii "\n"

-- the move with whose record the bytes begin
unfoldable pub first_move : List ℕ → List ℕ
first_move s = move_text (get_or s 0 0) (get_or s 1 0) (get_or s 2 0) (get_or s 3 0)

-- how many bytes the first record has
unfoldable pub first_width : List ℕ → ℕ
first_width s = width (get_or s 0 0)

-- so many moves, one record after the other
unfoldable pub moves_text : ℕ → List ℕ → List ℕ
moves_text zero s = []
moves_text (suc n) s = first_move s ++ moves_text n (drop (first_width s) s)

-- the size of a sheet that is accepted
unfoldable pub size_in : Checks → ℕ
size_in (accepted S ty size) = size
size_in (rejected number place) = 0

-- how many names a sheet that is accepted declares
unfoldable pub declared_of : Checks → ℕ
declared_of (accepted S ty size) = declared_in S
declared_of (rejected number place) = 0

-- the lines of two sheets: their sizes, and the names that they use of those that they declare
unfoldable pub sheets_text : List ℕ → List ℕ → Uses → Uses → List ℕ
sheets_text old new u v =
    sizes_text (size_in (read_sheet old)) (size_in (read_sheet new))
    ++ uses_text u.used (declared_of (read_sheet old)) v.used (declared_of (read_sheet new))

-- the lines of two sheets and what is found of their plays, the play in the play space
unfoldable pub found_text : List ℕ → Option Difference → List ℕ → List ℕ
found_text lines None space = lines ++ ascii "same\n"
found_text lines (Some d) space = lines ++ apart_text d.sheet d.moves ++ moves_text d.moves space

-- the whole text for two sheets, the answer of compare and the play space after it
unfoldable pub text_of : List ℕ → List ℕ → Result Comparison Cause → List ℕ → List ℕ
text_of old new (Ok c) space = found_text (sheets_text old new c.old c.new) c.found space
text_of old new (Err x) space = refused_text x
