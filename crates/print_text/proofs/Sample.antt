-- Document 01's lines, document 02's line of the names used, and a value below 0, from the definitions.
use mathlib.Core.Path.{◌≡◌, refl}
use mathlib.Core.List.{[], ◌∷◌}
use Rattle.language.specs.Number.{from_byte}
use Rattle.sheet_records.specs.Refusal.{cause}
use Rattle.print_text.specs.Text.{ascii, digits_in, digits, signed_digits, sheet_name, refused_text, sizes_text}
use Rattle.print_text.specs.Text.{names_text, uses_text, apart_text, value_text, move_text, first_move, first_width, moves_text}
use Rattle.sheet_records.specs.declared.refusal.Reason.TheVariants.{WrongType}
use Rattle.sheet_records.specs.declared.refusal.Sheets.TheVariants.{Old}

refusal : refused_text (cause WrongType Old 3) ≡ ascii "refused 7 old 3\n"
unfolding refused_text digits digits_in sheet_name
refusal = refl

sizes : sizes_text 4 4 ≡ ascii "old 4 new 4\n"
unfolding sizes_text digits digits_in
sizes = refl

uses : uses_text 3 5 2 5 ≡ ascii "uses 3 of 5 and 2 of 5\n"
unfolding uses_text names_text digits digits_in
uses = refl

apart : apart_text Old 2 ≡ ascii "apart in old 2\n"
unfolding apart_text digits digits_in sheet_name
apart = refl

moves : moves_text 2 (0 ∷ 255 ∷ 0 ∷ 1 ∷ 255 ∷ 0 ∷ []) ≡ ascii "0 255 0\n1 255 0\n"
unfolding moves_text first_move first_width move_text value_text digits digits_in
moves = refl

value : moves_text 1 (5 ∷ 9 ∷ 1 ∷ 254 ∷ []) ≡ ascii "5 9 1 -2\n"
unfolding moves_text first_move first_width move_text value_text digits digits_in signed_digits from_byte
value = refl
