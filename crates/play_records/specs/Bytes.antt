-- What the code computes on the records of plays, case by case.
use Rattle.std.specs.Prelude.{ℕ, ◌+◌, ◌*◌, ◌/◌, ◌%◌, List, [], ◌∷◌, ◌++◌, length, get_or, ltb, Result, Ok, Err}
use Rattle.language.specs.Choice.{pick}
use Rattle.sheet_records.specs.Limits.{bytes}
use Rattle.language.specs.Order.{RANK-ZERO}
use Rattle.states_words.specs.Letter.{KIND-UNIT, ID-UNIT, ARGUMENT-UNIT}
use Rattle.play_records.specs.Records.{Given, moves, bad, valued, kinds, width}

-- how many bytes a record of a kind has, 0 where there is no such kind
unfoldable pub width_of : ℕ → ℕ
width_of kind = pick (ltb kind kinds) (width kind) 0

-- how many records there are, where c come before; or the place of the first bad one
unfoldable pub counted : ℕ → Given → Result ℕ ℕ
counted c (moves rs) = Ok (c + length rs)
counted c (bad place) = Err place

-- the letter of a record: kind, id, argument, and the rank of its value where it has one
unfoldable pub letter_from : ℕ → ℕ → ℕ → ℕ → ℕ
letter_from kind id arg value =
    pick (ltb kind valued) (kind * KIND-UNIT + id * ID-UNIT + arg * ARGUMENT-UNIT)
    (kind * KIND-UNIT + id * ID-UNIT + arg * ARGUMENT-UNIT + (value + RANK-ZERO) % bytes)

-- the letter of the record with which the bytes begin
unfoldable pub first_letter : List ℕ → ℕ
first_letter s = letter_from (get_or s 0 0) (get_or s 1 0) (get_or s 2 0) (get_or s 3 0)

-- the record of a letter
unfoldable pub record_by : ℕ → List ℕ
record_by l =
    pick (ltb (l / KIND-UNIT) valued)
    ((l / KIND-UNIT % bytes) ∷ (l / ID-UNIT % bytes) ∷ (l / ARGUMENT-UNIT % bytes) ∷ [])
    ((l / KIND-UNIT % bytes) ∷ (l / ID-UNIT % bytes) ∷ (l / ARGUMENT-UNIT % bytes) ∷ ((l % bytes + RANK-ZERO) % bytes)
    ∷ [])

-- the records of letters, one after the other
unfoldable pub records_by : List ℕ → List ℕ
records_by [] = []
records_by (l ∷ ls) = record_by l ++ records_by ls
