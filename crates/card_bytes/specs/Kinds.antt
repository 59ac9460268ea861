-- The kinds of the records of a card, and the record of a move. Document 02 [12]. SHEETS 8.9.
use Rattle.std.specs.Prelude.{List, [], ◌++◌, ◌∷◌, ◌%◌, ◌/◌, ℕ, ltb, length}
use Rattle.language.specs.Choice.{pick}
use Rattle.sheet_records.specs.Limits.{bytes}

-- "kind 40 with one byte, 1 for the end and else 0"
abbrev pub POSITION : ℕ
POSITION = 40

-- "its moves .. as kind 41 (move kind, id, argument, two-byte position, low byte first)"
abbrev pub MOVE : ℕ
MOVE = 41

-- "or kind 42, the same with the value before the position"
abbrev pub VALUED-MOVE : ℕ
VALUED-MOVE = 42

-- the kind of a move whose own record has so many bytes: three, or four with a value
unfoldable pub move_kind : ℕ → ℕ
move_kind width = pick (ltb width 4) MOVE VALUED-MOVE

-- a move by its own record, and the position to which it leads
unfoldable pub filed : List ℕ → ℕ → List ℕ
filed r to = move_kind (length r) ∷ (r ++ (to % bytes ∷ to / bytes ∷ []))
