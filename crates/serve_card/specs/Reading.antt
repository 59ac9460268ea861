-- The table that the bytes after the heading and the type hold, read record by record from the left. Document 02 [12].
use Rattle.std.specs.Prelude.{Bool, List, [], ◌∷◌, ◌%◌, ◌*◌, ◌+◌, suc, zero, ℕ, eqb, drop, get_or, length}
use Rattle.language.specs.Choice.{pick}
use Rattle.language.specs.declared.Numbers.{Numbers}
use Rattle.language.specs.Move.{Move, at, move}
use Rattle.states_words.specs.Letter.{event_of}
use Rattle.card_bytes.specs.Kinds.{MOVE, POSITION}
use Rattle.serve_card.specs.Positions.{Arc, Position}

-- the moves that stand before the first position, and the positions
pub record Read : Type 0 where
  pub arcs : List Arc
  pub positions : List Position

abbrev pub nothing : Read
nothing = record { arcs = []; positions = [] }

-- a move before them
unfoldable pub moved : Arc → Read → Read
moved a r = record { arcs = a ∷ r.arcs; positions = r.positions }

-- a position before them, which has the moves
unfoldable pub opened : Bool → Read → Read
opened end r = record { arcs = []; positions = record { end = end; arcs = r.arcs } ∷ r.positions }

-- the move of a kind, an id, an argument and the byte of a value
unfoldable pub move_from : Numbers → ℕ → ℕ → ℕ → ℕ → Move
move_from N kind id argument value = move (at id argument) (event_of N kind ((value + 128) % 256))

-- a move by these, and its position, low byte first
abbrev pub arc_from : Numbers → ℕ → ℕ → ℕ → ℕ → ℕ → ℕ → Arc
arc_from N kind id argument value low high =
    record { by = move_from N kind id argument value; to = low + high * 256 }

-- at most n records: a position, a move without a value, a move with one
unfoldable pub read_records : Numbers → ℕ → List ℕ → Read
read_records N zero s = nothing
read_records N (suc n) [] = nothing
read_records N (suc n) (k ∷ s) =
    pick (eqb k POSITION) (opened (eqb (get_or s 0 0) 1) (read_records N n (drop 1 s)))
    (pick (eqb k MOVE)
    (moved (arc_from N (get_or s 0 0) (get_or s 1 0) (get_or s 2 0) 0 (get_or s 3 0) (get_or s 4 0))
    (read_records N n (drop 5 s)))
    (moved (arc_from N (get_or s 0 0) (get_or s 1 0) (get_or s 2 0) (get_or s 3 0) (get_or s 4 0) (get_or s 5 0))
    (read_records N n (drop 6 s))))

-- there are no more records than bytes
unfoldable pub read_table : Numbers → List ℕ → List Position
read_table N s = (read_records N (length s) s).positions
