-- The bytes of positions whose moves are letters, as the code writes them: no numbers are needed. Document 02 [12].
use Rattle.std.specs.Prelude.{cond, List, [], ◌++◌, ◌∷◌, ℕ}
use Rattle.play_records.specs.Bytes.{record_by}
use Rattle.dfa_smallest.specs.Table.{Arc, Place}
use Rattle.card_bytes.specs.Kinds.{POSITION, filed}

-- the letter of a move and a position
unfoldable pub move_bytes : ℕ → ℕ → List ℕ
move_bytes l to = filed (record_by l) to

unfoldable pub moves_bytes : List Arc → List ℕ
moves_bytes [] = []
moves_bytes (a ∷ rest) = move_bytes a.letter a.to ++ moves_bytes rest

unfoldable pub places_bytes : List Place → List ℕ
places_bytes [] = []
places_bytes (p ∷ rest) = (POSITION ∷ cond p.final 1 0 ∷ moves_bytes p.arcs) ++ places_bytes rest
