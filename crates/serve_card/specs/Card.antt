-- The bytes of a card. Document 02 [12]: "the heading, one byte of result type, then the smallest table of positions".
use Rattle.std.specs.Prelude.{cond, List, [], ◌++◌, ◌∷◌, ℕ, take}
use Rattle.language.specs.declared.Numbers.{Numbers}
use Rattle.language.specs.Move.{record_of}
use Rattle.card_bytes.specs.Kinds.{POSITION, filed}
use Rattle.serve_card.specs.Positions.{Arc, Position}

unfoldable pub arc_bytes : Numbers → Arc → List ℕ
arc_bytes N a = filed (record_of N a.by) a.to

unfoldable pub arcs_bytes : Numbers → List Arc → List ℕ
arcs_bytes N [] = []
arcs_bytes N (a ∷ rest) = arc_bytes N a ++ arcs_bytes N rest

unfoldable pub table_bytes : Numbers → List Position → List ℕ
table_bytes N [] = []
table_bytes N (p ∷ rest) = (POSITION ∷ cond p.end 1 0 ∷ arcs_bytes N p.arcs) ++ table_bytes N rest

-- the card: the bytes of the sheet up to its term, the type, the positions
unfoldable pub card_bytes : List ℕ → ℕ → ℕ → Numbers → List Position → List ℕ
card_bytes s heading ty N T = take heading s ++ (ty ∷ table_bytes N T)
