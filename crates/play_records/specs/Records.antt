-- A play as it is given to follow: its records, or the place of the first bad one. Document 01, "Move records and their
-- order", and cause 15: "a play with a record of kind above 6 or a record cut short". SHEETS 6.1 and 9.1.
use Rattle.std.specs.Prelude.{ℕ, ◌+◌, List, [], ◌∷◌, ltb}
use Rattle.language.specs.Choice.{pick}

pub data Given : Type 0 where
  moves : List (List ℕ) → Given
  bad : ℕ → Given

-- the first kind of moves with a value, and the first number that is no kind
abbrev pub valued : ℕ
valued = 5

abbrev pub kinds : ℕ
kinds = 7

-- how many bytes a record of a kind has
abbrev pub width : ℕ → ℕ
width kind = pick (ltb kind valued) 3 4

-- one record more at the start
unfoldable pub preceded : List ℕ → Given → Given
preceded r (moves rs) = moves (r ∷ rs)
preceded r (bad p) = bad p

-- the records of the bytes from a place on: three bytes for kinds 0 to 4, four for kinds 5 and 6
unfoldable pub parse : ℕ → List ℕ → Given
parse at [] = moves []
parse at (k ∷ []) = bad at
parse at (k ∷ i ∷ []) = bad at
parse at (k ∷ i ∷ j ∷ []) = pick (ltb k valued) (moves ((k ∷ i ∷ j ∷ []) ∷ [])) (bad at)
parse at (k ∷ i ∷ j ∷ v ∷ s) =
    let three = preceded (k ∷ i ∷ j ∷ []) (parse (at + 3) (v ∷ s)) in
    let four = preceded (k ∷ i ∷ j ∷ v ∷ []) (parse (at + 4) s) in
    pick (ltb k valued) three (pick (ltb k kinds) four (bad at))
