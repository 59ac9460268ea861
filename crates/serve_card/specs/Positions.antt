-- The positions of a routine, by its complete plays alone. Document 02 [12]: "the smallest table of positions, none of
-- them with the same move twice, that has exactly the routine's complete plays, keeping only positions through which a
-- complete play passes". Two beginnings of complete plays that go on alike lead to one position, and no smaller table
-- has these plays; so a position is a class of beginnings that go on alike.
use Rattle.std.specs.Prelude.{Bool, false, true, List, [], ◌++◌, ◌∷◌, ◌↔◌, ◌⊎◌, ◌≡◌, ◌<◌, ℕ, get_or, length}
use Rattle.language.specs.declared.Numbers.{Numbers}
use Rattle.language.specs.Move.{Before, Earlier, Move, Word}
use Rattle.sheet_written.specs.Written.{Sheet}
use Rattle.serve_compare.specs.Plays.{CompletePlay}

-- some complete play begins with b
abbrev pub Beginning : Sheet → Word → Type 0
Beginning S b = (u : Word) × CompletePlay S (b ++ u)

-- b and c lead to one position: the same words complete them
abbrev pub OnePosition : Sheet → Word → Word → Type 0
OnePosition S b c = (u : Word) → CompletePlay S (b ++ u) ↔ CompletePlay S (c ++ u)

-- "the first beginning of a play that leads to each", by 01's rule for plays
pub record FirstBeginning (S : Sheet) (b : Word) : Type 0 where
  pub begins : Beginning S b
  pub least : (c : Word) → Before S.numbers c b → OnePosition S c b → ⊥

-- a move of a position, and the number of the position to which it leads
pub record Arc : Type 0 where
  pub by : Move
  pub to : ℕ

-- a position: whether it is the end, and its moves
pub record Position : Type 0 where
  pub end : Bool
  pub arcs : List Arc

abbrev pub no_position : Position
no_position = record { end = false; arcs = [] }

-- the moves stand in 01's order, none twice
unfoldable pub Ascending : Numbers → List Arc → Type 0
Ascending N [] = Unit {0}
Ascending N (a ∷ []) = Unit {0}
Ascending N (a ∷ (b ∷ as')) = Earlier N a.by b.by × Ascending N (b ∷ as')

-- the move m to position j is among the moves
unfoldable pub Among : List Arc → Move → ℕ → Type 0
Among [] m j = ⊥
Among (a ∷ as') m j = ((a.by ≡ m) × (a.to ≡ j)) ⊎ Among as' m j

-- the table of positions, numbered from 0: `leading k` is the first beginning that leads to position k
pub record Table (S : Sheet) (T : List Position) : Type 0 where
  pub leading : ℕ → Word
  pub first : (k : ℕ) → k < length T → FirstBeginning S (leading k)
  pub rising : (j k : ℕ) → j < k → k < length T → Before S.numbers (leading j) (leading k)
  pub all : (b : Word) → Beginning S b → (k : ℕ) × ((k < length T) × OnePosition S b (leading k))
  pub ends : (k : ℕ) → k < length T → ((get_or T k no_position).end ≡ true) ↔ CompletePlay S (leading k)
  pub ordered : (k : ℕ) → k < length T → Ascending S.numbers (get_or T k no_position).arcs
  pub moves : (k : ℕ) → k < length T → (m : Move) (j : ℕ) → Among (get_or T k no_position).arcs m j
      ↔ ((j < length T) × (Beginning S (leading k ++ (m ∷ [])) × OnePosition S (leading k ++ (m ∷ [])) (leading j)))
