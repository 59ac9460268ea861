-- "The smallest table of positions, none of them with the same move twice, that has exactly the routine's complete
-- plays" (document 02 [12]), by tables alone: what plays a table has, and that none with these plays has fewer
-- positions than the table of `Positions`.
use Rattle.std.specs.Prelude.{true, List, [], ◌∷◌, ◌↔◌, ◌≡◌, ◌<◌, ◌≤◌, ℕ, get_or, length}
use Rattle.language.specs.Move.{Move, Word}
use Rattle.sheet_written.specs.Written.{Sheet}
use Rattle.sheet_reader.specs.Fine.{Accepted}
use Rattle.serve_compare.specs.Plays.{CompletePlay}
use Rattle.serve_card.specs.Positions.{Among, Position, Table, no_position}

-- in the table U the moves u lead from position k to position j
pub data Goes (U : List Position) : ℕ → Word → ℕ → Type 0 where
  here : {k : ℕ} → Goes U k [] k
  on : {k i j : ℕ} {m : Move} {u : Word} → i < length U → Among (get_or U k no_position).arcs m i → Goes U i u j
      → Goes U k (m ∷ u) j

-- the moves u lead from position 0 to the end
abbrev pub PlayIn : List Position → Word → Type 0
PlayIn U u = (j : ℕ) × ((0 < length U) × (Goes U 0 u j × ((get_or U j no_position).end ≡ true)))

-- U is a table without the same move twice at a position that has exactly the complete plays of S
pub record HasPlays (S : Sheet) (U : List Position) : Type 0 where
  pub once : (k : ℕ) → k < length U → (m : Move) (i j : ℕ) → Among (get_or U k no_position).arcs m i
      → Among (get_or U k no_position).arcs m j → i ≡ j
  pub plays : (u : Word) → CompletePlay S u ↔ PlayIn U u

-- the table of positions is such a table
abbrev pub IsTable : Type 0
IsTable = (S : Sheet) → Accepted S → (T : List Position) → Table S T → HasPlays S T

-- and none has fewer positions
abbrev pub NoSmaller : Type 0
NoSmaller = (S : Sheet) → Accepted S → (T U : List Position) → Table S T → HasPlays S U → length T ≤ length U

-- there is one table of positions
abbrev pub OneTable : Type 0
OneTable = (S : Sheet) → Accepted S → (T U : List Position) → Table S T → Table S U → T ≡ U
