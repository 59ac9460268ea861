-- Looking for one letter. Assumes nothing.
use Rattle.std.specs.Prelude.{List, ◌≡◌, ◌-◌, ℕ}
use Rattle.dfa.specs.Graph.{Edges, look, δ}

-- scan's loop
pub record Scanning (G : List ℕ) (n p m i end : ℕ) : Type 0 where
  pub edges : Edges G n i end
  pub left : look G n m (end - i) i ≡ δ G n p m
