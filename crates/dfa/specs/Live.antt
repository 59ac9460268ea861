-- Whether a state accepts some word, where one state accepts and the dead state has no edges. Assumes nothing.
use Rattle.std.specs.Prelude.{true, List, ◌≢◌, ◌≡◌, ◌-◌, ℕ, get_or}
use Rattle.dfa.specs.Graph.{Graph, δ}
use Rattle.dfa.specs.Word.{accepting, after}

-- f alone accepts, and is not the dead state, which has no edges
pub record Single (G : List ℕ) (n f : ℕ) : Type 0 where
  pub graph : Graph G n
  pub empty : get_or G (n - 1) 0 ≡ get_or G n 0
  pub other : f ≢ n - 1

-- the state p accepts the word u
abbrev pub Accepts : List ℕ → ℕ → ℕ → ℕ → List ℕ → Type 0
Accepts G n f p u = accepting f f (after (δ G n) p u) ≡ true

-- the state p accepts some word
abbrev pub Live : List ℕ → ℕ → ℕ → ℕ → Type 0
Live G n f p = (u : List ℕ) × Accepts G n f p u
