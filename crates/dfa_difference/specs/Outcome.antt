-- What the comparison of two states answers. Assumes nothing.
use Rattle.std.specs.Prelude.{List, ◌≡◌, ◌+◌, ◌*◌, ◌<◌, ◌≤◌, ℕ, get_or, length, Option, None, Some}
use Rattle.dfa.specs.Graph.{Graph, δ}
use Rattle.dfa_search.specs.Spelled.{Spelled, Trail}
use Rattle.dfa.specs.Word.{First, accepting, after}
use Rattle.dfa_difference.specs.declared.Task.{Task}

-- the two states are states of the automaton G
pub record Setting (G : List ℕ) (t : Task) : Type 0 where
  pub graph : Graph G t.n
  pub p_lt : t.p < t.n
  pub q_lt : t.q < t.n

-- the word of entry k of the words ws is the first that exactly one of the two states accepts, and is not too long
pub record ToldApart (G : List ℕ) (t : Task) (ws : List ℕ) (k : ℕ) : Type 0 where
  pub word : List ℕ
  pub first : First t.n (δ G t.n) (accepting t.f t.g) t.p t.q word
  pub within : length word ≤ t.most
  pub spelled : Spelled t.n ws k word
  pub trail : Trail t.n ws k
  -- the first state of the entry is where the word leads from the first of the two
  pub left : get_or ws (t.n + 4 * k) 0 ≡ after (δ G t.n) t.p word

-- no word of at most `most` letters tells the two states apart; or the word of entry k is the first that does
abbrev pub Outcome : List ℕ → Task → List ℕ → Option ℕ → Type 0
Outcome G t ws None = (x : List ℕ) → length x ≤ t.most
    → accepting t.f t.g (after (δ G t.n) t.p x) ≡ accepting t.f t.g (after (δ G t.n) t.q x)
Outcome G t ws (Some k) = ToldApart G t ws k
