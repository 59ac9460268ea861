-- What the tests of an automaton find. Assumes nothing.
use Rattle.std.specs.Prelude.{List, ◌+◌, ◌<◌, ◌^◌, ℕ}
use Rattle.dfa.specs.Graph.{letter, target}

pub record EdgeOk (G : List ℕ) (n k end : ℕ) : Type 0 where
  pub small : (letter G n k < 2 ^ 27) × (target G n k < n)
  pub rising : k + 1 < end → letter G n k < letter G n (k + 1)
