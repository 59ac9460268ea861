-- What the test of a live state answers. Assumes nothing.
use Rattle.std.specs.Prelude.{List, ℕ}
use Rattle.dfa.specs.Live.{Live as AcceptsSome}
use Rattle.test_dfa.specs.declared.checked.Life.{Life}
use Rattle.test_dfa.specs.declared.checked.Life.TheVariants.{Dead, Invalid, Live}

-- whether the state accepts some word
abbrev pub Lives : List ℕ → ℕ → ℕ → ℕ → Life → Type 0
Lives G n f p Invalid = Unit {0}
Lives G n f p Live = AcceptsSome G n f p
Lives G n f p Dead = AcceptsSome G n f p → ⊥
