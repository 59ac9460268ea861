use Rattle.states_words.specs.inner.Moves.{value_edges}
use Rattle.states_words.proofs.Loops.{Wrote}
use Rattle.states_words.proofs.hear.hear_values.Given as goal

abbrev pub invariant-loop-r : goal.invariant-loop-r
invariant-loop-r l =
    Wrote l.initial.words l.s.n l.e (value_edges l.t l.n l.s l.wait l.kind l.arg l.below l.r) l.next l.words
