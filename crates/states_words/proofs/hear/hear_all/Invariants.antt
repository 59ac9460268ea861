use Rattle.states_words.specs.inner.Moves.{heard_edges}
use Rattle.states_words.proofs.Loops.{Wrote}
use Rattle.states_words.proofs.hear.hear_all.Given as goal

abbrev pub invariant-loop-b : goal.invariant-loop-b
invariant-loop-b l =
    Wrote l.initial.words l.s.n l.e (heard_edges l.t l.n l.s l.wait l.b) l.next l.words
