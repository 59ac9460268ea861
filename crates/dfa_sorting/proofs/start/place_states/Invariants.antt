use Rattle.dfa_sorting.specs.inner.Starting.{Placed}
use Rattle.dfa_sorting.proofs.start.place_states.Given as goal

abbrev pub invariant-loop-p : goal.invariant-loop-p
invariant-loop-p l = Placed l.n l.p l.initial.words l.words
