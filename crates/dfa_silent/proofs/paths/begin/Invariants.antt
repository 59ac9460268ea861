use Rattle.dfa_silent.specs.inner.Settle.{Begun}
use Rattle.dfa_silent.proofs.paths.begin.Given as goal

abbrev pub invariant-loop-p : goal.invariant-loop-p
invariant-loop-p l = Begun l.n l.initial.words l.words l.p
