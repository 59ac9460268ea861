use Rattle.dfa_silent.specs.inner.Settle.{Through}
use Rattle.dfa_silent.proofs.paths.find_paths.Given as goal

abbrev pub invariant-loop-p : goal.invariant-loop-p
invariant-loop-p l = Through l.n l.initial.words l.words l.p
