use Rattle.dfa_silent.specs.inner.Settle.{Redirected}
use Rattle.dfa_silent.proofs.redirect.redirect.Given as goal

abbrev pub invariant-loop-i : goal.invariant-loop-i
invariant-loop-i l = Redirected l.n l.initial.words l.words l.i
