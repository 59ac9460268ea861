use Rattle.dfa.specs.inner.Scan.{Scanning}
use Rattle.dfa.proofs.graph.scan.Given as goal

abbrev pub invariant-loop-i : goal.invariant-loop-i
invariant-loop-i l = Scanning l.graph l.n l.p l.m l.i l.end
