use Prim.Native.Nat.{◌-◌}
use Rattle.dfa_difference.specs.inner.Search.{Runs}
use Rattle.dfa_difference.proofs.search.run.Given as goal

abbrev pub invariant-loop-depth : goal.invariant-loop-depth
invariant-loop-depth l = Runs l.t l.initial.words l.words l.head l.tail (l.t.most - l._depth)
