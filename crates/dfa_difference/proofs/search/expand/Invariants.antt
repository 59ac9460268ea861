use Prim.Native.Nat.{◌+◌, ◌-◌}
use Rattle.dfa_difference.specs.inner.State.{Expanding}
use Rattle.dfa_difference.proofs.search.expand.Given as goal

abbrev pub invariant-loop-i : goal.invariant-loop-i
invariant-loop-i l = Expanding l.t l.head l.tail l.initial.words l.words l.i l.ie
    l.j l.je l.last

abbrev pub decreases-loop-i : goal.decreases-loop-i
decreases-loop-i l = l.ie + l.je - (l.i + l.j)
