use Prim.Native.Nat.{◌*◌, ◌+◌, ◌-◌, ℕ}
use mathlib.Core.List.{List}
use Rattle.dfa_live.specs.inner.Marking.{Marking, Unmarked}
use Rattle.dfa_live.proofs.marks.mark.Given as goal

abbrev pub invariant-loop-head : goal.invariant-loop-head
invariant-loop-head l = (v : List ℕ) (U : Unmarked l.n l.f v)
    → Marking U.graph l.n l.f v l.initial.words 0 l.initial.tail 0 → Marking U.graph l.n l.f v l.words l.head l.tail l.next

abbrev pub decreases-loop-head : goal.decreases-loop-head
decreases-loop-head l = (l.n - l.head) * 200001 + l.next
