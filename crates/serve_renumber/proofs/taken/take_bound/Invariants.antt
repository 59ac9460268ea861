use Prim.Native.Nat.{◌≤◌, ◌-◌, max}
use lib.ListN.{length}
use Rattle.serve_renumber.proofs.Bound.{Bounds}
use Rattle.serve_renumber.proofs.taken.take_bound.Given as goal

abbrev pub invariant-loop-at : goal.invariant-loop-at
invariant-loop-at l = (l.at ≤ max l.root 8192) × Bounds l.s l.root l.initial.taken l.taken l.at

abbrev pub decreases-loop-at : goal.decreases-loop-at
decreases-loop-at l = length l.s - l.at
