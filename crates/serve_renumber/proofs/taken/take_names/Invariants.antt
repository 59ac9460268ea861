use Prim.Native.Nat.{◌≤◌, ◌-◌}
use Rattle.serve_renumber.proofs.Names.{Named}
use Rattle.serve_renumber.proofs.taken.take_names.Given as goal

abbrev pub invariant-loop-at : goal.invariant-loop-at
invariant-loop-at l = (l.at ≤ 8192) × Named l.s l.root l.initial.taken l.initial.scope l.taken l.scope l.at

abbrev pub decreases-loop-at : goal.decreases-loop-at
decreases-loop-at l = l.root - l.at
