use Prim.Native.Nat.{◌≤◌, ◌-◌, max}
use lib.ListN.{length}
use Rattle.serve_profile.proofs.Walking.{Walks}
use Rattle.serve_profile.proofs.offence.first_offence.Given as goal

abbrev pub invariant-loop-at : goal.invariant-loop-at
invariant-loop-at l = (l.at ≤ max l.root 8192) × Walks l.s l.t l.root l.until l.at

abbrev pub decreases-loop-at : goal.decreases-loop-at
decreases-loop-at l = length l.s - l.at
