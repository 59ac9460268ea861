use Prim.Native.Nat.{◌-◌}
use lib.ListN.{length}
use Rattle.play_records.proofs.Counting.{Count}
use Rattle.play_records.proofs.play.count_moves.Given as goal

abbrev pub invariant-loop-at : goal.invariant-loop-at
invariant-loop-at l = Count l.play l.at l.count

abbrev pub decreases-loop-at : goal.decreases-loop-at
decreases-loop-at l = length l.play - l.at
