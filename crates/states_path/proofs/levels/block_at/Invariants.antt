use Rattle.states_path.proofs.PathSteps.{Looking}
use Rattle.states_path.proofs.levels.block_at.Given as goal

abbrev pub invariant-loop-m : goal.invariant-loop-m
invariant-loop-m l = Looking l.p l.c l.block l.m

abbrev pub decreases-loop-m : goal.decreases-loop-m
decreases-loop-m l = l.m
