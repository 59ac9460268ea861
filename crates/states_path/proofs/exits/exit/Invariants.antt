use Rattle.states_positions.specs.declared.Out.TheVariants.{Exit}
use Rattle.states_path.proofs.PathSteps.{Exiting}
use Rattle.states_path.proofs.exits.exit.Given as goal

abbrev pub invariant-loop-up : goal.invariant-loop-up
invariant-loop-up l = Exiting l.n l.s l.p l.c l.own l.up l.answer l.result l.block l.set (Exit l.kind l.value l.block l.set)

abbrev pub decreases-loop-up : goal.decreases-loop-up
decreases-loop-up l = l.up
