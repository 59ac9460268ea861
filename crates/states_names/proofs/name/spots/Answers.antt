-- Before the first turn no argument is counted.
use Rattle.std.proofs.Common.{arith, sym}
use Rattle.states_names.proofs.Steps.{spots_none}
use Rattle.states_names.proofs.name.spots.Goals as goal

pub loop-j-init : goal.loop-j-init
loop-j-init c = sym (spots_none _ _ _ _ (omega arith))
