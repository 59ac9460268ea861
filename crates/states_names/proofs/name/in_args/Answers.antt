-- After the last turn no argument is left.
use Rattle.std.proofs.Common.{arith, ◌∙◌, sym}
use Rattle.states_names.proofs.Steps.{args_none}
use Rattle.states_names.proofs.name.in_args.Goals as goal

pub returns : goal.returns
returns c = sym (args_none _ _ _ _ _ _ _ (omega arith)) ∙ c.loop.invariant
