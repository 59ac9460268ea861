-- After the last turn no argument is left.
use Rattle.std.proofs.Common.{arith, ◌∙◌, sym}
use Rattle.states_names.proofs.Steps.{reply_none}
use Rattle.states_names.proofs.name.reply.Goals as goal

pub returns : goal.returns
returns c = sym (reply_none _ _ _ _ _ _ _ (omega arith)) ∙ c.loop.invariant
