-- `alike` asks the sign first.
use Rattle.dfa_splitting.proofs.sign.alike.Goals as goal

pub returns : goal.returns
returns c G g C f = c.same_into.ensures G g C
