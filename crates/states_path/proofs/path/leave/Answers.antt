-- `leave` gives up the levels in which the state does not lie.
use Rattle.std.proofs.Common.{arith}
use Rattle.states_path.proofs.PathCode.{leaves}
use Rattle.states_path.proofs.path.leave.Goals as goal

pub returns-then-k-field : goal.returns-then-k-field
returns-then-k-field c = (omega arith, leaves _ _ _ _ c.field.ensures c.if-k-field.true)
