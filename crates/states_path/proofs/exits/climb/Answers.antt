-- `climb` leads a step through all levels, as `rise_all` does.
use Rattle.states_path.proofs.PathCode.{climb-again, climb-last}
use Rattle.states_path.proofs.exits.climb.Goals as goal

pub loop-i-preserved : goal.loop-i-preserved
loop-i-preserved c = λ N. climb-again _ _ _ _ _ _ _ _ c.loop-i-test.true c.frame_at.ensures c.goes-out.ensures (c.loop-i.invariant N)

pub returns : goal.returns
returns c = λ N. climb-last _ _ _ _ _ _ c.loop-i-test.false (c.loop-i.invariant N)
