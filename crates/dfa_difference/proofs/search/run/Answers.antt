-- `run` keeps what `Outcome` says.
use native.Mathlib.Omega.{arith}
use Rattle.dfa_difference.proofs.laws.Search.{runs-again, runs_same}
use Rattle.dfa_difference.proofs.search.run.Goals as goal

pub returns-then-head-tail : goal.returns-then-head-tail
returns-then-head-tail c = (runs_same _ _ _ _ _ _ c.loop-depth.invariant (omega arith), c.loop-depth.invariant.graph)

pub loop-depth-preserved : goal.loop-depth-preserved
loop-depth-preserved c = runs-again _ _ _ _ _ _ c.loop-depth.invariant _ _ _ (omega (arith, c.loop-depth-test.true))
    c.expand_level.auto.words c.in-Ok.ensures.0 c.in-Ok.ensures.1
