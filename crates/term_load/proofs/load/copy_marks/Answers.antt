-- The marks of the places before i are copied.
use Rattle.term_load.proofs.Copying.{copied_more}
use Rattle.term_load.proofs.load.copy_marks.Goals as goal

pub loop-i-preserved : goal.loop-i-preserved
loop-i-preserved c =
    copied_more _ _ _ _ _ c.loop-i.invariant c.loop-i-test.true c.get_or.ensures c.put.ensures
