-- What `changes` writes is the text `changes_text`.
use Rattle.print_report.proofs.Listed.{changes-start, changes-again, changes-end}
use Rattle.print_report.proofs.changes.changes.Goals as goal

pub loop-i-init : goal.loop-i-init
loop-i-init c = changes-start _ _ _

pub loop-i-preserved : goal.loop-i-preserved
loop-i-preserved c = changes-again _ _ c.loop-i.i _ _ c.loop-i.invariant _ c.loop-i-test.true c.change_at-next.ensures

pub returns : goal.returns
returns c = changes-end _ _ c.loop-i.i _ _ c.loop-i.invariant c.loop-i.auto.i-end c.loop-i-test.false
