-- `text` writes the bytes that it is given.
use Rattle.print_text.proofs.Pages.{none, text-again, text-end}
use Rattle.print_text.proofs.write.text.Goals as goal

pub loop-v-init : goal.loop-v-init
loop-v-init c = none _

pub loop-v-preserved : goal.loop-v-preserved
loop-v-preserved c = text-again _ _ _ c.loop-v-test.true c.loop-v.invariant c.push-next.ensures

pub returns : goal.returns
returns c = text-end _ _ c.loop-v.v-index c.loop-v.auto.v-index-end c.loop-v-test.false c.loop-v.invariant
