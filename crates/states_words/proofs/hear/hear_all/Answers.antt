-- `hear_all` writes the edges `heard_edges`, and gives the number of the edge after them.
use Rattle.states_words.proofs.Loops.{wrote, heard-first, heard-again}
use Rattle.states_words.proofs.hear.hear_all.Goals as goal

pub loop-b-init : goal.loop-b-init
loop-b-init c = heard-first _ _ _ _ _ _

pub loop-b-preserved : goal.loop-b-preserved
loop-b-preserved c =
    heard-again _ _ _ _ _ _ _ _ _ _ _ c.loop-b.invariant
    (wrote c.hear_block-next.ensures.returned c.hear_block-next.ensures.written)
