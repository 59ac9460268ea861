-- `hear_each` writes the edges `value_edges`, and gives the number of the edge after them.
use Rattle.states_words.proofs.Loops.{wrote, values-first, values-again}
use Rattle.states_words.proofs.hear.hear_each.Goals as goal

pub loop-r-init : goal.loop-r-init
loop-r-init c = values-first _ _ _ _ _ _ _ _ _

pub loop-r-preserved : goal.loop-r-preserved
loop-r-preserved c =
    values-again _ _ _ _ _ _ _ _ _ _ _ _ _ _ c.loop-r.invariant
    (wrote c.hear_answer-next.ensures.returned c.hear_answer-next.ensures.written)
