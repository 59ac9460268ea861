-- `hear_kinds` writes the edges `asked_edges`, and gives the number of the edge after them.
use mathlib.Core.Path.{refl}
use Rattle.states_words.proofs.Loops.{wrote}
use Rattle.states_words.proofs.HeardQuestions.{asked-first, asked-again}
use Rattle.states_words.proofs.hear.hear_kinds.Goals as goal

pub loop-kind-init : goal.loop-kind-init
loop-kind-init c = asked-first _ _ _ _ _ _ _ _ _ refl

pub loop-kind-preserved : goal.loop-kind-preserved
loop-kind-preserved c =
    asked-again _ _ _ _ _ _ _ _ _ _ _ _ _ c.loop-kind.auto.kind c.loop-kind.invariant
    (wrote c.hear_questions-next.ensures.returned c.hear_questions-next.ensures.written)
