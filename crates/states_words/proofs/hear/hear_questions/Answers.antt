-- `hear_questions` writes the edges `question_edges`, and gives the number of the edge after them.
use mathlib.Core.Path.{sym, ◌∙◌}
use Rattle.states_words.proofs.Loops.{told, wrote}
use Rattle.states_words.proofs.HeardQuestions.{questions-none, questions-first, questions-again}
use Rattle.states_words.proofs.hear.hear_questions.Goals as goal

pub returns-then-not-is_question : goal.returns-then-not-is_question
returns-then-not-is_question c =
    let p =
    told (questions-none _ _ _ _ _ _ _ _ c.requires.listening.1.calls
    (sym c.is_question.ensures ∙ c.if-not-is_question.true)) in
    record { returned = p.0; written = p.1 }

pub loop-j-init : goal.loop-j-init
loop-j-init c = questions-first _ _ _ _ _ _ _

pub loop-j-preserved : goal.loop-j-preserved
loop-j-preserved c =
    questions-again _ _ _ _ _ _ _ _ _ _ _ _ c.loop-j.invariant
    (wrote c.hear_argument-next.ensures.returned c.hear_argument-next.ensures.written)
