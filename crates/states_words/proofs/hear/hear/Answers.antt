-- `hear` writes the edges `heard_edges`, and gives the number of the edge after them.
use Rattle.states_words.proofs.Loops.{wrote}
use Rattle.states_words.proofs.HeardQuestions.{plain-told}
use Rattle.states_words.proofs.hear.hear.Goals as goal

pub returns-then-wait-eq0 : goal.returns-then-wait-eq0
returns-then-wait-eq0 c =
    let p = plain-told _ _ _ _ _ _ _ _ _ _ c.if-wait-eq-OPENING.false c.if-wait-eq0.true
    c.cell.ensures c.answer_kind-own.ensures
    (wrote c.hear_answers.ensures.returned c.hear_answers.ensures.written) in
    record { returned = p.0; written = p.1 }
