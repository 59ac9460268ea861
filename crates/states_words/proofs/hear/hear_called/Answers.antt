-- `hear_called` writes the edges `heard_edges`, and gives the number of the edge after them.
use native.Mathlib.Omega.{arith}
use Rattle.states_words.proofs.Loops.{wrote}
use Rattle.states_words.proofs.HeardAnswers.{own-small}
use Rattle.states_words.proofs.HeardQuestions.{arguments, called-told}
use Rattle.states_words.proofs.hear.hear_called.Goals as goal

pub hear_kinds-asked-requires-clause-listening : goal.hear_kinds-asked-requires-clause-listening
hear_kinds-asked-requires-clause-listening c =
    (c.requires.listening.0, (arguments _ _ c.requires.listening.1 c.asking-count.ensures, omega arith))

pub overflow_add-own : goal.overflow_add-own
overflow_add-own c = omega (arith, own-small _ _ _ c.answer_kind-own.ensures)

pub hear_kinds-requires-clause-listening : goal.hear_kinds-requires-clause-listening
hear_kinds-requires-clause-listening c = (
  c.requires.listening.0,
  (
    arguments _ _ c.requires.listening.1 c.asking-count.ensures,
    omega (arith, own-small _ _ _ c.answer_kind-own.ensures),
  ),
)

pub returns : goal.returns
returns c =
    let p =
    called-told _ _ _ _ _ _ _ _ _ _ _ _ _ _ _ c.requires.listening.1 c.cell.ensures c.answer_kind-own.ensures
    c.asking-count.ensures (wrote c.hear_kinds-asked.ensures.returned c.hear_kinds-asked.ensures.written)
    (wrote c.hear_block-answered.ensures.returned c.hear_block-answered.ensures.written)
    (wrote c.hear_kinds.ensures.returned c.hear_kinds.ensures.written) in
    record { returned = p.0; written = p.1 }
