-- `hear_answer` writes the edges `value_edge`, and gives the number of the edge after them.
use mathlib.Core.Path.{sym, ◌∙◌}
use Rattle.states_words.proofs.Loops.{told, value_none, value-some}
use Rattle.states_words.proofs.hear.hear_answer.Goals as goal

pub returns-then-below-value : goal.returns-then-below-value
returns-then-below-value c =
    let p = told (value_none _ _ _ _ _ _ _ _ _ _ _ c.code_at-value.ensures c.if-below-value.true) in
    record { returned = p.0; written = p.1 }

pub returns : goal.returns
returns c =
    let leads = c.exit.ensures ∙ sym (c.requires.answering.exits _ c.if-below-value.false) in
    let p =
    told (value-some _ _ _ _ _ _ _ _ _ _ _ _ _ _ _ c.code_at-value.ensures c.if-below-value.false c.letter_of.ensures
    leads c.write_edge.ensures c.sum.ensures) in
    record { returned = p.0; written = p.1 }
