-- `hear_answers` writes the edges `block_edges`, and gives the number of the edge after them.
use native.Mathlib.Omega.{arith}
use mathlib.Core.Path.{refl, sym, ◌∙◌}
use Rattle.states_words.proofs.Loops.{told, wrote, block_none, block-some}
use Rattle.states_words.proofs.HeardAnswers.{answering}
use Rattle.states_words.proofs.HeardResults.{answering-values, block-values}
use Rattle.states_words.proofs.hear.hear_answers.Goals as goal

pub returns-then-below-eq0 : goal.returns-then-below-eq0
returns-then-below-eq0 c =
    let p = told (block_none _ _ _ _ _ _ _ _ _ c.limit-below.ensures c.if-below-eq0.true) in
    record { returned = p.0; written = p.1 }

pub hear_single-requires : goal.hear_single-requires
hear_single-requires c =
    answering _ _ c.requires.listening.1 _ _ _ _ _ _ c.requires.term_rows.1 c.requires.listening.0
    (sym c.if-below-eq1.true ∙ c.limit-below.ensures)

pub returns-then-below-eq1 : goal.returns-then-below-eq1
returns-then-below-eq1 c =
    let p =
    told (block-some _ _ _ _ _ _ _ _ 1 _ _ _ (sym c.if-below-eq1.true ∙ c.limit-below.ensures) (λ z. omega arith) refl
    (wrote c.hear_single.ensures.returned c.hear_single.ensures.written)) in
    record { returned = p.0; written = p.1 }

pub hear_results-requires-clause-answering : goal.hear_results-requires-clause-answering
hear_results-requires-clause-answering c =
    answering-values _ _ _ _ _ _ c.requires.listening.1 c.limit-below.ensures c.if-below-eq0.false
    c.if-below-eq1.false _ _ c.requires.term_rows.1 c.requires.listening.0

pub returns : goal.returns
returns c =
    let p =
    told (block-values _ _ _ _ _ _ c.requires.listening.1 c.limit-below.ensures c.if-below-eq0.false
    c.if-below-eq1.false _ _ _ _ (wrote c.hear_results.ensures.returned c.hear_results.ensures.written)) in
    record { returned = p.0; written = p.1 }
