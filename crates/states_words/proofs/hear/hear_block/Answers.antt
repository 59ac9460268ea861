-- `hear_block` writes the edges `block_edges`, and gives the number of the edge after them.
use mathlib.Core.Path.{refl}
use Rattle.states_words.proofs.Loops.{told, wrote, block_none, block-some}
use Rattle.states_words.proofs.hear.hear_block.Goals as goal

pub returns-then-below-eq0 : goal.returns-then-below-eq0
returns-then-below-eq0 c =
    let p = told (block_none _ _ _ _ _ _ _ _ _ c.limit-below.ensures c.if-below-eq0.true) in
    record { returned = p.0; written = p.1 }

pub returns : goal.returns
returns c =
    let p =
    told (block-some _ _ _ _ _ _ _ _ _ _ _ _ c.limit-below.ensures c.if-below-eq0.false refl
    (wrote c.hear_values.ensures.returned c.hear_values.ensures.written)) in
    record { returned = p.0; written = p.1 }
