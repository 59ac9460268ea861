-- `hear_single` writes the one edge of the values below 1, and gives the number of the edge after it.
use native.Mathlib.Omega.{arith}
use mathlib.Core.Path.{sym, ◌∙◌}
use Rattle.states_words.proofs.Loops.{told}
use Rattle.states_words.proofs.HeardSingle.{single-wrote}
use Rattle.states_words.proofs.hear.hear_single.Goals as goal

pub returns : goal.returns
returns c =
    let p = told (single-wrote _ _ _ _ _ _ _ _ _ _ _ _ c.letter_of.ensures
    (c.exit.ensures ∙ sym (c.requires.exits 0 (omega arith))) c.write_edge.ensures c.sum.ensures) in
    record { returned = p.0; written = p.1 }
