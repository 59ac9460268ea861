-- `write_row` writes the row `row_of`, and gives the number of the edge after it.
use mathlib.Core.Logic.{inl, inr}
use mathlib.Core.Path.{refl}
use Rattle.states_path.proofs.PathRise.{Quiet}
use Rattle.states_words.proofs.PathRows.{is-go, is-exit, is_stuck, row-quiet, row-says, row-hears}
use Rattle.states_words.proofs.PathListens.{row-listens}
use Rattle.states_words.proofs.Loops.{WroteRow}
use Rattle.states_words.proofs.fill.write_row.Goals as goal

pub hear-requires-clause-listening : goal.hear-requires-clause-listening
hear-requires-clause-listening c =
    row-listens _ _ _ _ _ _ _ _ _ _ _ _ c.requires.arrived c.in-Hear.is c.wait_of-wait.ensures

pub returns-in-Go : goal.returns-in-Go
unfolding WroteRow
returns-in-Go c =
    let q : Quiet c.args.at.out =
    elim c.in-Go.is [ inl w ↦ is-go w.3 | inr v ↦ elim v [ inl w ↦ is-exit w.4 | inr w ↦ is_stuck w ] ] in
    let p =
    row-quiet _ _ _ _ _ _ _ _ c.requires.arrived _ _ _ _ c.silent_at.ensures c.sum.ensures c.write_head.ensures q in
    record { returned = p.0; written = p.1 }

pub returns-in-Say : goal.returns-in-Say
unfolding WroteRow
returns-in-Say c =
    let p =
    row-says _ _ _ _ _ _ _ _ c.requires.arrived _ _ _ _ c.silent_at.ensures c.sum.ensures c.write_head.ensures
    _ _ _ _ _ _ c.in-Say.is c.letter_of.ensures (c.lead.ensures _ _ refl) c.write_edge.ensures
    c.sum-in-Say.ensures in
    record { returned = p.0; written = p.1 }

pub returns-in-Hear : goal.returns-in-Hear
unfolding WroteRow
returns-in-Hear c =
    let p =
    row-hears _ _ _ _ _ _ _ _ c.requires.arrived _ _ _ _ c.silent_at.ensures c.sum.ensures c.write_head.ensures
    _ _ _ _ _ _ _ c.in-Hear.is c.wait_of-wait.ensures c.hear.ensures.returned c.hear.ensures.written in
    record { returned = p.0; written = p.1 }
