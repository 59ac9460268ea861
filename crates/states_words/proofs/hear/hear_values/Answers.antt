-- `hear_values` writes the edges `value_edges`, and gives the number of the edge after them.
use Rattle.states_words.proofs.Loops.{told, wrote, values-again}
use Rattle.states_words.proofs.HeardSingle.{places-within, values-from, values-to}
use Rattle.states_words.proofs.hear.hear_values.Goals as goal

pub loop-r-init : goal.loop-r-init
loop-r-init c = values-from _ _ _ _ _ _ _ _ _ _ c.first_place-first.ensures

pub loop-r-preserved : goal.loop-r-preserved
loop-r-preserved c =
    values-again _ _ _ _ _ _ _ _ _ _ _ _ _ _ c.loop-r.invariant
    (wrote c.hear_value-next.ensures.returned c.hear_value-next.ensures.written)

pub returns : goal.returns
returns c =
    let within = places-within _ _ _ _ c.first_place-first.ensures c.end_place-end.ensures in
    let p =
    told (values-to _ _ _ _ _ _ _ _ _ _ _ _ _ c.end_place-end.ensures (c.loop-r.auto.r-end within) c.loop-r-test.false
    c.loop-r.invariant) in
    record { returned = p.0; written = p.1 }
