-- `write_edges` goes through the edges of a state.
use Rattle.card_bytes.proofs.laws.Positions.{edging-again, edging-first, edging-last}
use Rattle.card_bytes.proofs.positions.write_edges.Goals as goal

pub loop-e-init : goal.loop-e-init
loop-e-init c = edging-first _ _ _ _ _ _ _ c.first_edge-e.ensures c.first_edge-end.ensures

pub loop-e-preserved : goal.loop-e-preserved
loop-e-preserved c = edging-again _ _ _ _ _ _ _ _ _ c.loop-e.invariant
    c.loop-e-test.true _ _ c.write_edge-i.ensures.returned
    c.write_edge-i.ensures.written

pub returns : goal.returns
returns c =
    let p = edging-last _ _ _ _ _ _ _ _ _ c.loop-e.invariant c.loop-e-test.false in
    record { returned = p.0; written = p.1 }
