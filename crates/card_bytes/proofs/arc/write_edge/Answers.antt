-- `write_edge` writes the bytes of the move by an edge, none where it leads to the dead class.
use Rattle.card_bytes.proofs.laws.Edges.{edge_none, edge-some}
use Rattle.card_bytes.proofs.arc.write_edge.Goals as goal

pub returns-then-c-at : goal.returns-then-c-at
returns-then-c-at c =
    let p = edge_none _ _ _ _ _ _ c.edge_target.ensures c.at-c.ensures
    c.at.ensures c.if-c-at.true _ _ in
    record { returned = p.0; written = p.1 }

pub returns : goal.returns
returns c =
    let p = edge-some _ _ _ _ _ _
    c.edge_target.ensures
    c.at-c.ensures
    c.at.ensures
    c.if-c-at.false _ _
    c.edge_letter.ensures
    c.position_of.ensures _ _ _ _ c.write_move.ensures.returned
    c.write_move.ensures.written in
    record { returned = p.0; written = p.1 }
