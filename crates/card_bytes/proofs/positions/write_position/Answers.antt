-- `write_position` writes the bytes of a position.
use Rattle.card_bytes.proofs.laws.Positions.{position-length, position-written}
use Rattle.card_bytes.proofs.positions.write_position.Goals as goal

pub write_edges-requires : goal.write_edges-requires
write_edges-requires c =
    (c.requires.0, (c.requires.1.0, position-length _ _ _ _ _ _ c.requires.1.1))

pub returns : goal.returns
returns c =
    let p = position-written _ _ _ _ _ _ _ _ _ _ _
    c.put.ensures
    c.end_byte.ensures
    c.put-2.ensures
    c.write_edges.ensures.returned c.write_edges.ensures.written in
    record { returned = p.0; written = p.1 }
