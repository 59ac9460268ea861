-- `write_move` writes the bytes of a move.
use native.Mathlib.Omega.{arith}
use Rattle.card_bytes.proofs.laws.Moves.{move-done, record-end}
use Rattle.card_bytes.proofs.arc.write_move.Goals as goal

pub overflow_add-end : goal.overflow_add-end
overflow_add-end c =
    let w = record-end _ _ _ c.write_record-end.ensures.returned in
    omega (arith, w.1, c.requires)

pub overflow_add-result : goal.overflow_add-result
overflow_add-result c =
    let w = record-end _ _ _ c.write_record-end.ensures.returned in
    omega (arith, w.1, c.requires)

pub returns : goal.returns
returns c =
    let p = let w = c.write_record-end.ensures in
    move-done _ _ _ _ _ _ _ _ _ _ w.returned w.written c.move_kind.ensures c.put.ensures
    c.put-2.ensures c.put-3.ensures in
    record { returned = p.0; written = p.1 }
