-- `write_positions` goes through the positions.
use native.Mathlib.Omega.{arith}
use Rattle.card_bytes.proofs.laws.Positions.{placing-again, placing-last, placing-room}
use Rattle.card_bytes.proofs.positions.write_positions.Goals as goal

pub write_position-i-requires : goal.write_position-i-requires
write_position-i-requires c =
    let P = c.requires in
    let t = c.loop-k-test.true in (
      P.0,
      (
        omega (arith, c.at-p.ensures, P.1.0.low _ t),
        placing-room _ _ _ _ _ _ _ _ _ c.loop-k.invariant t _ c.at-p.ensures _ P.1.1,
      ),
    )

pub loop-k-preserved : goal.loop-k-preserved
loop-k-preserved c = placing-again _ _ _ _ _ _ _ _ _ c.loop-k.invariant
    c.loop-k-test.true _ c.at-p.ensures _ _
    c.write_position-i.ensures.returned c.write_position-i.ensures.written

pub returns : goal.returns
returns c =
    let p = placing-last _ _ _ _ _ _ _ _ _ c.loop-k.invariant c.loop-k-test.false in
    record { returned = p.0; written = p.1 }
