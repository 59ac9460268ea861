-- The parts from j on are left.
use native.Mathlib.Omega.{arith}
use Rattle.weight_records.proofs.Steps.{parts_first, parts_again, parts_last}
use Rattle.weight_records.proofs.record.add_parts.Goals as goal

pub loop-j-init : goal.loop-j-init
loop-j-init c = parts_first _ _ _ _ _ _ _ _

pub loop-j-preserved : goal.loop-j-preserved
loop-j-preserved c =
    parts_again _ _ _ _ _ _ _ _ _ _ _ _ c.loop-j-test.true (omega arith) c.add_part.ensures c.loop-j.invariant

pub returns : goal.returns
returns c = parts_last _ _ _ _ _ _ _ _ _ _ c.loop-j-test.false c.loop-j.invariant
