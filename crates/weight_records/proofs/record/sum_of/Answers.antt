-- One, two or three constants.
use native.Mathlib.Omega.{arith}
use Rattle.weight_records.proofs.Sums.{sum_one, sum-two, sum-three}
use Rattle.weight_records.proofs.record.sum_of.Goals as goal

pub returns-then-n-eq1 : goal.returns-then-n-eq1
returns-then-n-eq1 c =
    sum_one _ _ _ _ _ _ c.in_ok-bare.ensures c.sat_mul-c.ensures _ c.if-n-eq1.true

pub returns-then-n-eq2 : goal.returns-then-n-eq2
returns-then-n-eq2 c =
    sum-two _ _ _ _ _ _ c.in_ok-bare.ensures c.sat_mul-c.ensures _ _ _ c.in_ok-bare-2.ensures c.sat_mul.ensures
    c.sat_add-d.ensures _ c.if-n-eq2.true

pub returns : goal.returns
returns c =
    sum-three _ _ _ _ _ _ c.in_ok-bare.ensures c.sat_mul-c.ensures _ _ _ c.in_ok-bare-2.ensures c.sat_mul.ensures
    c.sat_add-d.ensures _ _ _ c.in_ok-bare-3.ensures c.sat_add.ensures
    (omega (arith, c.if-n-eq1.false, c.if-n-eq2.false, c.requires))
