-- The number of values of the first part, which is after the record.
use native.Mathlib.Omega.{arith}
use Rattle.sheet_reader.proofs.Sums.{operate-sum, other-sum}
use Rattle.sheet_reader.proofs.close.operate_row.Goals as goal

pub returns-then-r-ne-OPERATE : goal.returns-then-r-ne-OPERATE
returns-then-r-ne-OPERATE c = λ n last f. other-sum _ n _ last

pub returns-then-second-eq0 : goal.returns-then-second-eq0
returns-then-second-eq0 c = λ n last f. other-sum _ n _ last

pub returns : goal.returns
returns c =
    λ n last f. operate-sum _ n _ last f c.if-r-ne-OPERATE.false c.result_type.ensures (c.first_values-second.ensures.1 (omega (arith, c.if-second-eq0.false)))
