-- The number of values of the first part, which is after the record.
use native.Mathlib.Omega.{arith}
use Rattle.sheet_reader.proofs.Sums.{assign-sum, other-sum}
use Rattle.sheet_reader.proofs.close.assign_row.Goals as goal

pub returns-then-r-ne-ASSIGN : goal.returns-then-r-ne-ASSIGN
returns-then-r-ne-ASSIGN c = λ n last f. other-sum _ n _ last

pub returns-then-first-eq0 : goal.returns-then-first-eq0
returns-then-first-eq0 c = λ n last f. other-sum _ n _ last

pub returns : goal.returns
returns c =
    λ n last f. assign-sum _ n _ last f c.if-r-ne-ASSIGN.false (c.first_values-first.ensures.1 (omega
    (arith, c.if-first-eq0.false)))
