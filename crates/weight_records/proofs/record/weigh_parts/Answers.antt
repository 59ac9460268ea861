-- The sum of their constants, where it is one.
use mathlib.Core.Bool.{not}
use mathlib.Core.Path.{ap}
use native.Mathlib.Omega.{arith}
use Rattle.weight_records.proofs.Whole.{parts-weighed}
use Rattle.weight_records.proofs.record.weigh_parts.Goals as goal

pub returns : goal.returns
returns c =
    λ k kind detail. parts-weighed k _ kind detail _ _ _ _ _ _ _ _ _ c.requires.0 c.height_of-row.ensures.0
    c.if-row-n.false c.has_form.ensures (ap not c.if-not-has_form.false) (omega arith) c.in-Some.ensures
    c.settle.ensures
