-- What `value_at` gives is what `store_of` says, case by case.
use native.Mathlib.Omega.{arith}
use Rattle.states_path.proofs.PathSteps.{value-unset, value_there, block_within}
use Rattle.states_path.proofs.path.value_at.Goals as goal

pub returns-then-m-eq0 : goal.returns-then-m-eq0
returns-then-m-eq0 c = value-unset _ _ _ _ c.block_at-m.ensures c.if-m-eq0.true

pub field-requires : goal.field-requires
field-requires c = (
  omega (
    arith,
    c.requires.0.few,
    block_within _ _ _ _ c.block_at-m.ensures
        c.if-m-eq0.false,
  ),
  omega arith,
)

pub returns : goal.returns
returns c = value_there _ _ _ _ _ c.block_at-m.ensures c.if-m-eq0.false c.field.ensures
