-- `moved` leads a step where `rise_all` leads it.
use native.Mathlib.Omega.{arith}
use Rattle.states_path.proofs.PathSteps.{lead-copy, lead-within, lead_low, block_within}
use Rattle.states_path.proofs.PathCode.{from_first, fewer}
use Rattle.states_path.proofs.exits.moved.Goals as goal

pub field-requires : goal.field-requires
field-requires c = (omega (arith, c.requires.0.few, block_within _ _ _ _ c.requires.1.1.0 (λ z. omega (arith, c.requires.1.1.1))), omega arith)

pub overflow_add-start_at : goal.overflow_add-start_at
overflow_add-start_at c = omega (
  arith,
  lead_low _ _ _ c.requires.0
      c.start_at.ensures,
  c.requires.1.0,
)

pub start_at-requires-2 : goal.start_at-requires-2
start_at-requires-2 c = fewer _ _ _ c.requires.0 (block_within _ _ _ _ c.requires.1.1.0 (λ z. omega (arith, c.requires.1.1.1))).1

pub overflow_sub-start_at : goal.overflow_sub-start_at
overflow_sub-start_at c = lead-within _ _ _ _ _ _ c.requires.0 c.requires.1.0 c.start_at.ensures c.requires.1.1.0 (λ z. omega (arith, c.requires.1.1.1)) _ c.start_at-2.ensures

pub start_at-requires-3 : goal.start_at-requires-3
start_at-requires-3 c = fewer _ _ _ c.requires.0 (omega (
  arith,
  block_within _
      _ _ _ c.requires.1.1.0 (λ z. omega (arith, c.requires.1.1.1)),
))

pub overflow_add-start_at-2 : goal.overflow_add-start_at-2
overflow_add-start_at-2 c = omega (
  arith,
  lead_low _ _ _ (fewer _ _ _ c.requires.0 (omega
      (arith, block_within _ _ _ _ c.requires.1.1.0 (λ z. omega (arith, c.requires.1.1.1))))) c.start_at-3.ensures,
  c.if-copy-ge-FAR.false,
)

pub returns : goal.returns
returns c = λ N s e. lead-copy N _ _ _ _ _ _ _ _ c.requires.0 c.requires.1.0 c.start_at.ensures c.requires.1.1.0 (λ z. omega (arith, c.requires.1.1.1)) _ _ _ _ _ c.start_at-2.ensures c.field.ensures c.mul_add-copy.ensures c.if-copy-ge-FAR.false c.start_at-3.ensures (from_first _ _ _ _ e c.sum.ensures)
