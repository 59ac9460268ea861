-- What `block_at` gives is what `block_in` says, case by case.
use native.Mathlib.Omega.{arith}
use Rattle.states_path.proofs.PathSteps.{block-zero, look-first, look-within, look-found, look-again}
use Rattle.states_path.proofs.PathSteps.{look-less, look-last}
use Rattle.states_path.proofs.levels.block_at.Goals as goal

pub returns-then-block-eq0 : goal.returns-then-block-eq0
returns-then-block-eq0 c = block-zero _ _ _ c.requires c.if-block-eq0.true

pub loop-m-init : goal.loop-m-init
loop-m-init c = look-first _ _ _ _ c.innermost-m.ensures

pub field-requires : goal.field-requires
field-requires c = (omega (arith, c.requires.few, look-within _ _ _ _ c.loop-m.invariant, c.loop-m-test.true), omega arith)

pub returns-then-field-block : goal.returns-then-field-block
returns-then-field-block c = look-found _ _ _ _ c.requires c.loop-m.invariant c.loop-m-test.true _ c.field.ensures c.if-field-block.true

pub field-m-requires : goal.field-m-requires
field-m-requires c = (
  omega (
    arith,
    c.requires.few,
    look-within _ _ _
        _ c.loop-m.invariant,
    c.loop-m-test.true,
  ),
  omega arith,
)

pub loop-m-smaller : goal.loop-m-smaller
loop-m-smaller c = look-less _ _ _ _ c.requires c.loop-m.invariant c.loop-m-test.true _ c.field-m.ensures

pub loop-m-preserved : goal.loop-m-preserved
loop-m-preserved c = look-again _ _ _ _ c.requires c.loop-m.invariant c.loop-m-test.true _ _ c.field.ensures
    c.if-field-block.false
    c.field-m.ensures

pub returns : goal.returns
returns c = look-last _ _ _ _ c.loop-m.invariant c.loop-m-test.false
