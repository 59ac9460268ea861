-- Record by record.
use native.Mathlib.Omega.{arith}
use mathlib.Core.Path.{refl}
use Rattle.serve_renumber.proofs.Bound.{bounds-first, bounds-again, bounds-last}
use Rattle.serve_renumber.proofs.taken.take_bound.Goals as goal

pub loop-at-init : goal.loop-at-init
loop-at-init c = (omega arith, bounds-first c.args.s.now _ _)

pub loop-at-preserved : goal.loop-at-preserved
loop-at-preserved c = (
  omega (arith, c.body_of.ensures.1),
  bounds-again c.args.s.now c.args.root _ _ _ c.loop-at.at _ _ _ c.loop-at.invariant.1 c.loop-at-test.true c.get_or-kind.ensures
      c.take_ids.ensures c.body_of.ensures.0 refl,
)

pub returns : goal.returns
returns c =
    bounds-last c.args.s.now c.args.root _ _
    c.loop-at.at c.loop-at.invariant.1 c.loop-at-test.false
