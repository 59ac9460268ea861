-- Record by record.
use native.Mathlib.Omega.{arith}
use mathlib.Core.Path.{refl}
use Rattle.serve_profile.proofs.Walking.{walks-first, walks-on, walks-found, walks-last}
use Rattle.serve_profile.proofs.offence.first_offence.Goals as goal

pub loop-at-init : goal.loop-at-init
loop-at-init c = (omega arith, walks-first c.args.s.now c.args.t.now _)

pub returns-then-offends : goal.returns-then-offends
returns-then-offends c =
    let a = c.args in
    walks-found a.s.now a.t.now a.root _ _ _ _ 0 0 c.loop-at.invariant.1
    c.loop-at-test.true c.get_or-kind.ensures c.reach-until.ensures _
    c.offends.ensures c.if-offends.true

pub loop-at-preserved : goal.loop-at-preserved
loop-at-preserved c =
    let a = c.args in (
      omega (arith, c.body_of.ensures.1),
      walks-on a.s.now a.t.now a.root _ _ c.loop-at.at _ _ _ c.loop-at.invariant.1 c.loop-at-test.true
          c.get_or-kind.ensures c.reach-until.ensures _ c.offends.ensures
          c.if-offends.false c.body_of.ensures.0 refl,
    )

pub returns : goal.returns
returns c =
    walks-last c.args.s.now c.args.t.now
    c.args.root _ c.loop-at.at c.loop-at.invariant.1 c.loop-at-test.false
