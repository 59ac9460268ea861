-- Name by name.
use native.Mathlib.Omega.{arith}
use mathlib.Core.Path.{refl}
use Rattle.serve_renumber.proofs.Names.{named-first, named_again, named-last}
use Rattle.serve_renumber.proofs.taken.take_names.Goals as goal

pub loop-at-init : goal.loop-at-init
loop-at-init c = (omega arith, named-first c.args.s.now _ _ _)

pub loop-at-preserved : goal.loop-at-preserved
loop-at-preserved c = (
  omega (arith, c.body_of.ensures.1),
  named_again c.args.s.now c.args.root _ _ _ _ _ _ c.loop-at.at _ _ _ _ _ _ c.loop-at.invariant.1 c.loop-at-test.true c.get_or-kind.ensures
      c.byte-id.ensures.0 c.put.ensures c.byte.ensures.0 c.name_entry.ensures.0
      c.put_word.ensures c.body_of.ensures.0 refl,
)

pub returns : goal.returns
returns c =
    named-last c.args.s.now c.args.root _ _ _ _
    c.loop-at.at c.loop-at.invariant.1 c.loop-at-test.false
