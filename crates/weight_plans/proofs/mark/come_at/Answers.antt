-- The mark at a place, as a number.
use native.Mathlib.Omega.{arith}
use Prim.Native.Nat.{◌%◌}
use mathlib.Core.Path.{ap, sym, ◌∙◌}
use lib.Seq.{get_or-drop}
use Rattle.weight_theory.specs.Stack.{marks_from}
use Rattle.weight_theory.specs.Plan.{come_at}
use Rattle.weight_plans.proofs.mark.come_at.Goals as goal

pub returns : goal.returns
unfolding come_at
returns c = (
  ap (λ y. y % 128) (c.get_or.ensures ∙ sym (get_or-drop marks_from c.args.t.now c.args.place 0)),
  omega arith,
)
