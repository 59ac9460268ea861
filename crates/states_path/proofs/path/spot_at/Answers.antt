-- What `spot_at` gives is what `spot_in` says, case by case.
use native.Mathlib.Omega.{arith}
use mathlib.Core.Path.{sym, ◌∙◌}
use Prim.Native.Nat.{◌-◌}
use Rattle.states_path.specs.Levels.{level_at}
use Rattle.states_path.specs.Kept.{spot_in}
use Rattle.states_path.proofs.PathCode.{spot-private, spot-down}
use borrow.Author.Tests.{eq-eqb}
use Rattle.states_path.proofs.path.spot_at.Goals as goal

pub returns-then-c-eq0 : goal.returns-then-c-eq0
unfolding spot_in
returns-then-c-eq0 c = simp (← c.sheet_spot.ensures, eq-eqb _ _ c.if-c-eq0.true)

pub overflow_sub-inner : goal.overflow_sub-inner
unfolding level_at
overflow_sub-inner c = omega (arith, c.field.ensures, c.requires.kept_path.begun (c.args.c - 1) (omega (arith, c.if-c-eq0.false)))

pub returns-then-cell-eq-PRIVATE : goal.returns-then-cell-eq-PRIVATE
returns-then-cell-eq-PRIVATE c = spot-private _ _ _ _ _ _ _ _ _ _ c.if-c-eq0.false c.field-part.ensures c.field-kind.ensures c.field-value.ensures c.field.ensures (sym c.cell.ensures ∙ c.if-cell-eq-PRIVATE.true) c.private_at.ensures

pub returns : goal.returns
returns c = spot-down _ _ _ _ _ _ _ _ _ _ c.if-c-eq0.false c.field-part.ensures c.field-kind.ensures c.field-value.ensures
    c.field.ensures (λ e. c.if-cell-eq-PRIVATE.false (c.cell.ensures ∙ e))
    c.down.ensures
