-- `led` leads a step where `rise_all` leads it.
use native.Mathlib.Omega.{arith}
use Rattle.states_path.proofs.PathCode.{from_first}
use Rattle.states_path.proofs.PathSteps.{lead_plain, lead_low, led-none, led-own}
use Rattle.states_path.proofs.exits.led.Goals as goal

pub returns-then-i-own : goal.returns-then-i-own
returns-then-i-own c = λ N s e. led-none N _ _ _ _ _ _ _ _ c.if-i-own.true (c.lead.ensures N s e)

pub overflow_add-start_at : goal.overflow_add-start_at
overflow_add-start_at c = omega (arith, lead_low _ _ _ c.requires.0 c.start_at.ensures, c.if-next-lt-FAR.true)

pub returns-then-next-lt-FAR : goal.returns-then-next-lt-FAR
returns-then-next-lt-FAR c = λ N s e. led-own N _ _ _ _ _ _ _ _ c.if-i-own.false
    (lead_plain N _ _ _ _ _ _ _ _ c.requires.0 c.if-next-lt-FAR.true c.start_at.ensures (c.requires.1 (omega (arith, c.if-i-own.false))) _
    c.if-own-eq0.true (from_first _ _ _ _ e c.sum.ensures))

pub lead_at-requires : goal.lead_at-requires
lead_at-requires c = (c.requires.0, c.requires.1 (omega (arith, c.if-i-own.false)))

pub returns : goal.returns
returns c = λ N s e. led-own N _ _ _ _ _ _ _ _ c.if-i-own.false (c.lead_at.ensures N s e)
