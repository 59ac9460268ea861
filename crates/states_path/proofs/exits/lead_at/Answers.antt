-- `lead_at` leads a step where `rise_all` leads it.
use native.Mathlib.Omega.{arith}
use Rattle.states_path.proofs.PathCode.{from_first}
use Rattle.states_path.proofs.PathSteps.{lead_plain, lead_low}
use Rattle.states_path.proofs.exits.lead_at.Goals as goal

pub overflow_add-start_at : goal.overflow_add-start_at
overflow_add-start_at c = omega (arith, lead_low _ _ _ c.requires.0 c.start_at.ensures, c.if-next-ge-FAR.false)

pub returns-then-m-eq0 : goal.returns-then-m-eq0
returns-then-m-eq0 c = λ N s e. lead_plain N _ _ _ _ _ _ _ _ c.requires.0 c.if-next-ge-FAR.false c.start_at.ensures c.requires.1 _ c.if-m-eq0.true
    (from_first _ _ _ _ e c.sum.ensures)
