-- What `up_at` gives is what `up_of` says, case by case.
use Rattle.states_path.proofs.PathSteps.{up_none, up-some}
use Rattle.states_path.proofs.levels.up_at.Goals as goal

pub returns-then-c-eq0 : goal.returns-then-c-eq0
returns-then-c-eq0 c = up_none _ _ c.if-c-eq0.true

pub returns : goal.returns
returns c = up-some _ _ _ c.requires c.if-c-eq0.false c.field.ensures
