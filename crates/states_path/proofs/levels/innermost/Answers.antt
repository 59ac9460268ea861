-- What `innermost` gives is what `innermost_of` says, case by case.
use Rattle.states_path.proofs.PathSteps.{innermost-none, innermost-here, innermost-outside}
use Rattle.states_path.proofs.levels.innermost.Goals as goal

pub returns-then-c-eq0 : goal.returns-then-c-eq0
returns-then-c-eq0 c = innermost-none _ _ c.if-c-eq0.true

pub returns-then-field-eq-BLOCK : goal.returns-then-field-eq-BLOCK
returns-then-field-eq-BLOCK c = innermost-here _ _ _ c.if-c-eq0.false c.field.ensures c.if-field-eq-BLOCK.true

pub returns : goal.returns
returns c = innermost-outside _ _ _ _ c.requires c.if-c-eq0.false
    c.field.ensures c.if-field-eq-BLOCK.false c.field-2.ensures
