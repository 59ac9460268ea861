-- The tests of the definition.
use borrow.Author.Tests.{eq-eqb, le-ltb, lt-ltb, ne_eqb}
use Rattle.sheet_rows.specs.Row.{class_of}
use Rattle.sheet_rows.proofs.row.class_of.Goals as goal

pub returns-then-ty-eq-COMMAND : goal.returns-then-ty-eq-COMMAND
unfolding class_of
returns-then-ty-eq-COMMAND c = simp (eq-eqb _ _ c.if-ty-eq-COMMAND.true)

pub returns-then-ty-lt-TRUTH_VARIABLE : goal.returns-then-ty-lt-TRUTH_VARIABLE
unfolding class_of
returns-then-ty-lt-TRUTH_VARIABLE c = simp (ne_eqb _ _ c.if-ty-eq-COMMAND.false, lt-ltb _ _ c.if-ty-lt-TRUTH_VARIABLE.true)

pub returns-else-ty-lt-TRUTH_VARIABLE : goal.returns-else-ty-lt-TRUTH_VARIABLE
unfolding class_of
returns-else-ty-lt-TRUTH_VARIABLE c = simp (ne_eqb _ _ c.if-ty-eq-COMMAND.false, le-ltb _ _ c.if-ty-lt-TRUTH_VARIABLE.false)
