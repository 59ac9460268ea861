-- By the class.
use borrow.Author.Rules.{rules}
use borrow.Author.Tests.{eq-eqb, ne_eqb}
use Rattle.sheet_rows.specs.Class.{answers_by}
use Rattle.sheet_rows.proofs.class.answers_by.Goals as goal

pub returns-then-class-eq-COMMANDS : goal.returns-then-class-eq-COMMANDS
unfolding answers_by
returns-then-class-eq-COMMANDS c = simp (eq-eqb _ _ c.if-class-eq-COMMANDS.true)

pub returns-then-class-eq-VARIABLES : goal.returns-then-class-eq-VARIABLES
unfolding answers_by
returns-then-class-eq-VARIABLES c = simp (ne_eqb _ _ c.if-class-eq-COMMANDS.false, eq-eqb _ _ c.if-class-eq-VARIABLES.true)

pub returns : goal.returns
unfolding answers_by
returns c = simp (ne_eqb _ _ c.if-class-eq-COMMANDS.false, ne_eqb _ _ c.if-class-eq-VARIABLES.false)
