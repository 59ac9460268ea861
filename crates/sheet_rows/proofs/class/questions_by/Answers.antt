-- By the class.
use borrow.Author.Rules.{rules}
use borrow.Author.Tests.{eq-eqb, ne_eqb}
use Rattle.sheet_rows.specs.Class.{questions_by}
use Rattle.sheet_rows.proofs.class.questions_by.Goals as goal

pub returns-then-class-eq-VARIABLES : goal.returns-then-class-eq-VARIABLES
unfolding questions_by
returns-then-class-eq-VARIABLES c = simp (eq-eqb _ _ c.if-class-eq-VARIABLES.true)

pub returns : goal.returns
unfolding questions_by
returns c = simp (ne_eqb _ _ c.if-class-eq-VARIABLES.false)
