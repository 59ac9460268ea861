-- What `alike` gives is what `matching` says, case by case.
use borrow.Author.Tests.{eq-eqb, ne_eqb}
use Rattle.serve_conditions.specs.Pair.{matching}
use Rattle.serve_conditions.proofs.heading.alike.Goals as goal

pub returns-then-root-other : goal.returns-then-root-other
unfolding matching
returns-then-root-other c = simp (ne_eqb _ _ c.if-root-other.true)

pub returns-then-not-same_first : goal.returns-then-not-same_first
unfolding matching
returns-then-not-same_first c = simp (← c.same_first.ensures, eq-eqb _ _ c.if-root-other.false, c.if-not-same_first.true)

pub returns : goal.returns
unfolding matching
returns c = simp (← c.same_first.ensures, eq-eqb _ _ c.if-root-other.false, c.if-not-same_first.false)
