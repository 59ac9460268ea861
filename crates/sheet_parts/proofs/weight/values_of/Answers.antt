-- Truths have two values; numbers, at most 514.
use borrow.Author.Tests.{ne_eqb}
use native.Mathlib.Omega.{arith}
use Rattle.language.proofs.NumberLaws.{numbers-within}
use Rattle.sheet_parts.specs.Rule.{values}
use Rattle.sheet_parts.proofs.weight.values_of.Goals as goal

pub returns-in_default : goal.returns-in_default
unfolding values
returns-in_default c = (
  simp (ne_eqb _ _ c.in_default.in_default-own.rest.1, ne_eqb _ _ c.in_default.in_default-own.rest.0.1, c.numbers.ensures),
  omega (arith, c.numbers.ensures, numbers-within c.args.n),
)
