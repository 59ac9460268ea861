-- A class is below 4.
use native.Mathlib.Omega.{arith}
use Rattle.language.proofs.OperatorLaws.{class-below}
use Rattle.language_arithmetic.proofs.operator.by_classes.Goals as goal

pub entry-requires : goal.entry-requires
entry-requires c = (
  omega (arith, c.class_of.ensures, class-below c.args.n c.args.x),
  omega (arith, c.class_of-2.ensures, class-below c.args.n c.args.y),
)
