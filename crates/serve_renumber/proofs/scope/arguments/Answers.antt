-- The number of arguments is a digit of the entry.
use native.Mathlib.Omega.{arith}
use mathlib.Core.Path.{refl}
use Rattle.serve_renumber.specs.Work.{arguments_in}
use Rattle.serve_renumber.proofs.scope.arguments.Goals as goal

pub returns : goal.returns
unfolding arguments_in
returns c = (refl, omega arith)
