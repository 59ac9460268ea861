-- An entry is a product.
use native.Mathlib.Omega.{arith}
use mathlib.Core.Path.{refl}
use Rattle.serve_renumber.specs.Work.{named_entry}
use Rattle.serve_renumber.proofs.scope.named_entry.Goals as goal

pub returns : goal.returns
unfolding named_entry
returns c = (refl, omega arith)
