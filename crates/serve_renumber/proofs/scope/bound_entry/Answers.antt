-- An entry is a sum.
use native.Mathlib.Omega.{arith}
use mathlib.Core.Path.{refl}
use Rattle.serve_renumber.specs.Work.{bound_entry}
use Rattle.serve_renumber.proofs.scope.bound_entry.Goals as goal

pub returns : goal.returns
unfolding bound_entry
returns c = (refl, omega arith)
