-- A test of the entry.
use mathlib.Core.Path.{refl}
use Rattle.serve_renumber.specs.Work.{held_in}
use Rattle.serve_renumber.proofs.scope.held.Goals as goal

pub returns : goal.returns
unfolding held_in
returns c = refl
