-- The ids taken, the copy, and the pass.
use mathlib.Core.Path.{refl}
use Rattle.serve_renumber.proofs.Finishing.{worked}
use Rattle.serve_renumber.proofs.work.renumber_copy.Goals as goal

pub returns : goal.returns
returns c =
    worked c.args.s.now _ _ _ _ _ _ _ _ _ _ _ _ _ refl refl c.take_names.ensures c.take_bound.ensures c.copy.ensures c.renumber_part.ensures
