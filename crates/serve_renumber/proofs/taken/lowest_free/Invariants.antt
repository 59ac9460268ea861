use Prim.Native.Nat.{◌-◌}
use mathlib.Core.Path.{◌≡◌}
use Rattle.sheet_written.specs.Renumber.{lowest_from, lowest}
use Rattle.serve_renumber.specs.Work.{marked}
use Rattle.serve_renumber.proofs.taken.lowest_free.Given as goal

abbrev pub invariant-loop-id : goal.invariant-loop-id
invariant-loop-id l = lowest (marked l.taken) ≡ lowest_from (marked l.taken) l.id (255 - l.id)
