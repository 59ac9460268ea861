-- What `part_at` gives is what `word` says, case by case.
use Prim.Native.Nat.{◌+◌}
use native.Mathlib.Omega.{arith}
use Rattle.states_positions.proofs.Facts.{past}
use Rattle.states_positions.proofs.row.part_at.Goals as goal

pub returns-then-j : goal.returns-then-j
returns-then-j c =
    past c.args.t.now c.args.at (5 + c.args.j) (omega arith)
