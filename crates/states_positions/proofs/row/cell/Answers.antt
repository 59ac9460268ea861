-- What `cell` gives is what `word` says, case by case.
use mathlib.Core.Path.{refl}
use native.Mathlib.Omega.{arith}
use Rattle.states_positions.proofs.Facts.{past}
use Rattle.sheet_rows.specs.Row.{cell}
use Rattle.sheet_rows.specs.Row.{word}
use Rattle.states_positions.proofs.row.cell.Goals as goal

pub returns-then-at : goal.returns-then-at
returns-then-at c = past c.args.t.now c.args.at c.args.i (omega arith)

pub returns-then-row-i : goal.returns-then-row-i
returns-then-row-i c =
    past c.args.t.now c.args.at c.args.i (omega arith)

pub returns : goal.returns
unfolding word cell
returns c = refl
