-- Nine words for each place.
use borrow.Author.Rules.{rules}
use Rattle.sheet_rows.specs.Row.{cell}
use Rattle.sheet_rows.proofs.row.cell_at.Goals as goal

pub returns : goal.returns
unfolding cell
returns c = search rules
