-- Word 5 + j.
use borrow.Author.Rules.{rules}
use Rattle.sheet_rows.specs.Row.{linked}
use Rattle.sheet_rows.proofs.row.link.Goals as goal

pub returns : goal.returns
unfolding linked
returns c = c.put_cell.ensures
