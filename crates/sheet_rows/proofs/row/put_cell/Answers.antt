-- A store at the place of a word.
use borrow.Author.Rules.{rules}
use Rattle.sheet_rows.proofs.row.put_cell.Goals as goal

pub returns : goal.returns
returns c = rw (← c.cell_at-at.ensures) c.put.ensures
