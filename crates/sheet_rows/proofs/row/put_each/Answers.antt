-- The five words, one after another.
use borrow.Author.Rules.{rules}
use Rattle.sheet_rows.proofs.RowSteps.{five-words}
use Rattle.sheet_rows.proofs.row.put_each.Goals as goal

pub returns : goal.returns
returns c =
    let a = c.args in
    five-words a.place a.t.now a.kind a.end a.class a.values a.detail
    c.put_cell.ensures c.put_cell-2.ensures c.put_cell-3.ensures c.put_cell-4.ensures
    c.put_cell-5.ensures
