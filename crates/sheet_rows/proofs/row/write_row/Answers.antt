-- The five words of the definition.
use borrow.Author.Rules.{rules}
use Rattle.sheet_rows.proofs.RowSteps.{five-written}
use Rattle.sheet_rows.proofs.row.write_row.Goals as goal

pub returns : goal.returns
returns c =
    five-written c.args.n c.args.r c.args.ty
    c.args.number c.args.end c.args.t.now
    c.row_kind-kind.ensures c.detail_of-detail.ensures c.write_typed.ensures
