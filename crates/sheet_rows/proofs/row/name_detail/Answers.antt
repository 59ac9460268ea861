-- Two bytes, and whether the name asks once.
use borrow.Author.Rules.{rules}
use Rattle.sheet_rows.specs.Row.{declared_detail}
use Rattle.sheet_rows.proofs.row.name_detail.Goals as goal

pub returns : goal.returns
unfolding declared_detail
returns c = search rules
