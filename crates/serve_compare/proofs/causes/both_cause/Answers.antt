use borrow.Author.Rules.{rules}
use Rattle.serve_compare.proofs.causes.both_cause.Goals as goal

pub returns : goal.returns
returns c = simp (c.of_sheet.ensures, c.refuse.ensures)
