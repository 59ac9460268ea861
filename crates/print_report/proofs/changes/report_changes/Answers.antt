-- `report_changes` keeps what `RenumberReported` says.
use borrow.Author.Rules.{rules}
use Rattle.print_report.proofs.Fits.{counts}
use Rattle.print_report.proofs.changes.report_changes.Goals as goal

pub returns : goal.returns
returns c = record { reported = record { answer = _; promised = c.renumber-r.ensures; written = c.answer.ensures.written; said = c.answer.ensures.said }; counted = counts _ _ _ _ c.answer.ensures.written }
