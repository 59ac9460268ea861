-- `report` keeps what `Reported` says.
use borrow.Author.Rules.{rules}
use Rattle.print_report.proofs.Fits.{counts}
use Rattle.print_report.proofs.report.Goals as goal

pub returns : goal.returns
returns c = record { reported = record { answer = _; compared = c.compare-r.ensures; written = c.answer.ensures }; counted = counts _ _ _ _ c.answer.ensures }
