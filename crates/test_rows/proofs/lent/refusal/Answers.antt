-- `refusal` keeps what `Counts` says.
use Rattle.print_report.proofs.Fits.{counts}
use Rattle.test_rows.proofs.lent.refusal.Goals as goal

pub returns : goal.returns
returns c = counts _ _ _ _ c.refused.ensures
