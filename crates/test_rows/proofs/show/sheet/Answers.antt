-- `sheet` keeps what `Counts` says.
use Rattle.print_text.proofs.Pages.{one, after}
use Rattle.print_report.proofs.Fits.{counts}
use Rattle.test_rows.proofs.show.sheet.Goals as goal

pub returns : goal.returns
returns c =
    counts _ _ _ _ (after _ _ _ (one _ _ _ c.push-a.ensures) (after _ _ _ (one _ _ _ c.push-b.ensures)
    (after _ _ _ c.text-c.ensures c.text.ensures)))
