-- The judgement of the sheet, as the service answers it.
use mathlib.Core.Path.{refl}
use Rattle.sheet_table.proofs.Noting.{blank-made}
use Rattle.sheet_judge.proofs.Judging.{is-err, checked_refused, checked-accepted}
use Rattle.sheet_judge.proofs.check.check.Goals as goal

pub judge_sheet-x-requires : goal.judge_sheet-x-requires
judge_sheet-x-requires c = blank-made 58313 refl

pub returns-in_default : goal.returns-in_default
returns-in_default c =
    checked_refused _ _ c.judge_sheet-x.ensures (is-err c.err.ensures.value c.unwrap.ensures) c.of_sheet.ensures

pub returns : goal.returns
returns c = checked-accepted _ _ c.judge_sheet-x.ensures c.in-Ok.is
