-- What judging the sheet says.
use Rattle.serve_renumber.proofs.Reading.{earlier-judged}
use mathlib.Core.Path.{refl}
use Rattle.sheet_table.proofs.Noting.{blank-made}
use Rattle.serve_renumber.proofs.renumber.judge_earlier.Goals as goal

pub judge_sheet-requires : goal.judge_sheet-requires
judge_sheet-requires c = blank-made 58313 refl

pub returns : goal.returns
returns c = earlier-judged _ _ _ c.judge_sheet.ensures
