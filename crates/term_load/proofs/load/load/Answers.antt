-- A sheet that is judged, and its term expanded.
use mathlib.Core.Path.{refl}
use Rattle.sheet_table.proofs.Noting.{blank-made}
use Rattle.sheet_judge.proofs.Judging.{is-err}
use Rattle.term_load.proofs.Loading.{judged-of, load-refused, load-sheet, shows}
use Rattle.term_load.proofs.load.load.Goals as goal

pub judge_sheet-x-requires : goal.judge_sheet-x-requires
judge_sheet-x-requires c = blank-made 58313 refl

pub returns-in_default : goal.returns-in_default
returns-in_default c = load-refused _ _ _ c.judge_sheet-x.ensures (is-err c.err.ensures.value c.unwrap.ensures)

pub expand_root-row-requires : goal.expand_root-row-requires
expand_root-row-requires c = let J = judged-of _ _ _ c.judge_sheet-x.ensures
    c.in-Ok.is in shows J c.requires

pub returns : goal.returns
returns c = let J = judged-of _ _ _ c.judge_sheet-x.ensures c.in-Ok.is in load-sheet J c.expand_root-row.ensures c.requires
