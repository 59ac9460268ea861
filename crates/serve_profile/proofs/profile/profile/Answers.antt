-- The judgement of the sheet, and then the first record that offends.
use mathlib.Core.Path.{refl}
use Rattle.sheet_table.proofs.Noting.{blank-made}
use Rattle.sheet_judge.proofs.Judging.{is-err}
use Rattle.serve_profile.proofs.Profiling.{profiled-refused, profiled-quiet, profiled-loud, judged-short}
use Rattle.serve_profile.proofs.profile.profile.Goals as goal

pub judge_sheet-x-requires : goal.judge_sheet-x-requires
judge_sheet-x-requires c = blank-made 58313 refl

pub returns-in_default : goal.returns-in_default
returns-in_default c =
    profiled-refused _ _ c.judge_sheet-x.ensures (is-err c.err.ensures.value c.unwrap.ensures) c.of_sheet.ensures

pub first_offence-requires : goal.first_offence-requires
first_offence-requires c =
    judged-short _ _ c.judge_sheet-x.ensures c.in-Ok.is

pub returns : goal.returns
returns c =
    profiled-quiet _ _ c.judge_sheet-x.ensures c.in-Ok.is
    c.first_offence.ensures c.in_default-first_offence.is

pub returns-in-Some : goal.returns-in-Some
returns-in-Some c =
    profiled-loud _ _ c.judge_sheet-x.ensures c.in-Ok.is c.first_offence.ensures
    c.in-Some.is c.refuse.ensures c.of_sheet-in-Some.ensures
