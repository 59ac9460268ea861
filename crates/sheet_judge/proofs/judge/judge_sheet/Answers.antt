-- What was read, weighed and held to the greatest size.
use Rattle.sheet_reader.proofs.Core.{handed}
use Rattle.sheet_judge.proofs.Judging.{judged-large, judged-accepted, judged-refused, tabled-read}
use Rattle.sheet_judge.proofs.judge.judge_sheet.Goals as goal

pub returns-then-size-gt-GREATEST_SIZE : goal.returns-then-size-gt-GREATEST_SIZE
returns-then-size-gt-GREATEST_SIZE c =
    let T = tabled-read _ _ _ _
    c.requires c.read_sheet.ensures
    c.in_ok-sheet.was in
    rw c.refuse.ensures
    (judged-large _ _ _ _ _ _ T c.weight_of-weight.ensures
    c.numbers_of.ensures c.size_of-size.ensures
    c.if-size-gt-GREATEST_SIZE.true)

pub returns-in_err-sheet : goal.returns-in_err-sheet
returns-in_err-sheet c =
    rw (handed _ c.from_residual.ensures.1)
    (judged-refused _ _ _ c.read_sheet.ensures.answer c.in_err-sheet.was)

pub returns : goal.returns
returns c =
    let T = tabled-read _ _ _ _
    c.requires
    c.read_sheet.ensures
    c.in_ok-sheet.was in
    judged-accepted _ _ _ _ _ _ T c.weight_of-weight.ensures
    c.numbers_of.ensures
    c.size_of-size.ensures c.if-size-gt-GREATEST_SIZE.false _
    c.uses_of-uses.ensures
