-- What `answer` writes is the text `text_of`.
use Rattle.print_text.proofs.Answers.{text-refused, text_same, text-apart}
use Rattle.print_report.proofs.answer.Goals as goal

pub returns-in-Err : goal.returns-in-Err
returns-in-Err c =
    text-refused _ _ _ _ c.in-Err.is c.refused.ensures

pub returns-in-None : goal.returns-in-None
returns-in-None c =
    text_same _ _ _ _ c.in-Ok.is c.in-None.is c.sheets-at.ensures c.text.ensures

pub returns-in-Some : goal.returns-in-Some
returns-in-Some c =
    text-apart _ _ _ _ c.in-Ok.is c.in-Some.is c.sheets-at.ensures c.apart-next.ensures c.moves.ensures
