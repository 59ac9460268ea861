-- What `answer` writes is the text `renumber_text`.
use borrow.Author.Rules.{rules}
use Rattle.print_report.proofs.Listed.{told-changed, told-refused}
use Rattle.print_report.proofs.changes.answer.Goals as goal

pub returns-in-Ok : goal.returns-in-Ok
returns-in-Ok c =
    let p = told-changed _ _ c.in-Ok.is c.changed-count.ensures in
    record { written = p.0; said = p.1 }

pub returns-in-Err : goal.returns-in-Err
returns-in-Err c =
    let p = told-refused _ _ c.in-Err.is c.refused-count.ensures in
    record { written = p.0; said = p.1 }
