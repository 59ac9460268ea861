-- What `sheets` writes is the text `sheets_text`.
use borrow.Author.Rules.{rules}
use Rattle.print_text.proofs.Answers.{sheets-lines}
use Rattle.print_text.proofs.lines.sheets.Goals as goal

pub returns : goal.returns
returns c =
    sheets-lines _ _ _ _ _ _ _ _ _ c.figures_of-a.ensures.size c.figures_of-b.ensures.size c.figures_of-a.ensures.declared c.figures_of-b.ensures.declared c.sizes-next.ensures c.uses.ensures
