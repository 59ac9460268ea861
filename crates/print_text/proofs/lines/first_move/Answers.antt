-- What `first_move` writes is the text `first_move`.
use borrow.Author.Rules.{rules}
use Rattle.print_text.proofs.Answers.{move-line}
use Rattle.print_text.proofs.lines.first_move.Goals as goal

pub returns : goal.returns
returns c =
    move-line _ _ _ _ _ _ c.get_or.ensures c.get_or-2.ensures c.get_or-3.ensures c.get_or-4.ensures
    c.move_line.ensures
