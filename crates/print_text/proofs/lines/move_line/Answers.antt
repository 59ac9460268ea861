-- What `move_line` writes is the text `move_text`.
use borrow.Author.Rules.{rules}
use Rattle.print_text.specs.Text.{move_text}
use Rattle.print_text.proofs.Pages.{after}
use Rattle.print_text.proofs.lines.move_line.Goals as goal

pub returns : goal.returns
unfolding move_text
returns c =
    after _ _ _ (after _ _ _ (after _ _ _ (after _ _ _ (after _ _ _ (after _ _ _ c.decimal-x.ensures c.text-y.ensures) c.decimal-z.ensures) c.text-u.ensures) c.decimal-v.ensures) c.value-w.ensures) c.text.ensures
