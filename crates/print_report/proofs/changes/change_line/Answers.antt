-- What `change_line` writes is the text `change_text`.
use borrow.Author.Rules.{rules}
use Rattle.print_report.specs.Changes.{change_text}
use Rattle.print_text.proofs.Pages.{after}
use Rattle.print_report.proofs.changes.change_line.Goals as goal

pub returns : goal.returns
unfolding change_text
returns c =
    after _ _ _ (after _ _ _ (after _ _ _ (after _ _ _ (after _ _ _ c.decimal-a.ensures c.text-b.ensures) c.decimal-c.ensures) c.text-d.ensures) c.decimal-e.ensures) c.text.ensures
