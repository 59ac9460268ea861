-- What `changed` writes is the text `changed_text`.
use borrow.Author.Rules.{rules}
use Rattle.print_report.specs.Changes.{changed_text}
use Rattle.print_text.proofs.Pages.{after}
use Rattle.print_report.proofs.changes.changed.Goals as goal

pub returns : goal.returns
unfolding changed_text
returns c =
    after _ _ _ (after _ _ _ (after _ _ _ c.text-a.ensures c.decimal-b.ensures) c.text-c.ensures) c.changes.ensures
