-- What `uses` writes is the text `uses_text`.
use borrow.Author.Rules.{rules}
use Rattle.print_text.specs.Text.{uses_text}
use Rattle.print_text.proofs.Pages.{after}
use Rattle.print_text.proofs.lines.uses.Goals as goal

pub returns : goal.returns
unfolding uses_text
returns c =
    after _ _ _ (after _ _ _ (after _ _ _ (after _ _ _ c.text-a.ensures c.names-b.ensures) c.text-c.ensures) c.names-d.ensures) c.text.ensures
