-- What `names` writes is the text `names_text`.
use borrow.Author.Rules.{rules}
use Rattle.print_text.specs.Text.{names_text}
use Rattle.print_text.proofs.Pages.{after}
use Rattle.print_text.proofs.lines.names.Goals as goal

pub returns : goal.returns
unfolding names_text
returns c =
    after _ _ _ (after _ _ _ c.decimal-a.ensures c.text-b.ensures) c.decimal.ensures
