-- What `sizes` writes is the text `sizes_text`.
use borrow.Author.Rules.{rules}
use Rattle.print_text.specs.Text.{sizes_text}
use Rattle.print_text.proofs.Pages.{after}
use Rattle.print_text.proofs.lines.sizes.Goals as goal

pub returns : goal.returns
unfolding sizes_text
returns c =
    after _ _ _ (after _ _ _ (after _ _ _ (after _ _ _ c.text-a.ensures c.decimal-b.ensures) c.text-c.ensures) c.decimal-d.ensures) c.text.ensures
