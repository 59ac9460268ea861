-- What `apart` writes is the text `apart_text`.
use borrow.Author.Rules.{rules}
use Rattle.print_text.specs.Text.{apart_text}
use Rattle.print_text.proofs.Pages.{after}
use Rattle.print_text.proofs.lines.apart.Goals as goal

pub returns : goal.returns
unfolding apart_text
returns c =
    after _ _ _ (after _ _ _ (after _ _ _ (after _ _ _ c.text-a.ensures c.sheet_name-b.ensures) c.text-c.ensures) c.decimal-d.ensures) c.text.ensures
