-- What `refused` writes is the text `refused_text`.
use borrow.Author.Rules.{rules}
use Rattle.print_text.specs.Text.{refused_text}
use Rattle.print_text.proofs.Numbers.{reason-number}
use Rattle.print_text.proofs.Pages.{after}
use Rattle.print_text.proofs.lines.refused.Goals as goal

pub returns : goal.returns
unfolding refused_text
returns c =
    rw (← reason-number c.args.x.reason)
    (after _ _ _ (after _ _ _ (after _ _ _ (after _ _ _ (after _ _ _ (after _ _ _ c.text-a.ensures c.decimal-b.ensures) c.text-c.ensures) c.sheet_name-d.ensures) c.text-e.ensures) c.decimal-f.ensures) c.text.ensures)
