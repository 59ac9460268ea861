-- What `change_at` writes is the text `change_at`.
use borrow.Author.Rules.{rules}
use Rattle.print_report.proofs.Listed.{change-found}
use Rattle.print_report.proofs.changes.change_at.Goals as goal

pub returns : goal.returns
returns c =
    change-found _ _ _ _ _ _ _ c.get_or-low.ensures c.get_or-high.ensures c.get_or-old.ensures c.get_or-given.ensures
    c.change_line.ensures
