-- What `figures_of` gives is what `size_in` and `declared_of` say, case by case.
use borrow.Author.Rules.{rules}
use Rattle.print_text.proofs.Answers.{size-found, declared-found, no-figures}
use Rattle.print_text.proofs.lines.figures_of.Goals as goal

pub returns-in_default : goal.returns-in_default
returns-in_default c =
    let p = no-figures _ c.check.ensures c.in_default.is in
    record { size = p.0; declared = p.1 }

pub returns : goal.returns
returns c = record { size = size-found _ c.check.ensures c.in-Ok.is; declared = declared-found _ _ c.check.ensures c.in-Ok.is c.declared_count.ensures }
