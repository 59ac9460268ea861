-- What `signed` writes is the text `signed_digits`.
use borrow.Author.Rules.{rules}
use Rattle.print_text.proofs.Decimals.{from-0, below-0}
use Rattle.print_text.proofs.lines.signed.Goals as goal

pub returns-then-b-lt-NEGATIVE : goal.returns-then-b-lt-NEGATIVE
returns-then-b-lt-NEGATIVE c =
    from-0 _ _ c.if-b-lt-NEGATIVE.true c.decimal.ensures

pub returns : goal.returns
returns c =
    below-0 _ _ c.if-b-lt-NEGATIVE.false (search rules)
    c.text-next.ensures c.decimal-2.ensures
