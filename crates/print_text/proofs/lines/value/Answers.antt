-- What `value` writes is the text `value_text`.
use borrow.Author.Rules.{rules}
use Rattle.print_text.proofs.Printed.{no_value, some_value}
use Rattle.print_text.proofs.lines.value.Goals as goal

pub returns : goal.returns
returns c =
    some_value _ _ _ c.if-kind-lt-VALUE.false c.text-next.ensures c.signed.ensures

pub returns-then-kind-lt-VALUE : goal.returns-then-kind-lt-VALUE
returns-then-kind-lt-VALUE c = no_value _ _ _ c.if-kind-lt-VALUE.true
