-- `move_kind` is the kind of a move by the width of its record.
use borrow.Author.Tests.{le-ltb, lt-ltb}
use Rattle.card_bytes.specs.Kinds.{move_kind}
use Rattle.card_bytes.proofs.arc.move_kind.Goals as goal

pub returns-then-width-lt-VALUED_BYTES : goal.returns-then-width-lt-VALUED_BYTES
unfolding move_kind
returns-then-width-lt-VALUED_BYTES c = simp (lt-ltb _ _ c.if-width-lt-VALUED_BYTES.true)

pub returns : goal.returns
unfolding move_kind
returns c = simp (le-ltb _ _ c.if-width-lt-VALUED_BYTES.false)
