-- What `letter_from` gives is what `letter_from` says, case by case.
use borrow.Author.Tests.{lt-ltb, le-ltb}
use Rattle.play_records.specs.Bytes.{letter_from}
use Rattle.play_records.proofs.play.letter_from.Goals as goal

pub returns-then-k-lt-VALUE : goal.returns-then-k-lt-VALUE
unfolding letter_from
returns-then-k-lt-VALUE c = simp (lt-ltb _ _ c.if-k-lt-VALUE.true)

pub returns : goal.returns
unfolding letter_from
returns c = simp (le-ltb _ _ c.if-k-lt-VALUE.false)
