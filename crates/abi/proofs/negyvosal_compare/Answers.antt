-- `negyvosal_compare` keeps what `CompareReturned` says.
use borrow.Author.Rules.{rules}
use mathlib.Core.Path.{refl}
use Rattle.abi.specs.Returned.{no_room}
use Rattle.abi.proofs.Returning.{compare-returned}
use Rattle.abi.proofs.negyvosal_compare.Goals as goal

pub returns-then-out-lt-ANSWER_WORDS : goal.returns-then-out-lt-ANSWER_WORDS
returns-then-out-lt-ANSWER_WORDS c = no_room c.if-out-lt-ANSWER_WORDS.true refl refl refl refl

pub returns : goal.returns
returns c =
    compare-returned _ _ _ _ _ _ _ _ _ _ c.if-out-lt-ANSWER_WORDS.false c.compare-r.ensures
    c.answer_compare.ensures.returned c.answer_compare.ensures.written
