-- `negyvosal_renumber` keeps what `RenumberReturned` says.
use borrow.Author.Rules.{rules}
use mathlib.Core.Path.{refl}
use Rattle.abi.specs.Returned.{no_room}
use Rattle.abi.proofs.Returning.{renumber-returned}
use Rattle.abi.proofs.negyvosal_renumber.Goals as goal

pub returns-then-out-lt-ANSWER_WORDS : goal.returns-then-out-lt-ANSWER_WORDS
returns-then-out-lt-ANSWER_WORDS c = no_room c.if-out-lt-ANSWER_WORDS.true refl refl refl refl

pub returns : goal.returns
returns c =
    renumber-returned _ _ _ _ _ _ _ _ _ c.if-out-lt-ANSWER_WORDS.false c.renumber-r.ensures
    c.answer_renumber.ensures.returned c.answer_renumber.ensures.written
