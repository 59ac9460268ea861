-- `negyvosal_follow` keeps what `FollowReturned` says.
use borrow.Author.Rules.{rules}
use mathlib.Core.Path.{refl}
use Rattle.abi.specs.Returned.{no_room}
use Rattle.abi.proofs.Returning.{follow-returned}
use Rattle.abi.proofs.negyvosal_follow.Goals as goal

pub returns-then-out-lt-ANSWER_WORDS : goal.returns-then-out-lt-ANSWER_WORDS
returns-then-out-lt-ANSWER_WORDS c = no_room c.if-out-lt-ANSWER_WORDS.true refl refl refl

pub returns : goal.returns
returns c =
    follow-returned _ _ _ _ _ _ _ _ c.if-out-lt-ANSWER_WORDS.false c.follow-r.ensures c.answer_follow.ensures.returned
    c.answer_follow.ensures.written
