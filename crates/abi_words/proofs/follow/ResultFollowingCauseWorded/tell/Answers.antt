-- The words that an answer of follow is told by are `follow_words`, where there is room for them.
use borrow.Author.Rules.{rules}
use Rattle.abi_words.proofs.Wording.{returned-as, words-complete, words-begun, words-not-followed}
use Rattle.abi_words.proofs.follow.ResultFollowingCauseWorded.tell.Goals as goal

pub returns-then-complete : goal.returns-then-complete
returns-then-complete c =
    let p = returned-as _ _ _ _ _ (words-complete _ _ _ _ _ c.in-Ok.is c.if-complete.true c.low_half-low.ensures c.high_half-high.ensures)
    c.answer.ensures.returned c.answer.ensures.written in
    record { returned = p.0; written = p.1 }

pub returns-else-complete : goal.returns-else-complete
returns-else-complete c =
    let p = returned-as _ _ _ _ _ (words-begun _ _ _ _ _ c.in-Ok.is c.if-complete.false c.low_half-low.ensures c.high_half-high.ensures)
    c.answer-in-Ok.ensures.returned c.answer-in-Ok.ensures.written in
    record { returned = p.0; written = p.1 }

pub returns-in-Err : goal.returns-in-Err
returns-in-Err c =
    let p = returned-as _ _ _ _ _ (words-not-followed _ _ c.in-Err.is)
    c.refuse.ensures.returned c.refuse.ensures.written in
    record { returned = p.0; written = p.1 }
