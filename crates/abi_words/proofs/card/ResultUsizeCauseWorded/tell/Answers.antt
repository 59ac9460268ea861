-- The words that an answer of card is told by are `card_words`, where there is room for them.
use borrow.Author.Rules.{rules}
use Rattle.abi_words.proofs.Wording.{returned-as, words-card, words-no-card}
use Rattle.abi_words.proofs.card.ResultUsizeCauseWorded.tell.Goals as goal

pub returns-in-Ok : goal.returns-in-Ok
returns-in-Ok c =
    let p = returned-as _ _ _ _ _ (words-card _ _ _ _ c.in-Ok.is
    c.low_half-low.ensures c.high_half-high.ensures) c.answer.ensures.returned c.answer.ensures.written in
    record { returned = p.0; written = p.1 }

pub returns-in-Err : goal.returns-in-Err
returns-in-Err c =
    let p = returned-as _ _ _ _ _ (words-no-card _ _ c.in-Err.is)
    c.refuse.ensures.returned c.refuse.ensures.written in
    record { returned = p.0; written = p.1 }
