-- The words that an answer of renumber is told by are `renumber_words`, where there is room for them.
use borrow.Author.Rules.{rules}
use Rattle.abi_words.proofs.Wording.{returned-as, words-renumbered, words-not-renumbered}
use Rattle.abi_words.proofs.renumber.ResultU32CauseWorded.tell.Goals as goal

pub returns-in-Ok : goal.returns-in-Ok
returns-in-Ok c =
    let p = returned-as _ _ _ _ _ (words-renumbered _ _ c.in-Ok.is) c.answer.ensures.returned c.answer.ensures.written in
    record { returned = p.0; written = p.1 }

pub returns-in-Err : goal.returns-in-Err
returns-in-Err c =
    let p = returned-as _ _ _ _ _ (words-not-renumbered _ _ c.in-Err.is) c.refuse.ensures.returned c.refuse.ensures.written in
    record { returned = p.0; written = p.1 }
