-- The words that an answer of look is told by are `look_words`, where there is room for them.
use borrow.Author.Rules.{rules}
use Rattle.abi_words.proofs.Numbers.{sheets-number}
use Rattle.abi_words.proofs.Wording.{returned-as, words-looked-same, words-looked-apart, words-looked-so-far}
use Rattle.abi_words.proofs.Wording.{words-not-looked}
use Rattle.abi_words.proofs.look.ResultLookingCauseWorded.tell.Goals as goal

pub returns-in-Same : goal.returns-in-Same
returns-in-Same c =
    let p = returned-as _ _ _ _ _ (words-looked-same _ _ _ _ _ c.in-Ok.is c.in-Same.is)
    c.answer_depth.ensures.returned c.answer_depth.ensures.written in
    record { returned = p.0; written = p.1 }

pub returns-in-Apart : goal.returns-in-Apart
returns-in-Apart c =
    let p = returned-as _ _ _ _ _ (words-looked-apart _ _ _ _ _ _ _ c.in-Ok.is c.in-Apart.is (sheets-number _))
    c.answer_apart.ensures.returned c.answer_apart.ensures.written in
    record { returned = p.0; written = p.1 }

pub returns-in-SoFar : goal.returns-in-SoFar
returns-in-SoFar c =
    let p = returned-as _ _ _ _ _ (words-looked-so-far _ _ _ _ _ c.in-Ok.is c.in-SoFar.is)
    c.answer_depth-in-SoFar.ensures.returned c.answer_depth-in-SoFar.ensures.written in
    record { returned = p.0; written = p.1 }

pub returns-in-Err : goal.returns-in-Err
returns-in-Err c =
    let p = returned-as _ _ _ _ _ (words-not-looked _ _ c.in-Err.is)
    c.refuse.ensures.returned c.refuse.ensures.written in
    record { returned = p.0; written = p.1 }
