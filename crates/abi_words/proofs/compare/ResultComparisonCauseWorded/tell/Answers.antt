-- The words that an answer of compare is told by are `compare_words`, where there is room for them.
use borrow.Author.Rules.{rules}
use mathlib.Core.Path.{refl}
use Rattle.abi_words.proofs.Numbers.{sheets-number}
use Rattle.abi_words.proofs.Wording.{returned-as, words_same, words-apart, words-not-compared}
use Rattle.abi_words.proofs.compare.ResultComparisonCauseWorded.tell.Goals as goal

pub returns-in-None : goal.returns-in-None
returns-in-None c =
    let p = returned-as _ _ _ _ _ (words_same _ _ _ _ c.in-Ok.is c.in-None.is)
    c.answer_names.ensures.returned c.answer_names.ensures.written in
    record { returned = p.0; written = p.1 }

pub returns-in-Some : goal.returns-in-Some
returns-in-Some c =
    let p = returned-as _ _ _ _ _ (words-apart _ _ _ _ _ _ _ _ c.in-Ok.is c.in-Some.is (sheets-number _) refl refl)
    c.answer_apart.ensures.returned c.answer_apart.ensures.written in
    record { returned = p.0; written = p.1 }

pub returns-in-Err : goal.returns-in-Err
returns-in-Err c =
    let p = returned-as _ _ _ _ _ (words-not-compared _ _ c.in-Err.is)
    c.refuse.ensures.returned c.refuse.ensures.written in
    record { returned = p.0; written = p.1 }
