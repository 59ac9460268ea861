-- The words that `answer_refusal` writes, where there is room for them.
use borrow.Author.Rules.{rules}
use Rattle.abi_words.proofs.Wording.{returned-as, words-numbered}
use Rattle.abi_words.proofs.write.answer_refusal.Goals as goal

pub returns : goal.returns
returns c =
    let p = returned-as _ _ _ _ _ (words-numbered _ _ _ _ _ c.low_half-low.ensures c.high_half-high.ensures)
    c.answer.ensures.returned c.answer.ensures.written in
    record { returned = p.0; written = p.1 }
