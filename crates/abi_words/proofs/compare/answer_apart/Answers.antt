-- The words that `answer_apart` writes, where there is room for them.
use borrow.Author.Rules.{rules}
use Rattle.abi_words.proofs.Wording.{returned-as, words-depth}
use Rattle.abi_words.proofs.compare.answer_apart.Goals as goal

pub returns : goal.returns
returns c =
    let p = returned-as _ _ _ _ _ (words-depth _ _ _ _ _ _ _ c.low_half-low.ensures c.high_half-high.ensures)
    c.answer_names.ensures.returned c.answer_names.ensures.written in
    record { returned = p.0; written = p.1 }
