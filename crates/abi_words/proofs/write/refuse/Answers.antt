-- The words that `refuse` writes are `refusal_words`, where there is room for them.
use borrow.Author.Rules.{rules}
use mathlib.Core.Path.{refl}
use Rattle.abi_words.proofs.Numbers.{reason-number, sheets-number}
use Rattle.abi_words.proofs.Wording.{returned-as, words-refused}
use Rattle.abi_words.proofs.write.refuse.Goals as goal

pub returns : goal.returns
returns c =
    let p = returned-as _ _ _ _ _ (words-refused _ _ _ _ _ (reason-number _) (sheets-number _) refl refl)
    c.answer_refusal.ensures.returned c.answer_refusal.ensures.written in
    record { returned = p.0; written = p.1 }
