-- The words that `answer_names` writes: five words, and three for each sheet.
use borrow.Author.Rules.{rules}
use Rattle.abi_words.proofs.compare.answer_names.Goals as goal

pub returns : goal.returns
returns c = record { returned = c.answer.ensures.returned; written = c.answer.ensures.written }
