-- What `write_head` leaves is what `with_head` says.
use borrow.Author.Rules.{rules}
use Rattle.states_words.proofs.Plain.{head-stored}
use Rattle.states_words.proofs.rows.write_head.Goals as goal

pub returns-then-i-words : goal.returns-then-i-words
returns-then-i-words c = search (rules, head-stored)
