-- What `write_edge` leaves is what `with_edge` says.
use borrow.Author.Rules.{rules}
use Rattle.states_words.proofs.Plain.{edge-stored}
use Rattle.states_words.proofs.rows.write_edge.Goals as goal

pub returns-then-i-words : goal.returns-then-i-words
returns-then-i-words c = search (rules, edge-stored)
