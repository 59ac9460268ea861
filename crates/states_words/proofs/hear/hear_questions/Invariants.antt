use Rattle.states_words.specs.inner.Moves.{question_edges}
use Rattle.states_words.proofs.Loops.{Wrote}
use Rattle.states_words.proofs.hear.hear_questions.Given as goal

abbrev pub invariant-loop-j : goal.invariant-loop-j
invariant-loop-j l =
    Wrote l.initial.words l.s.n l.e (question_edges l.t l.n l.s l.wait l.kind l.j) l.next l.words
