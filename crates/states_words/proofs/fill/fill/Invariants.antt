use Rattle.states_path.specs.Kept.{KeptPath}
use Rattle.states_words.specs.inner.Moves.{row_of}
use Rattle.states_words.proofs.Loops.{Filled}
use Rattle.states_words.proofs.fill.fill.Given as goal

abbrev pub invariant-loop-k : goal.invariant-loop-k
invariant-loop-k l =
    KeptPath l.t l.root l.p l.c l.k × Filled (row_of l.t l.n l.s) l.s.n l.s.o l.e l.initial.words l.k l.next l.words
