use Prim.Native.Nat.{◌+◌, ◌*◌}
use Rattle.states_words.specs.inner.Moves.{values_to}
use Rattle.states_words.proofs.Loops.{Wrote}
use Rattle.states_words.proofs.answers.answer_copies.Given as goal

abbrev pub invariant-loop-r : goal.invariant-loop-r
invariant-loop-r l =
    Wrote l.initial.words l.states l.e (values_to l.n l.place l.below (λ v. l.to + v * l.stride) l.r) l.next l.words
