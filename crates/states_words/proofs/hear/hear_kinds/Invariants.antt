use Prim.Native.Nat.{◌-◌}
use Rattle.states_words.specs.inner.Moves.{asked_edges}
use Rattle.states_words.proofs.Loops.{Wrote}
use Rattle.states_words.proofs.hear.hear_kinds.Given as goal

abbrev pub invariant-loop-kind : goal.invariant-loop-kind
invariant-loop-kind l =
    Wrote l.initial.words l.s.n l.e (asked_edges l.t l.n l.s l.wait l.count l.first (l.kind - l.first)) l.next l.words
