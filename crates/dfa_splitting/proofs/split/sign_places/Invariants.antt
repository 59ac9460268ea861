use mathlib.Core.List.{List}
use Prim.Native.Nat.{ℕ}
use Rattle.dfa_splitting.specs.inner.Signs.{Signable, SignedTo}
use Rattle.dfa_splitting.proofs.split.sign_places.Given as goal

abbrev pub invariant-loop-i : goal.invariant-loop-i
invariant-loop-i l = (G : List ℕ) (cls : ℕ → ℕ)
    → Signable G l.n l.g cls l.initial.words → SignedTo G l.n l.g l.s cls l.low l.i l.initial.words l.words
