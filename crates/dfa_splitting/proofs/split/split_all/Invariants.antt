use mathlib.Core.List.{List}
use Prim.Native.Nat.{ℕ}
use Rattle.dfa_splitting.specs.inner.Refining.{SplitState, Touched}
use Rattle.dfa_splitting.specs.inner.Signs.{Signed}
use Rattle.dfa_splitting.proofs.split.split_all.Given as goal

abbrev pub invariant-loop-x : goal.invariant-loop-x
invariant-loop-x l = (G : List ℕ) (cls : ℕ → ℕ) → Touched G l.n l.g l.s cls l.count l.m l.initial.words
    → Signed G l.n l.g l.s cls l.initial.words → SplitState G l.n l.g l.s cls l.count l.m l.initial.words l.words l.k l.x
