use mathlib.Core.List.{List}
use Prim.Native.Nat.{ℕ}
use Rattle.dfa_splitting.specs.inner.Refining.{Touched}
use Rattle.dfa_splitting.specs.inner.Signs.{SigningAll}
use Rattle.dfa_splitting.proofs.split.sign_all.Given as goal

abbrev pub invariant-loop-x : goal.invariant-loop-x
invariant-loop-x l = (G : List ℕ) (cls : ℕ → ℕ) (count : ℕ) → Touched G l.n l.g l.s cls count l.m l.initial.words
    → SigningAll G l.n l.g l.s cls l.x l.initial.words l.words
