use mathlib.Core.List.{List}
use Prim.Native.Nat.{◌-◌, ℕ}
use Rattle.dfa_splitting.specs.inner.Signs.{Signed}
use Rattle.dfa_splitting.specs.inner.Splitting.{CarveState}
use Rattle.dfa_splitting.proofs.split.split.Given as goal

abbrev pub invariant-loop-low : goal.invariant-loop-low
invariant-loop-low l = (G : List ℕ) (cls : ℕ → ℕ) (count : ℕ)
    → CarveState G l.n l.g l.s cls count l.k l.till l.end l.initial.words l.initial.words l.initial.m l.initial.c l.initial.low → Signed G l.n l.g l.s cls l.initial.words
    → CarveState G l.n l.g l.s cls count l.k l.till l.end l.initial.words l.words l.m l.c l.low

abbrev pub decreases-loop-low : goal.decreases-loop-low
decreases-loop-low l = l.till - l.low
