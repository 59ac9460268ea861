use mathlib.Core.List.{List}
use mathlib.Core.Path.{◌≡◌}
use lib.ListN.{length}
use Prim.Native.Nat.{◌-◌, ℕ}
use Rattle.dfa_splitting.specs.inner.Refining.{Refinable, RefineState}
use Rattle.dfa_sorting.proofs.refine.refine.Given as goal

abbrev pub invariant-loop-s : goal.invariant-loop-s
invariant-loop-s l = ((G : List ℕ) (f : ℕ) → Refinable G l.n l.g f l.initial.words
    → RefineState G l.n l.g f l.words l.count l.s) × (length l.words ≡ length l.initial.words)

abbrev pub decreases-loop-s : goal.decreases-loop-s
decreases-loop-s l = l.n - l.s
