use mathlib.Core.List.{List}
use Prim.Native.Nat.{ℕ}
use Rattle.dfa_classes.specs.Places.{class_at}
use Rattle.dfa_splitting.specs.inner.Into.{Skips, Skipping}
use Rattle.dfa_splitting.proofs.into.next_into.Given as goal

abbrev pub invariant-loop-i : goal.invariant-loop-i
invariant-loop-i l = (G : List ℕ) (g : ℕ) → Skipping G g l.n l.s l.e l.end l.words
    → Skips G l.n (class_at l.words) l.s l.e l.end l.i
