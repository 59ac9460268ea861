use mathlib.Core.List.{List}
use mathlib.Core.Path.{◌≡◌}
use Prim.Native.Nat.{◌-◌, ℕ}
use lib.ListN.{length}
use Rattle.dfa_numbering.specs.inner.Counting.{Counted}
use Rattle.dfa_numbering.proofs.number.number_states.Given as goal

abbrev pub invariant-loop-head : goal.invariant-loop-head
invariant-loop-head l = ((G : List ℕ) (g : ℕ) (own : ℕ → ℕ) → l.dead ≡ own (l.n - 1)
    → Counted G l.n g own l.initial.words l.initial.head l.initial.tail → Counted G l.n g own l.words l.head l.tail) × (length l.words ≡ length l.initial.words)

abbrev pub decreases-loop-head : goal.decreases-loop-head
decreases-loop-head l = l.n - l.head
