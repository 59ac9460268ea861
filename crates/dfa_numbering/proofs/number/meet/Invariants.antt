use mathlib.Core.List.{List}
use mathlib.Core.Path.{◌≡◌}
use Prim.Native.Nat.{◌-◌, ℕ}
use Rattle.dfa_numbering.specs.inner.Counting.{Meeting}
use Rattle.dfa_numbering.proofs.number.meet.Given as goal

abbrev pub invariant-loop-e : goal.invariant-loop-e
invariant-loop-e l = (G : List ℕ) (g : ℕ) (own : ℕ → ℕ) (head : ℕ) → l.dead ≡ own (l.n - 1)
    → Meeting G l.n g own head l.p l.initial.words l.initial.e l.end l.initial.k l.initial.words → Meeting G l.n g own head l.p l.initial.words l.e l.end l.k l.words
