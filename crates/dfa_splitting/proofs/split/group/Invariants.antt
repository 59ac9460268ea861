use mathlib.Core.List.{List}
use Prim.Native.Nat.{ℕ}
use Rattle.dfa_splitting.specs.inner.Grouping.{Groupable, GroupedTo, Quick}
use Rattle.dfa_splitting.proofs.split.group.Given as goal

abbrev pub invariant-loop-i : goal.invariant-loop-i
invariant-loop-i l = (G : List ℕ) (own : ℕ → ℕ) (count c : ℕ)
    → Groupable G l.n l.g l.s own count c l.low l.till l.initial.words → Quick G l.n l.g l.s l.low l.till l.initial.words
    → GroupedTo G l.n l.g l.s own count c l.low l.till l.initial.words l.end l.i l.words
