use Prim.Native.Nat.{◌≤◌, ℕ}
use Rattle.dfa_classes.specs.Parted.{Parted}
use Rattle.dfa_splitting.specs.inner.Renaming.{RenamedUpTo}
use Rattle.dfa_splitting.proofs.rename.rename.Given as goal

abbrev pub invariant-loop-c : goal.invariant-loop-c
invariant-loop-c l = (own : ℕ → ℕ) → Parted l.n l.initial.words own l.k
    → (l.count ≤ l.c) × RenamedUpTo l.n own l.count l.c l.initial.words l.words
