use mathlib.Core.Path.{◌≡◌}
use Prim.Native.Nat.{◌<◌, ◌≤◌, ℕ}
use Rattle.dfa_classes.specs.Parted.{Parted}
use Rattle.dfa_classes.specs.Places.{from_at}
use Rattle.dfa_splitting.specs.inner.Renaming.{RenamedTo}
use Rattle.dfa_splitting.proofs.rename.rename_one.Given as goal

abbrev pub invariant-loop-i : goal.invariant-loop-i
invariant-loop-i l = (own : ℕ → ℕ) (count : ℕ) → Parted l.n l.initial.words own count → l.c < count
    → l.start ≡ from_at l.n l.initial.words l.c → (l.start ≤ l.i) × RenamedTo l.n own l.c l.i l.initial.words l.words
