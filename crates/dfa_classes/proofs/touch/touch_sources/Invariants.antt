use mathlib.Core.List.{List}
use mathlib.Core.Path.{◌≡◌}
use Prim.Native.Nat.{ℕ}
use Rattle.dfa_classes.specs.inner.Sources.{Sourcing}
use Rattle.dfa_classes.proofs.touch.touch_sources.Given as goal

abbrev pub invariant-loop-next : goal.invariant-loop-next
invariant-loop-next l = (G : List ℕ) (s : ℕ) (own : ℕ → ℕ) (count : ℕ) → own l.t ≡ s
    → Sourcing G l.n l.g s own count l.t l.initial.words l.initial.words l.initial.m l.initial.next → Sourcing G l.n l.g s own count l.t l.initial.words l.words l.m l.next

abbrev pub decreases-loop-next : goal.decreases-loop-next
decreases-loop-next l = l.next
