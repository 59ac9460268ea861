-- What the loop of scan keeps. Assumes nothing.
use mathlib.Core.List.{List}
use mathlib.Core.Logic.{◌≢◌}
use mathlib.Core.Path.{◌∙◌, ◌≡◌, sym}
use Prim.Native.Nat.{◌+◌, ◌-◌, ◌<◌, ◌≤◌, ℕ}
use native.Mathlib.Omega.{arith}
use Rattle.dfa.specs.Graph.{letter, target, δ}
use Rattle.dfa.specs.inner.Scan.{Scanning}
use Rattle.dfa.proofs.laws.Look.{edges-tail, look_at, look-before, look-past}

pub scan-hit : (G : List ℕ) (n p m i end a r : ℕ) → Scanning G n p m i end → i < end → a ≡ letter G n i → a ≡ m
    → r ≡ target G n i → r ≡ δ G n p m
scan-hit G n p m i end a r s h ea em er = er ∙ sym (look_at G n m i end h (sym ea ∙ em)) ∙ s.left

pub scan-again : (G : List ℕ) (n p m i end a : ℕ) → Scanning G n p m i end → i < end → a ≡ letter G n i → a ≢ m
    → Scanning G n p m (i + 1) end
scan-again G n p m i end a s h ea ne = record
    { edges = edges-tail G n i end s.edges h; left = sym (look-past G n m i end h (λ q. ne (ea ∙ q))) ∙ s.left }

pub scan-last : (G : List ℕ) (n p m i end : ℕ) → Scanning G n p m i end → end ≤ i → n - 1 ≡ δ G n p m
scan-last G n p m i end s h = sym (look-before G n m i end s.edges (λ l. absurd (omega arith))) ∙ s.left
