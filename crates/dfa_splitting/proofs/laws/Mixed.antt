-- A letter put to a sign. Assumes nothing.
use mathlib.Core.Logic.{◌≢◌}
use mathlib.Core.Path.{◌≡◌}
use Prim.Native.Nat.{◌%◌, ◌*◌, ◌+◌, ◌<◌, ◌≤◌, ℕ}
use native.Mathlib.Omega.{arith}
use borrow.Author.Tests.{eq-eqb, ne_eqb}
use Rattle.dfa_splitting.specs.inner.Signs.{mixed}

-- the sign of no letter is 0
pub mixed-none : (v l : ℕ) → v ≡ 0 → mixed v l ≡ l % 134217728 + 1
unfolding mixed
mixed-none v l e = rw (eq-eqb v 0 e) (omega arith)

pub mixed-some : (v l : ℕ) → v ≢ 0 → mixed v l ≡ 134217729 + (v * 10368889 + l % 134217728 + 1) % 16777216
unfolding mixed
mixed-some v l ne = rw (ne_eqb v 0 ne) (omega arith)

-- the sign of one letter, and those of more
pub mixed-first : (l : ℕ) → l < 134217728 → mixed 0 l ≡ l + 1
mixed-first l h = omega (arith, mixed-none 0 l (omega arith))

pub mixed-more : (v l : ℕ) → 0 < v → 134217729 ≤ mixed v l
mixed-more v l h = omega (arith, mixed-some v l (λ e. omega arith))
