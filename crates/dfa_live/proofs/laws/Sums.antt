-- The sum of words that are 0 or 1. Assumes nothing.
use mathlib.Core.List.{List}
use mathlib.Core.Logic.{◌≢◌}
use mathlib.Core.Path.{◌≡◌, ap, refl, sym}
use Prim.Native.Nat.{◌+◌, ◌<◌, ◌≤◌, suc, zero, ℕ}
use native.Mathlib.Decide.{ℕ_discrete}
use native.Mathlib.Omega.{arith}
use lib.ListN.{get_or}
use Rattle.dfa_live.specs.inner.Marking.{sum_from}

-- words that are the same
sum_same : (ws ws' : List ℕ) (a k : ℕ) → ((x : ℕ) → x < k → get_or ws' (a + x) 0 ≡ get_or ws (a + x) 0)
    → sum_from ws' a k ≡ sum_from ws a k
unfolding sum_from
sum_same ws ws' a zero h = refl
sum_same ws ws' a (suc k) h =
    omega (arith, h k (omega arith), sum_same ws ws' a k (λ x l. h x (omega arith)))

-- no word is 1
pub sum-none : (ws : List ℕ) (a k : ℕ) → ((x : ℕ) → x < k → get_or ws (a + x) 0 ≡ 0) → sum_from ws a k ≡ 0
unfolding sum_from
sum-none ws a zero h = refl
sum-none ws a (suc k) h = omega (arith, h k (omega arith), sum-none ws a k (λ x l. h x (omega arith)))

-- no word is more than 1
pub sum-most : (ws : List ℕ) (a k : ℕ) → ((x : ℕ) → x < k → get_or ws (a + x) 0 ≤ 1) → sum_from ws a k ≤ k
unfolding sum_from
sum-most ws a zero h = omega arith
sum-most ws a (suc k) h = omega (arith, h k (omega arith), sum-most ws a k (λ x l. h x (omega arith)))

-- one of them is 0
pub sum_less : (ws : List ℕ) (a k p : ℕ) → ((x : ℕ) → x < k → get_or ws (a + x) 0 ≤ 1) → p < k → get_or ws (a + p) 0 ≡ 0
    → sum_from ws a k < k
unfolding sum_from
sum_less ws a zero p h l z = absurd (omega arith)
sum_less ws a (suc k) p h l z = go (sum_less ws a k p (λ x m. h x (omega arith))) (ℕ_discrete p k)
  where
    go : (p < k → get_or ws (a + p) 0 ≡ 0 → sum_from ws a k < k) → Dec (p ≡ k)
        → get_or ws (a + k) 0 + sum_from ws a k < suc k
    go ih (yes q) = omega (arith, ap (λ x. get_or ws (a + x) 0) q, sum-most ws a k (λ x m. h x (omega arith)))
    go ih (no q) = omega (arith, ih (omega arith) z, h k (omega arith))

-- that one becomes 1
pub sum_more : (ws ws' : List ℕ) (a k p : ℕ) → p < k → get_or ws (a + p) 0 ≡ 0 → get_or ws' (a + p) 0 ≡ 1
    → ((x : ℕ) → x < k → x ≢ p → get_or ws' (a + x) 0 ≡ get_or ws (a + x) 0) → sum_from ws' a k ≡ sum_from ws a k + 1
unfolding sum_from
sum_more ws ws' a zero p l old new same = absurd (omega arith)
sum_more ws ws' a (suc k) p l old new same =
    go (λ m. sum_more ws ws' a k p m old new (λ x u v. same x (omega arith) v)) (ℕ_discrete p k)
  where
    go : (p < k → sum_from ws' a k ≡ sum_from ws a k + 1) → Dec (p ≡ k)
        → get_or ws' (a + k) 0 + sum_from ws' a k ≡ get_or ws (a + k) 0 + sum_from ws a k + 1
    go ih (yes q) = omega (
      arith,
      ap (λ x. get_or ws (a + x) 0) q,
      ap (λ x. get_or ws' (a + x) 0) q,
      sum_same ws ws' a k (λ x m. same x (omega arith) (λ u. omega arith)),
    )
    go ih (no q) = omega (arith, ih (omega arith), same k (omega arith) (λ u. q (sym u)))
