-- Two headings, byte by byte.
use Prim.Native.Nat.{ℕ, zero, suc, ◌<◌}
use native.Mathlib.Omega.{arith}
use native.Mathlib.Decide.{ℕ_discrete}
use mathlib.Core.Path.{◌≡◌, refl}
use mathlib.Core.Logic.{◌≢◌}
use mathlib.Core.Bool.{true, false}
use mathlib.Core.List.{List}
use lib.ListN.{get_or}
use borrow.Author.Tests.{eq-eqb, ne_eqb}
use Rattle.serve_conditions.specs.Pair.{same_first}

module _ (a b : List ℕ) where
  -- a byte differs
  pub same-differ : (n i : ℕ) → i < n → get_or a i 0 ≢ get_or b i 0 → false ≡ same_first n a b
  unfolding same_first
  same-differ zero i h d = absurd (omega arith)
  same-differ (suc n) i h d =
      by (ℕ_discrete i n) (ℕ_discrete (get_or a n 0) (get_or b n 0)) (λ l. same-differ n i l d)
    where
      by : Dec (i ≡ n) → Dec (get_or a n 0 ≡ get_or b n 0) → (i < n → false ≡ same_first n a b) →
          false ≡ same_first (suc n) a b
      by (yes e) q r = rw (ne_eqb (get_or a n 0) (get_or b n 0) (rw e at d)) refl
      by (no e) (yes q) r = rw (eq-eqb (get_or a n 0) (get_or b n 0) q) (r (omega arith))
      by (no e) (no q) r = rw (ne_eqb (get_or a n 0) (get_or b n 0) q) refl

  -- all bytes are the same
  pub same-all : (n : ℕ) → ((k : ℕ) → k < n → get_or a k 0 ≡ get_or b k 0) → true ≡ same_first n a b
  unfolding same_first
  same-all zero h = refl
  same-all (suc n) h =
      rw (eq-eqb (get_or a n 0) (get_or b n 0) (h n (omega arith))) (same-all n (λ k l. h k (omega arith)))
