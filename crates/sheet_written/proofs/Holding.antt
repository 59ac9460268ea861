-- Holding commutes with sums and products, so forms may be held at every step; document 02 [1].
use Prim.Native.Nat.{ℕ, zero, suc, ◌+◌, ◌*◌, ◌≤◌, ◌<◌}
use native.Mathlib.Omega.{arith}
use native.Mathlib.Nat.{mul-le-mul_right, mul-le-mul_left, zero-mul, mul-zero}
use mathlib.Core.Path.{◌≡◌, refl, sym, ◌∙◌}
use mathlib.Core.Logic.{◌↔◌}
use lib.Dec.{ltb}
use borrow.Author.Tests.{ltb-true, ltb-false}
use Rattle.sheet_written.specs.Held.{held}
use Rattle.sheet_written.proofs.Tests.{by-test}

pub held-sum : (a b c d : ℕ) → held a ≡ held c → held b ≡ held d → held (a + b) ≡ held (c + d)
unfolding held
held-sum a b c d e f = omega arith

pub held-held : (a : ℕ) → held (held a) ≡ held a
unfolding held
held-held a = omega arith

-- a product with a factor over the bound
over-left : (a b : ℕ) → 4097 ≤ a → held (a * suc b) ≡ 4097
unfolding held
over-left a b h =
    let x : a * 1 ≤ a * suc b = mul-le-mul_left a (omega arith) in
    omega arith

over-right : (a b : ℕ) → 4097 ≤ b → held (suc a * b) ≡ 4097
unfolding held
over-right a b h =
    let x : 1 * b ≤ suc a * b = mul-le-mul_right b (omega arith) in
    omega arith

below-bound : (a : ℕ) → a < 4097 → held a ≡ a
unfolding held
below-bound a h = omega arith

above-bound : (a : ℕ) → 4097 ≤ a → held a ≡ 4097
unfolding held
above-bound a h = omega arith

held-suc : (a : ℕ) → 0 < held (suc a)
unfolding held
held-suc a = omega arith

pub held-zero : held 0 ≡ 0
unfolding held
held-zero = refl

some_right : (a n : ℕ) → 4097 ≤ a → 0 < n → held (a * n) ≡ 4097
some_right a zero h g = absurd (omega arith)
some_right a (suc n) h g = over-left a n h

some_left : (n b : ℕ) → 4097 ≤ b → 0 < n → held (n * b) ≡ 4097
some_left zero b h g = absurd (omega arith)
some_left (suc n) b h g = over-right n b h

pub held-times : (a b : ℕ) → held (a * b) ≡ held (held a * held b)
held-times zero b = rw (held-zero, zero-mul b, zero-mul (held b))
held-times (suc a) zero = rw (held-zero, mul-zero (suc a), mul-zero (held (suc a)))
held-times (suc a) (suc b) =
    by-test (ltb (suc a) 4097)
    (λ t. let l : suc a < 4097 = ltb-true (suc a) 4097 t in
    by-test (ltb (suc b) 4097)
    (λ u. rw (below-bound (suc a) l, below-bound (suc b) (ltb-true (suc b) 4097 u)))
    (λ u. let g : 4097 ≤ suc b = ltb-false (suc b) 4097 u in
    some_left (suc a) (suc b) g (omega arith)
    ∙ sym (rw (above-bound (suc b) g) (some_left (held (suc a)) 4097 (omega arith) (held-suc a)))))
    (λ t. let g : 4097 ≤ suc a = ltb-false (suc a) 4097 t in
    some_right (suc a) (suc b) g (omega arith)
    ∙ sym (rw (above-bound (suc a) g) (some_right 4097 (held (suc b)) (omega arith) (held-suc b))))

-- up to the bound nothing is held
pub within : (a k : ℕ) → k ≤ 4096 → (held a ≤ k) ↔ (a ≤ k)
unfolding held
within a k h = (λ g. omega arith, λ g. omega arith)
