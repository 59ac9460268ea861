-- The remainder: which number it is, and how it comes from the exact one with the sign of the left operand.
use Rattle.std.specs.Prelude.{None, Some}
use Prim.Native.Nat.{ℕ, zero, suc, ◌+◌, ◌-◌, ◌*◌, ◌/◌, ◌%◌, ◌≤◌, ◌<◌}
use native.Mathlib.Omega.{arith}
use native.Mathlib.Nat.{mod-eq_of_lt, mod-lt, mod-add-div', mul-add-mod_self_right}
use mathlib.Core.Path.{◌≡◌, refl, ap, ◌∙◌, sym}
use mathlib.Core.Bool.{true, false}
use mathlib.Core.Logic.{◌⊎◌, inl, inr}
use lib.Dec.{ltb}
use lib.IntN.{ℤ, pos, negsuc, neg_ℤ, nat_abs, ◌+ℤ◌, ◌-ℤ◌, ◌*ℤ◌}
use lib.Signed.{lt_z, rem_z}
use borrow.Author.Tests.{ltb-true, ltb-false, le-ltb, eq-eqb, ne_eqb}
use Rattle.language.specs.declared.Numbers.{Numbers}
use Rattle.language.specs.Number.{finites, modulo, code}
use Rattle.language.specs.Operator.{fit, remainder}
use Rattle.language.specs.Remainder.{IsRemainder, RemainderLaw}
use Rattle.language.proofs.NumberLaws.{minus-below, modulo-below, modulo-multiple, modulo-pos, by-test}
use Rattle.language.proofs.NumberLaws.{finites-are}

-- 0 is the only number at the distance 0
abs-0 : (y : ℤ) → nat_abs y ≡ 0 → y ≡ pos 0
abs-0 (pos n) e = ap pos e
abs-0 (negsuc n) e = absurd (omega arith)

-- no times a number is 0, with either sign
no-times : (b : ℕ) → neg_ℤ (pos (0 * b)) ≡ pos (0 * b)
no-times b =
    let z : 0 * b ≡ 0 = omega arith in
    ap (λ (m : ℕ). neg_ℤ (pos m)) z ∙ ap pos (sym z)

-- multiples of y are those of its absolute value
of-absolute : (k y : ℤ) → (j : ℤ) × (k *ℤ y ≡ j *ℤ pos (nat_abs y))
of-absolute k (pos b) = (k, refl)
of-absolute (pos zero) (negsuc b) = (pos zero, no-times (suc b))
of-absolute (pos (suc a)) (negsuc b) = (negsuc a, refl)
of-absolute (negsuc a) (negsuc b) = (pos (suc a), refl)

of_number : (j y : ℤ) → (k : ℤ) × (j *ℤ pos (nat_abs y) ≡ k *ℤ y)
of_number j (pos b) = (j, refl)
of_number (pos zero) (negsuc b) = (pos zero, sym (no-times (suc b)))
of_number (pos (suc a)) (negsuc b) = (negsuc a, refl)
of_number (negsuc a) (negsuc b) = (pos (suc a), refl)

-- a number below n that differs from v by a multiple of n is v modulo n
modulo-only : (r n : ℕ) (q : ℤ) → r < n → modulo (pos r +ℤ q *ℤ pos n) n ≡ r
unfolding modulo
modulo-only r n (pos j) h =
    ap (λ (m : ℕ). m % n) {x = r + j * n} {y = j * n + r} (omega arith) ∙ mul-add-mod_self_right j n r ∙ mod-eq_of_lt h
modulo-only r n (negsuc j) h = rw e (ap (λ (m : ℕ). n - suc m) u ∙ omega arith)
  where
    whole : suc j * n ≡ n + j * n
    whole = omega arith

    e : pos r +ℤ neg_ℤ (pos (suc j * n)) ≡ negsuc (j * n + (n - suc r))
    e = minus-below r (suc j * n) (omega (arith, whole)) ∙ ap negsuc (omega (arith, whole))

    u : (j * n + (n - suc r)) % n ≡ n - suc r
    u = mul-add-mod_self_right j n (n - suc r) ∙ mod-eq_of_lt (omega arith)

module _ (x y : ℤ) where
  is-modulo : (r : ℕ) → IsRemainder x y r → r ≡ modulo x (nat_abs y)
  is-modulo r h =
      let (k, e) = h.multiple in
      let (j, d) = of-absolute k y in
      sym (modulo-only r (nat_abs y) j h.below)
      ∙ ap (λ (v : ℤ). modulo v (nat_abs y)) (ap (λ (v : ℤ). pos r +ℤ v) (sym d) ∙ sym e)

  modulo-is : (nat_abs y ≡ 0 → ⊥) → IsRemainder x y (modulo x (nat_abs y))
  modulo-is h =
      let (j, e) = modulo-multiple x (nat_abs y) (omega arith) in
      let (k, d) = of_number j y in
      record {
        below = modulo-below x (nat_abs y) (omega arith);
        multiple = (k, e ∙ ap (λ (v : ℤ). pos (modulo x (nat_abs y)) +ℤ v) d);
      }

  result : (nat_abs y ≡ 0 → ⊥) → remainder x y ≡ Some (pos (modulo x (nat_abs y)))
  unfolding remainder
  result h = rw (ne_eqb (nat_abs y) 0 h)

  no_result : nat_abs y ≡ 0 → remainder x y ≡ None
  unfolding remainder
  no_result h = rw (eq-eqb (nat_abs y) 0 h)

-- every overflow rule leaves a number from 0 to Z as it is
fit_small : (N : Numbers) (r : ℕ) → r ≤ N.z → fit N (pos r) ≡ Some r
unfolding fit code
fit_small N r h = rw (le-ltb N.z r h, modulo-pos r (finites N) (omega (arith, finites-are N)))

-- THEOREM: `remainder` gives the one number that document 02 describes
pub remainder-law : (x y : ℤ) → RemainderLaw x y
remainder-law x y = record {
  by_0 = λ e. no_result x y (ap nat_abs e);
  given = λ h. let k : nat_abs y ≡ 0 → ⊥ = λ e. h (abs-0 y e) in (modulo x (nat_abs y), result x y k, modulo-is x y k);
  only = λ r s h k. is-modulo x y r h ∙ sym (is-modulo x y s k);
  kept = λ N r l h. let b = h.below in let k : r < N.z = omega arith in (k, fit_small N r (omega arith));
}

-- one step up: the remainder goes up by one, or back to 0
suc-mod :
    (a n : ℕ) → 0 < n →
    ((suc a % n ≡ suc (a % n)) × (suc (a % n) < n)) ⊎ ((suc a % n ≡ 0) × (suc (a % n) ≡ n))
suc-mod a n h =
    by-test (ltb (suc (a % n)) n)
    (λ t. let l = ltb-true (suc (a % n)) n t in
    inl (ap (λ (m : ℕ). m % n) up ∙ mul-add-mod_self_right (a / n) n (suc (a % n)) ∙ mod-eq_of_lt l, l))
    (λ t. let l = ltb-false (suc (a % n)) n t in
    let e : suc (a % n) ≡ n = omega (arith, mod-lt a h) in
    inr (ap (λ (m : ℕ). m % n) (up ∙ over e) ∙ mul-add-mod_self_right (suc (a / n)) n 0 ∙ mod-eq_of_lt h, e))
  where
    up : suc a ≡ a / n * n + suc (a % n)
    up = omega (arith, mod-add-div' a n)

    over : suc (a % n) ≡ n → a / n * n + suc (a % n) ≡ suc (a / n) * n + 0
    over e = omega arith

-- a difference from 0 on
up_by : (a n : ℕ) → suc a ≤ n → negsuc a +ℤ pos n ≡ pos (n - suc a)
up_by a n h = simp (le-ltb n (suc a) h)

-- the exact remainder of a negative number: below 0, or 0
below-case :
    (a n : ℕ) → 0 < n → lt_z (neg_ℤ (pos (suc a % n))) (pos 0) ≡ true →
    (neg_ℤ (pos (suc a % n)) ≡ negsuc (a % n)) × (suc (a % n) < n)
below-case a n h t = go (suc-mod a n h)
  where
    go : ((suc a % n ≡ suc (a % n)) × (suc (a % n) < n)) ⊎ ((suc a % n ≡ 0) × (suc (a % n) ≡ n)) →
        (neg_ℤ (pos (suc a % n)) ≡ negsuc (a % n)) × (suc (a % n) < n)
    go (inl (e, l)) = (ap (λ (m : ℕ). neg_ℤ (pos m)) e, l)
    go (inr (e, d)) =
        let u : lt_z (neg_ℤ (pos 0)) (pos 0) ≡ true = rw e at t in
        absurd (omega (arith, ltb-true 0 0 u))

zero-case :
    (a n : ℕ) → 0 < n → lt_z (neg_ℤ (pos (suc a % n))) (pos 0) ≡ false → neg_ℤ (pos (suc a % n)) ≡ pos (n - suc (a % n))
zero-case a n h t = go (suc-mod a n h)
  where
    go : ((suc a % n ≡ suc (a % n)) × (suc (a % n) < n)) ⊎ ((suc a % n ≡ 0) × (suc (a % n) ≡ n)) →
        neg_ℤ (pos (suc a % n)) ≡ pos (n - suc (a % n))
    go (inl (e, l)) =
        let u : lt_z (neg_ℤ (pos (suc (a % n)))) (pos 0) ≡ false = rw e at t in
        let z : ◌≡◌ {A = ℕ} 0 1 = cc in absurd (omega arith)
    go (inr (e, d)) = ap (λ (m : ℕ). neg_ℤ (pos m)) e ∙ ap pos (omega arith)

-- The exact remainder that is not negative is the number sought; a negative one is moved up by the absolute value of y.
module _ (x y : ℤ) (h : nat_abs y ≡ 0 → ⊥) where
  pub from-0 : lt_z (rem_z x y) (pos 0) ≡ false → rem_z x y ≡ pos (modulo x (nat_abs y))
  unfolding modulo
  from-0 = go x
    where
      go : (x : ℤ) → lt_z (rem_z x y) (pos 0) ≡ false → rem_z x y ≡ pos (modulo x (nat_abs y))
      go (pos a) t = refl
      go (negsuc a) t = zero-case a (nat_abs y) (omega arith) t

  up-by-absolute :
      (x : ℤ) → lt_z (rem_z x y) (pos 0) ≡ true → rem_z x y +ℤ pos (nat_abs y) ≡ pos (modulo x (nat_abs y))
  unfolding modulo
  up-by-absolute (pos a) t = absurd (omega (arith, ltb-true (a % nat_abs y) 0 t))
  up-by-absolute (negsuc a) t =
      let (e, l) = below-case a (nat_abs y) (omega arith) t in
      ap (λ (v : ℤ). v +ℤ pos (nat_abs y)) e ∙ up_by (a % nat_abs y) (nat_abs y) (omega arith)

  pub up-by-positive :
      lt_z (rem_z x y) (pos 0) ≡ true → lt_z y (pos 0) ≡ false → rem_z x y +ℤ y ≡ pos (modulo x (nat_abs y))
  up-by-positive t u = ap (λ (v : ℤ). rem_z x y +ℤ v) (is_positive y u) ∙ up-by-absolute x t
    where
      is_positive : (y : ℤ) → lt_z y (pos 0) ≡ false → y ≡ pos (nat_abs y)
      is_positive (pos n) u = refl
      is_positive (negsuc n) u = let z : ◌≡◌ {A = ℕ} 0 1 = cc in absurd (omega arith)

  pub up-by-negative :
      lt_z (rem_z x y) (pos 0) ≡ true → lt_z y (pos 0) ≡ true → rem_z x y -ℤ y ≡ pos (modulo x (nat_abs y))
  up-by-negative t u = ap (λ (v : ℤ). rem_z x y +ℤ v) (is_negative y u) ∙ up-by-absolute x t
    where
      is_negative : (y : ℤ) → lt_z y (pos 0) ≡ true → neg_ℤ y ≡ pos (nat_abs y)
      is_negative (pos n) u = absurd (omega (arith, ltb-true n 0 u))
      is_negative (negsuc n) u = refl
