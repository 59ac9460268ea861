-- The remainder from 0 on, by the exact one, as words of 64 bits hold them; and what it makes of two operands.
use Prim.Native.Nat.{ℕ, ◌≤◌, ◌<◌}
use native.Mathlib.Omega.{arith}
use mathlib.Core.Path.{◌≡◌, ap, ap₂, ◌∙◌}
use mathlib.Core.Bool.{true, false}
use lib.IntN.{ℤ, pos, nat_abs, ◌+ℤ◌, ◌-ℤ◌}
use lib.Signed.{mag, lt_z, rem_z}
use mir.Syntax.{w64}
use mir.Val.{SFits, of_z, to_z}
use mir.Facts.{to_z-of_z}
use borrow.Author.Tests.{ne_eqb}
use Rattle.std.specs.Prelude.{Option}
use Rattle.language.specs.declared.Numbers.{Numbers}
use Rattle.language.specs.Number.{modulo, signed}
use Rattle.language.specs.Operator.{fit, fit_some, remainder}
use Rattle.language.proofs.RemainderLaws.{from-0, up-by-positive, up-by-negative}
use Rattle.language_codes.proofs.ExactSteps.{abs_remainder}

-- a number is read back from its bits, and so is the result of a call
back : {z : ℤ} → SFits w64 z → to_z w64 (of_z w64 z) ≡ z
back h = to_z-of_z h

read : {s z : ℤ} → mag s < 9223372036854775808 → s ≡ z → to_z w64 (of_z w64 s) ≡ z
read h e = back (record { sfits = h }) ∙ e

-- The remainder from 0 on: r is what `rem` returned for x and y, all held in 64 bits.
module _
    (x y : ℤ) {r : ℤ} (p : SFits w64 x) (q : SFits w64 y) (f : mag r < 9223372036854775808)
    (e : r ≡ rem_z (to_z w64 (of_z w64 x)) (to_z w64 (of_z w64 y))) where
  exact : to_z w64 (of_z w64 r) ≡ rem_z x y
  exact = read f e ∙ ap₂ rem_z (back p) (back q)

  -- small enough to be moved
  pub movable :
      nat_abs x ≤ 65535 → nat_abs y ≤ 65535 →
      (nat_abs (to_z w64 (of_z w64 r)) ≤ 65535) × (nat_abs (to_z w64 (of_z w64 y)) ≤ 65535)
  movable h k = (rw exact (omega (arith, abs_remainder x y)), rw (back q) k)

  module _ (h : nat_abs y ≡ 0 → ⊥) where
    pub not-moved :
        lt_z (to_z w64 (of_z w64 r)) (pos 0) ≡ false → to_z w64 (of_z w64 r) ≡ pos (modulo x (nat_abs y))
    not-moved t = exact ∙ from-0 x y h (rw exact at t)

    module _ {w : ℤ} (t : lt_z (to_z w64 (of_z w64 r)) (pos 0) ≡ true) (g : mag w < 9223372036854775808) where
      pub moved-by-negative :
          lt_z (to_z w64 (of_z w64 y)) (pos 0) ≡ true → w ≡ to_z w64 (of_z w64 r) -ℤ to_z w64 (of_z w64 y) →
          to_z w64 (of_z w64 w) ≡ pos (modulo x (nat_abs y))
      moved-by-negative u d =
          read g d ∙ ap₂ ◌-ℤ◌ exact (back q) ∙ up-by-negative x y h (rw exact at t) (rw (back q) at u)

      pub moved-by-positive :
          lt_z (to_z w64 (of_z w64 y)) (pos 0) ≡ false → w ≡ to_z w64 (of_z w64 r) +ℤ to_z w64 (of_z w64 y) →
          to_z w64 (of_z w64 w) ≡ pos (modulo x (nat_abs y))
      moved-by-positive u d =
          read g d ∙ ap₂ ◌+ℤ◌ exact (back q) ∙ up-by-positive x y h (rw exact at t) (rw (back q) at u)

-- The remainder of two operands: what `signed` returned for the codes x and y is s and t, held in 64 bits.
module _
    (N : Numbers) (x y : ℕ) {s t : ℤ} (f : mag s < 9223372036854775808) (p : s ≡ signed N x)
    (g : mag t < 9223372036854775808) (q : t ≡ signed N y) where
  pub remainder_is :
      {m : ℕ} {w : ℤ} {r : Option ℕ} → m ≡ nat_abs (to_z w64 (of_z w64 t)) → (m ≡ 0 → ⊥) →
      mag w < 9223372036854775808 → w ≡ pos (modulo (to_z w64 (of_z w64 s)) (nat_abs (to_z w64 (of_z w64 t)))) →
      r ≡ fit N (to_z w64 (of_z w64 w)) → r ≡ fit_some N (remainder (signed N x) (signed N y))
  unfolding fit_some remainder
  remainder_is e h k d i =
      rw (ne_eqb (nat_abs (signed N y)) 0 (λ z. h (e ∙ ap nat_abs (read g q) ∙ z)))
      (i ∙ ap (fit N) (read k d ∙ ap₂ (λ u v. pos (modulo u (nat_abs v))) (read f p) (read g q)))
