-- The remainder from 0 on, by the exact one, and how far the exact one lies from 0.
use Rattle.std.proofs.Common.{◌≡◌, ◌≤◌, zero, suc, Bool, true, false, ℤ, pos, negsuc, nat_abs, neg_ℤ, ◌+ℤ◌, ◌-ℤ◌, ◌%◌, refl, sym, arith}
use native.Mathlib.Nat.{mod-le}
use Rattle.std.specs.Int.Signed.{lt_z, rem_z}
use Rattle.language.specs.Choice.{pick}
use Rattle.language.specs.Number.{modulo}
use Rattle.language.proofs.RemainderLaws.{from-0, up-by-positive, up-by-negative}

abs_neg : (z : ℤ) → nat_abs (neg_ℤ z) ≡ nat_abs z
abs_neg (pos zero) = refl
abs_neg (pos (suc n)) = refl
abs_neg (negsuc n) = refl

pub abs_remainder : (x y : ℤ) → nat_abs (rem_z x y) ≤ nat_abs x
abs_remainder (pos a) d = mod-le a (nat_abs d)
abs_remainder (negsuc a) d = omega (arith, abs_neg (pos (suc a % nat_abs d)), mod-le (suc a) (nat_abs d))

pub moved : (x y : ℤ) → (nat_abs y ≡ 0 → ⊥) → pos (modulo x (nat_abs y)) ≡
    pick (lt_z (rem_z x y) (pos 0)) (pick (lt_z y (pos 0)) (rem_z x y -ℤ y) (rem_z x y +ℤ y)) (rem_z x y)
moved x y h = go (lt_z (rem_z x y) (pos 0)) refl (lt_z y (pos 0)) refl
  where
    go : (s : Bool) → lt_z (rem_z x y) (pos 0) ≡ s → (t : Bool) → lt_z y (pos 0) ≡ t → pos (modulo x (nat_abs y)) ≡
        pick s (pick t (rem_z x y -ℤ y) (rem_z x y +ℤ y)) (rem_z x y)
    go false e t f = sym (from-0 x y h e)
    go true e true f = sym (up-by-negative x y h e f)
    go true e false f = sym (up-by-positive x y h e f)
