-- Values of forms of signs.
use Prim.Native.Nat.{ℕ, zero, suc, ◌+◌, ◌*◌, ◌≤◌}
use native.Mathlib.Omega.{arith}
use native.Mathlib.Nat.{mul-le-mul_right, zero-mul, mul-zero, mul-add}
use mathlib.Core.Path.{◌≡◌, refl}
use mathlib.Core.Bool.{Bool, true, false}
use mathlib.Core.List.{List, [], ◌∷◌}
use lib.ListN.{length}
use lib.Dec.{eqb, ltb}
use Rattle.language.specs.Choice.{pick}
use Rattle.sheet_written.specs.Meaning.{Binder, a_block, a_parameter, a_procedure}
use Rattle.sheet_written.specs.Form.{Form, only, unit, plus, times, lower, sums, instance, total, over, value}
use Rattle.sheet_written.specs.Made.{sign, signs}
use Rattle.sheet_written.proofs.Forming.{value-only, value-plus, value-times}

sign-most : (n : ℕ) → sign n ≤ 1
unfolding sign
sign-most zero = omega arith
sign-most (suc n) = omega arith

sign-plus : (a b : ℕ) → sign (a + b) ≤ sign a + sign b
unfolding sign
sign-plus zero b = let e : zero + b ≡ b = omega arith in rw e (omega arith)
sign-plus (suc a) b = omega (arith, sign-most (suc a + b))

sign-times : (a b : ℕ) → sign (a * b) ≤ sign a * sign b
unfolding sign
sign-times zero b = rw (zero-mul b, zero-mul (sign b)) (omega arith)
sign-times (suc a) zero = rw (mul-zero (suc a)) (omega arith)
sign-times (suc a) (suc b) = sign-most (suc a * suc b)

sign-factor : (a b : ℕ) → sign (a * b) ≤ sign b
unfolding sign
sign-factor a zero = rw (mul-zero a) (omega arith)
sign-factor a (suc b) = sign-most (a * suc b)

over-least : (bs : List Binder) (g h : ℕ → ℕ) → ((s : ℕ) → g s ≤ h s) → over bs g ≤ over bs h
unfolding over
over-least [] g h e = omega arith
over-least (a_block id d ∷ bs) g h e = over-least bs g h e
over-least (a_parameter id ty ∷ bs) g h e = omega (arith, over-least bs g h e, e (length bs))
over-least (a_procedure id ty tys ∷ bs) g h e = over-least bs g h e

value-least : (bs : List Binder) (f g : Form) (x : ℕ → ℕ) → f.constant ≤ g.constant → ((s : ℕ) → f.of s ≤ g.of s) →
    value bs f x ≤ value bs g x
unfolding value
value-least bs f g x c h =
    omega (arith, c, over-least bs (λ s. f.of s * x s) (λ s. g.of s * x s) (λ s. mul-le-mul_right (x s) (h s)))

pub signs-only : (bs : List Binder) (c : ℕ) (x : ℕ → ℕ) → value bs (signs (only c)) x ≤ 0
unfolding signs only sign
signs-only bs c x =
    let e : value bs (only 0) x ≡ 0 = value-only bs 0 x in
    omega (arith, e, value-least bs (signs (only c)) (only 0) x (omega arith) (λ s. omega arith))

pub signs-plus : (bs : List Binder) (f g : Form) (x : ℕ → ℕ) →
    value bs (signs (plus f g)) x ≤ value bs (signs f) x + value bs (signs g) x
unfolding signs plus
signs-plus bs f g x =
    omega (
      arith,
      value-plus bs (signs f) (signs g) x,
      value-least bs (signs (plus f g)) (plus (signs f) (signs g)) x (omega arith) (λ s. sign-plus (f.of s) (g.of s)),
    )

pub signs-times : (bs : List Binder) (c : ℕ) (f : Form) (x : ℕ → ℕ) →
    value bs (signs (times c f)) x ≤ value bs (signs f) x
unfolding signs times
signs-times bs c f x =
    value-least bs (signs (times c f)) (signs f) x (omega arith) (λ s. sign-factor c (f.of s))

signs-scaled : (bs : List Binder) (c : ℕ) (f : Form) (x : ℕ → ℕ) →
    value bs (signs (times c f)) x ≤ sign c * value bs (signs f) x
unfolding signs times
signs-scaled bs c f x =
    let e : value bs (times (sign c) (signs f)) x ≡ sign c * value bs (signs f) x =
    value-times bs (sign c) (signs f) x in
    rw e at (value-least bs (signs (times c f)) (times (sign c) (signs f)) x (omega arith)
    (λ s. sign-times c (f.of s)))

pub signs-unit : (bs : List Binder) (k : ℕ) (x : ℕ → ℕ) → value bs (signs (unit k)) x ≤ value bs (unit k) x
unfolding signs unit sign
signs-unit bs k x = value-least bs (signs (unit k)) (unit k) x (omega arith) (λ s. go (eqb s k))
  where
    go : (b : Bool) → sign (pick b 1 0) ≤ pick b 1 0
    go true = omega arith
    go false = omega arith

signs-lower : (bs : List Binder) (k : ℕ) (f : Form) (x : ℕ → ℕ) →
    value bs (signs (lower k f)) x ≤ value bs (lower k (signs f)) x
unfolding signs lower sign
signs-lower bs k f x =
    value-least bs (signs (lower k f)) (lower k (signs f)) x (omega arith) (λ s. go (ltb s k) (f.of s))
  where
    go : (b : Bool) (n : ℕ) → sign (pick b n 0) ≤ pick b (sign n) 0
    go true n = omega arith
    go false n = omega arith

signs-sums : (bs : List Binder) (m : ℕ) (c : ℕ → ℕ) (f : ℕ → Form) (x : ℕ → ℕ) →
    value bs (signs (sums m c f)) x ≤ total m (λ j. sign (c j) * value bs (signs (f j)) x)
unfolding sums total
signs-sums bs zero c f x = signs-only bs 0 x
signs-sums bs (suc m) c f x =
    omega (
      arith,
      signs-plus bs (sums m c f) (times (c m) (f m)) x,
      signs-sums bs m c f x,
      signs-scaled bs (c m) (f m) x,
    )

pub signs-instance : (bs : List Binder) (k m : ℕ) (f : Form) (xs : ℕ → Form) (x : ℕ → ℕ) →
    value bs (signs (instance k m f xs)) x
    ≤ value bs (lower k (signs f)) x + total m (λ j. sign (f.of (k + j)) * value bs (signs (xs j)) x)
unfolding instance
signs-instance bs k m f xs x =
    omega (
      arith,
      signs-plus bs (lower k f) (sums m (λ j. f.of (k + j)) xs) x,
      signs-lower bs k f x,
      signs-sums bs m (λ j. f.of (k + j)) xs x,
    )

-- each summand a sum
pub total-plus : (m : ℕ) (c g h : ℕ → ℕ) →
    total m (λ j. c j * (g j + h j)) ≡ total m (λ j. c j * g j) + total m (λ j. c j * h j)
unfolding total
total-plus zero c g h = refl
total-plus (suc m) c g h = rw (total-plus m c g h, mul-add (c m) (g m) (h m)) (omega arith)
