-- Forms evaluate to weights.
use Prim.Native.Nat.{ℕ, zero, suc, ◌+◌, ◌*◌, ◌≤◌, ◌<◌}
use native.Mathlib.Omega.{arith}
use native.Mathlib.Nat.{mul-add, add-mul, mul_assoc, zero-mul, mul-zero, one-mul}
use mathlib.Core.Path.{◌≡◌, refl, sym, ap, ◌∙◌}
use mathlib.Core.List.{List, [], ◌∷◌}
use lib.ListN.{length}
use lib.Dec.{eqb, ltb}
use borrow.Author.Tests.{ltb-true, lt-ltb, le-ltb, eq-eqb, ne_eqb}
use Rattle.language.specs.Choice.{pick}
use Rattle.sheet_written.specs.Environment.{beyond}
use Rattle.sheet_written.specs.Written.{Parameter}
use Rattle.sheet_written.specs.Meaning.{Binder, a_block, a_parameter, a_procedure, inside}
use Rattle.sheet_written.specs.Form.{Form, only, unit, plus, times, lower, sums, instance, total, over, value}
use Rattle.sheet_written.proofs.Tests.{by-test}
use Rattle.sheet_written.proofs.Numbering.{beyond_below, beyond_above}

-- sums over the enclosing parameters
over-same : (bs : List Binder) (g h : ℕ → ℕ) → ((s : ℕ) → s < length bs → g s ≡ h s) → over bs g ≡ over bs h
unfolding over
over-same [] g h e = refl
over-same (a_block id d ∷ bs) g h e = over-same bs g h (λ s l. e s (omega arith))
over-same (a_parameter id ty ∷ bs) g h e =
    rw (over-same bs g h (λ s l. e s (omega arith)), e (length bs) (omega arith))
over-same (a_procedure id ty tys ∷ bs) g h e = over-same bs g h (λ s l. e s (omega arith))

over-plus : (bs : List Binder) (g h : ℕ → ℕ) → over bs (λ s. g s + h s) ≡ over bs g + over bs h
unfolding over
over-plus [] g h = refl
over-plus (a_block id d ∷ bs) g h = over-plus bs g h
over-plus (a_parameter id ty ∷ bs) g h = rw (over-plus bs g h) (omega arith)
over-plus (a_procedure id ty tys ∷ bs) g h = over-plus bs g h

over-times : (bs : List Binder) (c : ℕ) (g : ℕ → ℕ) → over bs (λ s. c * g s) ≡ c * over bs g
unfolding over
over-times [] c g = sym (mul-zero c)
over-times (a_block id d ∷ bs) c g = over-times bs c g
over-times (a_parameter id ty ∷ bs) c g = rw (over-times bs c g) (sym (mul-add c (over bs g) (g (length bs))))
over-times (a_procedure id ty tys ∷ bs) c g = over-times bs c g

over_zero : (bs : List Binder) (x : ℕ → ℕ) → over bs (λ s. 0 * x s) ≡ 0
over_zero bs x = over-times bs 0 x ∙ zero-mul (over bs x)

-- a binder more, at which there is nothing
over-more : (b : Binder) (bs : List Binder) (g : ℕ → ℕ) → g (length bs) ≡ 0 → over (b ∷ bs) g ≡ over bs g
unfolding over
over-more (a_block id d) bs g e = refl
over-more (a_parameter id ty) bs g e = rw e (omega arith)
over-more (a_procedure id ty tys) bs g e = refl

-- sums of the first m
pub total-same : (m : ℕ) (g h : ℕ → ℕ) → ((j : ℕ) → g j ≡ h j) → total m g ≡ total m h
unfolding total
total-same zero g h e = refl
total-same (suc m) g h e = rw (total-same m g h e, e m)

pub total_first : (m : ℕ) (g : ℕ → ℕ) → total (suc m) g ≡ g 0 + total m (λ j. g (suc j))
unfolding total
total_first zero g = omega arith
total_first (suc m) g = rw (total_first m g) (omega arith)

pub total-none : (g : ℕ → ℕ) → total 0 g ≡ 0
unfolding total
total-none g = refl

over-inside : (ps : List Parameter) (bs : List Binder) (g : ℕ → ℕ) →
    over (inside ps bs) g ≡ over bs g + total (length ps) (λ j. g (length bs + j))
unfolding inside over
over-inside [] bs g = omega (arith, nothing)
  where
    nothing : total 0 (λ j. g (length bs + j)) ≡ 0
    nothing = total-none (λ j. g (length bs + j))
over-inside (p ∷ ps) bs g =
    let b : Binder = a_parameter p.id p.holds in
    let h : over (inside ps (b ∷ bs)) g ≡ over bs g + g (length bs) + total (length ps) (λ j. g (suc (length bs) + j)) =
    over-inside ps (b ∷ bs) g in
    let z : g (length bs + 0) ≡ g (length bs) = let e : length bs + 0 ≡ length bs = omega arith in ap g e in
    let t : total (length ps) (λ j. g (suc (length bs) + j)) ≡ total (length ps) (λ j. g (length bs + suc j)) =
    total-same (length ps) (λ j. g (suc (length bs) + j)) (λ j. g (length bs + suc j))
    (λ j. let e : suc (length bs) + j ≡ length bs + suc j = omega arith in ap g e) in
    let f : total (suc (length ps)) (λ j. g (length bs + j))
    ≡ g (length bs + 0) + total (length ps) (λ j. g (length bs + suc j)) =
    total_first (length ps) (λ j. g (length bs + j)) in
    rw (h, f, z, t) (omega arith)

-- values of forms
pub value-only : (bs : List Binder) (c : ℕ) (x : ℕ → ℕ) → value bs (only c) x ≡ c
unfolding value only
value-only bs c x = rw (over_zero bs x) (omega arith)

pub value-plus : (bs : List Binder) (f g : Form) (x : ℕ → ℕ) → value bs (plus f g) x ≡ value bs f x + value bs g x
unfolding value plus
value-plus bs f g x =
    rw (
      over-same bs (λ s. (f.of s + g.of s) * x s) (λ s. f.of s * x s + g.of s * x s)
          (λ s l. add-mul (f.of s) (g.of s) (x s)),
      over-plus bs (λ s. f.of s * x s) (λ s. g.of s * x s),
    )
    (omega arith)

pub value-times : (bs : List Binder) (c : ℕ) (f : Form) (x : ℕ → ℕ) → value bs (times c f) x ≡ c * value bs f x
unfolding value times
value-times bs c f x =
    rw (
      over-same bs (λ s. c * f.of s * x s) (λ s. c * (f.of s * x s)) (λ s l. mul_assoc c (f.of s) (x s)),
      over-times bs c (λ s. f.of s * x s),
    )
    (sym (mul-add c f.constant (over bs (λ s. f.of s * x s))))

value-sums : (bs : List Binder) (m : ℕ) (c : ℕ → ℕ) (f : ℕ → Form) (x : ℕ → ℕ) →
    value bs (sums m c f) x ≡ total m (λ j. c j * value bs (f j) x)
unfolding sums total
value-sums bs zero c f x = value-only bs 0 x
value-sums bs (suc m) c f x =
    rw (value-plus bs (sums m c f) (times (c m) (f m)) x, value-sums bs m c f x, value-times bs (c m) (f m) x)

pub value-instance : (bs : List Binder) (k m : ℕ) (f : Form) (xs : ℕ → Form) (x : ℕ → ℕ) →
    value bs (instance k m f xs) x ≡ value bs (lower k f) x + total m (λ j. f.of (k + j) * value bs (xs j) x)
unfolding instance
value-instance bs k m f xs x =
    rw (value-plus bs (lower k f) (sums m (λ j. f.of (k + j)) xs) x, value-sums bs m (λ j. f.of (k + j)) xs x)

-- what is kept of a form below k speaks of weights below k only
lower-term : (k : ℕ) (f : Form) (x y : ℕ → ℕ) → ((s : ℕ) → s < k → x s ≡ y s) → (s : ℕ) →
    (lower k f).of s * x s ≡ (lower k f).of s * y s
unfolding lower
lower-term k f x y e s =
    by-test (ltb s k)
    (λ t. rw (e s (ltb-true s k t)))
    (λ t. rw t (zero-mul (x s) ∙ sym (zero-mul (y s))))

pub value-lower : (bs : List Binder) (k : ℕ) (f : Form) (x y : ℕ → ℕ) → ((s : ℕ) → s < k → x s ≡ y s) →
    value bs (lower k f) x ≡ value bs (lower k f) y
unfolding value
value-lower bs k f x y e =
    rw (over-same bs (λ s. (lower k f).of s * x s) (λ s. (lower k f).of s * y s) (λ s l. lower-term k f x y e s))

pub value-more : (b : Binder) (bs : List Binder) (k : ℕ) (f : Form) (x : ℕ → ℕ) → k ≤ length bs →
    value (b ∷ bs) (lower k f) x ≡ value bs (lower k f) x
unfolding value lower
value-more b bs k f x h =
    rw (over-more b bs (λ s. (lower k f).of s * x s) (rw (le-ltb (length bs) k h) (zero-mul (x (length bs)))))

-- a parameter in scope
pub unit-more : (b : Binder) (bs : List Binder) (k : ℕ) (x : ℕ → ℕ) → k < length bs →
    value (b ∷ bs) (unit k) x ≡ value bs (unit k) x
unfolding value unit
unit-more b bs k x h =
    rw (over-more b bs (λ s. (unit k).of s * x s)
    (rw (ne_eqb (length bs) k (λ e. omega arith)) (zero-mul (x (length bs)))))

pub unit-here : (id ty : ℕ) (bs : List Binder) (x : ℕ → ℕ) →
    value (a_parameter id ty ∷ bs) (unit (length bs)) x ≡ x (length bs)
unfolding value unit over
unit-here id ty bs x =
    let k : ℕ = length bs in
    let z : over bs (λ s. pick (eqb s k) 1 0 * x s) ≡ 0 =
    over-same bs (λ s. pick (eqb s k) 1 0 * x s) (λ s. 0 * x s) (λ s l. rw (ne_eqb s k (λ e. omega arith)))
    ∙ over_zero bs x in
    rw (z, eq-eqb (length bs) (length bs) refl, one-mul (x (length bs))) (omega arith)

-- inside a procedure
pub value-inside : (ps : List Parameter) (bs : List Binder) (f : Form) (x xs : ℕ → ℕ) →
    value (inside ps bs) f (beyond (length bs) x xs)
    ≡ value bs (lower (length bs) f) x + total (length ps) (λ j. f.of (length bs + j) * xs j)
unfolding value lower
value-inside ps bs f x xs =
    let k : ℕ = length bs in
    let y : ℕ → ℕ = beyond k x xs in
    let e : over bs (λ s. f.of s * y s) ≡ over bs (λ s. (lower k f).of s * x s) =
    over-same bs (λ s. f.of s * y s) (λ s. (lower k f).of s * x s)
    (λ s l. rw (beyond_below k x xs s l, lt-ltb s k l)) in
    let t : total (length ps) (λ j. f.of (k + j) * y (k + j)) ≡ total (length ps) (λ j. f.of (k + j) * xs j) =
    total-same (length ps) (λ j. f.of (k + j) * y (k + j)) (λ j. f.of (k + j) * xs j)
    (λ j. rw (beyond_above k x xs j)) in
    rw (over-inside ps bs (λ s. f.of s * y s), e, t) (omega arith)
