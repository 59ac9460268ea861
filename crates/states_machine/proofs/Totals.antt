-- Sums over numbered types: over a sum they are added, over a product they are sums of sums.
use mathlib.Core.Path.{◌≡◌, refl, sym, ◌∙◌, ap, ap₂, subst, subst_refl, path_j}
use mathlib.Core.Logic.{◌⊎◌, inl, inr}
use Prim.Native.Nat.{ℕ, zero, suc, ◌+◌, ◌*◌, ◌≤◌, ◌<◌, zero-le}
use native.Mathlib.Decide.{dec_lt}
use native.Mathlib.Nat.{add-zero, zero-add, add-suc}
use native.Mathlib.Omega.{arith}
use Rattle.states_machine.specs.Numbered.{Numbered, decode_at, empty, single, iso, sum_code, sum, product_code}
use Rattle.states_machine.specs.Numbered.{product}
use Rattle.states_machine.specs.Degree.{total, number_if}

-- sums of the same numbers
total-same : (f g : ℕ → ℕ) (n : ℕ) → ((k : ℕ) → k < n → f k ≡ g k) → total f n ≡ total g n
unfolding total
total-same f g zero h = refl
total-same f g (suc n) h = ap₂ (λ x y. x + y) (total-same f g n (λ k l. h k (omega arith))) (h n (omega arith))

-- below a sum
total-plus : (f : ℕ → ℕ) (a b : ℕ) → total f (a + b) ≡ total f a + total (λ k. f (a + k)) b
unfolding total
total-plus f a zero = rw (add-zero a) (sym (add-zero (total f a)))
total-plus f a (suc b) = rw (add-suc a b) (omega (arith, total-plus f a b))

-- below a product
total-times : (f : ℕ → ℕ) (a b : ℕ) → total f (a * b) ≡ total (λ x. total (λ y. f (x * b + y)) b) a
unfolding total
total-times f zero b =
    let e : 0 * b ≡ 0 = omega arith in
    rw e refl
total-times f (suc a) b =
    let e : suc a * b ≡ a * b + b = omega arith in
    rw (e, total-plus f (a * b) b, total-times f a b) refl

-- numbers that are each, twice, at most c
total-most : (f : ℕ → ℕ) (c n : ℕ) → ((k : ℕ) → 2 * f k ≤ c) → 2 * total f n ≤ c * n
unfolding total
total-most f c zero h = zero-le
total-most f c (suc n) h = omega (arith, total-most f c n h, h n)

-- the number f gives for the element of number k, 0 where there is none
unfoldable pub value_at : {X : Type 0} {n : ℕ} → Numbered X n → (X → ℕ) → ℕ → ℕ
value_at {n = n} P f k = number_if (dec_lt k n) (λ h. f (P.decode k h))

-- the sum of f over the elements
unfoldable pub total_of : {X : Type 0} {n : ℕ} → Numbered X n → (X → ℕ) → ℕ
total_of {n = n} P f = total (value_at P f) n

module _ {X : Type 0} {n : ℕ} (P : Numbered X n) where
  -- at the number of x it is f x
  value-code : (f : X → ℕ) (k : ℕ) (x : X) → k ≡ P.code x → value_at P f k ≡ f x
  unfolding value_at number_if
  value-code f k x e = cases (dec_lt k n)
    where
      cases : (d : Dec (k < n)) → number_if d (λ h. f (P.decode k h)) ≡ f x
      cases (yes h) = ap f (decode_at P k h x e)
      cases (no l) = absurd (omega (arith, P.bound x))

  value-decode : (f : X → ℕ) (k : ℕ) (h : k < n) → value_at P f k ≡ f (P.decode k h)
  value-decode f k h = value-code f k (P.decode k h) (sym (P.code_decode k h))

  -- sums of the same numbers
  pub totalOf-same : (f g : X → ℕ) → ((x : X) → f x ≡ g x) → total_of P f ≡ total_of P g
  unfolding total_of
  totalOf-same f g e =
      total-same _ _ n (λ k h. value-decode f k h ∙ e (P.decode k h) ∙ sym (value-decode g k h))

  -- numbers that are each, twice, at most c
  pub totalOf-most : (f : X → ℕ) (c : ℕ) → ((x : X) → 2 * f x ≤ c) → 2 * total_of P f ≤ c * n
  unfolding total_of value_at number_if
  totalOf-most f c h = total-most _ c n (λ k. cases k (dec_lt k n))
    where
      cases : (k : ℕ) (d : Dec (k < n)) → 2 * number_if d (λ l. f (P.decode k l)) ≤ c
      cases k (yes l) = h (P.decode k l)
      cases k (no l) = zero-le

-- nothing
pub totalOf-empty : (f : ⊥ → ℕ) → total_of empty f ≡ 0
unfolding total_of total
totalOf-empty f = refl

-- one element
pub totalOf-single : (f : Unit {0} → ℕ) → total_of single f ≡ f tt
unfolding total_of total single
totalOf-single f = zero-add _ ∙ value-code single f 0 tt refl

-- the same elements in another form
pub totalOf-iso : {X Y : Type 0} {n : ℕ} (f : X → Y) (g : Y → X) (gf : (x : X) → g (f x) ≡ x)
    (fg : (y : Y) → f (g y) ≡ y) (P : Numbered X n) (v : Y → ℕ) →
    total_of (iso f g gf fg P) v ≡ total_of P (λ x. v (f x))
unfolding total_of value_at iso
totalOf-iso f g gf fg P v = refl

-- the same number of elements, written in another way
pub totalOf-subst : {X : Type 0} (a b : ℕ) (e : a ≡ b) (P : Numbered X a) (f : X → ℕ) →
    total_of (subst (λ k. Numbered X k) e P) f ≡ total_of P f
totalOf-subst {X} a b e P f =
    path_j (λ b e. total_of (subst (λ k. Numbered X k) e P) f ≡ total_of P f)
    (ap (λ P. total_of P f) (subst_refl (λ k. Numbered X k) P)) e

module _ {X Y : Type 0} {a b : ℕ} (P : Numbered X a) (Q : Numbered Y b) where
  -- a sum
  pub totalOf-sum : (f : X ⊎ Y → ℕ) →
      total_of (sum P Q) f ≡ total_of P (λ x. f (inl x)) + total_of Q (λ y. f (inr y))
  unfolding total_of sum sum_code
  totalOf-sum f =
      total-plus _ a b ∙ ap₂ (λ x y. x + y)
      (total-same _ _ a (λ k h.
      value-code (sum P Q) f k (inl (P.decode k h)) (sym (P.code_decode k h)) ∙
      sym (value-decode P (λ x. f (inl x)) k h)))
      (total-same _ _ b (λ k h.
      value-code (sum P Q) f (a + k) (inr (Q.decode k h)) (ap (λ x. a + x) (sym (Q.code_decode k h))) ∙
      sym (value-decode Q (λ y. f (inr y)) k h)))

  -- a product
  pub totalOf-product : (f : X × Y → ℕ) →
      total_of (product P Q) f ≡ total_of P (λ x. total_of Q (λ y. f (x, y)))
  unfolding total_of product product_code
  totalOf-product f =
      total-times _ a b ∙ total-same _ _ a (λ k h.
      total-same _ _ b (λ l i.
      value-code (product P Q) f (k * b + l) (P.decode k h, Q.decode l i)
      (ap₂ (λ x y. x * b + y) (sym (P.code_decode k h)) (sym (Q.code_decode l i))) ∙
      sym (value-decode Q (λ y. f (P.decode k h, y)) l i)) ∙
      sym (value-decode P (λ x. total_of Q (λ y. f (x, y))) k h))
