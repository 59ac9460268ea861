-- Types whose elements are numbered: sums count the left part first, a product x × y is x * (how many y) + y. A
-- numbering carries its laws as fields, so what is proved of sums and products stands here with them.
use Rattle.std.specs.Prelude.{◌≡◌, refl, ◌⊎◌, ℕ, zero, suc, ◌+◌, ◌*◌, ◌-◌, ◌/◌, ◌%◌, ◌<◌}
use Rattle.std.proofs.Common.{◌∙◌, mul-le-mul_right, mod-eq_of_lt, div-lt_iff_lt-mul, div-add-mod', add-zero, arith}
use Rattle.std.proofs.Math.Path.{ap, ap₂}
use Rattle.std.proofs.Math.Logic.{inl, inr}
use mathlib.Core.HLevel.{Σ_prop_path}
use Rattle.std.proofs.Math.Bridge.{le_prop}
use Rattle.std.proofs.Math.Decide.{dec_lt}
use Rattle.std.proofs.Math.Nat.{mul-add-div_right, div-eq_of_lt, mod-lt, mul-add-mod_self_right}
use Rattle.language.specs.Play.{Val}

-- the elements of X are the numbers below n
pub record Numbered (X : Type 0) (n : ℕ) : Type 0 where
  pub code : X → ℕ
  pub bound : (x : X) → code x < n
  pub decode : (k : ℕ) → k < n → X
  pub decode_code : (x : X) → decode (code x) (bound x) ≡ x
  pub code_decode : (k : ℕ) (h : k < n) → code (decode k h) ≡ k

-- a number decodes to the element whose number it is
pub decode_at : {X : Type 0} {n : ℕ} (N : Numbered X n) (k : ℕ) (h : k < n) (x : X) → k ≡ N.code x → N.decode k h ≡ x
decode_at {X} {n} N k h x e =
    let same : ◌≡◌ {A = Val n} (k, h) (N.code x, N.bound x) = Σ_prop_path (λ k. le_prop) e in
    ap (λ (s : Val n). N.decode s.0 s.1) same ∙ N.decode_code x

-- nothing
unfoldable pub empty : Numbered ⊥ 0
empty = record {
  code = λ x. absurd x;
  bound = λ x. absurd x;
  decode = λ k h. absurd (omega arith);
  decode_code = λ x. absurd x;
  code_decode = λ k h. absurd (omega arith);
}

-- one element
unfoldable pub single : Numbered (Unit {0}) 1
single = record {
  code = λ x. 0;
  bound = λ x. omega arith;
  decode = λ k h. tt;
  decode_code = λ x. refl;
  code_decode = λ k h. omega arith;
}

-- the values of data of m values
unfoldable pub values : (m : ℕ) → Numbered (Val m) m
values m = record {
  code = λ x. x.0;
  bound = λ x. x.1;
  decode = λ k h. (k, h);
  decode_code = λ x. refl;
  code_decode = λ k h. refl;
}

-- the same elements in another form
unfoldable pub iso : {X Y : Type 0} {n : ℕ} (f : X → Y) (g : Y → X) →
    ((x : X) → g (f x) ≡ x) → ((y : Y) → f (g y) ≡ y) → Numbered X n → Numbered Y n
iso f g gf fg N = record {
  code = λ y. N.code (g y);
  bound = λ y. N.bound (g y);
  decode = λ k h. f (N.decode k h);
  decode_code = λ y. ap f (N.decode_code (g y)) ∙ fg y;
  code_decode = λ k h. ap N.code (gf (N.decode k h)) ∙ N.code_decode k h;
}

-- bounds of a product
pub positive : (a b k : ℕ) → k < a * b → 0 < b
positive a zero k h = absurd (omega arith)
positive a (suc b) k h = omega arith

pub product_bound : (a b c d : ℕ) → c < a → d < b → c * b + d < a * b
product_bound a b c d h l = omega (arith, mul-le-mul_right b h)

module _ {X Y : Type 0} {a b : ℕ} (M : Numbered X a) (N : Numbered Y b) where
  -- a sum: first the left elements, then the right ones
  unfoldable pub sum_code : X ⊎ Y → ℕ
  sum_code (inl x) = M.code x
  sum_code (inr y) = a + N.code y

  pub sum_bound : (z : X ⊎ Y) → sum_code z < a + b
  unfolding sum_code
  sum_bound (inl x) = omega (arith, M.bound x)
  sum_bound (inr y) = omega (arith, N.bound y)

  -- a number below a is on the left
  unfoldable pub sum_decode : (k : ℕ) → k < a + b → Dec (k < a) → X ⊎ Y
  sum_decode k h (yes l) = inl (M.decode k l)
  sum_decode k h (no l) = inr (N.decode (k - a) (omega arith))

  -- both ways the numbers agree
  pub sum_decode_code : (z : X ⊎ Y) (d : Dec (sum_code z < a)) → sum_decode (sum_code z) (sum_bound z) d ≡ z
  unfolding sum_code sum_decode
  sum_decode_code (inl x) (yes l) = ap inl (decode_at M _ _ x refl)
  sum_decode_code (inl x) (no l) = absurd (l (M.bound x))
  sum_decode_code (inr y) (yes l) = absurd (omega arith)
  sum_decode_code (inr y) (no l) = ap inr (decode_at N _ _ y (omega arith))

  pub sum_code_decode : (k : ℕ) (h : k < a + b) (d : Dec (k < a)) → sum_code (sum_decode k h d) ≡ k
  unfolding sum_code sum_decode
  sum_code_decode k h (yes l) = M.code_decode k l
  sum_code_decode k h (no l) = omega (arith, N.code_decode (k - a) (omega arith))

  -- the sum's numbering
  unfoldable pub sum : Numbered (X ⊎ Y) (a + b)
  sum = record {
    code = sum_code;
    bound = sum_bound;
    decode = λ k h. sum_decode k h (dec_lt k a);
    decode_code = λ z. sum_decode_code z (dec_lt (sum_code z) a);
    code_decode = λ k h. sum_code_decode k h (dec_lt k a);
  }

  -- a product: the left element is the quotient, the right one the remainder
  unfoldable pub product_code : X × Y → ℕ
  product_code z = M.code z.0 * b + N.code z.1

  -- the quotient and the remainder
  unfoldable pub product_decode : (k : ℕ) → k < a * b → X × Y
  product_decode k h =
      (M.decode (k / b) ((div-lt_iff_lt-mul (positive a b k h)).1 h), N.decode (k % b) (mod-lt k (positive a b k h)))

  -- both ways the numbers agree
  pub product_decode_code : (x : X) (y : Y) (h : product_code (x, y) < a * b) →
      product_decode (product_code (x, y)) h ≡ (x, y)
  unfolding product_code product_decode
  product_decode_code x y h =
      ap₂ {C = X × Y} (λ x y. (x, y)) (decode_at M _ _ x quotient) (decode_at N _ _ y remainder)
    where
      pos : 0 < b
      pos = omega (arith, N.bound y)

      quotient : (M.code x * b + N.code y) / b ≡ M.code x
      quotient = rw (mul-add-div_right pos (M.code x) (N.code y), div-eq_of_lt (N.bound y)) (add-zero _)

      remainder : (M.code x * b + N.code y) % b ≡ N.code y
      remainder = rw (mul-add-mod_self_right (M.code x) b (N.code y)) (mod-eq_of_lt (N.bound y))

  pub product_code_decode : (k : ℕ) (h : k < a * b) → product_code (product_decode k h) ≡ k
  unfolding product_code product_decode
  product_code_decode k h =
      let h₁ = (div-lt_iff_lt-mul (positive a b k h)).1 h in
      let h₂ = mod-lt k (positive a b k h) in
      rw (M.code_decode (k / b) h₁, N.code_decode (k % b) h₂) (div-add-mod' k b)

  -- the product's numbering
  unfoldable pub product : Numbered (X × Y) (a * b)
  unfolding product_code
  product = record {
    code = product_code;
    bound = λ z. product_bound a b _ _ (M.bound z.0) (N.bound z.1);
    decode = product_decode;
    decode_code = λ z. product_decode_code z.0 z.1 (product_bound a b _ _ (M.bound z.0) (N.bound z.1));
    code_decode = product_code_decode;
  }
