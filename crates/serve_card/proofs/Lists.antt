-- Lists that are equal part by part. Assumes nothing.
use mathlib.Core.List.{List, [], ◌++◌, ◌∷◌}
use mathlib.Core.Path.{◌≡◌, ap₂, refl}
use Prim.Native.Nat.{◌<◌, ◌≤◌, suc, zero, ℕ}
use native.Mathlib.Omega.{arith}
use lib.ListN.{get_or, length, take}

pub head-same : {x y : ℕ} {xs ys : List ℕ} → x ∷ xs ≡ y ∷ ys → x ≡ y
head-same e = cc

pub tail-same : {x y : ℕ} {xs ys : List ℕ} → x ∷ xs ≡ y ∷ ys → xs ≡ ys
tail-same e = cc

pub none-some : {x : ℕ} {xs : List ℕ} → [] ≡ x ∷ xs → ⊥
none-some e = let z : ◌≡◌ {A = ℕ} 0 1 = cc in absurd (omega arith)

-- where the first parts are of one length
pub split-same : (xs ys a b : List ℕ) → length xs ≡ length ys → xs ++ a ≡ ys ++ b → (xs ≡ ys) × (a ≡ b)
split-same [] [] a b l e = (refl, e)
split-same [] (y ∷ ys) a b l e = absurd (omega arith)
split-same (x ∷ xs) [] a b l e = absurd (omega arith)
split-same (x ∷ xs) (y ∷ ys) a b l e =
    let h = split-same xs ys a b (omega arith) (tail-same e) in
    (ap₂ (λ p q. p ∷ q) (head-same e) h.0, h.1)

-- lists with the same first n numbers
pub take_same : (n : ℕ) (s u : List ℕ) → n ≤ length s → n ≤ length u
    → ((i : ℕ) → i < n → get_or s i 0 ≡ get_or u i 0) → take n s ≡ take n u
take_same zero s u h k e = refl
take_same (suc n) [] u h k e = absurd (omega arith)
take_same (suc n) (x ∷ s) [] h k e = absurd (omega arith)
take_same (suc n) (x ∷ s) (y ∷ u) h k e =
    ap₂ (λ p q. p ∷ q) (e 0 (omega arith))
    (take_same n s u (omega arith) (omega arith) (λ i l. e (suc i) (omega arith)))
