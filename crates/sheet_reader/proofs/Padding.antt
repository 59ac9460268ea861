-- The argument types of a declare record, unused ones 255.
use Prim.Native.Nat.{ℕ, zero, suc, ◌≤◌, ◌<◌}
use native.Mathlib.Omega.{arith}
use mathlib.Core.Path.{◌≡◌, refl, sym, ap, ap₂}
use mathlib.Core.List.{List, [], ◌∷◌, ◌++◌}
use lib.ListN.{length, get_or, take}
use Rattle.sheet_reader.specs.Encoding.{padded}
use Rattle.sheet_written.specs.Fine.{AllTypes}

pub padded-take :
    (n : ℕ) (tys l : List ℕ) → length tys ≤ n → take (length tys) (padded n tys ++ l) ≡ tys
unfolding padded
padded-take zero [] l h = refl
padded-take zero (ty ∷ tys) l h = absurd (omega arith)
padded-take (suc n) [] l h = refl
padded-take (suc n) (ty ∷ tys) l h = ap (λ (x : List ℕ). ty ∷ x) (padded-take n tys l (omega arith))

pub padded-length : (n : ℕ) (tys : List ℕ) → length (padded n tys) ≡ n
unfolding padded
padded-length zero tys = refl
padded-length (suc n) [] = ap suc (padded-length n [])
padded-length (suc n) (ty ∷ tys) = ap suc (padded-length n tys)

pub padded-known :
    (n : ℕ) (tys l : List ℕ) (j : ℕ) → length tys ≤ n → j < length tys → get_or (padded n tys ++ l) j 0 ≡ get_or tys j 0
unfolding padded
padded-known n [] l j h k = absurd (omega arith)
padded-known zero (ty ∷ tys) l j h k = absurd (omega arith)
padded-known (suc n) (ty ∷ tys) l zero h k = refl
padded-known (suc n) (ty ∷ tys) l (suc j) h k = padded-known n tys l j (omega arith) (omega arith)

pub padded-unused :
    (n : ℕ) (tys l : List ℕ) (j : ℕ) → length tys ≤ j → j < n → get_or (padded n tys ++ l) j 0 ≡ 255
unfolding padded
padded-unused zero tys l j h k = absurd (omega arith)
padded-unused (suc n) [] l zero h k = refl
padded-unused (suc n) [] l (suc j) h k = padded-unused n [] l j (omega arith) (omega arith)
padded-unused (suc n) (ty ∷ tys) l zero h k = absurd (omega arith)
padded-unused (suc n) (ty ∷ tys) l (suc j) h k = padded-unused n tys l j (omega arith) (omega arith)

pub padded-of :
    (n c : ℕ) (l : List ℕ) → c ≤ n → n ≤ length l → ((j : ℕ) → c ≤ j → j < n → get_or l j 0 ≡ 255) →
    padded n (take c l) ≡ take n l
unfolding padded
padded-of zero c l h k f = refl
padded-of (suc n) c [] h k f = absurd (omega arith)
padded-of (suc n) zero (x ∷ l) h k f =
    ap₂ (λ (a : ℕ) (b : List ℕ). a ∷ b) (sym (f 0 (omega arith) (omega arith)))
    (padded-of n zero l (omega arith) (omega arith) (λ j a b. f (suc j) (omega arith) (omega arith)))
padded-of (suc n) (suc c) (x ∷ l) h k f =
    ap (λ (b : List ℕ). x ∷ b)
    (padded-of n c l (omega arith) (omega arith) (λ j a b. f (suc j) (omega arith) (omega arith)))

pub types-all : (tys : List ℕ) → ((j : ℕ) → j < length tys → get_or tys j 0 < 5) → AllTypes tys
unfolding AllTypes
types-all [] f = tt
types-all (ty ∷ tys) f = (f 0 (omega arith), types-all tys (λ j h. f (suc j) (omega arith)))

pub all_types : (tys : List ℕ) → AllTypes tys → (j : ℕ) → j < length tys → get_or tys j 0 < 5
unfolding AllTypes
all_types [] a j h = absurd (omega arith)
all_types (ty ∷ tys) a zero h = a.0
all_types (ty ∷ tys) a (suc j) h = all_types tys a.1 j (omega arith)
