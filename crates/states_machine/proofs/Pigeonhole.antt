-- Distinct numbers below N are at most N.
use mathlib.Core.Path.{◌≡◌}
use mathlib.Core.Logic.{◌≢◌}
use mathlib.Core.List.{List, [], ◌∷◌}
use Prim.Native.Nat.{ℕ, zero, suc, ◌≤◌, ◌<◌, zero-le}
use native.Mathlib.Decide.{ℕ_discrete}
use native.Mathlib.Omega.{arith}
use lib.ListN.{length}

-- P holds of each element
unfoldable pub All : {X : Type 0} → (X → Type 0) → List X → Type 0
All P [] = Unit
All P (x ∷ l) = P x × All P l

pub All-map : {X : Type 0} {P Q : X → Type 0} → ((x : X) → P x → Q x) → (l : List X) → All P l → All Q l
unfolding All
All-map f [] h = tt
All-map f (x ∷ l) h = (f x h.0, All-map f l h.1)

-- no number stands there twice
unfoldable pub Distinct : List ℕ → Type 0
Distinct [] = Unit
Distinct (x ∷ l) = All (λ y. x ≢ y) l × Distinct l

-- the list without its first N
strip : ℕ → List ℕ → List ℕ
strip N [] = []
strip N (x ∷ l) = elim (ℕ_discrete x N) [ yes e ↦ l | no n ↦ x ∷ strip N l ]

-- what holds of the list with x and of the list without, each under its condition, holds of the stripped list
strip-cases : (N x : ℕ) (l : List ℕ) (F : List ℕ → Type 0) → (x ≡ N → F l) → (x ≢ N → F (x ∷ strip N l)) →
    F (strip N (x ∷ l))
unfolding strip
strip-cases N x l F f g = cases (ℕ_discrete x N)
  where
    cases : (d : Dec (x ≡ N)) → F (elim d [ yes e ↦ l | no n ↦ x ∷ strip N l ])
    cases (yes e) = f e
    cases (no n) = g n

module _ (N : ℕ) where
  -- at most one element is gone
  strip-length : (l : List ℕ) → length l ≤ suc (length (strip N l))
  unfolding strip
  strip-length [] = zero-le
  strip-length (x ∷ l) =
      let h = strip-length l in
      strip-cases N x l (λ r. suc (length l) ≤ suc (length r)) (λ e. omega arith) (λ n. omega arith)

  -- what holds of all holds of those left
  strip-all : (P : ℕ → Type 0) (l : List ℕ) → All P l → All P (strip N l)
  unfolding strip All
  strip-all P [] h = tt
  strip-all P (x ∷ l) h =
      let k = strip-all P l h.1 in
      strip-cases N x l (All P) (λ e. h.1) (λ n. (h.0, k))

  -- those left are distinct
  strip-distinct : (l : List ℕ) → Distinct l → Distinct (strip N l)
  unfolding strip Distinct
  strip-distinct [] h = tt
  strip-distinct (x ∷ l) h =
      let k = strip-distinct l h.1 in
      strip-cases N x l Distinct (λ e. h.1) (λ n. (strip-all (λ y. x ≢ y) l h.0, k))

  -- N itself is gone
  others : (x : ℕ) (l : List ℕ) → x ≡ N → All (λ y. x ≢ y) l → All (λ y. y < suc N) l → All (λ y. y < N) l
  unfolding All
  others x [] e k m = tt
  others x (y ∷ l) e k m =
      let c = k.0 in
      let b = m.0 in
      (omega arith, others x l e k.1 m.1)

  -- of distinct numbers up to N those below N are left
  strip-below : (l : List ℕ) → Distinct l → All (λ x. x < suc N) l → All (λ x. x < N) (strip N l)
  unfolding strip Distinct All
  strip-below [] d h = tt
  strip-below (x ∷ l) d h =
      let k = strip-below l d.1 h.1 in
      let b = h.0 in
      strip-cases N x l (All (λ x. x < N)) (λ e. others x l e d.0 h.1) (λ n. (omega arith, k))

-- at most N distinct numbers are below N
pub pigeonhole : (N : ℕ) (l : List ℕ) → Distinct l → All (λ x. x < N) l → length l ≤ N
unfolding All
pigeonhole zero [] d h = zero-le
pigeonhole zero (x ∷ l) d h = absurd (let b = h.0 in omega arith)
pigeonhole (suc N) l d h =
    let shorter = pigeonhole N (strip N l) (strip-distinct N l d) (strip-below N l d h) in
    omega (arith, strip-length N l)
