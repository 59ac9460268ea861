-- Lists of edges: what holds of each edge, letters that climb between bounds, and the lookup of a letter.
use mathlib.Core.Path.{◌≡◌, refl}
use mathlib.Core.Bool.{Bool, true, false, cond}
use mathlib.Core.Logic.{◌⊎◌, inl, inr}
use mathlib.Core.List.{List, [], ◌∷◌, ◌++◌}
use Prim.Native.Nat.{ℕ, suc, ◌≤◌, ◌<◌}
use native.Mathlib.Omega.{arith}
use lib.Dec.{eqb}
use borrow.Author.Tests.{eqb-true, eqb-false}
use Rattle.states_words.specs.inner.Rows.{Edge}
use Rattle.states_words.specs.inner.Shown.{lookup, Rising}

-- every edge is so
unfoldable pub Each : (Edge → Type 0) → List Edge → Type 0
Each P [] = Unit
Each P (e ∷ es) = P e × Each P es

module _ (P : Edge → Type 0) where
  pub each_append : (xs ys : List Edge) → Each P xs → Each P ys → Each P (xs ++ ys)
  unfolding Each
  each_append [] ys h k = k
  each_append (x ∷ xs) ys h k = (h.0, each_append xs ys h.1 k)

  pub each-front : (xs ys : List Edge) → Each P (xs ++ ys) → Each P xs
  unfolding Each
  each-front [] ys h = tt
  each-front (x ∷ xs) ys h = (h.0, each-front xs ys h.1)

  pub each_back : (xs ys : List Edge) → Each P (xs ++ ys) → Each P ys
  unfolding Each
  each_back [] ys h = h
  each_back (x ∷ xs) ys h = each_back xs ys h.1

  pub each_map : (Q : Edge → Type 0) → ((e : Edge) → P e → Q e) → (es : List Edge) → Each P es → Each Q es
  unfolding Each
  each_map Q f [] h = tt
  each_map Q f (e ∷ es) h = (f e h.0, each_map Q f es h.1)

-- no edge has the letter x
abbrev pub Absent : ℕ → List Edge → Type 0
Absent x = Each (λ e. e.letter ≡ x → ⊥)

-- the letters rise from a on, and stay below c
unfoldable pub Climbs : ℕ → ℕ → List Edge → Type 0
Climbs a c [] = a ≤ c
Climbs a c (e ∷ es) = (a ≤ e.letter) × Climbs (suc e.letter) c es

pub climbs-from : (a b c : ℕ) (es : List Edge) → a ≤ b → Climbs b c es → Climbs a c es
unfolding Climbs
climbs-from a b c [] l h = omega arith
climbs-from a b c (e ∷ es) l h = (omega (arith, h.0), h.1)

pub climbs-append : (a b c : ℕ) (xs ys : List Edge) → Climbs a b xs → Climbs b c ys → Climbs a c (xs ++ ys)
unfolding Climbs
climbs-append a b c [] ys h k = climbs-from a b c ys h k
climbs-append a b c (x ∷ xs) ys h k = (h.0, climbs-append (suc x.letter) b c xs ys h.1 k)

pub climbs-to : (a b c : ℕ) (es : List Edge) → b ≤ c → Climbs a b es → Climbs a c es
unfolding Climbs
climbs-to a b c [] l h = omega arith
climbs-to a b c (e ∷ es) l h = (h.0, climbs-to (suc e.letter) b c es l h.1)

climbs-least : (a c : ℕ) (es : List Edge) → Climbs a c es → a ≤ c
unfolding Climbs
climbs-least a c [] h = h
climbs-least a c (e ∷ es) h = omega (arith, h.0, climbs-least (suc e.letter) c es h.1)

-- letters that climb below the largest letter, and targets in range
pub rising : (n a c : ℕ) (es : List Edge) → c ≤ 134217728 → Climbs a c es → Each (λ e. e.target < n) es →
    Rising n a es
unfolding Climbs Each Rising
rising n a c [] l h k = tt
rising n a c (e ∷ es) l h k = (
  h.0,
  omega (arith, climbs-least (suc e.letter) c es h.1),
  k.0,
  rising n (suc e.letter) c es l h.1 k.1,
)

-- a letter that is looked up is that of an edge, or of none
pub found : (P : Edge → Type 0) (d x : ℕ) (es : List Edge) → Each P es →
    ((e : Edge) × P e × (e.letter ≡ x) × (lookup d es x ≡ e.target)) ⊎ (Absent x es × (lookup d es x ≡ d))
unfolding Each lookup
found P d x [] h = inr (tt, refl)
found P d x (e ∷ es) h = cases (eqb e.letter x) refl (found P d x es h.1)
  where
    cases : (b : Bool) → eqb e.letter x ≡ b →
        (((e : Edge) × P e × (e.letter ≡ x) × (lookup d es x ≡ e.target)) ⊎ (Absent x es × (lookup d es x ≡ d))) →
        (((e₁ : Edge) × P e₁ × (e₁.letter ≡ x) × (cond b e.target (lookup d es x) ≡ e₁.target)) ⊎
        (((e.letter ≡ x → ⊥) × Absent x es) × (cond b e.target (lookup d es x) ≡ d)))
    cases true q r = inl (e, h.0, eqb-true e.letter x q, refl)
    cases false q (inl r) = inl r
    cases false q (inr r) = inr ((eqb-false e.letter x q, r.0), r.1)
