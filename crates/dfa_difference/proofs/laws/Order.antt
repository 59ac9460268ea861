-- The order of words is total, so there is one first difference. Assumes nothing.
use mathlib.Core.List.{List, [], ◌∷◌}
use mathlib.Core.Logic.{inl, inr}
use mathlib.Core.Path.{◌∙◌, ap}
use Prim.Native.Nat.{◌≤◌, ℕ}
use native.Mathlib.Omega.{arith}
use lib.ListN.{length}
use Rattle.dfa.specs.Word.{Less}
use Rattle.dfa_difference.specs.inner.Comparison.{Le}

pub less-irrefl : (x : List ℕ) → Less x x → ⊥
less-irrefl [] h = h
less-irrefl (m ∷ x) (inl h) = less-irrefl x h
less-irrefl (m ∷ x) (inr h) = let k = h.1 in omega arith

pub less-trans : (x y z : List ℕ) → Less x y → Less y z → Less x z
less-trans [] [] z h k = absurd h
less-trans [] (n ∷ y) [] h k = absurd k
less-trans [] (n ∷ y) (o ∷ z) h k = tt
less-trans (m ∷ x) [] z h k = absurd h
less-trans (m ∷ x) (n ∷ y) [] h k = absurd k
less-trans (m ∷ x) (n ∷ y) (o ∷ z) (inl h) (inl k) = inl (less-trans x y z h k)
less-trans (m ∷ x) (n ∷ y) (o ∷ z) (inl h) (inr k) = inl (rw k.0 at h)
less-trans (m ∷ x) (n ∷ y) (o ∷ z) (inr h) (inl k) = inl (rw h.0 k)
less-trans (m ∷ x) (n ∷ y) (o ∷ z) (inr h) (inr k) = inr (h.0 ∙ k.0, omega (arith, h.1, k.1))

pub le-less : (x y z : List ℕ) → Le x y → Less y z → Less x z
le-less x y z (inl e) k = rw e k
le-less x y z (inr h) k = less-trans x y z h k

-- one more letter keeps the order
pub le-snoc : (m : ℕ) (x y : List ℕ) → Le x y → Le (m ∷ x) (m ∷ y)
le-snoc m x y (inl e) = inl (rw e)
le-snoc m x y (inr h) = inr (inl h)

pub less-snoc : (m : ℕ) (x : List ℕ) → Less x (m ∷ x)
less-snoc m [] = tt
less-snoc m (n ∷ x) = inl (less-snoc n x)

-- a word that is not behind another is no longer
less-length : (x y : List ℕ) → Less x y → length x ≤ length y
less-length [] y h = omega arith
less-length (m ∷ x) [] h = absurd h
less-length (m ∷ x) (n ∷ y) (inl h) = let l = less-length x y h in omega arith
less-length (m ∷ x) (n ∷ y) (inr h) = omega (arith, ap length h.0)

pub le-length : (x y : List ℕ) → Le x y → length x ≤ length y
le-length x y (inl e) = omega (arith, ap length e)
le-length x y (inr h) = less-length x y h
