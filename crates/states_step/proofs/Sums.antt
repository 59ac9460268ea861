-- Sums and products that are not too large, decisions, and hearing through a map.
use mathlib.Core.Path.{◌≡◌, refl, ap}
use Prim.Native.Nat.{ℕ, zero, suc, ◌+◌, ◌*◌, ◌/◌, ◌%◌, ◌≤◌, ◌<◌}
use native.Mathlib.Omega.{arith}
use native.Mathlib.Decide.{ℕ_discrete}
use native.Mathlib.Nat.{mul-le-mul_right, mul-add-div_right, div-eq_of_lt, mod-eq_of_lt, mul-add-mod_self_right}
use native.Mathlib.Nat.{add-zero}
use borrow.Author.Tests.{lt-ltb}
use Rattle.language.specs.Move.{question, answer, at, private, Move, move}
use Rattle.states_machine.specs.Action.{Next, dead, Heard, asked, answered, opened, Listen, who, Hears, map_next}
use Rattle.states_machine.specs.Decide.{when, hears?}
use Rattle.states_machine.specs.Edge.{received, edge_hear}
use Rattle.states_positions.specs.Row.{sum_of, mul_add_of}

pub sum-small : (a b : ℕ) → a + b < 2147483648 → sum_of a b ≡ a + b
unfolding sum_of
sum-small a b h = simp (lt-ltb a 2147483648 (omega arith), lt-ltb b 2147483648 (omega arith))

pub mul_add_small : (x w n : ℕ) → x < 65536 → w < 65536 → n < 2147483648 → mul_add_of x w n ≡ x * w + n
unfolding mul_add_of
mul_add_small x w n a b c = simp (lt-ltb x 65536 a, lt-ltb w 65536 b, lt-ltb n 2147483648 c)

-- the number of a pair
pub quotient : (v w c : ℕ) → c < w → (v * w + c) / w ≡ v
quotient v w c h =
    let p : 0 < w = omega arith in
    rw (mul-add-div_right p v c, div-eq_of_lt h) (add-zero v)

pub remainder : (v w c : ℕ) → c < w → (v * w + c) % w ≡ c
remainder v w c h = rw (mul-add-mod_self_right v w c) (mod-eq_of_lt h)

pub times : (m w v : ℕ) → v < m → v * w + w ≤ m * w
times m w v h = omega (arith, mul-le-mul_right w h)

-- the factors of a product of two positive numbers are at most the product
pub factors : (a b : ℕ) → 0 < a → 0 < b → (a ≤ a * b) × (b ≤ a * b)
factors a b p q = (omega (arith, mul-le-mul_right a q, times b a 0 q), omega (arith, times a b 0 p))

pub under : (m w v : ℕ) → 0 < w → v < m → v < m * w
under m w v p h = omega (arith, (factors m w (omega arith) p).0)

-- a decision that is known
pub when-yes : {X S A : Type 0} (d : Dec X) (f : X → Next S A) → ((x y : X) → x ≡ y) → (h : X) → when d f ≡ f h
unfolding when
when-yes (yes x) f one h = ap f (one x h)
when-yes (no n) f one h = absurd (n h)

pub when-no : {X S A : Type 0} (d : Dec X) (f : X → Next S A) → (X → ⊥) → when d f ≡ dead
unfolding when
when-no (yes x) f n = absurd (n x)
when-no (no m) f n = refl

pub when-dead : {X S A : Type 0} (d : Dec X) → when {S = S} {A = A} d (λ x. dead) ≡ dead
unfolding when
when-dead (yes x) = refl
when-dead (no n) = refl

-- hearing, through a map
module _ {T B S A : Type 0} (f : T → S) (h : B → Next S A) where
  map-when : {X : Type 0} (d : Dec X) (g : X → Next T B) → when d (λ x. map_next f h (g x)) ≡ map_next f h (when d g)
  unfolding when map_next
  map-when (yes x) g = refl
  map-when (no n) g = refl

  two : {X Y : Type 0} (d : Dec X) (d' : Dec Y) (g : Y → Next T B) →
      when d (λ x. when d' (λ y. map_next f h (g y))) ≡ map_next f h (when d (λ x. when d' g))
  unfolding when map_next
  two (yes x) d' g = map-when d' g
  two (no n) d' g = refl

  pub map-edge : (l : Listen) (k : (r : Heard) → Hears l r → Next T B) (m : Move) →
      edge_hear l (λ r s. map_next f h (k r s)) m ≡ map_next f h (edge_hear l k m)
  unfolding edge_hear received map_next
  map-edge l k (move (private i) e) = refl
  map-edge l k (move (at i zero) (question q)) =
      two (ℕ_discrete (who l) i) (hears? l (opened q)) (λ s. k (opened q) s)
  map-edge l k (move (at i zero) (answer a)) =
      two (ℕ_discrete (who l) i) (hears? l (answered a)) (λ s. k (answered a) s)
  map-edge l k (move (at i (suc j)) (question q)) =
      two (ℕ_discrete (who l) i) (hears? l (asked j q)) (λ s. k (asked j q) s)
  map-edge l k (move (at i (suc j)) (answer a)) = refl
