-- Moves in order: what is among them determines the list. Assumes nothing.
use mathlib.Core.List.{List, [], ◌∷◌}
use mathlib.Core.Logic.{◌↔◌, inl, inr}
use mathlib.Core.Path.{◌∙◌, ◌≡◌, refl, sym}
use Prim.Native.Nat.{◌+◌, ◌<◌, ◌≤◌, ℕ}
use native.Mathlib.Omega.{arith}
use Rattle.dfa_smallest.specs.Table.{Arc, Has, Rising}

-- what is among the moves has a letter from b on
pub has_above : (b : ℕ) (xs : List Arc) (m j : ℕ) → Rising b xs → Has xs m j → b ≤ m
unfolding Rising Has
has_above b [] m j r h = absurd h
has_above b (a ∷ xs) m j r (inl h) = omega (arith, r.0, h.0)
has_above b (a ∷ xs) m j r (inr h) = omega (arith, r.0, has_above (a.letter + 1) xs m j r.1 h)

-- a letter leads to one position
pub has_one : (b : ℕ) (xs : List Arc) (m j i : ℕ) → Rising b xs → Has xs m j → Has xs m i → j ≡ i
unfolding Rising Has
has_one b [] m j i r h k = absurd h
has_one b (a ∷ xs) m j i r (inl h) (inl k) = sym h.1 ∙ k.1
has_one b (a ∷ xs) m j i r (inl h) (inr k) =
    absurd (omega (arith, h.0, has_above (a.letter + 1) xs m i r.1 k))
has_one b (a ∷ xs) m j i r (inr h) (inl k) =
    absurd (omega (arith, k.0, has_above (a.letter + 1) xs m j r.1 h))
has_one b (a ∷ xs) m j i r (inr h) (inr k) = has_one (a.letter + 1) xs m j i r.1 h k

-- the first of the moves
module _ (a : Arc) (xs : List Arc) where
  pub has_first : Has (a ∷ xs) a.letter a.to
  unfolding Has
  has_first = inl (refl, refl)

  pub has_later : (m j : ℕ) → Has xs m j → Has (a ∷ xs) m j
  unfolding Has
  has_later m j h = inr h

  pub has-tail : (m j : ℕ) → a.letter < m → Has (a ∷ xs) m j → Has xs m j
  unfolding Has
  has-tail m j l (inl h) = absurd (omega (arith, h.0))
  has-tail m j l (inr h) = h

has-none : (m j : ℕ) → Has [] m j → ⊥
unfolding Has
has-none m j h = h

same-arc : (a b : Arc) → a.letter ≡ b.letter → a.to ≡ b.to → a ≡ b
same-arc a b e f = λ i. record { letter = e i; to = f i }

pub rising-first : (b : ℕ) (a : Arc) (xs : List Arc) → Rising b (a ∷ xs) → b ≤ a.letter
unfolding Rising
rising-first b a xs r = r.0

pub rising-tail : (b : ℕ) (a : Arc) (xs : List Arc) → Rising b (a ∷ xs) → Rising (a.letter + 1) xs
unfolding Rising
rising-tail b a xs r = r.1

rising-from : (b c : ℕ) (xs : List Arc) → c ≡ b → Rising b xs → Rising c xs
rising-from b c xs e r = rw e r

rising-here : (a : Arc) (xs : List Arc) (b : ℕ) → Rising b (a ∷ xs) → Rising a.letter (a ∷ xs)
unfolding Rising
rising-here a xs b r = (omega arith, r.1)

-- two lists with the same moves are the same
pub arcs-same : (b : ℕ) (xs ys : List Arc) → Rising b xs → Rising b ys → ((m j : ℕ) → Has xs m j ↔ Has ys m j)
    → xs ≡ ys
arcs-same b [] [] r s e = refl
arcs-same b [] (c ∷ ys) r s e = absurd (has-none c.letter c.to ((e c.letter c.to).1 (has_first c ys)))
arcs-same b (a ∷ xs) [] r s e = absurd (has-none a.letter a.to ((e a.letter a.to).0 (has_first a xs)))
arcs-same b (a ∷ xs) (c ∷ ys) r s e =
    let above : b ≤ a.letter = rising-first b a xs r in
    let h = (e a.letter a.to).0 (has_first a xs) in
    let k = (e c.letter c.to).1 (has_first c ys) in
    let ge : c.letter ≤ a.letter = has_above c.letter (c ∷ ys) a.letter a.to (rising-here c ys b s) h in
    let le : a.letter ≤ c.letter = has_above a.letter (a ∷ xs) c.letter c.to (rising-here a xs b r) k in
    let eq : a.letter ≡ c.letter = omega arith in
    let to : a.to ≡ c.to = has_one b (c ∷ ys) c.letter a.to c.to s (rw eq at h) (has_first c ys) in
    let tails : xs ≡ ys = arcs-same (a.letter + 1) xs ys (rising-tail b a xs r)
    (rising-from (c.letter + 1) (a.letter + 1) ys (omega arith) (rising-tail b c ys s))
    (λ m j. (
      λ x. has-tail c ys m j (omega (arith, has_above (a.letter + 1) xs m j (rising-tail b a xs r) x))
          ((e m j).0 (has_later a xs m j x)),
      λ x. has-tail a xs m j (omega (arith, has_above (c.letter + 1) ys m j (rising-tail b c ys s) x))
          ((e m j).1 (has_later c ys m j x)),
    )) in
    λ i. same-arc a c eq to i ∷ tails i
