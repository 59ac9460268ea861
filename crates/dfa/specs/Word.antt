-- Words of letters, kept last letter first: their order, the state after a word, and the first word that tells two
-- states apart. Assumes nothing.
use Rattle.std.specs.Prelude.{Bool, cond, true, List, [], ◌∷◌, ◌≢◌, ◌⊎◌, ◌≡◌, ◌+◌, ◌<◌, ◌≤◌, ℕ, eqb, length}

-- the shorter word is the less; of two words of one length the first letter that differs decides
abbrev pub Less : List ℕ → List ℕ → Type 0
Less [] [] = ⊥
Less [] (n ∷ y) = Unit {0}
Less (m ∷ x) [] = ⊥
Less (m ∷ x) (n ∷ y) = Less x y ⊎ ((x ≡ y) × (m < n))

-- the state after a word
abbrev pub after : (ℕ → ℕ → ℕ) → ℕ → List ℕ → ℕ
after δ p [] = p
after δ p (m ∷ x) = δ (after δ p x) m

-- u is the first word that exactly one of p and q accepts, and has at most n - 2 letters; fin says which states accept
pub record First (n : ℕ) (δ : ℕ → ℕ → ℕ) (fin : ℕ → Bool) (p q : ℕ) (u : List ℕ) : Type 0 where
  pub differ : fin (after δ p u) ≢ fin (after δ q u)
  pub least : (x : List ℕ) → Less x u → fin (after δ p x) ≡ fin (after δ q x)
  pub short : length u + 2 ≤ n

-- the accepting states are f and g
abbrev pub accepting : ℕ → ℕ → ℕ → Bool
accepting f g x = cond (eqb x f) true (eqb x g)
