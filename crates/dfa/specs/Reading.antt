-- Words first letter first, in their order: the shorter first, then the first letter that differs. Assumes nothing.
use Rattle.std.specs.Prelude.{Bool, List, [], ◌++◌, ◌∷◌, ◌≢◌, ◌⊎◌, ◌≡◌, ◌+◌, ◌<◌, ◌≤◌, ℕ, length}

-- the state after reading a word
abbrev pub walk : (ℕ → ℕ → ℕ) → ℕ → List ℕ → ℕ
walk δ p [] = p
walk δ p (m ∷ w) = walk δ (δ p m) w

-- of two words of one length, the one with the smaller letter at the first place where they differ
abbrev pub Lex : List ℕ → List ℕ → Type 0
Lex [] v = ⊥
Lex (m ∷ w) [] = ⊥
Lex (m ∷ w) (n ∷ v) = (m < n) ⊎ ((m ≡ n) × Lex w v)

abbrev pub Before : List ℕ → List ℕ → Type 0
Before w v = (length w < length v) ⊎ ((length w ≡ length v) × Lex w v)

-- w is the first word that exactly one of p and q accepts
pub record FirstWord (n : ℕ) (δ : ℕ → ℕ → ℕ) (fin : ℕ → Bool) (p q : ℕ) (w : List ℕ) : Type 0 where
  pub differ : fin (walk δ p w) ≢ fin (walk δ q w)
  pub least : (v : List ℕ) → Before v w → fin (walk δ p v) ≡ fin (walk δ q v)
  pub short : length w + 2 ≤ n

-- a word that is kept last letter first, first letter first
abbrev pub reversed : List ℕ → List ℕ
reversed [] = []
reversed (m ∷ x) = reversed x ++ (m ∷ [])
