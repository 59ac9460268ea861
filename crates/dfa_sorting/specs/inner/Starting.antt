-- The first two classes. Assumes nothing.
use Rattle.std.specs.Prelude.{cond, List, ◌≡◌, ◌*◌, ◌<◌, ◌≤◌, ℕ, eqb, get_or, length}
use Rattle.dfa_classes.specs.Parted.{Parted}
use Rattle.dfa_classes.specs.Places.{class_at, member_at, place_at}

-- the states below i are in class 0, at the places of their numbers
pub record Placed (n i : ℕ) (ws ws' : List ℕ) : Type 0 where
  pub len : length ws' ≡ length ws
  pub class : (p : ℕ) → p < i → class_at ws' p ≡ 0
  pub member : (p : ℕ) → p < i → member_at n ws' p ≡ p
  pub place : (p : ℕ) → p < i → place_at n ws' p ≡ p
  pub keeps : (x : ℕ) → 3 * n ≤ x → get_or ws' x 0 ≡ get_or ws x 0

-- class 1 has f alone
abbrev pub own_of : ℕ → ℕ → ℕ
own_of f p = cond (eqb p f) 1 0

pub record Started (n f : ℕ) (ws ws' : List ℕ) : Type 0 where
  pub len : length ws' ≡ length ws
  pub parted : Parted n ws' (own_of f) 2
  pub class : (p : ℕ) → p < n → class_at ws' p ≡ own_of f p
  pub keeps : (x : ℕ) → 5 * n ≤ x → get_or ws' x 0 ≡ get_or ws x 0
