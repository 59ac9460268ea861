-- The states stand in places, the members of each class together. Assumes nothing.
use Rattle.std.specs.Prelude.{List, ◌≡◌, ◌<◌, ◌≤◌, ℕ}
use Rattle.dfa_classes.specs.Places.{from_at, member_at, place_at, to_at}

-- each state has its place, and the class `own p` of the state p has places of which this is one
pub record Parted (n : ℕ) (ws : List ℕ) (own : ℕ → ℕ) (count : ℕ) : Type 0 where
  pub member_low : (i : ℕ) → i < n → member_at n ws i < n
  pub place_low : (p : ℕ) → p < n → place_at n ws p < n
  pub member_place : (p : ℕ) → p < n → member_at n ws (place_at n ws p) ≡ p
  pub place_member : (i : ℕ) → i < n → place_at n ws (member_at n ws i) ≡ i
  pub own_low : (p : ℕ) → p < n → own p < count
  pub own_from : (p : ℕ) → p < n → from_at n ws (own p) ≤ place_at n ws p
  pub own_to : (p : ℕ) → p < n → place_at n ws p < to_at n ws (own p)
  pub whole : (c : ℕ) → c < count → (i : ℕ) → from_at n ws c ≤ i → i < to_at n ws c → own (member_at n ws i) ≡ c
  pub some : (c : ℕ) → c < count → from_at n ws c < to_at n ws c
  pub top : (c : ℕ) → c < count → to_at n ws c ≤ n
