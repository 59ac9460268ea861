-- The words of classes follow the places. Assumes nothing.
use Rattle.std.specs.Prelude.{List, ◌≢◌, ◌≡◌, ◌*◌, ◌<◌, ◌≤◌, ℕ, get_or, length}
use Rattle.dfa_classes.specs.Parted.{Parted}
use Rattle.dfa_classes.specs.Places.{class_at, place_at}

pub record ToRename (n c : ℕ) (ws : List ℕ) : Type 0 where
  pub own : ℕ → ℕ
  pub count : ℕ
  pub parted : Parted n ws own count
  pub low : c < count
  pub few : n ≤ 8192
  pub room : 5 * n ≤ length ws

-- the members of class c before place i have it as their class
pub record RenamedTo (n : ℕ) (own : ℕ → ℕ) (c i : ℕ) (ws ws' : List ℕ) : Type 0 where
  pub len : length ws' ≡ length ws
  pub keeps : (x : ℕ) → n ≤ x → get_or ws' x 0 ≡ get_or ws x 0
  pub here : (p : ℕ) → p < n → own p ≡ c → place_at n ws p < i → class_at ws' p ≡ c
  pub there : (p : ℕ) → p < n → own p ≢ c → class_at ws' p ≡ class_at ws p

pub record RenamedOne (n : ℕ) (own : ℕ → ℕ) (c : ℕ) (ws ws' : List ℕ) : Type 0 where
  pub len : length ws' ≡ length ws
  pub keeps : (x : ℕ) → n ≤ x → get_or ws' x 0 ≡ get_or ws x 0
  pub here : (p : ℕ) → p < n → own p ≡ c → class_at ws' p ≡ c
  pub there : (p : ℕ) → p < n → own p ≢ c → class_at ws' p ≡ class_at ws p

pub record ToRenameAll (n k : ℕ) (ws : List ℕ) : Type 0 where
  pub own : ℕ → ℕ
  pub parted : Parted n ws own k
  pub few : n ≤ 8192
  pub room : 5 * n ≤ length ws

-- the members of the classes from count to c have theirs
pub record RenamedUpTo (n : ℕ) (own : ℕ → ℕ) (count c : ℕ) (ws ws' : List ℕ) : Type 0 where
  pub len : length ws' ≡ length ws
  pub keeps : (x : ℕ) → n ≤ x → get_or ws' x 0 ≡ get_or ws x 0
  pub here : (p : ℕ) → p < n → count ≤ own p → own p < c → class_at ws' p ≡ own p
  pub there : (p : ℕ) → p < n → own p < count → class_at ws' p ≡ class_at ws p

pub record RenamedAll (n : ℕ) (own : ℕ → ℕ) (count : ℕ) (ws ws' : List ℕ) : Type 0 where
  pub len : length ws' ≡ length ws
  pub keeps : (x : ℕ) → n ≤ x → get_or ws' x 0 ≡ get_or ws x 0
  pub here : (p : ℕ) → p < n → count ≤ own p → class_at ws' p ≡ own p
  pub there : (p : ℕ) → p < n → own p < count → class_at ws' p ≡ class_at ws p
