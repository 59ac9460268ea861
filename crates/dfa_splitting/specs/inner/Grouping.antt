-- States that go into one class by the same letters, brought together. Assumes nothing.
use Rattle.std.specs.Prelude.{List, ◌⊎◌, ◌≡◌, ◌*◌, ◌-◌, ◌<◌, ◌≤◌, ℕ, get_or, length}
use Rattle.dfa.specs.Graph.{δ}
use Rattle.dfa_smallest.specs.Classes.{SameInto}
use Rattle.dfa_classes.specs.Packed.{Packed}
use Rattle.dfa_classes.specs.Parted.{Parted}
use Rattle.dfa_classes.specs.Places.{class_at, copy_at, from_at, member_at, place_at, to_at}

-- the places from low to till are places of the class c; the dead state is not in the class s
pub record Groupable (G : List ℕ) (n g s : ℕ) (own : ℕ → ℕ) (count c low till : ℕ) (ws : List ℕ) : Type 0 where
  pub packed : Packed G n g ws
  pub parted : Parted n ws own count
  pub some : 0 < s
  pub dead : class_at ws (n - 1) ≡ 0
  pub less : low < till
  pub class : c < count
  pub from : from_at n ws c ≤ low
  pub to : till ≤ to_at n ws c

-- the states that go into s by the letters of the first have its sign; where it is that of one letter, of the states at
-- the places from low to till only these have it
pub record Quick (G : List ℕ) (n g s low till : ℕ) (ws : List ℕ) : Type 0 where
  pub alike : (q : ℕ) → q < n → SameInto (δ G n) (class_at ws) s (member_at n ws low) q
      → copy_at n g ws (member_at n ws low) ≡ copy_at n g ws q
  pub exact : (q : ℕ) → q < n → low ≤ place_at n ws q → place_at n ws q < till
      → copy_at n g ws (member_at n ws low) ≡ copy_at n g ws q → copy_at n g ws (member_at n ws low) < 134217729
      → SameInto (δ G n) (class_at ws) s (member_at n ws low) q

pub record ToGroup (n g s low till : ℕ) (ws : List ℕ) : Type 0 where
  pub graph : List ℕ
  pub own : ℕ → ℕ
  pub count : ℕ
  pub c : ℕ
  pub able : Groupable graph n g s own count c low till ws
  pub quick : Quick graph n g s low till ws

-- the states at the places from low to end go into s as the first does; those from end to i do not
pub record GroupedTo (G : List ℕ) (n g s : ℕ) (own : ℕ → ℕ) (count c low till : ℕ) (ws₀ : List ℕ) (end i : ℕ)
    (ws : List ℕ) : Type 0 where
  pub able : Groupable G n g s own count c low till ws
  pub len : length ws ≡ length ws₀
  pub keeps : (x : ℕ) → (x < n) ⊎ (3 * n ≤ x) → get_or ws x 0 ≡ get_or ws₀ x 0
  pub fixed : (x : ℕ) → x < n → (x < low) ⊎ (till ≤ x) → member_at n ws x ≡ member_at n ws₀ x
  pub start : low < end
  pub order : end ≤ i
  pub last : i ≤ till
  pub first : member_at n ws low ≡ member_at n ws₀ low
  pub same : (x : ℕ) → low ≤ x → x < end → SameInto (δ G n) (class_at ws₀) s (member_at n ws₀ low) (member_at n ws x)
  pub other : (x : ℕ) → end ≤ x → x < i
      → SameInto (δ G n) (class_at ws₀) s (member_at n ws₀ low) (member_at n ws x) → ⊥

abbrev pub Grouped : List ℕ → ℕ → ℕ → ℕ → (ℕ → ℕ) → ℕ → ℕ → ℕ → ℕ → List ℕ → ℕ → List ℕ → Type 0
Grouped G n g s own count c low till ws end ws' =
    Groupable G n g s own count c low till ws → Quick G n g s low till ws
    → GroupedTo G n g s own count c low till ws end till ws'
