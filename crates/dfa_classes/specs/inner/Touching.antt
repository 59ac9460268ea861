-- States touched: those that go into the class s stand first in their classes. Assumes nothing.
use Rattle.std.specs.Prelude.{List, ◌≡◌, ◌*◌, ◌+◌, ◌<◌, ◌≤◌, ℕ, get_or, length}
use Rattle.dfa.specs.Graph.{δ}
use Rattle.dfa_smallest.specs.Classes.{Into}
use Rattle.dfa_classes.specs.Packed.{Packed}
use Rattle.dfa_classes.specs.Parted.{Parted}
use Rattle.dfa_classes.specs.Places.{class_at, from_at, list_at, place_at, to_at, touched_at}

-- the state p is touched
abbrev pub IsTouched : ℕ → ℕ → (ℕ → ℕ) → List ℕ → ℕ → Type 0
IsTouched n g own ws p = place_at n ws p < from_at n ws (own p) + touched_at n g ws (own p)

-- the k classes that are listed have touched members, and all of these go into the class s
pub record Touching (G : List ℕ) (n g s : ℕ) (own : ℕ → ℕ) (count : ℕ) (ws : List ℕ) (k : ℕ) : Type 0 where
  pub packed : Packed G n g ws
  pub parted : Parted n ws own count
  pub class : (p : ℕ) → p < n → class_at ws p ≡ own p
  pub within : (c : ℕ) → c < count → from_at n ws c + touched_at n g ws c ≤ to_at n ws c
  pub fresh : (c : ℕ) → count ≤ c → c < n → touched_at n g ws c ≡ 0
  pub into : (p : ℕ) → p < n → IsTouched n g own ws p → Into (δ G n) own s p
  pub listed : (c : ℕ) → c < count → 0 < touched_at n g ws c → (x : ℕ) × ((x < k) × (list_at n g ws x ≡ c))
  pub list_low : (x : ℕ) → x < k → list_at n g ws x < count
  pub list_some : (x : ℕ) → x < k → 0 < touched_at n g ws (list_at n g ws x)
  pub list_one : (x y : ℕ) → x < k → y < k → list_at n g ws x ≡ list_at n g ws y → x ≡ y

-- p is to be touched
pub record ToTouch (n g p k : ℕ) (ws : List ℕ) : Type 0 where
  pub graph : List ℕ
  pub splitter : ℕ
  pub own : ℕ → ℕ
  pub count : ℕ
  pub touching : Touching graph n g splitter own count ws k
  pub low : p < n
  pub goes : Into (δ graph n) own splitter p

-- only members, places, touched members and listed classes change
pub record TouchKeeps (n g : ℕ) (ws ws' : List ℕ) : Type 0 where
  pub len : length ws' ≡ length ws
  pub classes : (i : ℕ) → i < n → get_or ws' i 0 ≡ get_or ws i 0
  pub graph : (i : ℕ) → 3 * n ≤ i → i < g + n → get_or ws' i 0 ≡ get_or ws i 0
  pub copy : (i : ℕ) → g + 3 * n ≤ i → get_or ws' i 0 ≡ get_or ws i 0

-- the state p is touched, and what was touched stays so
pub record Touches (G : List ℕ) (n g s : ℕ) (own : ℕ → ℕ) (count p : ℕ) (ws : List ℕ) (k : ℕ) (ws' : List ℕ) :
    Type 0 where
  pub touching : Touching G n g s own count ws' k
  pub keeps : TouchKeeps n g ws ws'
  pub grows : (q : ℕ) → q < n → IsTouched n g own ws q → IsTouched n g own ws' q
  pub done : IsTouched n g own ws' p
