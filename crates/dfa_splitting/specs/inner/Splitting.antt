-- Classes split by the letters that lead into the class s. `cls` are the classes before, which the words of classes still
-- have, `cur` those that the places have now. Assumes nothing.
use Rattle.std.specs.Prelude.{List, ◌≢◌, ◌⊎◌, ◌≡◌, ◌*◌, ◌+◌, ◌-◌, ◌<◌, ◌≤◌, ℕ, get_or, length, set}
use Rattle.dfa.specs.Graph.{δ}
use Rattle.dfa_smallest.specs.Classes.{Into, SameInto}
use Rattle.dfa_classes.specs.Packed.{Packed}
use Rattle.dfa_classes.specs.Parted.{Parted}
use Rattle.dfa_classes.specs.Places.{class_at, from_at, place_at, to_at, touched_at}
use Rattle.dfa_classes.specs.inner.Touching.{IsTouched}
use Rattle.dfa_splitting.specs.inner.Signs.{Signed}

-- the k classes `cur` are finer than `cls`, but never part states that go into s by the same letters; in a class with touched
-- members just these go into s
pub record Parting (G : List ℕ) (n g s : ℕ) (cls : ℕ → ℕ) (count : ℕ) (ws : List ℕ) (cur : ℕ → ℕ) (k : ℕ) :
    Type 0 where
  pub packed : Packed G n g ws
  pub parted : Parted n ws cur k
  pub class : (p : ℕ) → p < n → class_at ws p ≡ cls p
  pub some : 0 < s
  pub dead : cls (n - 1) ≡ 0
  pub above : count ≤ k
  pub finer : (p q : ℕ) → p < n → q < n → cur p ≡ cur q → cls p ≡ cls q
  pub number : (p : ℕ) → p < n → (cur p ≡ cls p) ⊎ ((count ≤ cur p) × (Into (δ G n) cls s p ⊎ (cls p ≢ 0)))
  pub joined : (p q : ℕ) → p < n → q < n → cls p ≡ cls q → SameInto (δ G n) cls s p q → cur p ≡ cur q
  pub within : (c : ℕ) → c < k → from_at n ws c + touched_at n g ws c ≤ to_at n ws c
  pub fresh : (c : ℕ) → k ≤ c → c < n → touched_at n g ws c ≡ 0
  pub goes : (p : ℕ) → p < n → 0 < touched_at n g ws (cur p) → IsTouched n g cur ws p → Into (δ G n) cls s p
  pub comes : (p : ℕ) → p < n → 0 < touched_at n g ws (cur p) → Into (δ G n) cls s p → IsTouched n g cur ws p

-- a class without touched members is split as far as it must be
pub record Splitting (G : List ℕ) (n g s : ℕ) (cls : ℕ → ℕ) (count : ℕ) (ws : List ℕ) (cur : ℕ → ℕ) (k : ℕ) :
    Type 0 where
  pub parting : Parting G n g s cls count ws cur k
  pub apart : (p q : ℕ) → p < n → q < n → cur p ≡ cur q → touched_at n g ws (cur p) ≡ 0 → SameInto (δ G n) cls s p q

-- the class d, which has the places from low to end, is being split; those up to till go into s
pub record Carving (G : List ℕ) (n g s : ℕ) (cls : ℕ → ℕ) (count : ℕ) (ws : List ℕ) (cur : ℕ → ℕ)
    (k d low till end : ℕ) : Type 0 where
  pub parting : Parting G n g s cls count ws cur k
  pub others : (p q : ℕ) → p < n → q < n → cur p ≡ cur q → cur p ≢ d → touched_at n g ws (cur p) ≡ 0
      → SameInto (δ G n) cls s p q
  pub d_low : d < k
  pub d_zero : touched_at n g ws d ≡ 0
  pub d_to : to_at n ws d ≡ end
  pub d_from : low < till → from_at n ws d ≡ low
  pub low_till : low ≤ till
  pub till_end : till ≤ end
  pub inside : (p : ℕ) → p < n → cur p ≡ d → place_at n ws p < till → Into (δ G n) cls s p
  pub outside : (p : ℕ) → p < n → cur p ≡ d → till ≤ place_at n ws p → Into (δ G n) cls s p → ⊥
  pub done : till ≤ low → (p q : ℕ) → p < n → q < n → cur p ≡ d → cur q ≡ d → SameInto (δ G n) cls s p q

-- the places of d are cut at mid: d keeps the rear, or k has it
pub data Carved (n d k low mid end : ℕ) (ws : List ℕ) (r : ℕ) (ws' : List ℕ) : Type 0 where
  front : r ≡ d → ws' ≡ set (set (set ws (3 * n + k) low) (4 * n + k) mid) (3 * n + d) mid
      → Carved n d k low mid end ws r ws'
  rear : r ≡ k → d ≢ 0 → ws' ≡ set (set (set ws (3 * n + k) mid) (4 * n + k) end) (4 * n + d) mid
      → Carved n d k low mid end ws r ws'

-- the class d is to be split
pub record ToSplit (n g s d k : ℕ) (ws : List ℕ) : Type 0 where
  pub graph : List ℕ
  pub cls : ℕ → ℕ
  pub count : ℕ
  pub cur : ℕ → ℕ
  pub splitting : Splitting graph n g s cls count ws cur k
  pub signed : Signed graph n g s cls ws
  pub low : d < k
  pub some : 0 < touched_at n g ws d

-- the loop of split
pub record CarveState (G : List ℕ) (n g s : ℕ) (cls : ℕ → ℕ) (count k₀ till end : ℕ) (ws₁ ws : List ℕ)
    (k d low : ℕ) : Type 0 where
  pub cur : ℕ → ℕ
  pub carving : Carving G n g s cls count ws cur k d low till end
  pub more : k₀ ≤ k
  pub len : length ws ≡ length ws₁
  pub keeps : (x : ℕ) → g + n ≤ x → get_or ws x 0 ≡ get_or ws₁ x 0

-- the class d is split
pub record SplitOne (G : List ℕ) (n g s : ℕ) (cls : ℕ → ℕ) (count d : ℕ) (ws : List ℕ) (k r : ℕ) (ws' : List ℕ) :
    Type 0 where
  pub cur : ℕ → ℕ
  pub splitting : Splitting G n g s cls count ws' cur r
  pub more : k ≤ r
  pub len : length ws' ≡ length ws
  pub zero : touched_at n g ws' d ≡ 0
  pub keeps : (x : ℕ) → g + n ≤ x → x ≢ g + n + d → get_or ws' x 0 ≡ get_or ws x 0
