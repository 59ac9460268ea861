-- Classes made finer, splitter by splitter. Assumes nothing.
use Rattle.std.specs.Prelude.{List, ◌≢◌, ◌≡◌, ◌-◌, ◌<◌, ◌≤◌, ℕ, length}
use Rattle.dfa.specs.Graph.{δ}
use Rattle.dfa.specs.Live.{Single}
use Rattle.dfa.specs.Word.{accepting}
use Rattle.dfa_smallest.specs.Classes.{Classes, Into, Refining, SameInto}
use Rattle.dfa_classes.specs.Packed.{Packed}
use Rattle.dfa_classes.specs.Parted.{Parted}
use Rattle.dfa_classes.specs.Places.{class_at, list_at, touched_at}
use Rattle.dfa_splitting.specs.inner.Signs.{Signed}
use Rattle.dfa_splitting.specs.inner.Splitting.{Parting, Splitting}
use Rattle.dfa_classes.specs.inner.Touching.{IsTouched, Touching}

-- all states that go into the class s are touched
pub record Touched (G : List ℕ) (n g s : ℕ) (cls : ℕ → ℕ) (count m : ℕ) (ws : List ℕ) : Type 0 where
  pub touching : Touching G n g s cls count ws m
  pub all : (p : ℕ) → p < n → Into (δ G n) cls s p → IsTouched n g cls ws p
  pub dead : cls (n - 1) ≡ 0
  pub some : 0 < s

pub record ToSplitAll (n g s m count : ℕ) (ws : List ℕ) : Type 0 where
  pub graph : List ℕ
  pub cls : ℕ → ℕ
  pub touched : Touched graph n g s cls count m ws

-- the states that go into s have their signs, and nothing else has changed
pub record SignedAll (G : List ℕ) (n g s : ℕ) (cls : ℕ → ℕ) (count m : ℕ) (ws ws' : List ℕ) : Type 0 where
  pub len : length ws' ≡ length ws
  pub touched : Touched G n g s cls count m ws'
  pub signed : Signed G n g s cls ws'

-- the loop of split_all: the first x of the listed classes are split
pub record SplitState (G : List ℕ) (n g s : ℕ) (cls : ℕ → ℕ) (count m : ℕ) (ws₀ ws : List ℕ) (k x : ℕ) : Type 0 where
  pub cur : ℕ → ℕ
  pub splitting : Splitting G n g s cls count ws cur k
  pub signed : Signed G n g s cls ws
  pub more : count ≤ k
  pub len : length ws ≡ length ws₀
  pub few : m ≤ n
  pub pending : (c : ℕ) → c < n → 0 < touched_at n g ws c → (y : ℕ) × ((x ≤ y) × ((y < m) × (list_at n g ws y ≡ c)))
  pub list_low : (y : ℕ) → y < m → list_at n g ws y < count
  pub list_some : (y : ℕ) → x ≤ y → y < m → 0 < touched_at n g ws (list_at n g ws y)
  pub list_one : (y z : ℕ) → y < m → z < m → list_at n g ws y ≡ list_at n g ws z → y ≡ z

-- all classes are split by the letters that lead into s
pub record SplitAll (G : List ℕ) (n g s : ℕ) (cls : ℕ → ℕ) (count : ℕ) (ws : List ℕ) (k : ℕ) (ws' : List ℕ) :
    Type 0 where
  pub cur : ℕ → ℕ
  pub parting : Parting G n g s cls count ws' cur k
  pub apart : (p q : ℕ) → p < n → q < n → cur p ≡ cur q → SameInto (δ G n) cls s p q
  pub zero : (c : ℕ) → c < n → touched_at n g ws' c ≡ 0
  pub len : length ws' ≡ length ws

-- the classes `own` in the words, none touched
pub record Ready (G : List ℕ) (n g : ℕ) (own : ℕ → ℕ) (count : ℕ) (ws : List ℕ) : Type 0 where
  pub packed : Packed G n g ws
  pub parted : Parted n ws own count
  pub class : (p : ℕ) → p < n → class_at ws p ≡ own p
  pub zero : (c : ℕ) → c < n → touched_at n g ws c ≡ 0

-- the splitters below s are done
pub record RefineState (G : List ℕ) (n g f : ℕ) (ws : List ℕ) (count s : ℕ) : Type 0 where
  pub own : ℕ → ℕ
  pub ready : Ready G n g own count ws
  pub refining : Refining (δ G n) (accepting f f) n (n - 1) own s count
  pub some : 0 < s

-- class 1 has f alone, class 0 all the others
pub record Refinable (G : List ℕ) (n g f : ℕ) (ws : List ℕ) : Type 0 where
  pub single : Single G n f
  pub low : f < n
  pub own : ℕ → ℕ
  pub ready : Ready G n g own 2 ws
  pub accepts : own f ≡ 1
  pub others : (p : ℕ) → p < n → p ≢ f → own p ≡ 0

pub record ToRefine (n g : ℕ) (ws : List ℕ) : Type 0 where
  pub graph : List ℕ
  pub f : ℕ
  pub refinable : Refinable graph n g f ws

-- two states are in one class exactly if they accept the same words
pub record Refined (G : List ℕ) (n g f count : ℕ) (ws : List ℕ) : Type 0 where
  pub own : ℕ → ℕ
  pub ready : Ready G n g own count ws
  pub classes : Classes (δ G n) (accepting f f) n (n - 1) own
