-- The sources of edges touched, list by list. Assumes nothing.
use Rattle.std.specs.Prelude.{List, ◌≡◌, ◌*◌, ◌+◌, ◌-◌, ◌<◌, ◌≤◌, ℕ, get_or, length}
use Rattle.dfa.specs.Graph.{EdgeOf, target, δ}
use Rattle.dfa_smallest.specs.Classes.{Into}
use Rattle.dfa_classes.specs.Places.{copy_at, member_at}
use Rattle.dfa_classes.specs.inner.Touching.{IsTouched, TouchKeeps, Touching}

-- the sources of the edges to t are to be touched
pub record ToSources (n g t k : ℕ) (ws : List ℕ) : Type 0 where
  pub graph : List ℕ
  pub splitter : ℕ
  pub own : ℕ → ℕ
  pub count : ℕ
  pub touching : Touching graph n g splitter own count ws k
  pub low : t < n
  pub inside : own t ≡ splitter

-- they are touched
pub record Sourced (G : List ℕ) (n g s : ℕ) (own : ℕ → ℕ) (count t : ℕ) (ws : List ℕ) (k : ℕ) (ws' : List ℕ) :
    Type 0 where
  pub touching : Touching G n g s own count ws' k
  pub keeps : TouchKeeps n g ws ws'
  pub grows : (q : ℕ) → q < n → IsTouched n g own ws q → IsTouched n g own ws' q
  pub done : (p e : ℕ) → EdgeOf G n p e → target G n e ≡ t → IsTouched n g own ws' p

-- the loop: of the edges to t those below `next` are left
pub record Sourcing (G : List ℕ) (n g s : ℕ) (own : ℕ → ℕ) (count t : ℕ) (ws₀ ws : List ℕ) (k next : ℕ) : Type 0 where
  pub touching : Touching G n g s own count ws k
  pub keeps : TouchKeeps n g ws₀ ws
  pub grows : (q : ℕ) → q < n → IsTouched n g own ws₀ q → IsTouched n g own ws q
  pub below : next ≤ get_or G n 0
  pub above : 0 < next → get_or G 0 0 < next
  pub leads : 0 < next → target G n (next - 1) ≡ t
  pub done : (p e : ℕ) → EdgeOf G n p e → target G n e ≡ t → next ≤ e → IsTouched n g own ws p

-- the states at the places from a to b can be copied
pub record Copying (n g a b : ℕ) (ws : List ℕ) : Type 0 where
  pub order : a ≤ b
  pub top : b ≤ n
  pub few : n ≤ 8192
  pub small : g ≤ 600000
  pub behind : 6 * n < g
  pub room : g + 4 * n ≤ length ws
  pub members : (i : ℕ) → i < n → member_at n ws i < n

-- so many of them are copied
pub record CopiedTo (n g a i : ℕ) (ws ws' : List ℕ) : Type 0 where
  pub len : length ws' ≡ length ws
  pub keeps : (x : ℕ) → x < g + 3 * n → get_or ws' x 0 ≡ get_or ws x 0
  pub copy : (x : ℕ) → a + x < i → copy_at n g ws' x ≡ member_at n ws (a + x)

abbrev pub Copied : ℕ → ℕ → ℕ → ℕ → List ℕ → List ℕ → Type 0
Copied n g a b ws ws' = CopiedTo n g a b ws ws'

-- all states that go into the class s are to be touched
pub record ToAll (n g s : ℕ) (ws : List ℕ) : Type 0 where
  pub graph : List ℕ
  pub own : ℕ → ℕ
  pub count : ℕ
  pub touching : Touching graph n g s own count ws 0
  pub low : s < count

-- they are, and only members, places, touched members, listed classes and the copy have changed
pub record AllTouched (G : List ℕ) (n g s : ℕ) (own : ℕ → ℕ) (count : ℕ) (ws : List ℕ) (k : ℕ) (ws' : List ℕ) :
    Type 0 where
  pub touching : Touching G n g s own count ws' k
  pub len : length ws' ≡ length ws
  pub all : (p : ℕ) → p < n → Into (δ G n) own s p → own (n - 1) ≡ 0 → 0 < s → IsTouched n g own ws' p

-- the loop: the sources of the first j states of the copy are touched
pub record AllTouching (G : List ℕ) (n g s : ℕ) (own : ℕ → ℕ) (count : ℕ) (ws₁ ws : List ℕ) (k j : ℕ) : Type 0 where
  pub touching : Touching G n g s own count ws k
  pub keeps : TouchKeeps n g ws₁ ws
  pub done : (x : ℕ) → x < j → (p e : ℕ) → EdgeOf G n p e → target G n e ≡ copy_at n g ws₁ x → IsTouched n g own ws p
