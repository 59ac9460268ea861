-- The bytes of the positions, read from the words of numbered classes as the code reads them. Assumes nothing.
use Rattle.std.specs.Prelude.{cond, List, [], ◌++◌, ◌∷◌, ◌%◌, ◌*◌, ◌+◌, ◌-◌, ◌<◌, ◌≤◌, suc, zero, ℕ, eqb, length}
use Rattle.dfa_classes.specs.Places.{class_at, first_at, letter_at, number_at, state_at, target_at}
use Rattle.card_bytes.specs.Kinds.{POSITION}
use Rattle.card_bytes.specs.Places.{move_bytes}

-- the bytes of the move by edge e to a class c: none where it is the dead one
unfoldable pub towards : List ℕ → ℕ → ℕ → ℕ → List ℕ
towards ws n e c =
    cond (eqb c (class_at ws (n - 1))) [] (move_bytes (letter_at n ws e) ((number_at n ws c - 1) % 65536))

unfoldable pub edge_bytes : List ℕ → ℕ → ℕ → List ℕ
edge_bytes ws n e = towards ws n e (class_at ws (target_at n ws e))

-- those of the moves by k edges from e on
unfoldable pub edges_bytes : List ℕ → ℕ → ℕ → ℕ → List ℕ
edges_bytes ws n zero e = []
edges_bytes ws n (suc k) e = edge_bytes ws n e ++ edges_bytes ws n k (suc e)

-- those of the moves of the state p
unfoldable pub state_bytes : List ℕ → ℕ → ℕ → List ℕ
state_bytes ws n p = edges_bytes ws n (first_at n ws (p + 1) - first_at n ws p) (first_at n ws p)

-- those of the position of a class that the state p is in, f the end
unfoldable pub position_bytes : List ℕ → ℕ → ℕ → ℕ → List ℕ
position_bytes ws n f p = POSITION ∷ cond (eqb p f) 1 0 ∷ state_bytes ws n p

-- those of c positions, numbered from k on
unfoldable pub positions_bytes : List ℕ → ℕ → ℕ → ℕ → ℕ → List ℕ
positions_bytes ws n f zero k = []
positions_bytes ws n f (suc c) k = position_bytes ws n f (state_at n ws k) ++ positions_bytes ws n f c (suc k)

-- edge e stands in the words, and its target, the class of it and the dead state's class can be read
pub record Edge (n e : ℕ) (ws : List ℕ) : Type 0 where
  pub some : 0 < n
  pub few : n ≤ 8192
  pub low : e < 262144
  pub room : 6 * n + 2 + 2 * e < length ws
  pub target : target_at n ws e < n
  pub class : class_at ws (target_at n ws e) < n

-- every edge does
pub record Legible (n : ℕ) (ws : List ℕ) : Type 0 where
  pub some : 0 < n
  pub few : n ≤ 8192
  pub end : first_at n ws n ≤ 262144
  pub room : 6 * n + 1 + 2 * first_at n ws n ≤ length ws
  pub to : (p : ℕ) → p ≤ n → first_at n ws p ≤ first_at n ws n
  pub target : (p e : ℕ) → p < n → first_at n ws p ≤ e → e < first_at n ws (p + 1) → target_at n ws e < n
  pub class : (p : ℕ) → p < n → class_at ws p < n

-- `count` classes are numbered, each with a state
pub record States (n count : ℕ) (ws : List ℕ) : Type 0 where
  pub few : count ≤ n
  pub low : (k : ℕ) → k < count → state_at n ws k < n
