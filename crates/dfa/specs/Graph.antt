-- The automaton of n states in the words: the graph G is the words from 5 n on. Places 0 to n of it are the first edge
-- of each state, and the end; edge i is the places n + 1 + 2 i, its letter, and n + 2 + 2 i, its target. A letter that
-- no edge of a state has leads to the dead state, n - 1. Assumes nothing.
use Rattle.std.specs.Prelude.{cond, List, ◌≡◌, ◌*◌, ◌+◌, ◌-◌, ◌<◌, ◌^◌, ◌≤◌, suc, zero, ℕ, eqb, drop, get_or, length, take}

-- the words from g on
abbrev pub rest : ℕ → List ℕ → List ℕ
rest g ws = take (length ws - g) (drop g ws)

-- the letter and the target of edge i
abbrev pub letter : List ℕ → ℕ → ℕ → ℕ
letter G n i = get_or G (n + 1 + 2 * i) 0

abbrev pub target : List ℕ → ℕ → ℕ → ℕ
target G n i = get_or G (n + 2 + 2 * i) 0

-- where the letter m leads, by the k edges from i on
unfoldable pub look : List ℕ → ℕ → ℕ → ℕ → ℕ → ℕ
look G n m zero i = n - 1
look G n m (suc k) i = cond (eqb (letter G n i) m) (target G n i) (look G n m k (suc i))

-- the state to which p goes by the letter m
abbrev pub δ : List ℕ → ℕ → ℕ → ℕ → ℕ
δ G n p m = look G n m (get_or G (p + 1) 0 - get_or G p 0) (get_or G p 0)

-- the edges from i to end: in the list, their letters rising, their letters and targets in range
pub record Edges (G : List ℕ) (n i end : ℕ) : Type 0 where
  pub le : i ≤ end
  pub room : n + 1 + 2 * end ≤ length G
  pub rising : (k : ℕ) → i ≤ k → k + 1 < end → letter G n k < letter G n (k + 1)
  pub small : (k : ℕ) → i ≤ k → k < end → (letter G n k < 2 ^ 27) × (target G n k < n)

-- G is an automaton of n states
pub record Graph (G : List ℕ) (n : ℕ) : Type 0 where
  pub some : 0 < n
  pub few : n ≤ 8193
  pub room : n < length G
  pub edges : (p : ℕ) → p < n → Edges G n (get_or G p 0) (get_or G (p + 1) 0)

-- e is an edge of the state p
pub record EdgeOf (G : List ℕ) (n p e : ℕ) : Type 0 where
  pub below : p < n
  pub from : get_or G p 0 ≤ e
  pub to : e < get_or G (p + 1) 0

-- G' has the edges of G: up to the end of the edges the words are the same
pub record SameEdges (n : ℕ) (G G' : List ℕ) : Type 0 where
  pub size : length G' ≡ length G
  pub words : (i : ℕ) → i < n + 1 + 2 * get_or G n 0 → get_or G' i 0 ≡ get_or G i 0
