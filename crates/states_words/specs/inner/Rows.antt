-- Rows of an automaton and how they are written into words: word p is the silent word of the state p, word 5 n + p its
-- first edge, and edge e is the words 6 n + 1 + 2 e, its letter, and 6 n + 2 + 2 e, its target.
use Rattle.std.specs.Prelude.{ℕ, zero, suc, ◌-◌, ◌%◌, List, [], ◌∷◌, set}
use Rattle.states_positions.specs.Row.{LONGS, sum_of, mul_add_of}

-- where parts of an automaton of n states begin: this many times n words are before the first edges of its states, and
-- before the end of its edges
abbrev pub FIRSTS : ℕ
FIRSTS = 5

abbrev pub EDGES : ℕ
EDGES = 6

-- an edge: a letter and the state to which it leads
pub record Edge : Type 0 where
  pub letter : ℕ
  pub target : ℕ

-- a state: its silent word, 0 where it is not silent and else 1 more than the state to which it goes, and its edges
pub record StateRow : Type 0 where
  pub silent : ℕ
  pub edges : List Edge

-- a state that stays and has no edges: the end, and the dead state
abbrev pub no_edges : StateRow
no_edges = record { silent = 0; edges = [] }

-- word i becomes v, a word of 32 bits
abbrev pub held : List ℕ → ℕ → ℕ → List ℕ
held ws i v = set ws i (v % LONGS)

-- the place of edge e
unfoldable pub edge_at : ℕ → ℕ → ℕ
edge_at n e = sum_of (mul_add_of EDGES n 1) (sum_of e e)

-- edge e, and the edges from e on
unfoldable pub with_edge : List ℕ → ℕ → ℕ → ℕ → ℕ → List ℕ
with_edge ws n e letter target = held (held ws (edge_at n e) letter) (sum_of (edge_at n e) 1) target

unfoldable pub with_edges : List ℕ → ℕ → ℕ → List Edge → List ℕ
with_edges ws n e [] = ws
with_edges ws n e (x ∷ xs) = with_edges (with_edge ws n e x.letter x.target) n (sum_of e 1) xs

-- the edge after them
unfoldable pub past : ℕ → List Edge → ℕ
past e [] = e
past e (x ∷ xs) = past (sum_of e 1) xs

-- the silent word and the first edge of the state p
unfoldable pub with_head : List ℕ → ℕ → ℕ → ℕ → ℕ → List ℕ
with_head ws n p e silent = held (held ws p silent) (mul_add_of FIRSTS n p) e

-- the state k of those from o on
unfoldable pub with_row : List ℕ → ℕ → ℕ → ℕ → ℕ → StateRow → List ℕ
with_row ws n o k e row = with_edges (with_head ws n (sum_of o k) e row.silent) n e row.edges

-- the first edge of the state k, where those of the state 0 begin at e
unfoldable pub before : ℕ → (ℕ → StateRow) → ℕ → ℕ
before e row zero = e
before e row (suc k) = past (before e row k) (row k).edges

-- the states below k
unfoldable pub with_rows : List ℕ → ℕ → ℕ → ℕ → (ℕ → StateRow) → ℕ → List ℕ
with_rows ws n o e row zero = ws
with_rows ws n o e row (suc k) = with_row (with_rows ws n o e row k) n o k (before e row k) (row k)

-- the dead state, n - 1, and the end of the edges
unfoldable pub closed_of : List ℕ → ℕ → ℕ → List ℕ
closed_of ws n e = held (with_head ws n (n - 1) e 0) (mul_add_of EDGES n 0) e
