-- Words that show rows.
use Rattle.std.specs.Prelude.{◌≡◌, cond, List, [], ◌∷◌, ℕ, zero, suc, ◌+◌, ◌*◌, ◌-◌, ◌<◌, ◌≤◌, ◌^◌, eqb, length, get_or}
use Rattle.language.specs.declared.Numbers.{Numbers}
use Rattle.language.specs.Move.{Move}
use Rattle.states_words.specs.Letter.{letter, Small}
use Rattle.states_machine.specs.Action.{Action}
use Rattle.states_machine.specs.Edge.{edge}
use Rattle.states_machine.specs.Settle.{Index}
use Rattle.states_words.specs.Explicit.{packed, silent_word}
use Rattle.states_positions.specs.Row.{SUM-LIMIT}
use Rattle.states_words.specs.inner.Rows.{Edge, StateRow}

-- where the letter x leads by the edges, and to the state d where no edge has it
unfoldable pub lookup : ℕ → List Edge → ℕ → ℕ
lookup d [] x = d
lookup d (e ∷ es) x = cond (eqb e.letter x) e.target (lookup d es x)

-- the letters rise from a on, and letters and targets are in range
unfoldable pub Rising : ℕ → ℕ → List Edge → Type 0
Rising n a [] = Unit
Rising n a (e ∷ es) = (a ≤ e.letter) × (e.letter < 2 ^ 27) × (e.target < n) × Rising n (suc e.letter) es

-- a row of an automaton of n states
pub record Fine (n : ℕ) (r : StateRow) : Type 0 where
  pub silent_state : r.silent ≤ n
  pub rising : Rising n 0 r.edges

-- the edges stand from edge e on
unfoldable pub Standing : List ℕ → ℕ → ℕ → List Edge → Type 0
Standing ws n e [] = Unit
Standing ws n e (x ∷ xs) =
    (get_or ws (6 * n + 1 + 2 * e) 0 ≡ x.letter) × (get_or ws (6 * n + 2 + 2 * e) 0 ≡ x.target) ×
    Standing ws n (suc e) xs

-- how many edges the states below k have
unfoldable pub edges_below : (ℕ → StateRow) → ℕ → ℕ
edges_below row zero = 0
edges_below row (suc k) = edges_below row k + length (row k).edges

-- the words show the rows of the states below c, their edges one after the other
pub record ShownRows (ws : List ℕ) (n c : ℕ) (row : ℕ → StateRow) : Type 0 where
  pub silents : (p : ℕ) → p < c → get_or ws p 0 ≡ (row p).silent
  pub firsts : (p : ℕ) → p < c → get_or ws (5 * n + p) 0 ≡ edges_below row p
  pub edges : (p : ℕ) → p < c → Standing ws n (edges_below row p) (row p).edges

-- how many states the automata of two sheets have at most, with the dead state
abbrev pub STATES : ℕ
STATES = 8193

-- the words have room for n states and e edges
pub record Room (ws : List ℕ) (n e : ℕ) : Type 0 where
  pub few : n ≤ STATES
  pub words : 6 * n + 1 + 2 * e ≤ length ws
  pub small : 6 * n + 1 + 2 * e < SUM-LIMIT

-- the words are an automaton of n states, with these rows
pub record Automaton (ws : List ℕ) (n : ℕ) (row : ℕ → StateRow) : Type 0 where
  pub some : 0 < n
  pub few : n ≤ STATES
  pub room : 6 * n + 1 + 2 * edges_below row n ≤ length ws
  pub shown : ShownRows ws n n row
  pub last : get_or ws (6 * n) 0 ≡ edges_below row n
  pub fine : (p : ℕ) → p < n → Fine n (row p)

-- the row of a state shows its action
pub record Right (N : Numbers) (n o : ℕ) {K : ℕ} (a : Action (Index K) (Unit {0})) (r : StateRow) : Type 0 where
  pub fine : Fine n r
  pub silent_right : r.silent ≡ silent_word o n a
  pub edges_right : (m : Move) → Small N m → lookup (n - 1) r.edges (letter N m) ≡ packed o n (edge a m)
  pub no_others : (x : ℕ) → ((m : Move) → Small N m → letter N m ≡ x → ⊥) → lookup (n - 1) r.edges x ≡ n - 1
