-- The states of an automaton sorted into classes. Assumes nothing.
use Rattle.std.specs.Prelude.{List, ◌≡◌, ◌*◌, ◌+◌, ◌-◌, ◌<◌, ◌≤◌, ℕ, get_or, length}
use Rattle.dfa.specs.Graph.{rest, δ}
use Rattle.dfa.specs.Live.{Single}
use Rattle.dfa.specs.Word.{accepting}
use Rattle.dfa_smallest.specs.Classes.{Classes}
use Rattle.dfa_classes.specs.Packed.{Packed}
use Rattle.dfa_classes.specs.Places.{class_at}

-- the automaton has few states and edges, and there are words enough: 10 n + 1 and two for each edge
pub record Sortable (n f : ℕ) (ws : List ℕ) : Type 0 where
  pub single : Single (rest (5 * n) ws) n f
  pub low : f < n
  pub few : n ≤ 8192
  pub edges : get_or (rest (5 * n) ws) n 0 ≤ 262144
  pub room : 10 * n + 1 + 2 * get_or (rest (5 * n) ws) n 0 ≤ length ws

-- word p, below n, is the class of the state p, below count: two states have one class exactly if they accept the same words.
-- The automaton still stands in the words, with its edges in lists
pub record Sorted (G : List ℕ) (n f count : ℕ) (ws : List ℕ) : Type 0 where
  pub packed : Packed G n (6 * n + 1 + 2 * get_or G n 0) ws
  pub own : ℕ → ℕ
  pub class : (p : ℕ) → p < n → class_at ws p ≡ own p
  pub low : (p : ℕ) → p < n → own p < count
  pub few : count ≤ n
  pub classes : Classes (δ G n) (accepting f f) n (n - 1) own
