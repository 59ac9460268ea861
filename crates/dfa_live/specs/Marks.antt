-- Live states marked in the words. Assumes nothing.
use Rattle.std.specs.Prelude.{List, ◌↔◌, ◌≡◌, ◌*◌, ◌+◌, ◌<◌, ◌≤◌, ℕ, get_or, length}
use Rattle.dfa.specs.Graph.{rest}
use Rattle.dfa.specs.Live.{Live, Single}

-- the live states can be marked: the graph has few edges, and there is a word for each, of which 3 n stand before it
pub record Markable (n f : ℕ) (ws : List ℕ) : Type 0 where
  pub single : Single (rest (5 * n) ws) n f
  pub end : f < n
  pub few : get_or (rest (5 * n) ws) n 0 ≤ 200000
  pub room : 6 * n + 1 + 2 * get_or (rest (5 * n) ws) n 0 ≤ length ws
  pub link_room : 3 * n + 1 + 3 * get_or (rest (5 * n) ws) n 0 ≤ length ws

-- word n + p is 1 exactly where the state p is live
abbrev pub Marks : List ℕ → ℕ → ℕ → List ℕ → Type 0
Marks G n f ws = (p : ℕ) → p < n → (get_or ws (n + p) 0 ≡ 1) ↔ Live G n f p
