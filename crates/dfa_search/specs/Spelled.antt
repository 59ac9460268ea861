-- The word of an entry of the queue. Entry k is the four words from n + 4 k on: two states, the entry from which it
-- came, and the letter. Assumes nothing.
use Rattle.std.specs.Prelude.{List, [], ◌∷◌, ◌≡◌, ◌*◌, ◌+◌, ◌<◌, ◌≤◌, ℕ, get_or, length, take}
use Rattle.dfa.specs.Graph.{rest}

-- u is the word of entry k, last letter first
pub data Spelled (n : ℕ) (ws : List ℕ) : ℕ → List ℕ → Type 0 where
  none : Spelled n ws 0 []
  more : {u : List ℕ} (k : ℕ) → 0 < k → get_or ws (n + 4 * k + 2) 0 < k → Spelled n ws (get_or ws (n + 4 * k + 2) 0) u
      → Spelled n ws k (get_or ws (n + 4 * k + 3) 0 ∷ u)

-- entry k and those from which it came lie in the list
pub record Trail (n : ℕ) (ws : List ℕ) (k : ℕ) : Type 0 where
  pub few : n ≤ 8193
  pub room : 5 * n ≤ length ws
  pub below : k < n
  pub from : (j : ℕ) → 0 < j → j ≤ k → get_or ws (n + 4 * j + 2) 0 < j

-- the word u, last letter first in u, stands first letter first at the front
abbrev pub Written : List ℕ → List ℕ → Type 0
Written [] out = Unit {0}
Written (m ∷ u) out = (get_or out (length u) 0 ≡ m) × Written u out

-- the word of entry k stands first letter first from 5 n on, r is its length, and the words below 5 n stay
pub record Spelling (n k : ℕ) (ws ws' : List ℕ) (r : ℕ) : Type 0 where
  pub front : take (5 * n) ws' ≡ take (5 * n) ws
  pub word : (u : List ℕ) → Spelled n (take (5 * n) ws) k u → (r ≡ length u) × Written u (rest (5 * n) ws')
