-- The automaton in the words, with its edges in lists by their targets: the word of a target holds, times 2^13, the next
-- edge of the list, as 1 more than its number, and 0 ends a list. Assumes nothing.
use Rattle.std.specs.Prelude.{List, ◌≢◌, ◌≡◌, ◌*◌, ◌+◌, ◌-◌, ◌/◌, ◌<◌, ◌≤◌, ℕ, get_or, length}
use Rattle.dfa.specs.Graph.{Graph, letter, target}
use Rattle.dfa_classes.specs.Places.{first_at, head_at, letter_at, target_at}

-- h is 1 more than the last edge below b that leads to t, and 0 where there is none
pub record Latest (G : List ℕ) (n t b h : ℕ) : Type 0 where
  pub within : h ≤ b
  pub above : 0 < h → get_or G 0 0 < h
  pub leads : 0 < h → target G n (h - 1) ≡ t
  pub later : (e : ℕ) → get_or G 0 0 ≤ e → h ≤ e → e < b → target G n e ≢ t

-- how large n and g are, and that there are words enough
pub record Sized (G : List ℕ) (n g : ℕ) (ws : List ℕ) : Type 0 where
  pub some : 0 < n
  pub few : n ≤ 8192
  pub edges : get_or G n 0 ≤ 262144
  pub behind : g ≡ 6 * n + 1 + 2 * get_or G n 0
  pub room : g + 4 * n ≤ length ws

-- the words hold the graph G, and its edges in lists
pub record Packed (G : List ℕ) (n g : ℕ) (ws : List ℕ) : Type 0 where
  pub graph : Graph G n
  pub sized : Sized G n g ws
  pub firsts : (i : ℕ) → i ≤ n → first_at n ws i ≡ get_or G i 0
  pub letters : (e : ℕ) → e < get_or G n 0 → letter_at n ws e ≡ letter G n e
  pub targets : (e : ℕ) → get_or G 0 0 ≤ e → e < get_or G n 0 → target_at n ws e ≡ target G n e
  pub heads : (t : ℕ) → t < n → Latest G n t (get_or G n 0) (head_at g ws t)
  pub nexts : (e : ℕ) → get_or G 0 0 ≤ e → e < get_or G n 0
      → Latest G n (target G n e) e (get_or ws (6 * n + 2 + 2 * e) 0 / 8192)
