-- The edges put in lists by their targets. Assumes nothing.
use Rattle.std.specs.Prelude.{List, ◌⊎◌, ◌≡◌, ◌%◌, ◌*◌, ◌+◌, ◌/◌, ◌<◌, ◌≤◌, ℕ, get_or, length}
use Rattle.dfa.specs.Graph.{Graph, letter, target}
use Rattle.dfa_classes.specs.Packed.{Latest, Sized}
use Rattle.dfa_classes.specs.Places.{head_at}

-- so many words from a place on are 0, the others stay
pub record Zeroed (from size : ℕ) (ws ws' : List ℕ) : Type 0 where
  pub len : length ws' ≡ length ws
  pub zero : (i : ℕ) → i < size → get_or ws' (from + i) 0 ≡ 0
  pub keeps : (x : ℕ) → (x < from) ⊎ (from + size ≤ x) → get_or ws' x 0 ≡ get_or ws x 0

-- the words hold the graph G, of which the edges below b are in lists; beside them only heads have changed
pub record Linking (G : List ℕ) (n g : ℕ) (ws₀ : List ℕ) (b : ℕ) (ws : List ℕ) : Type 0 where
  pub graph : Graph G n
  pub sized : Sized G n g ws
  pub len : length ws ≡ length ws₀
  pub firsts : (i : ℕ) → i ≤ n → get_or ws (5 * n + i) 0 ≡ get_or G i 0
  pub letters : (e : ℕ) → e < get_or G n 0 → get_or ws (6 * n + 1 + 2 * e) 0 ≡ letter G n e
  pub targets : (e : ℕ) → get_or G 0 0 ≤ e → e < get_or G n 0 → get_or ws (6 * n + 2 + 2 * e) 0 % 8192 ≡ target G n e
  pub heads : (t : ℕ) → t < n → Latest G n t b (head_at g ws t)
  pub nexts : (e : ℕ) → get_or G 0 0 ≤ e → e < b → Latest G n (target G n e) e (get_or ws (6 * n + 2 + 2 * e) 0 / 8192)
  pub low : get_or G 0 0 ≤ b
  pub high : b ≤ get_or G n 0
  pub rest : (x : ℕ) → (x < 5 * n) ⊎ (g + n ≤ x) → get_or ws x 0 ≡ get_or ws₀ x 0

pub record ToLink (n g : ℕ) (ws : List ℕ) : Type 0 where
  pub graph : List ℕ
  pub linking : Linking graph n g ws (get_or graph 0 0) ws
