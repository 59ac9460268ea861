-- The loops over the entries of a word. Assumes nothing.
use Rattle.std.specs.Prelude.{List, ◌≡◌, ◌*◌, ◌+◌, ◌≤◌, ℕ, get_or, length, take}
use Rattle.dfa.specs.Graph.{rest}
use Rattle.dfa_search.specs.Spelled.{Spelled, Written}

-- depth's loop
pub record Counting (n : ℕ) (ws : List ℕ) (u : List ℕ) (d e : ℕ) : Type 0 where
  pub left : List ℕ
  pub spelled : Spelled n ws e left
  pub total : length u ≡ d + length left

-- what stands from i on makes u of the word that is left
pub record Tracing (n : ℕ) (ws u out : List ℕ) (i e : ℕ) : Type 0 where
  pub left : List ℕ
  pub spelled : Spelled n ws e left
  pub place : i ≡ length left
  pub done : (o : List ℕ) → ((x : ℕ) → i ≤ x → get_or o x 0 ≡ get_or out x 0) → Written left o → Written u o

-- d is the length of the word of entry k, and its letters from i on are written
pub record Spells (n k d : ℕ) (ws₀ ws : List ℕ) (i e : ℕ) : Type 0 where
  pub len : length ws ≡ length ws₀
  pub front : take (5 * n) ws ≡ take (5 * n) ws₀
  pub fits : i ≤ n
  pub low : e ≤ k
  pub word : (u : List ℕ) → Spelled n (take (5 * n) ws₀) k u → (d ≡ length u) × Tracing n (take (5 * n) ws₀) u
      (rest (5 * n) ws) i e
