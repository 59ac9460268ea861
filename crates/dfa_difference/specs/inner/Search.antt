-- The loops over the entries of a level, and over the levels. Assumes nothing.
use Rattle.std.specs.Prelude.{true, List, ◌≡◌, ◌*◌, ◌+◌, ◌<◌, ◌≤◌, ℕ, length, take}
use Rattle.dfa.specs.Graph.{rest}
use Rattle.dfa_difference.specs.Outcome.{Setting}
use Rattle.dfa_difference.specs.declared.Task.{Task}
use Rattle.dfa_difference.specs.inner.Level.{Deep, Layer, alike_at}
use Rattle.dfa_difference.specs.inner.State.{State}

-- expand_level's loop
pub record Leveling (t : Task) (from end : ℕ) (ws₀ ws : List ℕ) (head tail : ℕ) : Type 0 where
  pub state : State (rest (5 * t.n) ws) t (take (5 * t.n) ws) head tail
  pub layer : Layer t.n from end tail (take (5 * t.n) ws₀) (take (5 * t.n) ws)
  pub begun : from ≤ head
  pub within : head ≤ end
  pub len : length ws ≡ length ws₀
  pub graph : rest (5 * t.n) ws ≡ rest (5 * t.n) ws₀
  pub set_at : Setting (rest (5 * t.n) ws) t

-- test_level's loop: the entries from `from` on and before head are alike
pub record Testing (t : Task) (from : ℕ) (ws : List ℕ) (head : ℕ) : Type 0 where
  pub begun : from ≤ head
  pub alike : (k : ℕ) → from ≤ k → k < head → alike_at t.n ws k t.f t.g ≡ true

-- run's loop: the words of the entries left have `left` letters less than `most`
pub record Runs (t : Task) (ws₀ ws : List ℕ) (head tail left : ℕ) : Type 0 where
  pub state : State (rest (5 * t.n) ws) t (take (5 * t.n) ws) head tail
  pub depth : ℕ
  pub sum : depth + left ≡ t.most
  pub deep : Deep t.n (take (5 * t.n) ws) head tail depth
  pub len : length ws ≡ length ws₀
  pub graph : rest (5 * t.n) ws ≡ rest (5 * t.n) ws₀
  pub set_at : Setting (rest (5 * t.n) ws) t
