-- The classes that the state 0 leads to, numbered in the words. Assumes nothing.
use Rattle.std.specs.Prelude.{List, ◌≡◌, ◌-◌, ◌<◌, ℕ}
use Rattle.dfa.specs.Graph.{δ}
use Rattle.dfa_smallest.specs.Numbered.{Numbered}
use Rattle.dfa_classes.specs.Packed.{Packed}
use Rattle.dfa_classes.specs.Places.{class_at, number_at, state_at}

-- word p, below n, is the class of the state p
pub record Countable (G : List ℕ) (n g : ℕ) (own : ℕ → ℕ) (ws : List ℕ) : Type 0 where
  pub packed : Packed G n g ws
  pub class : (p : ℕ) → p < n → class_at ws p ≡ own p
  pub own_low : (p : ℕ) → p < n → own p < n

-- and word n + c is 1 more than the number of the class c, word 2 n + k a state of the class with the number k
pub record NumberedIn (G : List ℕ) (n g : ℕ) (own : ℕ → ℕ) (count : ℕ) (ws : List ℕ) : Type 0 where
  pub countable : Countable G n g own ws
  pub numbered : Numbered (δ G n) n (n - 1) own 0 count (state_at n ws) (number_at n ws)
