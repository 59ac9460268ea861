-- Silent steps, read off the words S: word p is 0 where the state p is not silent, else k + 1, where p goes silently to
-- the state k. Assumes nothing.
use Rattle.std.specs.Prelude.{cond, List, ◌≡◌, ◌-◌, ◌<◌, ◌≤◌, suc, zero, ℕ, eqb, get_or, length}
use Rattle.dfa.specs.Graph.{letter, target}

-- one silent step; a state that is not silent stays
abbrev pub stepped : List ℕ → ℕ → ℕ
stepped S x = cond (eqb (get_or S x 0) 0) x (get_or S x 0 - 1)

-- m silent steps from x
unfoldable pub moved : List ℕ → ℕ → ℕ → ℕ
moved S zero x = x
moved S (suc m) x = stepped S (moved S m x)

-- x settles at y: at the state that is not silent on its path, or at the dead state n - 1 where there is none
pub record Settled (S : List ℕ) (n x y : ℕ) : Type 0 where
  pub steps : ℕ
  pub enough : n ≤ steps
  pub ends : y ≡ cond (eqb (get_or S (moved S steps x) 0) 0) (moved S steps x) (n - 1)

-- the silent words lead to states
abbrev pub Silent : ℕ → List ℕ → Type 0
Silent n S = (p : ℕ) → p < n → get_or S p 0 ≤ n

-- G' is the graph G with every target settled
pub record Settling (n : ℕ) (S G G' : List ℕ) : Type 0 where
  pub size : length G' ≡ length G
  pub first : (p : ℕ) → p ≤ n → get_or G' p 0 ≡ get_or G p 0
  pub letters : (i : ℕ) → letter G' n i ≡ letter G n i
  pub targets : (i : ℕ) → get_or G 0 0 ≤ i → i < get_or G n 0 → Settled S n (target G n i) (target G' n i)
