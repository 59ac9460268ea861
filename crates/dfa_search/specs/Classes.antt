-- The classes as parents, in the words below n. Assumes nothing.
use Rattle.std.specs.Prelude.{cond, List, ◌≡◌, ◌*◌, ◌<◌, ◌^◌, ◌≤◌, ℕ, eqb, ltb, get_or, length, set}
use Rattle.dfa.specs.Frame.{SameFrom}

-- the class of a becomes that of b
abbrev pub merge : (ℕ → ℕ) → ℕ → ℕ → ℕ → ℕ
merge rep a b x = cond (eqb (rep x) (rep a)) (rep b) (rep x)

-- no parent is above its child, and there is room for n parents and n entries
pub record Low (n : ℕ) (ws : List ℕ) : Type 0 where
  pub room : 5 * n ≤ length ws
  pub few : n ≤ 8193
  pub low : (x : ℕ) → x < n → get_or ws x 0 ≤ x

-- rep is the root of each state
pub record Rep (n : ℕ) (ws : List ℕ) (rep : ℕ → ℕ) : Type 0 where
  pub up : (x : ℕ) → x < n → rep (get_or ws x 0) ≡ rep x
  pub root : (x : ℕ) → x < n → get_or ws x 0 ≡ x → rep x ≡ x

-- two roots are linked, the smaller over the larger
abbrev pub linked : List ℕ → ℕ → ℕ → List ℕ
linked ws a b = cond (ltb a b) (set ws b a) (set ws a b)

-- what find ensures
pub record Found (n x r : ℕ) (ws ws' : List ℕ) : Type 0 where
  pub below : r < n
  pub low : Low n ws'
  pub keep : SameFrom n ws ws'
  pub rep : (rep : ℕ → ℕ) → Rep n ws rep → (r ≡ rep x) × Rep n ws' rep

-- the parents from x down: none is above its child
pub record Sinks (x : ℕ) (ws : List ℕ) : Type 0 where
  pub inside : x < length ws
  pub small : x < 2 ^ 32
  pub sinks : (y : ℕ) → y ≤ x → get_or ws y 0 ≤ y

-- y is in the class of x
pub record Classed (n x : ℕ) (ws₀ ws : List ℕ) (y : ℕ) : Type 0 where
  pub low : Low n ws
  pub keep : SameFrom n ws₀ ws
  pub rep : (rep : ℕ → ℕ) → Rep n ws₀ rep → (rep y ≡ rep x) × Rep n ws rep

-- find's loop
pub record Finding (x : ℕ) (ws₀ ws : List ℕ) (y : ℕ) : Type 0 where
  pub below : y ≤ x
  pub sinks : Sinks x ws
  pub len : length ws ≡ length ws₀
  pub class : (n : ℕ) → Low n ws₀ → x < n → Classed n x ws₀ ws y
