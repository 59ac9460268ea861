-- Settling in one pass. Word n + p is the end of the path of the state p: 0 while it is not found, else one more than
-- the state at which p settles. Assumes nothing.
use Rattle.std.specs.Prelude.{cond, List, ◌≢◌, ◌⊎◌, ◌≡◌, ◌*◌, ◌+◌, ◌-◌, ◌<◌, ◌≤◌, suc, zero, ℕ, eqb, get_or, length}
use Rattle.dfa_silent.specs.Silent.{Settled, Silent, moved}
use Rattle.dfa.specs.Frame.{SameBelow, SameFrom}

-- room for n silent words, and for n ends behind them
pub record Steps (n : ℕ) (ws : List ℕ) : Type 0 where
  pub few : n ≤ 8193
  pub room : n + n ≤ length ws
  pub small : Silent n ws

-- only the ends have changed
pub record Only (n : ℕ) (ws₀ ws : List ℕ) : Type 0 where
  pub len : length ws ≡ length ws₀
  pub low : SameBelow n ws₀ ws
  pub high : SameFrom (n + n) ws₀ ws

-- the end that p alone tells: a state that is not silent settles where it is
abbrev pub own : List ℕ → ℕ → ℕ
own S p = cond (eqb (get_or S p 0) 0) (p + 1) 0

-- the states below i have the ends that they alone tell
pub record Begun (n : ℕ) (ws₀ ws : List ℕ) (i : ℕ) : Type 0 where
  pub le : i ≤ n
  pub only : Only n ws₀ ws
  pub done : (p : ℕ) → p < i → get_or ws (n + p) 0 ≡ own ws₀ p

-- v is the end of the path of x, found or not: only that of a silent state is not, and one that is found is right
pub record PathOf (S : List ℕ) (n x v : ℕ) : Type 0 where
  pub silent : v ≡ 0 → get_or S x 0 ≢ 0
  pub small : v ≤ n
  pub right : v ≢ 0 → Settled S n x (v - 1)

-- every state has an end, found or not
pub record Paths (n : ℕ) (ws : List ℕ) : Type 0 where
  pub steps : Steps n ws
  pub each : (x : ℕ) → x < n → PathOf ws n x (get_or ws (n + x) 0)

-- q is one of the first m states from p on
pub record Among (S : List ℕ) (p m q : ℕ) : Type 0 where
  pub after : ℕ
  pub before : after < m
  pub is : q ≡ moved S after p

-- some steps from p lead to x; the states before it had the end old and have the end new, no two of them are the same,
-- and the other ends stay
pub record Replaced (S : List ℕ) (n p old new x : ℕ) (ws₀ ws : List ℕ) : Type 0 where
  pub steps : ℕ
  pub here : x ≡ moved S steps p
  pub was : (i : ℕ) → i < steps → get_or ws₀ (n + moved S i p) 0 ≡ old
  pub got : (i : ℕ) → i < steps → get_or ws (n + moved S i p) 0 ≡ new
  pub apart : (i j : ℕ) → i < j → j < steps → moved S i p ≢ moved S j p
  pub each : (q : ℕ) → (get_or ws (n + q) 0 ≡ get_or ws₀ (n + q) 0) ⊎ Among S p steps q

-- the loop of replace is at x; S may be any words that have the same silent words
pub record Replacing (n p old new x : ℕ) (ws₀ ws : List ℕ) : Type 0 where
  pub only : Only n ws₀ ws
  pub below : x < n
  pub from : (S : List ℕ) → SameBelow n S ws₀ → Replaced S n p old new x ws₀ ws

-- 1 where a is not v
abbrev pub differs : ℕ → ℕ → ℕ
differs a v = cond (eqb a v) 0 1

-- how many of the first k states have another end than v
unfoldable pub unlike : List ℕ → ℕ → ℕ → ℕ → ℕ
unlike ws n v zero = 0
unlike ws n v (suc k) = differs (get_or ws (n + k) 0) v + unlike ws n v k

-- the end of the path of p is found, and so is each that was
pub record PathFound (n p : ℕ) (ws₀ ws : List ℕ) : Type 0 where
  pub only : Only n ws₀ ws
  pub paths : Paths n ws
  pub kept : (q : ℕ) → q < n → get_or ws₀ (n + q) 0 ≢ 0 → get_or ws (n + q) 0 ≢ 0
  pub itself : get_or ws (n + p) 0 ≢ 0

-- the ends of the states below i are found
pub record Through (n : ℕ) (ws₀ ws : List ℕ) (i : ℕ) : Type 0 where
  pub le : i ≤ n
  pub only : Only n ws₀ ws
  pub paths : Paths n ws
  pub done : (p : ℕ) → p < i → get_or ws (n + p) 0 ≢ 0

-- every end is found
pub record Whole (n : ℕ) (ws : List ℕ) : Type 0 where
  pub few : n ≤ 8193
  pub room : n + n ≤ length ws
  pub some : (p : ℕ) → p < n → 0 < get_or ws (n + p) 0
  pub below : (p : ℕ) → p < n → get_or ws (n + p) 0 ≤ n

-- where x settles, by its end
abbrev pub ended : List ℕ → ℕ → ℕ → ℕ
ended ws n x = get_or ws (n + x) 0 - 1

-- the edges below i lead to where their targets settle
pub record Redirected (n : ℕ) (ws₀ ws : List ℕ) (i : ℕ) : Type 0 where
  pub start : get_or ws₀ (5 * n) 0 ≤ i
  pub le : i ≤ get_or ws₀ (5 * n + n) 0
  pub len : length ws ≡ length ws₀
  pub low : SameBelow (5 * n + n + 1) ws₀ ws
  pub letters : (j : ℕ) → get_or ws (5 * n + n + 1 + 2 * j) 0 ≡ get_or ws₀ (5 * n + n + 1 + 2 * j) 0
  pub past : (j : ℕ) → get_or ws₀ (5 * n) 0 ≤ j → j < i
      → get_or ws (5 * n + n + 2 + 2 * j) 0 ≡ ended ws₀ n (get_or ws₀ (5 * n + n + 2 + 2 * j) 0)
  pub later : (j : ℕ) → i ≤ j → get_or ws (5 * n + n + 2 + 2 * j) 0 ≡ get_or ws₀ (5 * n + n + 2 + 2 * j) 0
