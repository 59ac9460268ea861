-- Classes numbered breadth first. Assumes nothing.
use Rattle.std.specs.Prelude.{List, ◌≢◌, ◌⊎◌, ◌≡◌, ◌*◌, ◌+◌, ◌-◌, ◌<◌, ◌≤◌, ℕ, get_or, length, set}
use Rattle.dfa.specs.Graph.{EdgeOf, letter, target, δ}
use Rattle.dfa_smallest.specs.Numbered.{Met}
use Rattle.dfa_classes.specs.Packed.{Packed}
use Rattle.dfa_classes.specs.Places.{class_at, number_at, state_at}
use Rattle.dfa_numbering.specs.Positions.{Countable}

-- what note does
pub data Noted (n dead t k : ℕ) (ws : List ℕ) (r : ℕ) (ws' : List ℕ) : Type 0 where
  lost : class_at ws t ≡ dead → r ≡ k → ws' ≡ ws → Noted n dead t k ws r ws'
  known : class_at ws t ≢ dead → 0 < number_at n ws (class_at ws t) → r ≡ k → ws' ≡ ws → Noted n dead t k ws r ws'
  fresh : class_at ws t ≢ dead → number_at n ws (class_at ws t) ≡ 0 → r ≡ k + 1
      → ws' ≡ set (set ws (n + class_at ws t) (k + 1)) (2 * n + k) t → Noted n dead t k ws r ws'

-- class k was met from the class numbered j by the letter of an edge below e
abbrev pub ByEdge : List ℕ → ℕ → (ℕ → ℕ) → (ℕ → ℕ) → ℕ → ℕ → ℕ → ℕ → Type 0
ByEdge G n parent by p j e k =
    (parent k ≡ j) × ((f : ℕ) × (EdgeOf G n p f × ((f < e) × (by k ≡ letter G n f))))

-- `tail` classes are numbered; the edges of the first `head` of them are done, and of the next those below e
pub record Counting (G : List ℕ) (n g : ℕ) (own : ℕ → ℕ) (ws : List ℕ) (head e tail : ℕ) : Type 0 where
  pub packed : Packed G n g ws
  pub class : (p : ℕ) → p < n → class_at ws p ≡ own p
  pub own_low : (p : ℕ) → p < n → own p < n
  pub parent : ℕ → ℕ
  pub by : ℕ → ℕ
  pub some : 0 < tail
  pub zero : state_at n ws 0 ≡ 0
  pub low : (k : ℕ) → k < tail → state_at n ws k < n
  pub live : (k : ℕ) → k < tail → own (state_at n ws k) ≢ own (n - 1)
  pub earlier : (k : ℕ) → 0 < k → k < tail → parent k < k
  pub leads : (k : ℕ) → 0 < k → k < tail → δ G n (state_at n ws (parent k)) (by k) ≡ state_at n ws k
  pub order : (j k : ℕ) → 0 < j → j < k → k < tail
      → (parent j < parent k) ⊎ ((parent j ≡ parent k) × (by j < by k))
  pub numbers : (k : ℕ) → k < tail → number_at n ws (own (state_at n ws k)) ≡ k + 1
  pub only : (c : ℕ) → c < n → 0 < number_at n ws c
      → (k : ℕ) × ((k < tail) × ((number_at n ws c ≡ k + 1) × (own (state_at n ws k) ≡ c)))
  pub recent : (k : ℕ) → 0 < k → k < tail
      → (parent k < head) ⊎ ByEdge G n parent by (state_at n ws head) head e k
  pub within : head ≤ tail
  pub closed : (j : ℕ) → j < head → (m : ℕ) → own (δ G n (state_at n ws j) m) ≢ own (n - 1)
      → (k : ℕ) × ((k < tail) × ((own (state_at n ws k) ≡ own (δ G n (state_at n ws j) m)) × Met parent by k j m))
  pub done : (f : ℕ) → EdgeOf G n (state_at n ws head) f → f < e → own (target G n f) ≢ own (n - 1)
      → (k : ℕ) × ((k < tail) × ((own (state_at n ws k) ≡ own (target G n f)) × Met parent by k head (letter G n f)))

-- the loop of meet: the edges of p, the state of the class numbered head, below e are done
pub record Meeting (G : List ℕ) (n g : ℕ) (own : ℕ → ℕ) (head p : ℕ) (ws₀ : List ℕ) (e end tail : ℕ) (ws : List ℕ) :
    Type 0 where
  pub counting : Counting G n g own ws head e tail
  pub more : head < tail
  pub state : p ≡ state_at n ws head
  pub first : get_or G p 0 ≤ e
  pub last : end ≡ get_or G (p + 1) 0
  pub within : e ≤ end
  pub len : length ws ≡ length ws₀

pub record ToMeet (n dead p tail : ℕ) (ws : List ℕ) : Type 0 where
  pub graph : List ℕ
  pub g : ℕ
  pub own : ℕ → ℕ
  pub head : ℕ
  pub counting : Counting graph n g own ws head 0 tail
  pub more : head < tail
  pub state : p ≡ state_at n ws head
  pub dead_is : dead ≡ own (n - 1)

-- the loop of number_states: nothing is to be numbered, or the first `head` classes are done
pub record Counted (G : List ℕ) (n g : ℕ) (own : ℕ → ℕ) (ws : List ℕ) (head tail : ℕ) : Type 0 where
  pub countable : Countable G n g own ws
  pub state : ((tail ≡ 0) × (own 0 ≡ own (n - 1))) ⊎ Counting G n g own ws head 0 tail
