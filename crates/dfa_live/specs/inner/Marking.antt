-- Marking live states. Word k holds entry k of the queue, word n + p is 1 where the state p is marked, else 0.
-- Assumes nothing.
use Rattle.std.specs.Prelude.{cond, List, ◌≡◌, ◌%◌, ◌*◌, ◌+◌, ◌-◌, ◌<◌, ◌≤◌, suc, zero, ℕ, eqb, get_or, length, set}
use Rattle.dfa.specs.Graph.{EdgeOf, target}
use Rattle.dfa.specs.Live.{Live, Single}
use Rattle.dfa.specs.Frame.{SameFrom}
use Rattle.dfa_live.specs.inner.Links.{Held, Linked, head_at}

-- entry k of the queue, and the mark of the state p
abbrev pub entry_at : ℕ → List ℕ → ℕ → ℕ
entry_at n ws k = get_or ws k 0 % 16384

abbrev pub mark_at : ℕ → List ℕ → ℕ → ℕ
mark_at n ws p = get_or ws (n + p) 0

-- the state p is marked and queued, where it is not marked yet
abbrev pub noted : List ℕ → ℕ → ℕ → ℕ → List ℕ
noted ws n tail p =
    cond (eqb (mark_at n ws p) 1) ws (set (set ws (n + p) 1) tail (head_at (set ws (n + p) 1) tail * 16384 + p))

abbrev pub tail_after : List ℕ → ℕ → ℕ → ℕ → ℕ
tail_after ws n tail p = cond (eqb (mark_at n ws p) 1) tail (tail + 1)

-- the sum of k words from a on
unfoldable pub sum_from : List ℕ → ℕ → ℕ → ℕ
sum_from ws a zero = 0
sum_from ws a (suc k) = get_or ws (a + k) 0 + sum_from ws a k

-- the queue has the marked states, each once, and all are live
pub record Queued (G : List ℕ) (n f : ℕ) (ws : List ℕ) (tail : ℕ) : Type 0 where
  pub bits : (p : ℕ) → p < n → mark_at n ws p ≤ 1
  pub count : sum_from ws n n ≡ tail
  pub states : (k : ℕ) → k < tail → entry_at n ws k < n
  pub marked : (k : ℕ) → k < tail → mark_at n ws (entry_at n ws k) ≡ 1
  pub place : (p : ℕ) → p < n → mark_at n ws p ≡ 1 → (k : ℕ) × ((k < tail) × (entry_at n ws k ≡ p))
  pub live : (p : ℕ) → p < n → mark_at n ws p ≡ 1 → Live G n f p

-- the first `head` entries are taken; of the edges that lead to the last of them, those below `next` are left
pub record Taken (G : List ℕ) (n : ℕ) (ws : List ℕ) (head tail next : ℕ) : Type 0 where
  pub within : head ≤ tail
  pub done : (k : ℕ) → k < head → (p e : ℕ) → EdgeOf G n p e → target G n e ≡ entry_at n ws k
      → (k + 1 ≡ head → next ≤ e) → mark_at n ws p ≡ 1
  pub some : 0 < next → 0 < head
  pub above : 0 < next → get_or G 0 0 < next
  pub below : next ≤ get_or G n 0
  pub leads : 0 < next → target G n (next - 1) ≡ entry_at n ws (head - 1)

-- the edges are linked, and no state is marked
pub record Unmarked (n f : ℕ) (ws : List ℕ) : Type 0 where
  pub graph : List ℕ
  pub held : Held graph n ws
  pub single : Single graph n f
  pub linked : Linked graph n ws (get_or graph n 0)
  pub end : f < n
  pub none : (p : ℕ) → p < n → mark_at n ws p ≡ 0

-- the loop of mark
pub record Marking (G : List ℕ) (n f : ℕ) (ws₀ ws : List ℕ) (head tail next : ℕ) : Type 0 where
  pub held : Held G n ws
  pub linked : Linked G n ws (get_or G n 0)
  pub queued : Queued G n f ws tail
  pub taken : Taken G n ws head tail next
  pub start : mark_at n ws f ≡ 1
  pub len : length ws ≡ length ws₀
  pub keep : SameFrom (2 * n) ws₀ ws
