-- Levels of the queue: entries whose words have as many letters. Assumes nothing.
use Rattle.std.specs.Prelude.{Bool, List, ◌≡◌, ◌*◌, ◌+◌, ◌<◌, ◌≤◌, ℕ, get_or, length, Result, Ok, Err}
use Rattle.std.specs.Bool.{beq}
use Rattle.dfa.specs.Word.{accepting}
use Rattle.dfa_difference.specs.Outcome.{ToldApart}
use Rattle.dfa_search.specs.Spelled.{Spelled}
use Rattle.dfa_difference.specs.declared.Task.{Task}
use Rattle.dfa_difference.specs.inner.State.{State}

-- whether both states of entry k accept, or neither
abbrev pub alike_at : ℕ → List ℕ → ℕ → ℕ → ℕ → Bool
alike_at n ws k f g = beq (accepting f g (get_or ws (n + 4 * k) 0)) (accepting f g (get_or ws (n + 4 * k + 1) 0))

-- the entries from `from` on and before `end` have words of `depth` letters
abbrev pub Deep : ℕ → List ℕ → ℕ → ℕ → ℕ → Type 0
Deep n ws from end depth = (k : ℕ) → from ≤ k → k < end → (u : List ℕ) → Spelled n ws k u → length u ≡ depth

-- they have words of fewer than `most` letters
abbrev pub Shallow : ℕ → List ℕ → ℕ → ℕ → ℕ → Type 0
Shallow n ws from end most = (k : ℕ) → from ≤ k → k < end → (u : List ℕ) → Spelled n ws k u → length u < most

-- the entries before `end` stay, and those behind it come from those from `from` on
pub record Layer (n from end tail : ℕ) (ws ws' : List ℕ) : Type 0 where
  pub more : end ≤ tail
  pub stays : (i : ℕ) → n ≤ i → i < n + 4 * end → get_or ws' i 0 ≡ get_or ws i 0
  pub least : (k : ℕ) → end ≤ k → k < tail → from ≤ get_or ws' (n + 4 * k + 2) 0
  pub below : (k : ℕ) → end ≤ k → k < tail → get_or ws' (n + 4 * k + 2) 0 < end

-- what expand_level ensures: the word of entry k is the first that tells the two states apart; or all of the level are
-- processed, and the entries behind it are the next one
abbrev pub Leveled : List ℕ → Task → ℕ → ℕ → List ℕ → List ℕ → Result ℕ ℕ → Type 0
Leveled G t from end ws ws' (Err k) = ToldApart G t ws' k
Leveled G t from end ws ws' (Ok tail) = State G t ws' end tail × Layer t.n from end tail ws ws'
