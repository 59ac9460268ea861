-- The explicit automaton of a machine, read off words: the states from o on, then the end, and the dead state n - 1,
-- which automata in the same words share.
use Rattle.std.specs.Prelude.{◌≡◌, List, ℕ, suc, ◌+◌, ◌-◌, ◌<◌, get_or}
use Rattle.language.specs.declared.Numbers.{Numbers}
use Rattle.language.specs.Move.{Move}
use Rattle.states_words.specs.Letter.{letter, Small}
use Rattle.states_machine.specs.Action.{Next, to, out, dead, Action, go, say, hear}
use Rattle.states_machine.specs.Edge.{edge}
use Rattle.states_machine.specs.Settle.{Index}
use Rattle.dfa.specs.Graph.{δ}

-- the state to which a transition leads
unfoldable pub packed : (o n : ℕ) {K : ℕ} → Next (Index K) (Unit {0}) → ℕ
packed o n (to s) = o + s.0
packed o n {K} (out a) = o + K
packed o n dead = n - 1

-- the word of a state in the list of silent steps: 0 where it is not silent, else 1 more than the next state
unfoldable pub silent_word : (o n : ℕ) {K : ℕ} → Action (Index K) (Unit {0}) → ℕ
silent_word o n (go x) = suc (packed o n x)
silent_word o n (say m x) = 0
silent_word o n (hear l k) = 0

-- the silent steps S and the graph G show a machine of K states
pub record Explicit (N : Numbers) (S G : List ℕ) (n o : ℕ) {K : ℕ} (step : Index K → Action (Index K) (Unit {0})) :
    Type 0 where
  pub room : o + K + 1 < n
  pub silent : (k : Index K) → get_or S (o + k.0) 0 ≡ silent_word o n (step k)
  pub end_stays : get_or S (o + K) 0 ≡ 0
  pub dead_stays : get_or S (n - 1) 0 ≡ 0
  pub edges : (k : Index K) (m : Move) → Small N m → δ G n (o + k.0) (letter N m) ≡ packed o n (edge (step k) m)
  -- a letter of no move leads to the dead state
  pub others : (k : Index K) (x : ℕ) → ((m : Move) → Small N m → letter N m ≡ x → ⊥) → δ G n (o + k.0) x ≡ n - 1
  pub end_edges : (m : ℕ) → δ G n (o + K) m ≡ n - 1
  pub dead_edges : (m : ℕ) → δ G n (n - 1) m ≡ n - 1
