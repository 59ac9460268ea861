-- Walking a play's records through an automaton, and the longest beginning whose state is live.
use Rattle.std.specs.Prelude.{◌≡◌, ◌⊎◌, List, map, ℕ, ◌*◌, ◌<◌, ◌≤◌, length, take}
use Rattle.dfa.specs.Graph.{δ, rest, Graph, SameEdges}
use Rattle.dfa.specs.Live.{Live}
use Rattle.dfa_live.specs.Marks.{Marks}
use Rattle.dfa.specs.Reading.{walk}
use Rattle.play_records.specs.Records.{moves, parse}
use Rattle.play_words.specs.declared.walk.Reach.{Reach}
use Rattle.play_records.specs.Bytes.{first_letter}

-- the play has at least k records
pub record AtLeast (play : List ℕ) (k : ℕ) : Type 0 where
  pub records : List (List ℕ)
  pub parsed : parse 0 play ≡ moves records
  pub enough : k ≤ length records

-- the state after the first k records of a play
abbrev pub state_after : List ℕ → ℕ → List (List ℕ) → ℕ → ℕ
state_after G n rs k = walk (δ G n) 0 (take k (map first_letter rs))

-- r is the greatest number of records after which the state is live, and 0 where there is none
pub record Longest (G : List ℕ) (n f : ℕ) (rs : List (List ℕ)) (r : ℕ) : Type 0 where
  pub within : r ≤ length rs
  pub alive : (r ≡ 0) ⊎ Live G n f (state_after G n rs r)
  pub beyond : (k : ℕ) → r < k → k ≤ length rs → Live G n f (state_after G n rs k) → ⊥

-- the words hold the edges of an automaton, and tell its live states
pub record Marked (n f : ℕ) (ws : List ℕ) : Type 0 where
  pub automaton : List ℕ
  pub graph : Graph automaton n
  pub same : SameEdges n automaton (rest (5 * n) ws)
  pub marks : Marks automaton n f ws

-- how far the records can be followed, and the state after all of them
pub record Reached (G : List ℕ) (n f : ℕ) (rs : List (List ℕ)) (r : Reach) : Type 0 where
  pub longest : Longest G n f rs r.count
  pub last : r.last ≡ state_after G n rs (length rs)
