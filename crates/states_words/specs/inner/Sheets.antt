-- What filling and closing leave in the words: the automaton of one sheet, or of two.
use Rattle.std.specs.Prelude.{◌≡◌, List, ℕ, ◌+◌, ◌*◌, ◌-◌, ◌≤◌, length, get_or}
use Rattle.language.specs.declared.Numbers.{Numbers}
use Rattle.language.specs.Number.{numbers}
use Rattle.language.specs.Ty.{Ty}
use Rattle.language.specs.Term.{Term}
use Rattle.language.specs.Weight.{size}
use Rattle.states_machine.specs.Sheet.{steps}
use Rattle.dfa.specs.Graph.{rest, Graph}
use Rattle.dfa_silent.specs.Silent.{Silent}
use Rattle.states_words.specs.Explicit.{Explicit}

-- so many words suffice for n states of (1 + K) / 2 edges on average: for the graph, which takes 6 words a state, 2 an
-- edge and one more, and for the lists of edges by target, with which it takes 3 words a state, 3 an edge and one more
pub record Suffices (N : Numbers) (n words : ℕ) : Type 0 where
  pub graph : (8 + numbers N) * n ≤ words
  pub links : (10 + 3 * numbers N) * n ≤ 2 * words

-- the words vs, as long as ws, are an automaton of n states and show the machine of M; the dead state has no edges,
-- and on average each of the others has at most (1 + K) / 2
pub record OneSheet (N : Numbers) (T : Ty) (M : Term) (n : ℕ) (ws vs : List ℕ) : Type 0 where
  pub same_length : length vs ≡ length ws
  pub graph : Graph (rest (5 * n) vs) n
  pub silent : Silent n vs
  pub shows : Explicit N vs (rest (5 * n) vs) n 0 (steps T M)
  pub barren : get_or (rest (5 * n) vs) (n - 1) 0 ≡ get_or (rest (5 * n) vs) n 0
  pub few : 2 * get_or (rest (5 * n) vs) n 0 ≤ (1 + numbers N) * size T M

-- the words vs, as long as ws, are an automaton of n states and show the machine of M, and after it that of M'
pub record TwoSheets (N : Numbers) (T : Ty) (M M' : Term) (n : ℕ) (ws vs : List ℕ) : Type 0 where
  pub same_length : length vs ≡ length ws
  pub graph : Graph (rest (5 * n) vs) n
  pub silent : Silent n vs
  pub shows_old : Explicit N vs (rest (5 * n) vs) n 0 (steps T M)
  pub shows_new : Explicit N vs (rest (5 * n) vs) n (size T M) (steps T M')
