-- Sheets ready for their automata, and the automata in the working words.
use Rattle.std.specs.Prelude.{◌≡◌, List, ℕ, ◌+◌, ◌*◌, ◌-◌, ◌≤◌, length, get_or}
use Rattle.language.specs.declared.Numbers.{Numbers}
use Rattle.language.specs.Number.{numbers}
use Rattle.language.specs.Ty.{Ty}
use Rattle.language.specs.Term.{Term}
use Rattle.language.specs.Weight.{size}
use Rattle.states_machine.specs.Sheet.{steps}
use Rattle.states_positions.specs.Row.{Long}
use Rattle.states_step.specs.walk.Shows.{Words}
use Rattle.dfa.specs.Graph.{rest, Graph}
use Rattle.dfa_silent.specs.Silent.{Silent, Settling}
use Rattle.states_words.specs.Explicit.{Explicit}
use Rattle.states_words.specs.inner.Ready.{Ready}
use Rattle.serve_conditions.specs.Lent.{words_asked}

-- the rows t, of words of 16 bits, represent a term of size `all` at the root, and there are words enough
pub record OneReady (N : Numbers) (t : List ℕ) (root all : ℕ) (ws : List ℕ) : Type 0 where
  pub type : Ty
  pub term : Term
  pub long : Long t
  pub ready : Words t → Ready N t root type term
  pub sized : size type term ≡ all
  pub room : words_asked N all ≤ length ws

-- the words hold its automaton of n states, settled; on average each but the dead one has at most (1 + K) / 2 edges
pub record OneBuilt (N : Numbers) (T : Ty) (M : Term) (n : ℕ) (ws : List ℕ) : Type 0 where
  pub silent_words : List ℕ
  pub unsettled : List ℕ
  pub shows : Explicit N silent_words unsettled n 0 (steps T M)
  pub graph : Graph unsettled n
  pub quiet : Silent n silent_words
  pub settled : Settling n silent_words unsettled (rest (5 * n) ws)
  pub barren : get_or unsettled (n - 1) 0 ≡ get_or unsettled n 0
  pub few : 2 * get_or unsettled n 0 ≤ (1 + numbers N) * size T M

-- the same for two terms of one type
pub record TwoReady (N : Numbers) (t u : List ℕ) (root other all more : ℕ) (ws : List ℕ) : Type 0 where
  pub type : Ty
  pub term : Term
  pub other_term : Term
  pub long : Long t
  pub other_long : Long u
  pub ready : Words t → Ready N t root type term
  pub other_ready : Words u → Ready N u other type other_term
  pub sized : size type term ≡ all
  pub other_sized : size type other_term ≡ more
  pub room : words_asked N (all + more) ≤ length ws

pub record TwoBuilt (N : Numbers) (T : Ty) (M M' : Term) (n : ℕ) (ws : List ℕ) : Type 0 where
  pub silent_words : List ℕ
  pub unsettled : List ℕ
  pub shows : Explicit N silent_words unsettled n 0 (steps T M)
  pub other_shows : Explicit N silent_words unsettled n (size T M) (steps T M')
  pub graph : Graph unsettled n
  pub quiet : Silent n silent_words
  pub settled : Settling n silent_words unsettled (rest (5 * n) ws)
