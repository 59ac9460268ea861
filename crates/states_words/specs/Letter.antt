-- A move as one number, so that the order of numbers is document 01's order of moves ("Move records and their order").
-- Automata read these letters. SHEETS 6.2.
use Rattle.std.specs.Prelude.{ℕ, ◌+◌, ◌*◌, ◌<◌, List, [], ◌∷◌, eqb}
use Rattle.language.specs.declared.Numbers.{Numbers}
use Rattle.language.specs.Choice.{pick}
use Rattle.language.specs.Number.{numbers}
use Rattle.language.specs.Order.{rank, unranked}
use Rattle.language.specs.Ty.{run, ask, read, write, done, ok, value}
use Rattle.states_positions.specs.MoveKind.{RUN, DONE, ASK, READ, OK, VALUE}
use Rattle.language.specs.Move.{Event, question, answer, Move, move, Word, at, private, kind, value_of}

-- what a kind, an id and an argument count in a letter
abbrev pub KIND-UNIT : ℕ
KIND-UNIT = 16777216

abbrev pub ID-UNIT : ℕ
ID-UNIT = 65536

abbrev pub ARGUMENT-UNIT : ℕ
ARGUMENT-UNIT = 256

-- the rank of a move's value
unfoldable pub ranked : Numbers → List ℕ → ℕ
ranked N [] = 0
ranked N (v ∷ vs) = rank N v

-- kind, id, argument and value, a byte each
unfoldable pub letter : Numbers → Move → ℕ
letter N (move (at id j) e) = kind e * KIND-UNIT + id * ID-UNIT + j * ARGUMENT-UNIT + ranked N (value_of e)
letter N (move (private i) e) = 0

-- what happens in a move of a kind, where its value has the rank r
unfoldable pub event_of : Numbers → ℕ → ℕ → Event
event_of N k r =
    pick (eqb k RUN) (question run)
    (pick (eqb k DONE) (answer done)
    (pick (eqb k ASK) (question ask)
    (pick (eqb k READ) (question read)
    (pick (eqb k OK) (answer ok)
    (pick (eqb k VALUE) (answer (value (unranked N r))) (question (write (unranked N r))))))))

-- the range of the parts of a move, a byte each
unfoldable pub Values : Numbers → List ℕ → Type 0
Values N [] = Unit
Values N (v ∷ vs) = v < numbers N

-- a move whose parts are in range: it has a letter
unfoldable pub Small : Numbers → Move → Type 0
Small N (move (at id j) e) = (id < 256) × (j < 256) × Values N (value_of e)
Small N (move (private i) e) = ⊥

-- the state after a word of moves
unfoldable pub along : (ℕ → ℕ → ℕ) → Numbers → ℕ → Word → ℕ
along d N p [] = p
along d N p (m ∷ u) = along d N (d p (letter N m)) u

-- all moves of a word have letters
unfoldable pub AllSmall : Numbers → Word → Type 0
AllSmall N [] = Unit
AllSmall N (m ∷ u) = Small N m × AllSmall N u
