-- Moves, their records and their order. Document 01, "Plays" and "Move records and their order". SHEETS 4.2 and 6.
use Rattle.std.specs.Prelude.{◌≡◌, ◌⊎◌, List, [], ◌∷◌, ◌++◌, ℕ, ◌<◌, length, ◌<ℤ◌}
use Rattle.language.specs.declared.Numbers.{Numbers}
use Rattle.language.specs.Number.{signed, to_byte}
use Rattle.language.specs.Ty.{Question, run, ask, read, write, Answer, done, ok, value}

-- what happens in a move: a question or an answer
pub data Event : Type 0 where
  question : Question → Event
  answer : Answer → Event
  deriving Discrete as Event-discrete

-- Where a move stands. `at id j`: argument j, from 1, of a declared name, or with j = 0 the name itself; the whole term
-- is `at 255 0`. `private i`: the private variable of the enclosing block i, counted outwards from 0; no complete play
-- has a move there.
pub data Place : Type 0 where
  at : ℕ → ℕ → Place
  private : ℕ → Place
  deriving Discrete as Place-discrete

-- a move: where it stands and what happens in it
pub data Move : Type 0 where
  move : Place → Event → Move
  deriving Discrete as Move-discrete

-- moves one after the other
abbrev pub Word : Type 0
Word = List Move

-- the kind of a move: 0 run, 1 done, 2 ask, 3 read, 4 ok, 5 value, 6 write
unfoldable pub kind : Event → ℕ
kind (question run) = 0
kind (answer done) = 1
kind (question ask) = 2
kind (question read) = 3
kind (answer ok) = 4
kind (answer (value v)) = 5
kind (question (write v)) = 6

-- the value of a move, where it has one
unfoldable pub value_of : Event → List ℕ
value_of (question run) = []
value_of (question ask) = []
value_of (question read) = []
value_of (question (write v)) = v ∷ []
value_of (answer done) = []
value_of (answer ok) = []
value_of (answer (value v)) = v ∷ []

-- the bytes of values
unfoldable pub bytes : Numbers → List ℕ → List ℕ
bytes N [] = []
bytes N (v ∷ vs) = to_byte (signed N v) ∷ bytes N vs

-- the record of a move: kind, id, argument and, where the move has one, the value
unfoldable pub record_of : Numbers → Move → List ℕ
record_of N (move (at id j) e) = kind e ∷ id ∷ j ∷ bytes N (value_of e)
record_of N (move (private i) e) = []

-- the records of the moves of a word, one after the other
unfoldable pub records : Numbers → Word → List ℕ
records N [] = []
records N (m ∷ u) = record_of N m ++ records N u

-- by signed value, where both moves have one
abbrev pub ByValue : Numbers → List ℕ → List ℕ → Type 0
ByValue N (x ∷ xs) (y ∷ ys) = signed N x <ℤ signed N y
ByValue N [] ys = ⊥
ByValue N (x ∷ xs) [] = ⊥

-- "Moves are ordered by kind, id, argument, signed value"
abbrev pub Earlier : Numbers → Move → Move → Type 0
Earlier N (move (at i j) e) (move (at k l) f) =
    (kind e < kind f) ⊎ ((kind e ≡ kind f) ×
    ((i < k) ⊎ ((i ≡ k) ×
    ((j < l) ⊎ ((j ≡ l) × ByValue N (value_of e) (value_of f))))))
Earlier N (move (at i j) e) (move (private k) f) = ⊥
Earlier N (move (private i) e) n = ⊥

-- two plays of one length: "the first differing move decides"
abbrev pub First : Numbers → Word → Word → Type 0
First N [] v = ⊥
First N (m ∷ u) [] = ⊥
First N (m ∷ u) (n ∷ v) = Earlier N m n ⊎ ((m ≡ n) × First N u v)

-- "A play with fewer moves comes first; among equals the first differing move decides"
abbrev pub Before : Numbers → Word → Word → Type 0
Before N u v = (length u < length v) ⊎ ((length u ≡ length v) × First N u v)
