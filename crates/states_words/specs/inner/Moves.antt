-- The moves that a waiting state takes, in order, their letters, and the row of a state.
use Rattle.std.specs.Prelude.{ℕ, zero, suc, ◌+◌, ◌-◌, ◌*◌, ◌/◌, ◌%◌, Bool, true, false, List, [], ◌∷◌, ◌++◌, eqb, ltb, leb}
use Rattle.language.specs.Choice.{pick}
use Rattle.language.specs.declared.Numbers.{Numbers}
use Rattle.language.specs.Number.{numbers}
use Rattle.language.specs.Order.{first_number, code_at, rank}
use Rattle.states_words.specs.Letter.{KIND-UNIT, ID-UNIT, ARGUMENT-UNIT}
use Rattle.sheet_rows.specs.Row.{word}
use Rattle.states_positions.specs.declared.Move.{Move}
use Rattle.states_positions.specs.declared.Out.{Out}
use Rattle.states_positions.specs.declared.Out.TheVariants.{Go, Exit, Say, Hear, Stuck}
use Rattle.states_positions.specs.MoveKind.{RUN, DONE, ASK, READ, OK, VALUE, WRITE, OPENING}
use Rattle.sheet_rows.specs.PartKind.{CLASS, VALUES}
use Rattle.states_positions.specs.Row.{SHORTS, sum_of, name_id, part_class, part_values}
use Rattle.states_positions.specs.Types.{question_limit}
use Rattle.states_names.specs.Name.{no_move}
use Rattle.states_words.specs.declared.Wait.{Wait}
use Rattle.states_path.specs.declared.Site.{Site}
use Rattle.states_path.specs.States.{WHOLE, spots_of, sheet_at, target_of}
use Rattle.states_words.specs.inner.Rows.{Edge, StateRow, no_edges, with_row, before, with_rows}
use Rattle.sheet_rows.specs.Class.{COMMANDS, EXPRESSIONS}

-- the letter of a move without the rank of its value, and the letter
unfoldable pub place_of : ℕ → ℕ → ℕ → ℕ
place_of kind id arg = kind % 8 * KIND-UNIT + id % 256 * ID-UNIT + arg % 256 * ARGUMENT-UNIT

unfoldable pub letter_of : Numbers → Move → ℕ
letter_of N m =
    let place = place_of m.kind m.id m.arg in
    pick (ltb m.kind VALUE) place (place + rank N (m.value % SHORTS))

-- how many values the answers of a kind to the question q of value x have at a type: none where the type has no such
-- question or the question no such answers, and one where they carry no value
unfoldable pub answer_limit : ℕ → ℕ → ℕ → ℕ → ℕ → ℕ
answer_limit class m q x kind =
    pick (eqb class COMMANDS) (pick (eqb q RUN) (pick (eqb kind DONE) 1 0) 0)
    (pick (eqb class EXPRESSIONS) (pick (eqb q ASK) (pick (eqb kind VALUE) m 0) 0)
    (pick (eqb q READ) (pick (eqb kind VALUE) m 0)
    (pick (eqb q WRITE) (pick (ltb x m) (pick (eqb kind OK) 1 0) 0) 0)))

-- the kind of the answers to the question q at a type
unfoldable pub answer_kind : ℕ → ℕ → ℕ
answer_kind class q = pick (eqb class COMMANDS) DONE (pick (eqb q WRITE) OK VALUE)

-- the same for the moves of a kind at an argument of the one a state waits for
unfoldable pub limit_of : List ℕ → Wait → ℕ → ℕ → ℕ
limit_of t e kind arg =
    pick (eqb e.kind OPENING)
    (pick (eqb arg 0) (question_limit (word t e.at CLASS) (word t e.at VALUES) kind) 0)
    (pick (eqb arg 0) (answer_limit (word t e.at CLASS) (word t e.at VALUES) e.kind e.value kind)
    (pick (ltb e.count arg) 0
    (question_limit (part_class t e.at (arg - 1)) (part_values t e.at (arg - 1)) kind)))

-- whether moves of a kind are questions
unfoldable pub is_question : ℕ → Bool
is_question kind =
    pick (eqb kind RUN) true (pick (eqb kind ASK) true (pick (eqb kind READ) true (eqb kind WRITE)))

-- how many arguments of a name have moves, where so many may be asked: at most four
abbrev pub ARGUMENTS : ℕ
ARGUMENTS = 4

unfoldable pub asking_of : ℕ → ℕ
asking_of count = pick (ltb ARGUMENTS count) ARGUMENTS count

-- the places of moves, the name itself and its arguments, and all pairs of a kind of move and such a place
abbrev pub PLACES : ℕ
PLACES = 5

abbrev pub BLOCKS : ℕ
BLOCKS = 35

-- whom the state k waits for
unfoldable pub wait_of : List ℕ → ℕ → ℕ → ℕ → ℕ → ℕ → Wait
wait_of t state at kind value count =
    pick (eqb kind OPENING) (record { state = state; id = WHOLE; at = at; kind = kind; value = value; count = count })
    (record { state = state; id = name_id t at; at = at; kind = kind; value = value; count = count })

-- whether a state makes or takes a move
unfoldable pub visible_of : Out → Bool
visible_of (Go next level set) = false
visible_of (Exit kind value level set) = false
visible_of (Say said next) = true
visible_of (Hear at kind value count) = true
visible_of Stuck = false

-- the silent word of a state: 0 where it makes or takes a move, else 1 more than the state to which it goes
unfoldable pub silent_of : Site → Out → ℕ
silent_of s o = pick (visible_of o) 0 (sum_of (target_of s o) 1)

-- the place of the value 0
unfoldable pub zero_place : Numbers → ℕ
zero_place N = first_number N + N.z

-- the place from which on there are values below a limit, and that from which on there are none: only the value 0 is
-- below 1
unfoldable pub first_place : Numbers → ℕ → ℕ
first_place N below = pick (eqb below 1) (zero_place N) 0

unfoldable pub end_place : Numbers → ℕ → ℕ
end_place N below = pick (eqb below 1) (zero_place N + 1) (numbers N)

-- the edge by the value at place r, where it is below the limit, to a state that the value tells; and the edges by the
-- first r values. The letter of a value is `place` and its rank
unfoldable pub edge_to : Numbers → ℕ → ℕ → (ℕ → ℕ) → ℕ → List Edge
edge_to N place below to r =
    pick (leb below (code_at N r)) []
    (record { letter = place + rank N (code_at N r % SHORTS); target = to (code_at N r) } ∷ [])

unfoldable pub values_to : Numbers → ℕ → ℕ → (ℕ → ℕ) → ℕ → List Edge
values_to N place below to zero = []
values_to N place below to (suc r) = values_to N place below to r ++ edge_to N place below to r

module _ (t : List ℕ) (N : Numbers) (s : Site) where
  -- the edge by a move
  unfoldable pub edge_by : ℕ → Move → Edge
  edge_by k m = record { letter = letter_of N m; target = target_of s (sheet_at t N s.root k m) }

  -- the edge by the value at place r, where it is below the limit
  unfoldable pub value_edge : Wait → ℕ → ℕ → ℕ → ℕ → List Edge
  value_edge wait kind arg below r =
      pick (leb below (code_at N r)) []
      (edge_by wait.state (record { kind = kind; id = wait.id; arg = arg; value = code_at N r }) ∷ [])

  -- the edges by the first r values
  unfoldable pub value_edges : Wait → ℕ → ℕ → ℕ → ℕ → List Edge
  value_edges wait kind arg below zero = []
  value_edges wait kind arg below (suc r) = value_edges wait kind arg below r ++ value_edge wait kind arg below r

  -- the edges by the moves of a kind at an argument
  unfoldable pub block_edges : Wait → ℕ → ℕ → List Edge
  block_edges wait kind arg =
      pick (eqb (limit_of t wait kind arg) 0) [] (value_edges wait kind arg (limit_of t wait kind arg) (numbers N))

  -- the edges by the first b pairs of a kind and an argument, 0 to 4
  unfoldable pub heard_edges : Wait → ℕ → List Edge
  heard_edges wait zero = []
  heard_edges wait (suc b) = heard_edges wait b ++ block_edges wait (b / PLACES) (b % PLACES)

  -- the edges by the questions of a kind at the first arguments
  unfoldable pub question_edges : Wait → ℕ → ℕ → List Edge
  question_edges wait kind zero = []
  question_edges wait kind (suc j) = question_edges wait kind j ++ block_edges wait kind (suc j)

  -- the edges by the questions of m kinds, from a first one, at the first `count` arguments
  unfoldable pub asked_edges : Wait → ℕ → ℕ → ℕ → List Edge
  asked_edges wait count first zero = []
  asked_edges wait count first (suc m) = asked_edges wait count first m ++ question_edges wait (first + m) count

  -- the edges of a state that does so
  unfoldable pub edges_of : ℕ → Out → List Edge
  edges_of k (Go next level set) = []
  edges_of k (Exit kind value level set) = []
  edges_of k (Say said next) = record { letter = letter_of N said; target = sum_of s.o next } ∷ []
  edges_of k (Hear at kind value count) = heard_edges (wait_of t k at kind value count) BLOCKS
  edges_of k Stuck = []

  -- the row of a state that does so, and of the state k
  unfoldable pub row_for : ℕ → Out → StateRow
  row_for k o = record { silent = silent_of s o; edges = edges_of k o }

  unfoldable pub row_of : ℕ → StateRow
  row_of k = row_for k (sheet_at t N s.root k no_move)

  -- the edge after those of the sheet, where its first edge is e
  unfoldable pub edges_after : ℕ → ℕ
  edges_after e = before e row_of (spots_of t s.root)

  -- the words with the states of the sheet, the end last
  unfoldable pub filled_of : List ℕ → ℕ → List ℕ
  filled_of ws e =
      with_row (with_rows ws s.n s.o e row_of (spots_of t s.root)) s.n s.o (spots_of t s.root)
      (edges_after e) no_edges
