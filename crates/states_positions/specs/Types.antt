-- The questions and answers of a type, by number: a type is its class and the number m of values of its data.
use Rattle.std.specs.Prelude.{ℕ, ◌-◌, eqb, ltb}
use Rattle.language.specs.Choice.{pick}
use Rattle.states_positions.specs.MoveKind.{RUN, DONE, ASK, READ, OK, VALUE, WRITE}
use Rattle.states_positions.specs.Row.{sum_of}
use Rattle.sheet_rows.specs.Class.{COMMANDS, EXPRESSIONS, VARIABLES}

-- how many questions a type has, and how many answers they have in all
unfoldable pub questions_of : ℕ → ℕ → ℕ
questions_of class m = pick (eqb class VARIABLES) (sum_of 1 m) 1

unfoldable pub answers_of : ℕ → ℕ → ℕ
answers_of class m = pick (eqb class COMMANDS) 1 (pick (eqb class EXPRESSIONS) m (sum_of m m))

-- the kind and the value of question i
unfoldable pub question_kind : ℕ → ℕ → ℕ
question_kind class i =
    pick (eqb class COMMANDS) RUN (pick (eqb class EXPRESSIONS) ASK (pick (eqb i 0) READ WRITE))

unfoldable pub question_value : ℕ → ℕ → ℕ
question_value class i = pick (eqb class VARIABLES) (pick (ltb 0 i) (i - 1) 0) 0

-- how many values a question of a kind has at a type: none where it is no question of the type, and one where it
-- carries no value
unfoldable pub question_limit : ℕ → ℕ → ℕ → ℕ
question_limit class m kind =
    pick (eqb class COMMANDS) (pick (eqb kind RUN) 1 0)
    (pick (eqb class EXPRESSIONS) (pick (eqb kind ASK) 1 0)
    (pick (eqb kind READ) 1 (pick (eqb kind WRITE) m 0)))

-- 1 more than the number of a question; 0 where the type has no such question
unfoldable pub question_number : ℕ → ℕ → ℕ → ℕ → ℕ
question_number class m kind value =
    pick (eqb kind WRITE) (pick (ltb value (question_limit class m kind)) (sum_of value 2) 0) (question_limit class m kind)

-- 1 more than a value that is answered; 0 where the answer is no such value
unfoldable pub value_answer : ℕ → ℕ → ℕ → ℕ
value_answer m kind value = pick (eqb kind VALUE) (pick (ltb value m) (sum_of value 1) 0) 0

-- 1 more than the number of an answer to the question q of value x: first the values, then, of a variable, the
-- answer to each write; 0 where the type has no such question or the question no such answer
unfoldable pub answer_number : ℕ → ℕ → ℕ → ℕ → ℕ → ℕ → ℕ
answer_number class m q x kind value =
    pick (eqb class COMMANDS) (pick (eqb q RUN) (pick (eqb kind DONE) 1 0) 0)
    (pick (eqb class EXPRESSIONS) (pick (eqb q ASK) (value_answer m kind value) 0)
    (pick (eqb q READ) (value_answer m kind value)
    (pick (eqb q WRITE) (pick (ltb x m) (pick (eqb kind OK) (sum_of (sum_of m x) 1) 0) 0) 0)))
