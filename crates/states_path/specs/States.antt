-- What a state of a whole sheet does, by the table of parts, and the state of the words to which a step leads.
use Rattle.std.specs.Prelude.{ℕ, ◌-◌, List, eqb, ltb, leb}
use Rattle.language.specs.Choice.{pick}
use Rattle.language.specs.declared.Numbers.{Numbers}
use Rattle.sheet_rows.specs.Row.{word}
use Rattle.sheet_rows.specs.Rep.{DEPTH}
use Rattle.states_positions.specs.declared.Move.{Move}
use Rattle.states_positions.specs.declared.Out.{Out}
use Rattle.states_positions.specs.declared.Out.TheVariants.{Go, Exit, Say, Hear, Stuck}
use Rattle.states_positions.specs.MoveKind.{DONE, OK, VALUE, OPENING, NO-MOVE}
use Rattle.sheet_rows.specs.PartKind.{WEIGHT, CLASS, VALUES}
use Rattle.states_positions.specs.Row.{sum_of, mul_add_of}
use Rattle.states_positions.specs.Types.{questions_of, answers_of, question_number}
use Rattle.states_names.specs.Name.{arg_here}
use Rattle.states_rise.specs.Up.{rise_of}
use Rattle.states_step.specs.walk.Step.{on_spot, step_at}
use Rattle.states_path.specs.declared.Site.{Site}
use Rattle.sheet_rows.specs.Class.{COMMANDS}

-- the id that stands for the whole term
abbrev pub WHOLE : ℕ
WHOLE = 255

-- the first question enters its copy of the term
unfoldable pub opened_of : List ℕ → ℕ → Move → Out
opened_of t root m =
    let i = question_number (word t root CLASS) (word t root VALUES) m.kind m.value in
    pick (eqb m.id WHOLE)
    (pick (eqb m.arg 0) (pick (eqb i 0) Stuck (Go (mul_add_of (i - 1) (word t root WEIGHT) 1) 0 0)) Stuck)
    Stuck

-- the start: it waits for the question, or what follows the move that is given
unfoldable pub at_start : List ℕ → ℕ → Move → Out
at_start t root m = pick (eqb m.kind NO-MOVE) (Hear root OPENING 0 0) (opened_of t root m)

-- position k of the copies of the term; the answers begin at the state `after`
unfoldable pub within_of : List ℕ → Numbers → ℕ → ℕ → ℕ → Move → Out
within_of t N root k after m =
    on_spot (arg_here root (word t root CLASS) (word t root VALUES) (word t root WEIGHT) k 1 after)
    (λ part kind value inner f. rise_of N f (step_at t N DEPTH part kind value inner (λ row. 0) m))

-- answer k of a type, at the place of the whole term
unfoldable pub replied_of : ℕ → ℕ → ℕ → Move
replied_of class values k =
    pick (eqb class COMMANDS) (record { kind = DONE; id = WHOLE; arg = 0; value = 0 })
    (pick (leb values k) (record { kind = OK; id = WHOLE; arg = 0; value = 0 })
    (record { kind = VALUE; id = WHOLE; arg = 0; value = k }))

-- the first of the states that answer
unfoldable pub after_of : List ℕ → ℕ → ℕ
after_of t root = mul_add_of (questions_of (word t root CLASS) (word t root VALUES)) (word t root WEIGHT) 1

-- how many states the sheet has but the end
unfoldable pub spots_of : List ℕ → ℕ → ℕ
spots_of t root = sum_of (after_of t root) (answers_of (word t root CLASS) (word t root VALUES))

-- what the state k does
unfoldable pub sheet_at : List ℕ → Numbers → ℕ → ℕ → Move → Out
sheet_at t N root k m =
    pick (eqb k 0) (at_start t root m)
    (pick (ltb k (after_of t root)) (within_of t N root (k - 1) (after_of t root) m)
    (Say (replied_of (word t root CLASS) (word t root VALUES) (k - after_of t root)) (spots_of t root)))

-- the state to which a step leads: the dead state, n - 1, where it leads nowhere
unfoldable pub target_of : Site → Out → ℕ
target_of s (Go next level set) = sum_of s.o next
target_of s (Exit kind value level set) = s.n - 1
target_of s (Say said next) = s.n - 1
target_of s (Hear at kind value count) = s.n - 1
target_of s Stuck = s.n - 1
