-- Names: their positions are the question to them, the wait for their moves, of a name that asks once the wait for its
-- answer alone, the positions of their arguments, a copy for each question, and the replies of their arguments.
use Rattle.std.specs.Prelude.{ℕ, zero, suc, ◌+◌, ◌-◌, ◌/◌, ◌%◌, List, eqb, ltb, leb}
use Rattle.language.specs.Choice.{pick}
use Rattle.sheet_rows.specs.Row.{word}
use Rattle.states_positions.specs.declared.Move.{Move}
use Rattle.states_positions.specs.declared.Frame.{Frame}
use Rattle.states_positions.specs.declared.Out.{Out}
use Rattle.states_positions.specs.declared.Out.TheVariants.{Go, Exit, Say, Hear, Stuck}
use Rattle.states_positions.specs.declared.Spot.{Spot}
use Rattle.states_positions.specs.declared.Spot.TheVariants.{Here, Inside}
use Rattle.states_positions.specs.MoveKind.{DONE, OK, VALUE, NO-MOVE}
use Rattle.states_positions.specs.Role.{ARGUMENT}
use Rattle.sheet_rows.specs.PartKind.{CLASS, VALUES}
use Rattle.states_positions.specs.Row.{part_of, part_weight, part_class, part_values, name_id, name_count, name_spent, sum_of}
use Rattle.states_positions.specs.Row.{mul_add_of}
use Rattle.states_positions.specs.Types.{questions_of, answers_of, question_kind, question_value, question_number, answer_number}
use Rattle.sheet_rows.specs.Class.{COMMANDS}

-- no move: what a state does before one is given
abbrev pub no_move : Move
no_move = record { kind = NO-MOVE; id = 0; arg = 0; value = 0 }

-- the first positions of a name: its question is put, its moves are waited for; where it has no second wait, its
-- arguments begin
abbrev pub CALL : ℕ
CALL = 0

abbrev pub WAIT : ℕ
WAIT = 1

abbrev pub INNER : ℕ
INNER = 2

-- where the arguments of a name begin, and where it waits after the answer of an argument
unfoldable pub inner_of : List ℕ → ℕ → ℕ
inner_of t at = sum_of INNER (name_spent t at)

unfoldable pub again_of : List ℕ → ℕ → ℕ
again_of t at = sum_of WAIT (name_spent t at)

-- a move is said, and the name waits at a position
abbrev pub said_of : ℕ → ℕ → ℕ → ℕ → ℕ → Out
said_of kind id arg value next = Say (record { kind = kind; id = id; arg = arg; value = value }) next

-- a frame
abbrev pub framed_of : ℕ → ℕ → ℕ → ℕ → ℕ → ℕ → Frame
framed_of role base a b c d = record { role = role; base = base; a = a; b = b; c = c; d = d }

-- how many positions argument j has: its weight for each question
unfoldable pub copies_of : List ℕ → ℕ → ℕ → ℕ
copies_of t at j = mul_add_of (questions_of (part_class t at j) (part_values t at j)) (part_weight t at j) 0

-- how many positions n arguments from argument j on have
unfoldable pub arg_spots : List ℕ → ℕ → ℕ → ℕ → ℕ
arg_spots t at j zero = 0
arg_spots t at j (suc n) = sum_of (copies_of t at j) (arg_spots t at (j + 1) n)

-- the answer of number k of an argument, after which the name waits at the position `next`
unfoldable pub reply_here : ℕ → ℕ → ℕ → ℕ → ℕ → ℕ → Out
reply_here id class m arg k next =
    pick (eqb class COMMANDS) (said_of DONE id arg 0 next)
    (pick (leb m k) (said_of OK id arg 0 next) (said_of VALUE id arg k next))

-- reply k of n arguments from argument j on
unfoldable pub reply_of : List ℕ → ℕ → ℕ → ℕ → ℕ → ℕ → ℕ → Out
reply_of t id at j zero k next = Stuck
reply_of t id at j (suc n) k next =
    pick (leb (answers_of (part_class t at j) (part_values t at j)) k)
    (reply_of t id at (sum_of j 1) n (k - answers_of (part_class t at j) (part_values t at j)) next)
    (reply_here id (part_class t at j) (part_values t at j) (sum_of j 1) k next)

-- position k of an argument of weight w, whose positions begin at base and whose replies at after
unfoldable pub arg_here : ℕ → ℕ → ℕ → ℕ → ℕ → ℕ → ℕ → Spot
arg_here part class m w k base after =
    pick (eqb w 0) (Here Stuck)
    (Inside part (question_kind class (k / w)) (question_value class (k / w)) (k % w)
    (framed_of ARGUMENT (mul_add_of (k / w) w base) after class m (k / w)))

-- position k of n arguments from argument j on; their positions begin at base, their replies at after
unfoldable pub in_args : List ℕ → ℕ → ℕ → ℕ → ℕ → ℕ → ℕ → Spot
in_args t at j zero k base after = Here Stuck
in_args t at j (suc n) k base after =
    pick (leb (copies_of t at j) k)
    (in_args t at (sum_of j 1) n (k - copies_of t at j) (sum_of base (copies_of t at j))
    (sum_of after (answers_of (part_class t at j) (part_values t at j))))
    (arg_here (part_of t at j) (part_class t at j) (part_values t at j) (part_weight t at j) k base after)

-- the name's own move: an answer to its question ends it
unfoldable pub hear_answer : List ℕ → ℕ → ℕ → ℕ → Move → Out
hear_answer t at q x m =
    pick (eqb (answer_number (word t at CLASS) (word t at VALUES) q x m.kind m.value) 0) Stuck
    (Exit m.kind m.value 0 0)

-- a move at argument j, where the first n may be asked: a question enters its copy of the argument
unfoldable pub hear_question : List ℕ → ℕ → ℕ → ℕ → Move → Out
hear_question t at n j m =
    let i = question_number (part_class t at j) (part_values t at j) m.kind m.value in
    pick (leb n j) Stuck
    (pick (eqb i 0) Stuck (Go (mul_add_of (i - 1) (part_weight t at j) (sum_of (inner_of t at) (arg_spots t at 0 j))) 0 0))

-- what follows a move at a name that waits, whose first n arguments may be asked
unfoldable pub listen_of : List ℕ → ℕ → ℕ → ℕ → ℕ → Move → Out
listen_of t at q x n m =
    pick (eqb m.id (name_id t at))
    (pick (eqb m.arg 0) (hear_answer t at q x m) (hear_question t at n (m.arg - 1) m)) Stuck

-- a name that waits: for a move, or what follows the move that is given
unfoldable pub at_wait : List ℕ → ℕ → ℕ → ℕ → ℕ → Move → Out
at_wait t at q x n m = pick (eqb m.kind NO-MOVE) (Hear at q x n) (listen_of t at q x n m)

-- the second wait of a name with n arguments: none may be asked; without any it never comes there
unfoldable pub spent_of : ℕ → ℕ → ℕ → ℕ → Out
spent_of at q x n = pick (eqb n 0) Stuck (Hear at q x 0)

unfoldable pub at_spent : List ℕ → ℕ → ℕ → ℕ → Move → Out
at_spent t at q x m = pick (eqb (name_count t at) 0) Stuck (at_wait t at q x 0 m)

-- position k of a name
unfoldable pub in_name : List ℕ → ℕ → ℕ → ℕ → ℕ → Move → Spot
in_name t at q x k m =
    pick (eqb k CALL) (Here (said_of q (name_id t at) 0 x WAIT))
    (pick (eqb k WAIT) (Here (at_wait t at q x (name_count t at) m))
    (pick (ltb k (inner_of t at)) (Here (at_spent t at q x m))
    (pick (ltb (k - inner_of t at) (arg_spots t at 0 (name_count t at)))
    (in_args t at 0 (name_count t at) (k - inner_of t at) (inner_of t at)
    (sum_of (inner_of t at) (arg_spots t at 0 (name_count t at))))
    (Here (reply_of t (name_id t at) at 0 (name_count t at) (k - inner_of t at - arg_spots t at 0 (name_count t at))
    (again_of t at))))))
