-- From a step of a part to one of the term: what the part's exits and states become.
use Rattle.std.specs.Prelude.{ℕ, ◌-◌, ◌%◌, eqb, ltb, Option, None, Some}
use Rattle.language.specs.Choice.{pick}
use Rattle.language.specs.Operator.{operate}
use Rattle.language.specs.declared.Numbers.{Numbers}
use Rattle.states_positions.specs.declared.Frame.{Frame}
use Rattle.states_positions.specs.declared.Out.{Out}
use Rattle.states_positions.specs.declared.Out.TheVariants.{Go, Exit, Say, Hear, Stuck}
use Rattle.states_positions.specs.MoveKind.{DONE, OK, VALUE}
use Rattle.states_positions.specs.Role.{THEN, TEST, SELECT, RIGHT, ASSIGNED, ARGUMENT, BLOCK}
use Rattle.states_positions.specs.Row.{SHORTS, sum_of, mul_add_of}
use Rattle.states_positions.specs.Types.{question_kind, question_value, answer_number}

-- the truths
abbrev pub FALSE : ℕ
FALSE = 0

abbrev pub TRUE : ℕ
TRUE = 1

-- done leads on
unfoldable pub exit_done : ℕ → ℕ → ℕ → ℕ → Out
exit_done kind next block set = pick (eqb kind DONE) (Go next block set) Stuck

-- a truth leads to a, and a falsehood to b, or out where b is 0
unfoldable pub exit_truth : ℕ → ℕ → ℕ → ℕ → ℕ → ℕ → Out
exit_truth kind value a b block set =
    pick (eqb kind VALUE)
    (pick (eqb value TRUE) (Go a block set)
    (pick (eqb value FALSE) (pick (eqb b 0) (Exit DONE 0 block set) (Go b block set)) Stuck))
    Stuck

-- a value leads to its copy of the other part
unfoldable pub exit_value : ℕ → ℕ → Frame → ℕ → ℕ → Out
exit_value kind value f block set =
    pick (eqb kind VALUE) (pick (ltb value f.c) (Go (mul_add_of value f.b f.a) block set) Stuck) Stuck

-- the exit with a result, where there is one
unfoldable pub exit_result : Option ℕ → ℕ → ℕ → Out
exit_result None block set = Stuck
exit_result (Some v) block set = Exit VALUE v block set

-- the result of the operator b for the left operand a
unfoldable pub exit_operate : Numbers → ℕ → ℕ → Frame → ℕ → ℕ → Out
exit_operate N kind value f block set =
    pick (eqb kind VALUE)
    (pick (ltb value f.c) (exit_result (operate N (f.b % 256) (f.a % SHORTS) (value % SHORTS)) block set) Stuck)
    Stuck

-- the answer ok of a variable ends its assignment
unfoldable pub exit_assign : ℕ → ℕ → ℕ → Out
exit_assign kind block set = pick (eqb kind OK) (Exit DONE 0 block set) Stuck

-- an answer to the question of this copy of an argument leads to the reply
unfoldable pub exit_argument : ℕ → ℕ → Frame → ℕ → ℕ → Out
exit_argument kind value f block set =
    let r = answer_number f.b f.c (question_kind f.b f.d) (question_value f.b f.d) kind value in
    pick (ltb 0 r) (Go (sum_of f.a (r - 1)) block set) Stuck

-- a block's own variable ends with it
unfoldable pub exit_new : ℕ → ℕ → Frame → ℕ → ℕ → Out
exit_new kind value f block set = pick (eqb block f.a) (Exit kind value 0 0) (Exit kind value block set)

-- a part's exit
unfoldable pub exits_of : Numbers → Frame → ℕ → ℕ → ℕ → ℕ → Out
exits_of N f kind value block set =
    pick (eqb f.role THEN) (exit_done kind f.a block set)
    (pick (eqb f.role TEST) (exit_truth kind value f.a f.b block set)
    (pick (eqb f.role SELECT) (exit_value kind value f block set)
    (pick (eqb f.role RIGHT) (exit_operate N kind value f block set)
    (pick (eqb f.role ASSIGNED) (exit_assign kind block set)
    (pick (eqb f.role ARGUMENT) (exit_argument kind value f block set)
    (pick (eqb f.role BLOCK) (exit_new kind value f block set) (Exit kind value block set)))))))

-- a part's silent step: a block whose variable is written moves to the copy of that value
unfoldable pub goes_of : Frame → ℕ → ℕ → ℕ → Out
goes_of f next block set =
    pick (eqb f.role BLOCK)
    (pick (eqb block f.a) (Go (mul_add_of set f.b next) 0 0) (Go (sum_of f.base next) block set))
    (Go (sum_of f.base next) block set)

-- a part's step
unfoldable pub rise_of : Numbers → Frame → Out → Out
rise_of N f (Go next block set) = goes_of f next block set
rise_of N f (Exit kind value block set) = exits_of N f kind value block set
rise_of N f (Say m next) = Say m (sum_of f.base next)
rise_of N f (Hear at kind value count) = Hear at kind value count
rise_of N f Stuck = Stuck
