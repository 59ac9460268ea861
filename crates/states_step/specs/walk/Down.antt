-- From a position of a term to one of its parts: sums count the first part first, and a part that is copied for
-- each value has its positions at the value times its weight.
use Rattle.std.specs.Prelude.{ℕ, ◌-◌, ◌/◌, ◌%◌, List, eqb, ltb}
use Rattle.language.specs.Choice.{pick}
use Rattle.sheet_rows.specs.Row.{word}
use Rattle.states_positions.specs.declared.Move.{Move}
use Rattle.states_positions.specs.declared.Out.{Out}
use Rattle.states_positions.specs.declared.Out.TheVariants.{Go, Exit, Stuck}
use Rattle.states_positions.specs.declared.Spot.{Spot}
use Rattle.states_positions.specs.declared.Spot.TheVariants.{Here, Inside}
use Rattle.states_positions.specs.MoveKind.{RUN, DONE, ASK, READ, OK, VALUE, WRITE}
use Rattle.sheet_rows.specs.PartKind.{SKIP, CONSTANT, NAME, FETCH, OPERATE, ASSIGN, SEQUENCE, IF, WHILE, NEW, PRIVATE}
use Rattle.states_positions.specs.Role.{THEN, TEST, SELECT, RIGHT, ASSIGNED, BLOCK, AS-IS}
use Rattle.sheet_rows.specs.PartKind.{KIND, VALUES, DETAIL}
use Rattle.states_positions.specs.Row.{SHORTS, part_of, part_weight, part_values, sum_of, mul_add_of}
use Rattle.states_names.specs.Name.{framed_of, in_name, no_move}

-- the exit with an answer
abbrev pub leaves_of : ℕ → ℕ → Spot
leaves_of kind value = Here (Exit kind value 0 0)

-- position k of a fetch: its variable is read
unfoldable pub in_fetch : List ℕ → ℕ → ℕ → Spot
in_fetch t at k = Inside (part_of t at 0) READ 0 k (framed_of AS-IS 0 0 0 0 0)

-- position k of a sequence
unfoldable pub in_seq : List ℕ → ℕ → ℕ → ℕ → ℕ → Spot
in_seq t at q x k =
    pick (ltb k (part_weight t at 0)) (Inside (part_of t at 0) RUN 0 k (framed_of THEN 0 (part_weight t at 0) 0 0 0))
    (Inside (part_of t at 1) q x (k - part_weight t at 0) (framed_of AS-IS (part_weight t at 0) 0 0 0 0))

-- position k of a loop
unfoldable pub in_while : List ℕ → ℕ → ℕ → Spot
in_while t at k =
    pick (ltb k (part_weight t at 0)) (Inside (part_of t at 0) ASK 0 k (framed_of TEST 0 (part_weight t at 0) 0 0 0))
    (Inside (part_of t at 1) RUN 0 (k - part_weight t at 0) (framed_of THEN (part_weight t at 0) 0 0 0 0))

-- position k of a choice: the test b weighs w, and the first branch m weighs v
unfoldable pub cond_in : ℕ → ℕ → ℕ → ℕ → ℕ → ℕ → ℕ → ℕ → Spot
cond_in b m n w v q x k =
    pick (ltb k w) (Inside b ASK 0 k (framed_of TEST 0 w (sum_of w v) 0 0))
    (pick (ltb (k - w) v) (Inside m q x (k - w) (framed_of AS-IS w 0 0 0 0))
    (Inside n q x (k - w - v) (framed_of AS-IS (sum_of w v) 0 0 0 0)))

-- position k of the choice at a place
unfoldable pub in_cond : List ℕ → ℕ → ℕ → ℕ → ℕ → Spot
in_cond t at q x k = cond_in (part_of t at 0) (part_of t at 1) (part_of t at 2) (part_weight t at 0) (part_weight t at 1) q x k

-- position k of an operation: the left operand weighs w, and the right one v for each of the m values of the left
unfoldable pub operate_in : ℕ → ℕ → ℕ → ℕ → ℕ → ℕ → ℕ → Spot
operate_in l r w v o m k =
    pick (ltb k w) (Inside l ASK 0 k (framed_of SELECT 0 w v m 0))
    (pick (eqb v 0) (Here Stuck)
    (Inside r ASK 0 ((k - w) % v) (framed_of RIGHT (mul_add_of ((k - w) / v) v w) ((k - w) / v) o m 0)))

-- position k of the operation at a place
unfoldable pub in_operate : List ℕ → ℕ → ℕ → Spot
in_operate t at k =
    operate_in (part_of t at 0) (part_of t at 1) (part_weight t at 0) (part_weight t at 1) (word t at DETAIL)
    (part_values t at 0) k

-- position k of an assignment: the expression e weighs w, and the variable v for each of its m values
unfoldable pub assign_in : ℕ → ℕ → ℕ → ℕ → ℕ → ℕ → Spot
assign_in var e w v m k =
    pick (ltb k w) (Inside e ASK 0 k (framed_of SELECT 0 w v m 0))
    (pick (eqb v 0) (Here Stuck)
    (Inside var WRITE ((k - w) / v) ((k - w) % v) (framed_of ASSIGNED (mul_add_of ((k - w) / v) v w) 0 0 0 0)))

-- position k of the assignment at a place
unfoldable pub in_assign : List ℕ → ℕ → ℕ → Spot
in_assign t at k =
    assign_in (part_of t at 0) (part_of t at 1) (part_weight t at 1) (part_weight t at 0) (part_values t at 0) k

-- position k of a block; a row is a number below 65,536
unfoldable pub in_new : List ℕ → ℕ → ℕ → ℕ → ℕ → Spot
in_new t at q x k =
    pick (eqb (part_weight t at 0) 0) (Here Stuck)
    (Inside (part_of t at 0) q x (k % part_weight t at 0)
    (framed_of BLOCK (mul_add_of (k / part_weight t at 0) (part_weight t at 0) 0) (sum_of (at % SHORTS) 1) (part_weight t at
    0)
    (k / part_weight t at 0) 0))

-- position k of a private variable: its own step, then the exit
unfoldable pub in_private : List ℕ → ℕ → ℕ → ℕ → ℕ → (ℕ → ℕ) → Out
in_private t at q x k s =
    pick (eqb k 0) (Go 1 0 0)
    (pick (eqb q READ) (Exit VALUE (s (word t at DETAIL)) 0 0)
    (pick (eqb q WRITE) (pick (ltb x (word t at VALUES)) (Exit OK 0 (sum_of (word t at DETAIL) 1) x) Stuck) Stuck))

-- position k of the term of a kind; a private variable does what is told
unfoldable pub down_as : ℕ → List ℕ → ℕ → ℕ → ℕ → ℕ → Out → Move → Spot
down_as kind t at q x k told m =
    pick (eqb kind SKIP) (leaves_of DONE 0)
    (pick (eqb kind CONSTANT) (leaves_of VALUE (word t at DETAIL))
    (pick (eqb kind NAME) (in_name t at q x k m)
    (pick (eqb kind FETCH) (in_fetch t at k)
    (pick (eqb kind OPERATE) (in_operate t at k)
    (pick (eqb kind ASSIGN) (in_assign t at k)
    (pick (eqb kind SEQUENCE) (in_seq t at q x k)
    (pick (eqb kind IF) (in_cond t at q x k)
    (pick (eqb kind WHILE) (in_while t at k)
    (pick (eqb kind NEW) (in_new t at q x k)
    (pick (eqb kind PRIVATE) (Here told) (Here Stuck)))))))))))

-- position k of the term at a place
abbrev pub down_of : List ℕ → ℕ → ℕ → ℕ → ℕ → (ℕ → ℕ) → Move → Spot
down_of t at q x k s m = down_as (word t at KIND) t at q x k (in_private t at q x k s) m

-- the same without the values of private variables, before a move: a private variable is stuck
abbrev pub down_bare : List ℕ → ℕ → ℕ → ℕ → ℕ → Spot
down_bare t at q x k = down_as (word t at KIND) t at q x k Stuck no_move
