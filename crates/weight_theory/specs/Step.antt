-- The table after a record is weighed, whose parts are weighed already: their forms are the last of the stack, and its
-- own takes their place. Only inner contracts cite it.
use Rattle.std.specs.Prelude.{ℕ, zero, suc, ◌+◌, ◌*◌, ◌-◌, min, List, set, eqb, ltb}
use Rattle.language.specs.Choice.{pick}
use Rattle.sheet_rows.specs.PartKind.{KIND, DETAIL, PARTS, PROCEDURE, PARAMETER}
use Rattle.sheet_written.specs.Marks.{COMES}
use Rattle.sheet_rows.specs.Row.{word}
use Rattle.weight_theory.specs.Stack.{marks_from, slots_from, height-at, most_forms, marks_in, height_of, constant_form}
use Rattle.weight_theory.specs.Stack.{unit_form, lower_form, added_form}
use Rattle.weight_theory.specs.Shows.{most_parameters, last_parameter}
use Rattle.weight_theory.specs.Plan.{parts_of, own_of, term_form, factor_of, extra_of, come_at, come_of, used_of}

-- a form becomes that of a record without its parts
unfoldable pub started : ℕ → ℕ → ℕ → ℕ → List ℕ → List ℕ
started kind detail k row t =
    -- what has a weight of its own: constants, operators, commands, names and variables
    pick (ltb kind PARAMETER) (constant_form row (own_of kind detail) t)
    -- parameters, then uses of procedures
    (pick (eqb kind PARAMETER) (unit_form row (min detail last_parameter) t) (lower_form row (term_form t detail) k t))

-- part j of the record `at`, whose form is `first + j`, is added to a form
unfoldable pub part_added : ℕ → ℕ → ℕ → ℕ → ℕ → ℕ → ℕ → List ℕ → List ℕ
part_added kind detail k at first row j t =
    let place : ℕ = word t at (PARTS + j) in
    added_form row (first + j) (factor_of t kind detail k at place j) (extra_of t kind place) t

-- so are parts j, j + 1, .., n of them
unfoldable pub parts_added : ℕ → ℕ → ℕ → ℕ → ℕ → ℕ → ℕ → ℕ → List ℕ → List ℕ
parts_added kind detail k at first row zero j t = t
parts_added kind detail k at first row (suc n) j t =
    parts_added kind detail k at first row n (suc j) (part_added kind detail k at first row j t)

-- the form `row` becomes the form `to`, which is that of the part at a place and the last one; and its mark
unfoldable pub closed : ℕ → ℕ → ℕ → ℕ → List ℕ → List ℕ
closed at to row mark t =
    set (set (set (pick (eqb to row) t (lower_form to row most_parameters t)) (marks_from + at) mark)
    (slots_from + at) to)
    height-at (min (suc to) most_forms)

unfoldable pub weighed_plain : ℕ → ℕ → ℕ → ℕ → List ℕ → List ℕ
weighed_plain k at kind detail t =
    let n : ℕ = parts_of kind detail in
    let row : ℕ = height_of t in
    closed at (row - n) row (come_of t (marks_in t) kind detail k at n)
    (parts_added kind detail k at (row - n) row n 0 (started kind detail k row t))

-- how many terms a procedure has
abbrev pub terms : ℕ
terms = 2

-- a procedure weighs what the term weighs in which it may be used; its number says which arguments its own term uses
unfoldable pub weighed_procedure : ℕ → ℕ → List ℕ → List ℕ
weighed_procedure at number t =
    let to : ℕ = height_of t - terms in
    closed at to (suc to) (come_at (marks_in t) (word t at (PARTS + 1)) + COMES * used_of t to number) t

-- the record at a place; k is the number of the procedure that it uses, if it is such a use
unfoldable pub weighed : ℕ → ℕ → List ℕ → List ℕ
weighed k at t =
    pick (eqb (word t at KIND) PROCEDURE) (weighed_procedure at (word t at DETAIL) t)
    (weighed_plain k at (word t at KIND) (word t at DETAIL) t)
