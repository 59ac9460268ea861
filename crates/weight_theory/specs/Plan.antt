-- What the code reads off a table of parts when it weighs a record. Only inner contracts cite it.
use Rattle.std.specs.Prelude.{ℕ, ◌+◌, ◌-◌, ◌/◌, ◌%◌, min, List, get_or, eqb, ltb}
use Rattle.language.specs.Choice.{pick}
use Rattle.sheet_rows.specs.PartKind.{NAME, FETCH, OPERATE, ASSIGN, IF, NEW, PRIVATE, PARAMETER, ROUTINE}
use Rattle.sheet_rows.specs.PartKind.{CLASS, VALUES, PARTS, ID-SPAN, COUNT-SPAN, ONCE, PLACE-SPAN}
use Rattle.sheet_rows.specs.Class.{questions_by, answers_by}
use Rattle.sheet_rows.specs.Row.{word}
use Rattle.sheet_written.specs.Marks.{COMES, bits}
use Rattle.weight_theory.specs.Stack.{slot_of, coefficient_of}

-- the greatest number that a procedure has: it may have four parameters
abbrev pub LAST-PROCEDURE : ℕ
LAST-PROCEDURE = 124

-- how many parts a record has that is no procedure
unfoldable pub parts_of : ℕ → ℕ → ℕ
parts_of kind detail =
    pick (ltb kind NAME) 0
    (pick (eqb kind NAME) (min (detail / ID-SPAN % COUNT-SPAN) 4)
    (pick (eqb kind FETCH) 1
    (pick (ltb kind IF) 2
    (pick (eqb kind IF) 3
    (pick (ltb kind NEW) 2
    (pick (eqb kind NEW) 1
    (pick (eqb kind ROUTINE) (min (detail / PLACE-SPAN) 4) 0)))))))

-- the weight of a record without its parts; a name that asks once weighs one more
unfoldable pub own_of : ℕ → ℕ → ℕ
own_of kind detail =
    pick (ltb kind NAME) 1 (pick (eqb kind NAME) (2 + detail / ONCE % 2) (pick (eqb kind PRIVATE) 2 0))

-- where the term of the procedure stands that a use with the given detail means, and which form is its own
unfoldable pub term_place : List ℕ → ℕ → ℕ
term_place t detail = word t (detail % PLACE-SPAN) PARTS

unfoldable pub term_form : List ℕ → ℕ → ℕ
term_form t detail = slot_of t (term_place t detail)

-- by what the form of part j of the record `at`, which is at a place, is multiplied; k is the number of the procedure
-- that a use means
unfoldable pub factor_of : List ℕ → ℕ → ℕ → ℕ → ℕ → ℕ → ℕ → ℕ
factor_of t kind detail k at place j =
    pick (eqb kind OPERATE) (pick (eqb j 0) 1 (word t (word t at PARTS) VALUES))
    (pick (eqb kind NAME) (questions_by (word t place CLASS) (word t place VALUES))
    (pick (eqb kind ROUTINE) (coefficient_of t (term_form t detail) (k + j))
    (pick (eqb kind ASSIGN) (pick (eqb j 0) (word t place VALUES) 1)
    (pick (eqb kind NEW) detail 1))))

-- what the part at a place adds besides
unfoldable pub extra_of : List ℕ → ℕ → ℕ → ℕ
extra_of t kind place = pick (eqb kind NAME) (answers_by (word t place CLASS) (word t place VALUES)) 0

-- what the part at a place comes down to, by its mark
unfoldable pub come_at : List ℕ → ℕ → ℕ
come_at M place = get_or M place 0 % COMES

-- the same of argument j of the use `at`
unfoldable pub argument_of : List ℕ → List ℕ → ℕ → ℕ → ℕ → ℕ
argument_of t M at count j = pick (ltb j count) (come_at M (word t at (PARTS + j))) 0

-- the same of that use, of the procedure k, whose term comes down to c
unfoldable pub through_of : List ℕ → List ℕ → ℕ → ℕ → ℕ → ℕ → ℕ
through_of t M at count k c = pick (eqb c 0) 0 (pick (ltb (c - 1) k) c (argument_of t M at count (c - 1 - k)))

-- the same of any record but a procedure
unfoldable pub come_of : List ℕ → List ℕ → ℕ → ℕ → ℕ → ℕ → ℕ → ℕ
come_of t M kind detail k at count =
    pick (eqb kind PARAMETER) (1 + min detail LAST-PROCEDURE)
    (pick (eqb kind ROUTINE) (through_of t M at count k (come_at M (term_place t detail))) 0)

-- which arguments the procedure k uses, by the form of its term
unfoldable pub used_of : List ℕ → ℕ → ℕ → ℕ
used_of t row k = bits (λ j. coefficient_of t row (k + j))
