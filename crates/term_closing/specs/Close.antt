-- The words of a row, from the table of parts, the slots and the rows of its parts; and which parts are expanded.
-- Document 02 [1]; only inner contracts cite it.
use Rattle.std.specs.Prelude.{ℕ, zero, suc, ◌+◌, ◌*◌, ◌/◌, ◌%◌, min, List, Bool, true, false, get_or, set, eqb, ltb}
use Rattle.language.specs.Choice.{pick}
use Rattle.sheet_records.specs.Limits.{held_at}
use Rattle.sheet_rows.specs.Row.{cell, word}
use Rattle.sheet_rows.specs.PartKind.{NAME, FETCH, OPERATE, ASSIGN, SEQUENCE, IF, WHILE, NEW, PRIVATE, KIND, CLASS}
use Rattle.sheet_rows.specs.PartKind.{VALUES, DETAIL, PARTS, ONCE, PROCEDURE, WEIGHT, ID-SPAN, COUNT-SPAN, ROUTINE}
use Rattle.sheet_written.specs.Marks.{COMES}
use Rattle.sheet_rows.specs.Class.{questions_by, answers_by}

-- what a part comes down to, of its mark
unfoldable pub come_of : ℕ → ℕ
come_of mark = mark % COMES

-- which arguments a procedure uses, of its mark: a bit each
unfoldable pub used_of : ℕ → ℕ
used_of mark = mark / COMES

-- bit j
unfoldable pub bit_of : ℕ → ℕ → ℕ
bit_of w zero = w % 2
bit_of w (suc j) = bit_of (w / 2) j

-- the greatest word
abbrev pub LAST-WORD : ℕ
LAST-WORD = 65535

-- a sum, held at the greatest word
unfoldable pub more_of : ℕ → ℕ → ℕ
more_of x y = min (x + y) LAST-WORD

-- as many bits as there are arguments, four at most
unfoldable pub first_bits : ℕ → ℕ
first_bits c = pick (eqb c 0) 0 (pick (eqb c 1) 1 (pick (eqb c 2) 3 (pick (eqb c 3) 7 15)))

-- which parts a record of a kind has, where its detail is given: a bit each
unfoldable pub parts_of : ℕ → ℕ → ℕ
parts_of kind d =
    pick (eqb kind NAME) (first_bits (d / ID-SPAN % COUNT-SPAN))
    (pick (eqb kind FETCH) 1
    (pick (eqb kind NEW) 1
    (pick (eqb kind OPERATE) 3
    (pick (eqb kind ASSIGN) 3
    (pick (eqb kind SEQUENCE) 3
    (pick (eqb kind WHILE) 3
    (pick (eqb kind IF) 7 0)))))))

-- whether the slots stay as they are for the parts of a record of a kind
unfoldable pub stays_of : ℕ → Bool
stays_of kind =
    pick (eqb kind PROCEDURE) false
    (pick (eqb kind ROUTINE) false
    (pick (eqb kind NEW) false true))

-- what argument j of the name at a place adds to its weight, where the argument's row weighs w
unfoldable pub argument_weight : List ℕ → ℕ → ℕ → ℕ → ℕ
argument_weight t at j w =
    pick (ltb j (word t at DETAIL / ID-SPAN % COUNT-SPAN))
    (questions_by (word t (word t at (PARTS + j)) CLASS) (word t (word t at (PARTS + j)) VALUES) * w
    + answers_by (word t (word t at (PARTS + j)) CLASS) (word t (word t at (PARTS + j)) VALUES))
    0

-- the weight of a name at a place whose arguments' rows weigh as given; one that asks once weighs one more
unfoldable pub name_weight : List ℕ → ℕ → ℕ → ℕ → ℕ → ℕ → ℕ
name_weight t at a b c d =
    2 + word t at DETAIL / ONCE % 2
    + (argument_weight t at 0 a + (argument_weight t at 1 b + (argument_weight t at 2 c + argument_weight t at 3 d)))

-- the values of the first part of the part at a place
unfoldable pub first_values : List ℕ → ℕ → ℕ
first_values t at = word t (word t at PARTS) VALUES

-- the weight of the row for the part of a kind at a place, where a, b, c and d weigh its parts
unfoldable pub kind_weight : List ℕ → ℕ → ℕ → ℕ → ℕ → ℕ → ℕ → ℕ
kind_weight t at kind a b c d =
    -- constants; skip and diverge
    pick (ltb kind NAME) 1
    -- operators
    (pick (eqb kind OPERATE) (a + first_values t at * b)
    -- commands
    (pick (eqb kind SEQUENCE) (a + b)
    (pick (eqb kind WHILE) (a + b)
    (pick (eqb kind IF) (a + (b + c))
    -- identifiers, with application
    (pick (eqb kind NAME) (name_weight t at a b c d)
    (pick (eqb kind PRIVATE) 2
    -- variables: fetch, assign and new
    (pick (eqb kind FETCH) a
    (pick (eqb kind ASSIGN) (b + first_values t at * a)
    (pick (eqb kind NEW) (word t at DETAIL * a) 1)))))))))

-- the weight of the row for the part at a place
unfoldable pub weight_of : List ℕ → List ℕ → ℕ → ℕ → ℕ → ℕ → ℕ → ℕ
weight_of t rows at a b c d =
    kind_weight t at (word t at KIND) (word rows a WEIGHT) (word rows b WEIGHT) (word rows c WEIGHT) (word rows d WEIGHT)

-- its detail
unfoldable pub detail_of : List ℕ → List ℕ → ℕ → ℕ
detail_of t slots at =
    pick (eqb (word t at KIND) PRIVATE) (get_or slots (word t at DETAIL) 0)
    (pick (eqb (word t at KIND) ASSIGN) (first_values t at) (word t at DETAIL))

-- the rows with the five words of a row, and with the rows of its parts
unfoldable pub head_put : List ℕ → ℕ → ℕ → ℕ → ℕ → ℕ → ℕ → List ℕ
head_put rows n kind w class v detail =
    set (set (set (set (set rows (cell n 0) kind) (cell n 1) w) (cell n 2) class) (cell n 3) v) (cell n 4) detail

unfoldable pub parts_put : List ℕ → ℕ → ℕ → ℕ → ℕ → ℕ → List ℕ
parts_put rows n a b c d = set (set (set (set rows (cell n 5) a) (cell n 6) b) (cell n 7) c) (cell n 8) d

-- five words, and four, from a place on
unfoldable pub five_at : List ℕ → ℕ → ℕ → ℕ → ℕ → ℕ → ℕ → List ℕ
five_at rows at a b c d e = set (set (set (set (set rows at a) (at + 1) b) (at + 2) c) (at + 3) d) (at + 4) e

unfoldable pub four_at : List ℕ → ℕ → ℕ → ℕ → ℕ → ℕ → List ℕ
four_at rows at a b c d = set (set (set (set rows at a) (at + 1) b) (at + 2) c) (at + 3) d

-- the weight of a row without parts, where its detail is given
unfoldable pub leaf_weight : ℕ → ℕ → ℕ
leaf_weight kind d =
    -- constants; skip and diverge
    pick (ltb kind NAME) 1
    -- identifiers
    (pick (eqb kind NAME) (2 + d / ONCE % 2) (pick (eqb kind PRIVATE) 2 1))

-- the rows with the row n for the part at a place
unfoldable pub closed_row : List ℕ → List ℕ → List ℕ → ℕ → ℕ → ℕ → ℕ → ℕ → ℕ → List ℕ
closed_row t slots rows at n a b c d =
    parts_put (head_put rows n (word t at KIND) (min (weight_of t rows at a b c d) held_at) (word t at CLASS)
    (word t at VALUES) (detail_of t slots at)) n a b c d

-- the slots with those of the parameters of procedure k
unfoldable pub passed_slots : List ℕ → ℕ → ℕ → ℕ → ℕ → ℕ → List ℕ
passed_slots slots k a b c d = set (set (set (set slots k a) (k + 1) b) (k + 2) c) (k + 3) d
