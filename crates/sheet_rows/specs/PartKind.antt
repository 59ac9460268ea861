-- The kinds of rows of the table of parts, and the words of a row. Only inner contracts cite it.
use Rattle.std.specs.Prelude.{ℕ}

abbrev pub SKIP : ℕ
SKIP = 16

abbrev pub DIVERGE : ℕ
DIVERGE = 17

-- a truth or a number
abbrev pub CONSTANT : ℕ
CONSTANT = 18

-- a declared name
abbrev pub NAME : ℕ
NAME = 20

abbrev pub FETCH : ℕ
FETCH = 21

abbrev pub OPERATE : ℕ
OPERATE = 22

abbrev pub ASSIGN : ℕ
ASSIGN = 23

abbrev pub SEQUENCE : ℕ
SEQUENCE = 24

abbrev pub IF : ℕ
IF = 25

abbrev pub WHILE : ℕ
WHILE = 26

abbrev pub NEW : ℕ
NEW = 27

abbrev pub PROCEDURE : ℕ
PROCEDURE = 28

-- uses of a private variable, of a parameter, and of a procedure, which is a routine
abbrev pub PRIVATE : ℕ
PRIVATE = 128

abbrev pub PARAMETER : ℕ
PARAMETER = 129

abbrev pub ROUTINE : ℕ
ROUTINE = 130

-- the words of a row: the kind, the place after the part or, in the rows of a term, its weight, the class of its type,
-- the number of values of its data, a detail by its kind, the place of its first part
abbrev pub KIND : ℕ
KIND = 0

abbrev pub END : ℕ
END = 1

abbrev pub WEIGHT : ℕ
WEIGHT = 1

abbrev pub CLASS : ℕ
CLASS = 2

abbrev pub VALUES : ℕ
VALUES = 3

abbrev pub DETAIL : ℕ
DETAIL = 4

abbrev pub PARTS : ℕ
PARTS = 5

-- how many words a row has
abbrev pub ROW-WORDS : ℕ
ROW-WORDS = 9

-- the detail of a name is its id and this many times the number of its arguments, which is below COUNT-SPAN; where the
-- name asks once, it has ONCE besides
abbrev pub ID-SPAN : ℕ
ID-SPAN = 256

abbrev pub COUNT-SPAN : ℕ
COUNT-SPAN = 8

abbrev pub ONCE : ℕ
ONCE = 2048

-- the detail of a use of a procedure is the place of the procedure's record and this many times the number of arguments
abbrev pub PLACE-SPAN : ℕ
PLACE-SPAN = 4096
