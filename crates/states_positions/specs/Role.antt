-- What the exits of a part become in the whole: the role of its frame, whose numbers are a to d.
use Rattle.std.specs.Prelude.{ℕ}

-- the whole exits so
abbrev pub AS-IS : ℕ
AS-IS = 0

-- done leads to a
abbrev pub THEN : ℕ
THEN = 1

-- true leads to a; false leads to b or, where b is 0, out with done
abbrev pub TEST : ℕ
TEST = 2

-- a value below c leads to a + value * b
abbrev pub SELECT : ℕ
SELECT = 3

-- a value below c is the right operand of the operator b, whose left operand is a
abbrev pub RIGHT : ℕ
RIGHT = 4

-- ok leads out with done
abbrev pub ASSIGNED : ℕ
ASSIGNED = 5

-- an answer to question d of a type of class b with c values leads to its reply; the replies begin at a
abbrev pub ARGUMENT : ℕ
ARGUMENT = 6

-- the block's new has the row a - 1; its variable has, in this copy of the block, which weighs b, the value c
abbrev pub BLOCK : ℕ
BLOCK = 7
