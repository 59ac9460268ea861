-- The words of a level of a path, and of all of them.
use Rattle.std.specs.Prelude.{ℕ}

-- how many levels a path has at most, and how many words a level has
abbrev pub LEVELS : ℕ
LEVELS = 6145

abbrev pub FIELDS : ℕ
FIELDS = 13

-- the part, the question that it is asked, its first state, the end of its states, and the innermost block outside
-- it
abbrev pub PART : ℕ
PART = 0

abbrev pub QUESTION : ℕ
QUESTION = 1

abbrev pub QUESTION-VALUE : ℕ
QUESTION-VALUE = 2

abbrev pub BASE : ℕ
BASE = 3

abbrev pub END : ℕ
END = 4

abbrev pub OUTER : ℕ
OUTER = 5

-- its frame: the role, the first position in the part above, and the four numbers
abbrev pub ROLE : ℕ
ROLE = 6

abbrev pub OFFSET : ℕ
OFFSET = 7

abbrev pub A : ℕ
A = 8

abbrev pub B : ℕ
B = 9

abbrev pub C : ℕ
C = 10

abbrev pub D : ℕ
D = 11

-- how many levels there are up to the one where its exits lead
abbrev pub UP : ℕ
UP = 12

-- all words
abbrev pub PATH-WORDS : ℕ
PATH-WORDS = 79885
