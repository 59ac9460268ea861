-- The kinds of moves, as a play's records have them (document 01, "Move records and their order").
use Rattle.std.specs.Prelude.{ℕ}

-- moves without a value
abbrev pub RUN : ℕ
RUN = 0

abbrev pub DONE : ℕ
DONE = 1

abbrev pub ASK : ℕ
ASK = 2

abbrev pub READ : ℕ
READ = 3

abbrev pub OK : ℕ
OK = 4

-- moves with a value
abbrev pub VALUE : ℕ
VALUE = 5

abbrev pub WRITE : ℕ
WRITE = 6

-- not a move's: the first question of a play, which the whole term waits for, and no move at all
abbrev pub OPENING : ℕ
OPENING = 7

abbrev pub NO-MOVE : ℕ
NO-MOVE = 255
