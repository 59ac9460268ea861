-- The operators by their numbers. Document 01, "The sheet, byte by byte": "Operators: 0 plus, 1 minus, 2 times,
-- 3 remainder, 4 equal, 5 less (these six on numbers), 6 and, 7 or, 8 equal on truths. 0 to 3 give a number, the others
-- a truth." SHEETS 2.5.
use Rattle.std.specs.Prelude.{ℕ, Bool, ltb}

abbrev pub plus : ℕ
plus = 0

abbrev pub minus : ℕ
minus = 1

abbrev pub times : ℕ
times = 2

abbrev pub remainder : ℕ
remainder = 3

abbrev pub equal : ℕ
equal = 4

abbrev pub less : ℕ
less = 5

abbrev pub and : ℕ
and = 6

abbrev pub or : ℕ
or = 7

abbrev pub equal_truths : ℕ
equal_truths = 8

-- whether an operator takes numbers
abbrev pub takes_numbers : ℕ → Bool
takes_numbers op = ltb op and

-- whether an operator gives a number
abbrev pub gives_number : ℕ → Bool
gives_number op = ltb op equal
