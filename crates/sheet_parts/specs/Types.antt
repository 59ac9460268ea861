-- The types by number. Document 01, "The sheet, byte by byte": "Types: 0 command, 1 truth expression, 2 number expression,
-- 3 truth variable, 4 number variable".
use Rattle.std.specs.Prelude.{ℕ}

abbrev pub command : ℕ
command = 0

abbrev pub truth : ℕ
truth = 1

abbrev pub number : ℕ
number = 2

abbrev pub truth_variable : ℕ
truth_variable = 3

abbrev pub number_variable : ℕ
number_variable = 4
