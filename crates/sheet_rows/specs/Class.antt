-- The classes of types by number: a type is its class and the number of values of its data. Only inner contracts cite
-- it.
use Rattle.std.specs.Prelude.{ℕ, ◌+◌, eqb}
use Rattle.language.specs.Choice.{pick}

-- a command has no data
abbrev pub COMMANDS : ℕ
COMMANDS = 0

abbrev pub EXPRESSIONS : ℕ
EXPRESSIONS = 1

abbrev pub VARIABLES : ℕ
VARIABLES = 2

-- how many questions a type has, and how many answers they have in all
unfoldable pub questions_by : ℕ → ℕ → ℕ
questions_by class values = pick (eqb class VARIABLES) (1 + values) 1

unfoldable pub answers_by : ℕ → ℕ → ℕ
answers_by class values = pick (eqb class COMMANDS) 1 (pick (eqb class VARIABLES) (values + values) values)
