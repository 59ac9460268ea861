-- The values of the private variables of the enclosing blocks, by the rows of their news.
use Rattle.std.specs.Prelude.{ℕ, suc, eqb}
use Rattle.language.specs.Choice.{pick}
use Rattle.states_positions.specs.declared.Frame.{Frame}
use Rattle.states_positions.specs.Role.{BLOCK}

-- the values with v at the row a - 1
unfoldable pub with_value : (ℕ → ℕ) → ℕ → ℕ → ℕ → ℕ
with_value s a v row = pick (eqb a (suc row)) v (s row)

-- the values inside a part: a block has a variable of its own
unfoldable pub store_in : (ℕ → ℕ) → Frame → ℕ → ℕ
store_in s f = pick (eqb f.role BLOCK) (with_value s f.a f.c) s
