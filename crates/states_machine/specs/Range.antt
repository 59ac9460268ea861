-- The numbers of a term in range: of values, of names and of arguments.
use Rattle.std.specs.Prelude.{ℕ, suc, ◌≤◌, ◌<◌}
use Rattle.language.specs.declared.Numbers.{Numbers}
use Rattle.language.specs.Number.{numbers}
use Rattle.language.specs.Ty.{Ty, command, expression, variable}
use Rattle.language.specs.Term.{Term, skip, diverge, const, private, name, fetch, operate, assign, seq}
use Rattle.language.specs.Term.{while, cond, new, Args, no_args, arg}

-- the data of a type has two values or more, and at most as many as there are numbers
unfoldable pub TyIn : Numbers → Ty → Type 0
TyIn N command = Unit
TyIn N (expression m) = (1 < m) × (m ≤ numbers N)
TyIn N (variable m) = (1 < m) × (m ≤ numbers N)

-- the ids of a term's names are bytes, the names have at most four arguments, their types are in range, and what is
-- assigned has a value
unfoldable mutual
  pub InRange : Numbers → Term → Type 0
  InRange N skip = Unit
  InRange N diverge = Unit
  InRange N (const v) = Unit
  InRange N (private i) = Unit
  InRange N (name i o T args) = (i < 256) × TyIn N T × InRangeArgs N args 0
  InRange N (fetch X) = InRange N X
  InRange N (operate m o L R) = InRange N L × InRange N R
  InRange N (assign m X E) = (0 < m) × InRange N X × InRange N E
  InRange N (seq C M) = InRange N C × InRange N M
  InRange N (while B C) = InRange N B × InRange N C
  InRange N (cond B C M) = InRange N B × InRange N C × InRange N M
  InRange N (new m h C) = InRange N C

  -- arguments j, j + 1, .., counted from 0
  pub InRangeArgs : Numbers → Args → ℕ → Type 0
  InRangeArgs N no_args j = Unit
  InRangeArgs N (arg T M args) j = (j < 4) × TyIn N T × InRange N M × InRangeArgs N args (suc j)
