-- Laws of type numbers: the type that each stands for, the values of its data, and the types of an operator.
use Prim.Native.Nat.{ℕ, zero, suc, ◌+◌, ◌≤◌, ◌<◌}
use native.Mathlib.Omega.{arith}
use mathlib.Core.Path.{◌≡◌, refl}
use mathlib.Core.Bool.{Bool, true, false}
use borrow.Author.Tests.{ne_eqb, lt-ltb, le-ltb}
use Rattle.language.specs.Choice.{pick}
use Rattle.language.specs.Number.{numbers}
use Rattle.language.specs.Operators.{takes_numbers, gives_number}
use Rattle.language.specs.Ty as types
use Rattle.language.specs.Ty.{command, expression, variable}
use Rattle.language.specs.Typing.{operands, results}
use Rattle.language.specs.declared.Numbers.{Numbers}
use Rattle.sheet_parts.specs.Rule.{values, questions, answers, operand_type, result_type}
use Rattle.sheet_rows.specs.Class.{questions_by, answers_by}
use Rattle.sheet_rows.specs.Row.{class_of}
use Rattle.sheet_written.specs.Meaning.{ty_of}

pub data Class (ty : ℕ) : Type 0 where
  a-command : ty ≡ 0 → Class ty
  an-expression : 0 < ty → ty < 3 → Class ty
  a-variable : 3 ≤ ty → Class ty

pub class : (ty : ℕ) → Class ty
class zero = a-command refl
class (suc zero) = an-expression (omega arith) (omega arith)
class (suc (suc zero)) = an-expression (omega arith) (omega arith)
class (suc (suc (suc n))) = a-variable (omega arith)

pub ty-expression : (N : Numbers) (ty : ℕ) → 0 < ty → ty < 3 → ty_of N ty ≡ expression (values N ty)
unfolding ty_of
ty-expression N zero h g = absurd (omega arith)
ty-expression N (suc zero) h g = refl
ty-expression N (suc (suc zero)) h g = refl
ty-expression N (suc (suc (suc n))) h g = absurd (omega arith)

pub ty-variable : (N : Numbers) (ty : ℕ) → 3 ≤ ty → ty_of N ty ≡ variable (values N ty)
unfolding ty_of
ty-variable N ty h =
    rw (ne_eqb ty 0 (λ e. omega arith), ne_eqb ty 1 (λ e. omega arith), ne_eqb ty 2 (λ e. omega arith))

pub ty-command : (N : Numbers) → ty_of N 0 ≡ command
unfolding ty_of
ty-command N = refl

pub ty-truth : (N : Numbers) → ty_of N 1 ≡ expression 2
unfolding ty_of values
ty-truth N = refl

pub ty-number : (N : Numbers) → ty_of N 2 ≡ expression (numbers N)
unfolding ty_of values
ty-number N = refl

-- a variable and its data have as many values
pub values-up : (N : Numbers) (ty : ℕ) → 0 < ty → ty < 3 → values N (ty + 2) ≡ values N ty
unfolding values
values-up N zero h g = absurd (omega arith)
values-up N (suc zero) h g = refl
values-up N (suc (suc zero)) h g = refl
values-up N (suc (suc (suc n))) h g = absurd (omega arith)

module _ (N : Numbers) (op : ℕ) where
  pub operands-values : operands (record { over = N; operator = op }) ≡ values N (operand_type op)
  unfolding operands operand_type values
  operands-values = go (takes_numbers op)
    where
      go : (b : Bool) → pick b (numbers N) 2 ≡ values N (pick b 2 1)
      go true = refl
      go false = refl

  pub operands-type : ty_of N (operand_type op) ≡ expression (operands (record { over = N; operator = op }))
  unfolding operands operand_type values ty_of
  operands-type = go (takes_numbers op)
    where
      go : (b : Bool) → ty_of N (pick b 2 1) ≡ expression (pick b (numbers N) 2)
      go true = refl
      go false = refl

  pub results-type : ty_of N (result_type op) ≡ expression (results (record { over = N; operator = op }))
  unfolding results result_type values ty_of
  results-type = go (gives_number op)
    where
      go : (b : Bool) → ty_of N (pick b 2 1) ≡ expression (pick b (numbers N) 2)
      go true = refl
      go false = refl

  pub result-below : result_type op < 5
  unfolding result_type
  result-below = go (gives_number op)
    where
      go : (b : Bool) → pick b 2 1 < 5
      go true = omega arith
      go false = omega arith

-- the questions and answers of a type are those of its number
module _ (N : Numbers) (ty : ℕ) where
  pub questions-of : types.questions (ty_of N ty) ≡ questions N ty
  unfolding types.questions questions ty_of
  questions-of = go (class ty)
    where
      go : Class ty → types.questions (ty_of N ty) ≡ questions N ty
      go (a-command e) = rw e
      go (an-expression h g) = rw (ty-expression N ty h g, lt-ltb ty 3 g)
      go (a-variable h) = rw (ty-variable N ty h, le-ltb ty 3 h)

  pub answers_of : types.answers (ty_of N ty) ≡ answers N ty
  unfolding types.answers answers ty_of
  answers_of = go (class ty)
    where
      go : Class ty → types.answers (ty_of N ty) ≡ answers N ty
      go (a-command e) = rw e
      go (an-expression h g) = rw (ty-expression N ty h g, ne_eqb ty 0 (λ e. omega arith), lt-ltb ty 3 g)
      go (a-variable h) = rw (ty-variable N ty h, ne_eqb ty 0 (λ e. omega arith), le-ltb ty 3 h) (omega arith)

-- and those by its class
pub class-questions : (N : Numbers) (ty : ℕ) → questions_by (class_of ty) (values N ty) ≡ types.questions (ty_of N ty)
unfolding questions_by class_of types.questions
class-questions N ty = go (class ty)
  where
    go : Class ty → questions_by (class_of ty) (values N ty) ≡ types.questions (ty_of N ty)
    go (a-command e) = rw (e, ty-command N)
    go (an-expression h g) = rw (ne_eqb ty 0 (λ e. omega arith), lt-ltb ty 3 g, ty-expression N ty h g)
    go (a-variable h) = rw (ne_eqb ty 0 (λ e. omega arith), le-ltb ty 3 h, ty-variable N ty h)

pub class-answers : (N : Numbers) (ty : ℕ) → answers_by (class_of ty) (values N ty) ≡ types.answers (ty_of N ty)
unfolding answers_by class_of types.answers
class-answers N ty = go (class ty)
  where
    go : Class ty → answers_by (class_of ty) (values N ty) ≡ types.answers (ty_of N ty)
    go (a-command e) = rw (e, ty-command N)
    go (an-expression h g) = rw (ne_eqb ty 0 (λ e. omega arith), lt-ltb ty 3 g, ty-expression N ty h g)
    go (a-variable h) = rw (ne_eqb ty 0 (λ e. omega arith), le-ltb ty 3 h, ty-variable N ty h)
