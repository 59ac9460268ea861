-- Terms, with every use resolved: a private variable by its block, a name by its id and type. Document 001, figure 1;
-- document 01, "The sheet, byte by byte". The forms stand in the order in which document 001 defines their plays
-- (document 02, [10]). SHEETS 2.4.
use Rattle.std.specs.Prelude.{ℕ, ◌<◌, Option}
use Rattle.language.specs.declared.Numbers.{Numbers}
use Rattle.language.specs.Operator as op
use Rattle.language.specs.Ty.{Ty}

-- an operator over the numbers of a sheet
pub record Operation : Type 0 where
  pub over : Numbers
  pub operator : ℕ

-- the code of its result, from the codes of its operands
unfoldable pub apply : Operation → ℕ → ℕ → Option ℕ
apply o x y = op.operate o.over o.operator x y

-- How often a declared name may put a question to its arguments, all taken together, in one call: freely (kind 1), or
-- at most once (kind 3, document 02 [5])
pub data Often : Type 0 where
  freely once : Often

-- 1 where it asks at most once, else 0
unfoldable pub onces : Often → ℕ
onces freely = 0
onces once = 1

-- A term. The number m of values stands in `operate` (of an operand), in `assign` and in `new` (of the variable).
mutual
  pub data Term : Type 0 where
    -- constants (definition 13)
    const : ℕ → Term
    -- operators (definition 14)
    operate : ℕ → Operation → Term → Term → Term
    -- commands (definition 15)
    skip diverge : Term
    seq while : Term → Term → Term
    cond : Term → Term → Term → Term
    -- identifiers (definition 18) and application (definition 22): the declared name of this id, how often it asks, its
    -- result type and its arguments; the private variable of the enclosing block i, counted outwards from 0
    name : ℕ → Often → Ty → Args → Term
    private : ℕ → Term
    -- variables (definitions 24 to 26)
    fetch : Term → Term
    assign : ℕ → Term → Term → Term
    new : (m : ℕ) → 0 < m → Term → Term

  pub data Args : Type 0 where
    no_args : Args
    arg : Ty → Term → Args → Args
