-- Which terms are well scoped and well typed. Document 001, figure 1; document 01, "The sheet, byte by byte".
-- SHEETS 3.2.
use Rattle.std.specs.Prelude.{List, ◌∷◌, ℕ, suc, ◌<◌}
use Rattle.language.specs.Choice.{pick}
use Rattle.language.specs.Number.{numbers}
use Rattle.language.specs.Operators.{takes_numbers, gives_number}
use Rattle.language.specs.Ty.{Ty, command, expression, variable}
use Rattle.language.specs.Term.{Term, skip, diverge, const, private, name, fetch, operate, assign, seq, while}
use Rattle.language.specs.Term.{cond, new, Often, Args, no_args, arg, Operation}

-- how many values the data of an operator's operands has
unfoldable pub operands : Operation → ℕ
operands o = pick (takes_numbers o.operator) (numbers o.over) 2

-- how many values the data of its result has
unfoldable pub results : Operation → ℕ
results o = pick (gives_number o.operator) (numbers o.over) 2

-- the variable of the enclosing block i has m values
pub data Scope : List ℕ → ℕ → ℕ → Type 0 where
  here : {m : ℕ} {n : List ℕ} → Scope (m ∷ n) 0 m
  there : {m k i : ℕ} {n : List ℕ} → Scope n i m → Scope (k ∷ n) (suc i) m

-- a term and its type, in blocks whose variables have as many values as the list says, the innermost first
mutual
  pub data Typed : List ℕ → Term → Ty → Type 0 where
    a_skip : {n : List ℕ} → Typed n skip command
    a_diverge : {n : List ℕ} {T : Ty} → Typed n diverge T
    a_const : {n : List ℕ} {m v : ℕ} → v < m → Typed n (const v) (expression m)
    a_private : {n : List ℕ} {i m : ℕ} → Scope n i m → Typed n (private i) (variable m)
    a_name : {n : List ℕ} {i : ℕ} {o : Often} {T : Ty} {args : Args} → TypedArgs n args → Typed n (name i o T args) T
    a_fetch : {n : List ℕ} {m : ℕ} {X : Term} → Typed n X (variable m) → Typed n (fetch X) (expression m)
    an_operate : {n : List ℕ} {o : Operation} {L R : Term} → Typed n L (expression (operands o)) →
        Typed n R (expression (operands o)) → Typed n (operate (operands o) o L R) (expression (results o))
    an_assign : {n : List ℕ} {m : ℕ} {X E : Term} → Typed n X (variable m) → Typed n E (expression m) →
        Typed n (assign m X E) command
    a_seq : {n : List ℕ} {C M : Term} {T : Ty} → Typed n C command → Typed n M T → Typed n (seq C M) T
    a_while : {n : List ℕ} {B C : Term} → Typed n B (expression 2) → Typed n C command → Typed n (while B C) command
    a_cond : {n : List ℕ} {B M N : Term} {T : Ty} → Typed n B (expression 2) → Typed n M T → Typed n N T →
        Typed n (cond B M N) T
    a_new : {n : List ℕ} {m : ℕ} {h : 0 < m} {C : Term} → Typed (m ∷ n) C command → Typed n (new m h C) command

  pub data TypedArgs : List ℕ → Args → Type 0 where
    no_more : {n : List ℕ} → TypedArgs n no_args
    one_more : {n : List ℕ} {T : Ty} {M : Term} {args : Args} → Typed n M T → TypedArgs n args →
        TypedArgs n (arg T M args)
