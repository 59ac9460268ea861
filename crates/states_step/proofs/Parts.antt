-- What the table says of a part: its weight, its class and its number of values stand in the part's own row.
use mathlib.Core.Path.{◌≡◌}
use mathlib.Core.List.{List}
use Prim.Native.Nat.{ℕ, ◌+◌, ◌≤◌, ◌<◌}
use native.Mathlib.Omega.{arith}
use Rattle.language.specs.Ty.{Ty, command, expression, variable, questions}
use Rattle.language.specs.Term.{Term}
use Rattle.language.specs.Weight.{weight}
use Rattle.language.specs.declared.Numbers.{Numbers}
use Rattle.states_machine.specs.Position.{entry}
use Rattle.states_machine.specs.Numbering.{numbered}
use Rattle.sheet_rows.specs.Row.{word}
use Rattle.sheet_rows.specs.Rep.{Represented, Rep, r_skip, r_diverge, r_const, r_private, r_name, r_fetch, r_operate}
use Rattle.sheet_rows.specs.Rep.{r_assign, r_seq, r_cond, r_while, r_new}
use Rattle.states_positions.specs.Row.{part_weight, part_class, part_values}
use Rattle.states_step.proofs.TypeNumbers.{HasType, has_type}

pub row_of : {K : Numbers} {t rs n : List ℕ} {left at : ℕ} {M : Term} {T : Ty} → Rep K t left at rs n M T →
    (k : ℕ) × Represented t at k M T
row_of (r_skip r) = (16, r)
row_of (r_diverge r) = (17, r)
row_of (r_const r e h) = (18, r)
row_of (r_private r e l h) = (128, r)
row_of (r_name r h e l a) = (20, r)
row_of (r_fetch r x) = (21, r)
row_of (r_operate o r e h x y) = (22, r)
row_of (r_assign r x y) = (23, r)
row_of (r_seq r x y) = (24, r)
row_of (r_cond r x y z) = (25, r)
row_of (r_while r x y) = (26, r)
row_of (r_new r e f x) = (27, r)

pub small-weight : {K : Numbers} {t rs n : List ℕ} {left at : ℕ} {M : Term} {T : Ty} → Rep K t left at rs n M T →
    weight M ≤ 4096
small-weight r = (row_of r).1.small

-- part j of the term at a place
module _ {K : Numbers} {t rs n : List ℕ} {left : ℕ} {M : Term} {T : Ty} (at j : ℕ)
    (r : Rep K t left (word t at (5 + j)) rs n M T) where
  pub part-weight : part_weight t at j ≡ weight M
  unfolding part_weight
  part-weight = (row_of r).1.weighed

  pub part_type : HasType (part_class t at j) (part_values t at j) T
  unfolding part_class part_values
  part_type = has_type t (word t at (5 + j)) T (row_of r).1.typed

-- the number of values of an expression and of a variable
pub expression-values : (c m k : ℕ) → HasType c m (expression k) → m ≡ k
unfolding HasType
expression-values c m k h = h.1

pub variable-values : (c m k : ℕ) → HasType c m (variable k) → m ≡ k
unfolding HasType
variable-values c m k h = h.1

-- a term has a position
pub positive : (M : Term) → 0 < weight M
positive M = omega (arith, (numbered M).bound (entry M))

pub some-question : (T : Ty) → 0 < questions T
unfolding questions
some-question command = omega arith
some-question (expression m) = omega arith
some-question (variable m) = omega arith
