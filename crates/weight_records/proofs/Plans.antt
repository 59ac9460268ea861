-- How a record is weighed whose weight is the sum of its parts', by its kind.
use Prim.Native.Nat.{ℕ, zero, suc, ◌+◌, ◌<◌}
use native.Mathlib.Omega.{arith}
use mathlib.Core.List.{List}
use mathlib.Core.Path.{◌≡◌, refl, sym, ap, ◌∙◌}
use Rattle.sheet_rows.specs.PartKind.{FETCH, OPERATE, ASSIGN, SEQUENCE, IF, WHILE, NEW, PROCEDURE, VALUES, PARTS}
use Rattle.sheet_rows.specs.Row.{word}
use Rattle.weight_theory.specs.Stack.{marks_in, constant_form}
use Rattle.weight_theory.specs.Plan.{parts_of, own_of, factor_of, extra_of, come_of}
use Rattle.weight_theory.specs.Step.{started}
use Rattle.weight_records.specs.Few.{SumKind, sum_fetch, sum_operate, sum_assign, sum_sequence, sum_if, sum_while}
use Rattle.weight_records.specs.Few.{sum_new}
use Rattle.weight_records.specs.inner.Sum.{times}
use Rattle.weight_records.proofs.Bare.{constant-row}

-- part j weighs as often as said, with the form `row` as a constant
abbrev Factor : List ℕ → ℕ → ℕ → ℕ → ℕ → ℕ → ℕ → ℕ → ℕ → ℕ → Type 0
Factor t at k row kind detail first second b j =
    factor_of (constant_form row b t) kind detail k at (word (constant_form row b t) at (PARTS + j)) j
    ≡ times first second j

pub record Plan (t : List ℕ) (at k row kind detail n first second : ℕ) : Type 0 where
  pub other : kind ≡ PROCEDURE → ⊥
  pub parts : n ≡ parts_of kind detail
  pub come : 0 ≡ come_of t (marks_in t) kind detail k at n
  pub start : constant_form row 0 t ≡ started kind detail k row t
  pub factor : (b j : ℕ) → j < n → Factor t at k row kind detail first second b j
  pub extra : (b p : ℕ) → extra_of (constant_form row b t) kind p ≡ 0

-- of one part, of two, and of three
pub one : (P : ℕ → Type 0) → P 0 → (j : ℕ) → j < 1 → P j
one P p zero h = p
one P p (suc j) h = absurd (omega arith)

pub two : (P : ℕ → Type 0) → P 0 → P 1 → (j : ℕ) → j < 2 → P j
two P p q zero h = p
two P p q (suc zero) h = q
two P p q (suc (suc j)) h = absurd (omega arith)

pub three : (P : ℕ → Type 0) → P 0 → P 1 → P 2 → (j : ℕ) → j < 3 → P j
three P p q r zero h = p
three P p q r (suc zero) h = q
three P p q r (suc (suc zero)) h = r
three P p q r (suc (suc (suc j))) h = absurd (omega arith)

module _ (t : List ℕ) (at k row : ℕ) (h : at < 4096) where
  -- the number of values of the first part
  values-kept : (b v : ℕ) → word t at PARTS < 4096 → v ≡ word t (word t at PARTS) VALUES →
      word (constant_form row b t) (word (constant_form row b t) at PARTS) VALUES ≡ v
  values-kept b v g e =
      ap (λ p. word (constant_form row b t) p VALUES) (constant-row row b at PARTS t h (omega arith))
      ∙ constant-row row b (word t at PARTS) VALUES t g (omega arith) ∙ sym e

  fetch-plan : (detail second : ℕ) → Plan t at k row FETCH detail 1 1 second
  unfolding parts_of come_of started own_of factor_of extra_of times
  fetch-plan detail second = record {
    other = λ x. omega arith;
    parts = refl;
    come = refl;
    start = refl;
    factor = λ b. one (Factor t at k row FETCH detail 1 second b) refl;
    extra = λ b p. refl;
  }

  operate-plan : (detail v : ℕ) → word t at PARTS < 4096 → v ≡ word t (word t at PARTS) VALUES →
      Plan t at k row OPERATE detail 2 1 v
  unfolding parts_of come_of started own_of factor_of extra_of times
  operate-plan detail v g e = record {
    other = λ x. omega arith;
    parts = refl;
    come = refl;
    start = refl;
    factor = λ b. two (Factor t at k row OPERATE detail 1 v b) refl (values-kept b v g e);
    extra = λ b p. refl;
  }

  assign-plan : (detail v : ℕ) → word t at PARTS < 4096 → v ≡ word t (word t at PARTS) VALUES →
      Plan t at k row ASSIGN detail 2 v 1
  unfolding parts_of come_of started own_of factor_of extra_of times
  assign-plan detail v g e = record {
    other = λ x. omega arith;
    parts = refl;
    come = refl;
    start = refl;
    factor = λ b. two (Factor t at k row ASSIGN detail v 1 b) (values-kept b v g e) refl;
    extra = λ b p. refl;
  }

  sequence-plan : (detail : ℕ) → Plan t at k row SEQUENCE detail 2 1 1
  unfolding parts_of come_of started own_of factor_of extra_of times
  sequence-plan detail = record {
    other = λ x. omega arith;
    parts = refl;
    come = refl;
    start = refl;
    factor = λ b. two (Factor t at k row SEQUENCE detail 1 1 b) refl refl;
    extra = λ b p. refl;
  }

  if-plan : (detail : ℕ) → Plan t at k row IF detail 3 1 1
  unfolding parts_of come_of started own_of factor_of extra_of times
  if-plan detail = record {
    other = λ x. omega arith;
    parts = refl;
    come = refl;
    start = refl;
    factor = λ b. three (Factor t at k row IF detail 1 1 b) refl refl refl;
    extra = λ b p. refl;
  }

  while-plan : (detail : ℕ) → Plan t at k row WHILE detail 2 1 1
  unfolding parts_of come_of started own_of factor_of extra_of times
  while-plan detail = record {
    other = λ x. omega arith;
    parts = refl;
    come = refl;
    start = refl;
    factor = λ b. two (Factor t at k row WHILE detail 1 1 b) refl refl;
    extra = λ b p. refl;
  }

  new-plan : (detail second : ℕ) → Plan t at k row NEW detail 1 detail second
  unfolding parts_of come_of started own_of factor_of extra_of times
  new-plan detail second = record {
    other = λ x. omega arith;
    parts = refl;
    come = refl;
    start = refl;
    factor = λ b. one (Factor t at k row NEW detail detail second b) refl;
    extra = λ b p. refl;
  }

  pub plan-of : (kind detail n first second : ℕ) → SumKind t at kind detail n first second →
      Plan t at k row kind detail n first second
  plan-of kind detail n first second (sum_fetch a b c) = rw (a, b, c) (fetch-plan detail second)
  plan-of kind detail n first second (sum_operate a b c g e) = rw (a, b, c) (operate-plan detail second g e)
  plan-of kind detail n first second (sum_assign a b g e c) = rw (a, b, c) (assign-plan detail first g e)
  plan-of kind detail n first second (sum_sequence a b c d) = rw (a, b, c, d) (sequence-plan detail)
  plan-of kind detail n first second (sum_if a b c d) = rw (a, b, c, d) (if-plan detail)
  plan-of kind detail n first second (sum_while a b c d) = rw (a, b, c, d) (while-plan detail)
  plan-of kind detail n first second (sum_new a b c) = rw (a, b, c) (new-plan detail second)
