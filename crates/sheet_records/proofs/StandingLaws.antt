-- What a standing says, and that it says what it was made of.
use Prim.Native.Nat.{ℕ, ◌+◌, ◌-◌, ◌*◌, ◌/◌, ◌%◌, ◌≤◌, ◌<◌}
use native.Mathlib.Omega.{arith}
use mathlib.Core.Path.{◌≡◌, refl, ap₂, ◌∙◌}
use mathlib.Core.Bool.{Bool, true, false}
use lib.Dec.{eqb, ltb, leb}
use borrow.Author.Tests.{eq-eqb, ne_eqb, lt-ltb, le-ltb, leb-true, leb-false}
use Rattle.language.specs.Choice.{pick}
use Rattle.sheet_records.specs.Standing.{declared_standing, variable_standing, parameter_standing, procedure_standing}
use Rattle.sheet_records.specs.Standing.{standing_of, is_held}
use Rattle.sheet_records.specs.declared.standing.Standing.{Standing}
use Rattle.sheet_records.specs.declared.standing.Standing.TheVariants.{Free, Retired, Declared, Variable, Parameter}
use Rattle.sheet_records.specs.declared.standing.Standing.TheVariants.{Procedure}

module _ (c : ℕ) where
  pub is_free : c ≡ 0 → standing_of c ≡ Free
  unfolding standing_of
  is_free e = rw (eq-eqb c 0 e)

  pub is-retired : c ≡ 1 → standing_of c ≡ Retired
  unfolding standing_of
  is-retired e = rw (ne_eqb c 0 (λ z. omega arith), eq-eqb c 1 e)

  pub is_declared : 2 ≤ c → c < 12288 → standing_of c ≡ Declared ((c - 256) / 2) ((c - 256) % 2)
  unfolding standing_of
  is_declared l h = rw (ne_eqb c 0 (λ z. omega arith), ne_eqb c 1 (λ z. omega arith), lt-ltb c 12288 h)

  pub is-variable : 12288 ≤ c → c < 16384 → standing_of c ≡ Variable ((c - 12288) / 4) ((c - 12288) % 4)
  unfolding standing_of
  is-variable l h =
      rw (ne_eqb c 0 (λ z. omega arith), ne_eqb c 1 (λ z. omega arith), le-ltb c 12288 l, lt-ltb c 16384 h)

  pub is-parameter : 16384 ≤ c → c < 32768 → standing_of c ≡ Parameter ((c - 16384) / 8) ((c - 16384) % 8)
  unfolding standing_of
  is-parameter l h =
      rw (
        ne_eqb c 0 (λ z. omega arith),
        ne_eqb c 1 (λ z. omega arith),
        le-ltb c 12288 (omega arith),
        le-ltb c 16384 l,
        lt-ltb c 32768 h,
      )

  pub is-procedure : 32768 ≤ c → standing_of c ≡ Procedure ((c - 32768) % 128) ((c - 32768) / 128)
  unfolding standing_of
  is-procedure l =
      rw (
        ne_eqb c 0 (λ z. omega arith),
        ne_eqb c 1 (λ z. omega arith),
        le-ltb c 12288 (omega arith),
        le-ltb c 16384 (omega arith),
        le-ltb c 32768 l,
      )

  -- enclosing binders have the standings from those of variables on
  pub held_below : c < 12288 → false ≡ is_held (standing_of c)
  unfolding standing_of is_held
  held_below h = rw (lt-ltb c 12288 h) (go (eqb c 0) (eqb c 1))
    where
      go : (a b : Bool) → false ≡ is_held (pick a Free (pick b Retired (Declared ((c - 256) / 2) ((c - 256) % 2))))
      go true b = refl
      go false true = refl
      go false false = refl

  pub held-from : 12288 ≤ c → true ≡ is_held (standing_of c)
  unfolding standing_of is_held
  held-from l =
      rw (ne_eqb c 0 (λ z. omega arith), ne_eqb c 1 (λ z. omega arith), le-ltb c 12288 l)
      (go (ltb c 16384) (ltb c 32768))
    where
      go : (a b : Bool) → true ≡ is_held (pick a (Variable ((c - 12288) / 4) ((c - 12288) % 4))
          (pick b (Parameter ((c - 16384) / 8) ((c - 16384) % 8)) (Procedure ((c - 32768) % 128) ((c - 32768) / 128))))
      go true b = refl
      go false true = refl
      go false false = refl

  pub held-by : leb 12288 c ≡ is_held (standing_of c)
  held-by = go (leb 12288 c) refl
    where
      go : (b : Bool) → leb 12288 c ≡ b → b ≡ is_held (standing_of c)
      go true e = held-from (leb-true 12288 c e)
      go false e = held_below (leb-false 12288 c e)

-- the data of a variable is below 4
abbrev holds_of : Standing → ℕ
holds_of Free = 0
holds_of Retired = 0
holds_of (Declared place once) = 0
holds_of (Variable number holds) = holds
holds_of (Parameter number ty) = 0
holds_of (Procedure number place) = 0

either : (t : Bool) (x y : Standing) → holds_of x < 4 → holds_of y < 4 → holds_of (pick t x y) < 4
either true x y p q = p
either false x y p q = q

holds-below : (c : ℕ) → holds_of (standing_of c) < 4
unfolding standing_of
holds-below c =
    either (eqb c 0) Free _ (omega arith) (either (eqb c 1) Retired _ (omega arith)
    (either (ltb c 12288) (Declared ((c - 256) / 2) ((c - 256) % 2)) _ (omega arith)
    (either (ltb c 16384) (Variable ((c - 12288) / 4) ((c - 12288) % 4)) _ (omega arith)
    (either (ltb c 32768) (Parameter ((c - 16384) / 8) ((c - 16384) % 8))
    (Procedure ((c - 32768) % 128) ((c - 32768) / 128)) (omega arith) (omega arith)))))

pub holds-small : (c number holds : ℕ) → standing_of c ≡ Variable number holds → holds < 4
holds-small c number holds h = rw h at (holds-below c)

-- each standing is read back as it was made
pub declared-again : (place once : ℕ) → place < 4098 → once < 2 →
    standing_of (declared_standing place once) ≡ Declared place once
unfolding declared_standing
declared-again place once h l =
    is_declared (256 + 2 * place + once) (omega arith) (omega arith) ∙
    ap₂ (λ p o. Declared p o) (omega arith) (omega arith)

pub variable-again :
    (number holds : ℕ) → number < 1024 → holds < 4 → standing_of (variable_standing number holds) ≡ Variable number holds
unfolding variable_standing
variable-again number holds h l =
    is-variable (12288 + 4 * number + holds) (omega arith) (omega arith) ∙
    ap₂ (λ n d. Variable n d) (omega arith) (omega arith)

pub parameter-again :
    (number ty : ℕ) → number < 2048 → ty < 8 → standing_of (parameter_standing number ty) ≡ Parameter number ty
unfolding parameter_standing
parameter-again number ty h l =
    is-parameter (16384 + 8 * number + ty) (omega arith) (omega arith) ∙
    ap₂ (λ n t. Parameter n t) (omega arith) (omega arith)

pub procedure-again :
    (number place : ℕ) → number < 128 → standing_of (procedure_standing number place) ≡ Procedure number place
unfolding procedure_standing
procedure-again number place h =
    is-procedure (32768 + 128 * place + number) (omega arith) ∙
    ap₂ (λ n p. Procedure n p) (omega arith) (omega arith)
