-- The rows of a term, nine words each: 0 kind, 1 weight, 2 class of the type (0 command, 1 expression, 2 variable), 3
-- number of values of its data, 4 detail, 5 to 8 the rows of its parts. A row may be part of several rows. Only inner
-- contracts cite it.
use Rattle.std.specs.Prelude.{ℕ, suc, ◌+◌, ◌*◌, ◌≤◌, ◌<◌, ◌≡◌, List, ◌∷◌}
use Rattle.language.specs.Ty.{Ty, command, expression, variable}
use Rattle.language.specs.Term.{Term, skip, diverge, const, private, name, fetch, operate, assign, seq, while, cond}
use Rattle.language.specs.Term.{new, Often, onces, Args, no_args, arg, Operation}
use Rattle.language.specs.Typing.{Scope, operands, results}
use Rattle.language.specs.Weight.{weight}
use Rattle.language.specs.declared.Numbers.{Numbers}
use Rattle.sheet_records.specs.Limits.{greatest_size}
use Rattle.sheet_rows.specs.PartKind.{SKIP, DIVERGE, CONSTANT, NAME, FETCH, OPERATE, ASSIGN, SEQUENCE, IF, WHILE, NEW}
use Rattle.sheet_rows.specs.PartKind.{PRIVATE, KIND, WEIGHT, CLASS, VALUES, DETAIL, ID-SPAN, COUNT-SPAN}
use Rattle.sheet_rows.specs.Class.{COMMANDS, EXPRESSIONS, VARIABLES}
use Rattle.sheet_rows.specs.Row.{word}

-- how many rows there may be
abbrev pub ROWS : ℕ
ROWS = 12288

-- how deep the rows of a term may lie in each other
abbrev pub DEPTH : ℕ
DEPTH = 6144

-- the class of a type and the number of values of its data
unfoldable pub TyRow : List ℕ → ℕ → Ty → Type 0
TyRow t at command = word t at CLASS ≡ COMMANDS
TyRow t at (expression m) = (word t at CLASS ≡ EXPRESSIONS) × (word t at VALUES ≡ m)
TyRow t at (variable m) = (word t at CLASS ≡ VARIABLES) × (word t at VALUES ≡ m)

-- no block of the rows rs has the row r
unfoldable pub Fresh : List ℕ → ℕ → Type 0
Fresh rs r = (i : ℕ) → Scope rs i r → ⊥

-- the row of a term M of type T
pub record Represented (t : List ℕ) (at kind : ℕ) (M : Term) (T : Ty) : Type 0 where
  pub inside : at < ROWS
  pub kinded : word t at KIND ≡ kind
  pub weighed : word t at WEIGHT ≡ weight M
  pub small : weight M ≤ greatest_size
  pub typed : TyRow t at T

-- how many arguments there are
unfoldable pub count : Args → ℕ
count no_args = 0
count (arg T M args) = suc (count args)

-- the part at a place is a term of at most `left` levels, in blocks with the rows rs, whose variables have as many
-- values as n says, the innermost first; a private variable is known by the row of its block, which is once on the path
module _ (N : Numbers) (t : List ℕ) where
  mutual
    pub data Rep : ℕ → ℕ → List ℕ → List ℕ → Term → Ty → Type 0 where
      r_skip : {left at : ℕ} {rs n : List ℕ} → Represented t at SKIP skip command → Rep (suc left) at rs n skip command
      r_diverge : {left at : ℕ} {rs n : List ℕ} {T : Ty} → Represented t at DIVERGE diverge T →
          Rep (suc left) at rs n diverge T
      r_const : {left at m v : ℕ} {rs n : List ℕ} → Represented t at CONSTANT (const v) (expression m) →
          word t at DETAIL ≡ v → v < m → Rep (suc left) at rs n (const v) (expression m)
      r_private : {left at i m r : ℕ} {rs n : List ℕ} → Represented t at PRIVATE (private i) (variable m) →
          word t at DETAIL ≡ r → Scope rs i r → Scope n i m → Rep (suc left) at rs n (private i) (variable m)
      r_name : {left at i : ℕ} {rs n : List ℕ} {o : Often} {T : Ty} {args : Args} →
          Represented t at NAME (name i o T args) T → i < ID-SPAN →
          word t at DETAIL ≡ i + ID-SPAN * (count args + COUNT-SPAN * onces o) →
          count args ≤ 4 → RepArgs left at 0 rs n args → Rep (suc left) at rs n (name i o T args) T
      r_fetch : {left at m : ℕ} {rs n : List ℕ} {X : Term} → Represented t at FETCH (fetch X) (expression m) →
          Rep left (word t at 5) rs n X (variable m) → Rep (suc left) at rs n (fetch X) (expression m)
      r_operate : {left at : ℕ} {rs n : List ℕ} {o : Operation} {L R : Term} → o.over ≡ N →
          Represented t at OPERATE (operate (operands o) o L R) (expression (results o)) →
          word t at DETAIL ≡ o.operator → o.operator < 9 →
          Rep left (word t at 5) rs n L (expression (operands o)) →
          Rep left (word t at 6) rs n R (expression (operands o)) →
          Rep (suc left) at rs n (operate (operands o) o L R) (expression (results o))
      r_assign : {left at m : ℕ} {rs n : List ℕ} {X E : Term} → Represented t at ASSIGN (assign m X E) command →
          Rep left (word t at 5) rs n X (variable m) → Rep left (word t at 6) rs n E (expression m) →
          Rep (suc left) at rs n (assign m X E) command
      r_seq : {left at : ℕ} {rs n : List ℕ} {C M : Term} {T : Ty} → Represented t at SEQUENCE (seq C M) T →
          Rep left (word t at 5) rs n C command → Rep left (word t at 6) rs n M T → Rep (suc left) at rs n (seq C M) T
      r_cond : {left at : ℕ} {rs n : List ℕ} {B C M : Term} {T : Ty} → Represented t at IF (cond B C M) T →
          Rep left (word t at 5) rs n B (expression 2) → Rep left (word t at 6) rs n C T →
          Rep left (word t at 7) rs n M T → Rep (suc left) at rs n (cond B C M) T
      r_while : {left at : ℕ} {rs n : List ℕ} {B C : Term} → Represented t at WHILE (while B C) command →
          Rep left (word t at 5) rs n B (expression 2) → Rep left (word t at 6) rs n C command →
          Rep (suc left) at rs n (while B C) command
      r_new : {left at m : ℕ} {rs n : List ℕ} {h : 0 < m} {C : Term} → Represented t at NEW (new m h C) command →
          word t at DETAIL ≡ m → Fresh rs at →
          Rep left (word t at 5) (at ∷ rs) (m ∷ n) C command → Rep (suc left) at rs n (new m h C) command

    -- arguments j, j + 1, .. of the name at a place
    pub data RepArgs : ℕ → ℕ → ℕ → List ℕ → List ℕ → Args → Type 0 where
      r_none : {left at j : ℕ} {rs n : List ℕ} → RepArgs left at j rs n no_args
      r_arg : {left at j : ℕ} {rs n : List ℕ} {T : Ty} {M : Term} {args : Args} →
          Rep left (word t at (5 + j)) rs n M T → RepArgs left at (j + 1) rs n args → RepArgs left at j rs n (arg T M args)
