-- The words of shared rows, document 02 [1]: what each row's words say of its parts' words. Only inner contracts cite it.
use Rattle.std.specs.Prelude.{ℕ, suc, ◌+◌, ◌*◌, ◌≤◌, ◌<◌, ◌≡◌, List, [], ◌∷◌}
use Rattle.std.proofs.Math.Option.{Option, some}
use Rattle.language.specs.Ty.{Ty, command, expression, variable, questions, answers}
use Rattle.language.specs.Term.{Operation, Often, onces}
use Rattle.language.specs.Weight.{use_weight}
use Rattle.language.specs.Typing.{operands, results}
use Rattle.language.specs.declared.Numbers.{Numbers}
use Rattle.sheet_written.specs.Held.{held}
use Rattle.sheet_written.specs.Shared.{Parts, no_part, part, Row, skip, diverge, const, private, name, fetch, operate}
use Rattle.sheet_written.specs.Shared.{assign, seq, while, cond, new}
use Rattle.sheet_rows.specs.Row.{word}
use Rattle.sheet_rows.specs.Rep.{TyRow, ROWS}

-- how many parts there are
unfoldable pub counted : Parts → ℕ
counted no_part = 0
counted (part T a xs) = suc (counted xs)

-- what arguments add to the weight of their name
unfoldable pub argument_weights : List ℕ → Parts → ℕ
argument_weights u no_part = 0
argument_weights u (part T a xs) = questions T * word u a 1 + answers T + argument_weights u xs

-- arguments j, j + 1, .. of the row r
unfoldable pub Arguments : List ℕ → ℕ → ℕ → Parts → Type 0
Arguments u r j no_part = Unit
Arguments u r j (part T a xs) = (word u r (5 + j) ≡ a) × TyRow u a T × Arguments u r (j + 1) xs

-- the kind, the weight and the type of the row r
pub record RowWords (u : List ℕ) (r kind w : ℕ) (T : Ty) : Type 0 where
  pub inside : r < ROWS
  pub kinded : word u r 0 ≡ kind
  pub weighed : word u r 1 ≡ held w
  pub typed : TyRow u r T

module _ (N : Numbers) (u : List ℕ) where
  abbrev w : ℕ → ℕ
  w r = word u r 1

  -- the row r in words is x and has the type T
  pub data Worded (r : ℕ) : Row → Ty → Type 0 where
    of_skip : RowWords u r 16 1 command → Worded r skip command
    of_diverge : {T : Ty} → RowWords u r 17 1 T → Worded r diverge T
    of_const : {v m : ℕ} → RowWords u r 18 1 (expression m) → word u r 4 ≡ v → v < m → Worded r (const v) (expression m)
    of_private : {b m : ℕ} → RowWords u r 128 2 (variable m) → word u r 4 ≡ b → word u b 4 ≡ m →
        Worded r (private b) (variable m)
    of_name : {i : ℕ} {o : Often} {T : Ty} {xs : Parts} → RowWords u r 20 (use_weight o + argument_weights u xs) T →
        i < 256 → word u r 4 ≡ i + 256 * (counted xs + 8 * onces o) → counted xs ≤ 4 → Arguments u r 0 xs →
        Worded r (name i o T xs) T
    of_fetch : {a m : ℕ} → RowWords u r 21 (w a) (expression m) → word u r 5 ≡ a → TyRow u a (variable m) →
        Worded r (fetch a) (expression m)
    of_operate : {o : Operation} {a b : ℕ} → o.over ≡ N →
        RowWords u r 22 (w a + operands o * w b) (expression (results o)) → word u r 4 ≡ o.operator → o.operator < 9 →
        word u r 5 ≡ a → word u r 6 ≡ b → TyRow u a (expression (operands o)) → TyRow u b (expression (operands o)) →
        Worded r (operate (operands o) o a b) (expression (results o))
    of_assign : {m a b : ℕ} → RowWords u r 23 (w b + m * w a) command → 0 < m → word u r 5 ≡ a → word u r 6 ≡ b →
        TyRow u a (variable m) → TyRow u b (expression m) → Worded r (assign m a b) command
    of_seq : {a b : ℕ} {T : Ty} → RowWords u r 24 (w a + w b) T → word u r 5 ≡ a → word u r 6 ≡ b →
        TyRow u a command → TyRow u b T → Worded r (seq a b) T
    of_cond : {a b c : ℕ} {T : Ty} → RowWords u r 25 (w a + (w b + w c)) T → word u r 5 ≡ a → word u r 6 ≡ b →
        word u r 7 ≡ c → TyRow u a (expression 2) → TyRow u b T → TyRow u c T → Worded r (cond a b c) T
    of_while : {a b : ℕ} → RowWords u r 26 (w a + w b) command → word u r 5 ≡ a → word u r 6 ≡ b →
        TyRow u a (expression 2) → TyRow u b command → Worded r (while a b) command
    of_new : {m a : ℕ} → RowWords u r 27 (m * w a) command → word u r 4 ≡ m → word u r 5 ≡ a → TyRow u a command →
        Worded r (new m a) command

  -- every row of R is so in words
  abbrev pub AllWorded : (ℕ → Option Row) → Type 0
  AllWorded R = (r : ℕ) (x : Row) → R r ≡ some x → (T : Ty) × Worded r x T

-- the variables of the news with the rows rs have so many values
pub data Valued (u : List ℕ) : List ℕ → List ℕ → Type 0 where
  no_block : Valued u [] []
  a_block : {r m : ℕ} {rs n : List ℕ} → word u r 4 ≡ m → Valued u rs n → Valued u (r ∷ rs) (m ∷ n)
