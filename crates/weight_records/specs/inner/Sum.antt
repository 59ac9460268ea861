-- The weight of a record as the sum of the constants of its parts' forms.
use Rattle.std.specs.Prelude.{ℕ, zero, suc, ◌+◌, ◌*◌, ◌<◌, ◌≡◌, List}
use Rattle.sheet_written.specs.Held.{held}
use Rattle.weight_theory.specs.Stack.{form_word}

-- how often part j weighs
unfoldable pub times : ℕ → ℕ → ℕ → ℕ
times first second zero = first
times first second (suc zero) = second
times first second (suc (suc j)) = 1

-- a and the constants of parts j, j + 1, .., n of them; the form of part j is `from + j`
unfoldable pub sum_from : List ℕ → ℕ → ℕ → ℕ → ℕ → ℕ → ℕ → ℕ
sum_from t from first second zero j a = a
sum_from t from first second (suc n) j a =
    sum_from t from first second n (suc j) (a + times first second j * form_word t (from + j) 1)

-- c is that sum of n parts, whose forms have no coefficients
pub record SumOf (t : List ℕ) (from n first second c : ℕ) : Type 0 where
  pub bare : (j : ℕ) → j < n → form_word t (from + j) 0 ≡ 0
  pub sum : held c ≡ held (sum_from t from first second n 0 0)
