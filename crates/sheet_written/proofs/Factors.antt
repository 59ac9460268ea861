-- The factors of a weight are above 0.
use Prim.Native.Nat.{ℕ, zero, suc, ◌+◌, ◌*◌, ◌<◌}
use native.Mathlib.Omega.{arith}
use native.Mathlib.Nat.{mul-pos, eq-or-lt_of_le}
use mathlib.Core.Path.{◌≡◌}
use mathlib.Core.Bool.{Bool, true, false}
use mathlib.Core.Logic.{◌⊎◌, inl, inr}
use lib.Dec.{ltb}
use Rattle.language.specs.Choice.{pick}
use Rattle.language.specs.Number.{numbers, finites}
use Rattle.language.specs.Ty.{Ty, command, expression, variable, questions}
use Rattle.language.specs.Term.{Operation}
use Rattle.language.specs.Typing.{operands}
use Rattle.sheet_written.specs.Form.{Form, plus, times, sums}

pub some-operand : (o : Operation) → 0 < operands o
unfolding operands numbers finites
some-operand o = go (ltb o.operator 6)
  where
    go : (b : Bool) → 0 < pick b (numbers o.over) 2
    go true = omega arith
    go false = omega arith

pub some-question : (T : Ty) → 0 < questions T
unfolding questions
some-question command = omega arith
some-question (expression m) = omega arith
some-question (variable m) = omega arith

-- a summand of a sum of forms
summand-step : (m : ℕ) (c : ℕ → ℕ) (f : ℕ → Form) (s j : ℕ) → (j ≡ m) ⊎ (j < m) → 0 < c j → 0 < (f j).of s →
    (j < m → 0 < (sums m c f).of s) → 0 < (sums m c f).of s + c m * (f m).of s
summand-step m c f s j (inl e) p q rec =
    let p' : 0 < c m = rw e at p in
    let q' : 0 < (f m).of s = rw e at q in
    omega (arith, mul-pos p' q')
summand-step m c f s j (inr l) p q rec = omega (arith, rec l)

pub summand : (m : ℕ) (c : ℕ → ℕ) (f : ℕ → Form) (s j : ℕ) → j < m → 0 < c j → 0 < (f j).of s → 0 < (sums m c f).of s
unfolding sums plus times
summand zero c f s j h p q = absurd (omega arith)
summand (suc m) c f s j h p q =
    summand-step m c f s j (eq-or-lt_of_le (omega arith)) p q (λ l. summand m c f s j l p q)
