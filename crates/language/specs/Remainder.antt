-- That `remainder` is document 02's, [2]: "the number from 0 up to, but not including, the absolute value of the right
-- operand that differs from the left operand by a multiple of the right one; a right operand of 0 still has no play".
-- What becomes of a right operand of 0 under each rule: `fit_some`, `OverflowRules`, `NoNumber`.
use Rattle.std.specs.Prelude.{ℕ, ◌≤◌, ◌<◌, ◌≡◌, ℤ, pos, nat_abs, ◌+ℤ◌, ◌*ℤ◌, None, Some}
use Rattle.language.specs.declared.Numbers.{Numbers}
use Rattle.language.specs.Operator.{fit, remainder}

-- r is from 0 up to, but not including, the absolute value of y, and differs from x by a multiple of y
pub record IsRemainder (x y : ℤ) (r : ℕ) : Type 0 where
  pub below : r < nat_abs y
  pub multiple : (k : ℤ) × (x ≡ pos r +ℤ k *ℤ y)

-- `remainder` gives the one number that is a remainder of x by y, and an overflow rule leaves it
pub record RemainderLaw (x y : ℤ) : Type 0 where
  -- a right operand of 0 has no result
  pub by_0 : y ≡ pos 0 → remainder x y ≡ None
  -- for any other there is such a number, and it is the result
  pub given : (y ≡ pos 0 → ⊥) → (r : ℕ) × (remainder x y ≡ Some (pos r)) × IsRemainder x y r
  -- there is only one
  pub only : (r s : ℕ) → IsRemainder x y r → IsRemainder x y s → r ≡ s
  -- for a right operand from -Z to Z it is at most Z - 1, and under every overflow rule it is its own code
  pub kept : (N : Numbers) (r : ℕ) → nat_abs y ≤ N.z → IsRemainder x y r → (r < N.z) × (fit N (pos r) ≡ Some r)
