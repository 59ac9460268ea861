-- Two classes become one. Assumes nothing.
use mathlib.Core.Logic.{◌≢◌}
use mathlib.Core.Path.{◌≡◌}
use Prim.Native.Nat.{ℕ}
use borrow.Author.Tests.{eq-eqb, ne_eqb}
use Rattle.dfa_search.specs.Classes.{merge}

module _ (rep : ℕ → ℕ) (a b x : ℕ) where
  pub merge_in : rep x ≡ rep a → merge rep a b x ≡ rep b
  merge_in e = rw (eq-eqb (rep x) (rep a) e)

  pub merge-out : rep x ≢ rep a → merge rep a b x ≡ rep x
  merge-out e = rw (ne_eqb (rep x) (rep a) e)
