-- *Equal* says no of two codes that are not the same, of any class.
use Rattle.std.specs.Prelude.{Some}
use mathlib.Core.Path.{◌≡◌, sym, ◌∙◌}
use mathlib.Core.Bool.{false}
use Prim.Native.Nat.{ℕ, ◌+◌, ◌<◌}
use native.Mathlib.Omega.{arith}
use native.Mathlib.Decide.{dec_lt, ℕ_discrete}
use borrow.Author.Tests.{eq-eqb, ne_eqb, lt-ltb, le-ltb}
use Rattle.language.specs.declared.Numbers.{Numbers}
use Rattle.language.specs.Number.{finites, class_of}
use Rattle.language.specs.Operator.{truth, compared, equal_of, operate}

-- the class of a code
data Class (N : Numbers) (x : ℕ) : Type 0 where
  finite : class_of N x ≡ 0 → Class N x
  minus : x ≡ finites N → class_of N x ≡ 1 → Class N x
  plus : x ≡ finites N + 1 → class_of N x ≡ 2 → Class N x
  none : class_of N x ≡ 3 → Class N x

class : (N : Numbers) (x : ℕ) → Class N x
unfolding class_of
class N x = go (dec_lt x (finites N)) (ℕ_discrete x (finites N)) (ℕ_discrete x (finites N + 1))
  where
    go : Dec (x < finites N) → Dec (x ≡ finites N) → Dec (x ≡ finites N + 1) → Class N x
    go (yes a) b d = finite (rw (lt-ltb x (finites N) a))
    go (no a) (yes b) d = minus b (rw (le-ltb x (finites N) (omega arith), eq-eqb x (finites N) b))
    go (no a) (no b) (yes d) =
        plus d (rw (le-ltb x (finites N) (omega arith), ne_eqb x (finites N) b, eq-eqb x (finites N + 1) d))
    go (no a) (no b) (no d) =
        none (rw (le-ltb x (finites N) (omega arith), ne_eqb x (finites N) b, ne_eqb x (finites N + 1) d))

-- values that are not the same are not equal
unequal : (N : Numbers) (x y : ℕ) → (x ≡ y → ⊥) → equal_of N x y ≡ false
unfolding equal_of compared
unequal N x y n = go (class N x) (class N y)
  where
    go : Class N x → Class N y → equal_of N x y ≡ false
    go (finite a) (finite b) = rw (a, b, ne_eqb x y n)
    go (finite a) (minus f b) = rw (a, b)
    go (finite a) (plus f b) = rw (a, b)
    go (finite a) (none b) = rw (a, b)
    go (minus e a) (finite b) = rw (a, b)
    go (minus e a) (minus f b) = absurd (n (e ∙ sym f))
    go (minus e a) (plus f b) = rw (a, b)
    go (minus e a) (none b) = rw (a, b)
    go (plus e a) (finite b) = rw (a, b)
    go (plus e a) (minus f b) = rw (a, b)
    go (plus e a) (plus f b) = absurd (n (e ∙ sym f))
    go (plus e a) (none b) = rw (a, b)
    go (none a) (finite b) = rw (a, b)
    go (none a) (minus f b) = rw (a, b)
    go (none a) (plus f b) = rw (a, b)
    go (none a) (none b) = rw (a, b)

-- THEOREM: *equal* says no of two codes that are not the same
pub operate-unequal : (N : Numbers) (x y : ℕ) → (x ≡ y → ⊥) → operate N 4 x y ≡ Some 0
unfolding operate truth
operate-unequal N x y n = rw (unequal N x y n)
