-- The nine operators on codes. Document 01, "Plays" (overflow); document 02, [2] (remainder) and [8] (infinities).
-- SHEETS 5.
use Rattle.std.specs.Prelude.{ℕ, Bool, true, false, List, eqb, ltb, ℤ, pos, nat_abs, ◌+ℤ◌, ◌-ℤ◌, ◌*ℤ◌, Option, None, Some}
use Rattle.std.specs.Int.Signed.{lt_z}
use Rattle.language.specs.declared.Numbers.{Numbers}
use Rattle.language.specs.Choice.{pick}
use Rattle.language.specs.Number.{no_play, infinities, finites, minus_infinity, infinity, not_a_number, class_of}
use Rattle.language.specs.Number.{special, modulo, code, signed}
use Rattle.language.specs.Tables.{entry, arithmetic, yes, sums, differences, products, remainders, below, alike}
use Rattle.language.specs.Operators as op

-- the infinity of the sign of a result, and for 0 not-a-number
unfoldable pub infinity_by : Numbers → ℤ → ℕ
infinity_by N v =
    special N (pick (eqb (nat_abs v) 0) not_a_number (pick (lt_z v (pos 0)) minus_infinity infinity))

-- a result outside -Z to Z: "has no play under rule 0; under rule 1 a multiple of 2Z + 1 is added or taken away until
-- it fits"; under rule 2 it "becomes the infinity of its sign"
unfoldable pub beyond : Numbers → ℤ → Option ℕ
beyond N v =
    pick (eqb N.rule no_play) None (Some (pick (eqb N.rule infinities) (infinity_by N v) (code N v)))

-- a result as the overflow rule takes it
unfoldable pub fit : Numbers → ℤ → Option ℕ
fit N v = pick (ltb N.z (nat_abs v)) (beyond N v) (Some (code N v))

-- "the number from 0 up to, but not including, the absolute value of the right operand that differs from the left
-- operand by a multiple of the right one" (document 02, [2]; `RemainderLaw`); by 0 there is none
unfoldable pub remainder : ℤ → ℤ → Option ℤ
remainder x y = pick (eqb (nat_abs y) 0) None (Some (pos (modulo x (nat_abs y))))

-- a remainder as the overflow rule takes it. Where there is none: "a right operand of 0 still has no play" ([2]), and
-- under rule 2 it is not-a-number ("remainder by zero", [8])
unfoldable pub fit_some : Numbers → Option ℤ → Option ℕ
fit_some N None = pick (eqb N.rule infinities) (Some (special N not_a_number)) None
fit_some N (Some v) = fit N v

-- the code of a truth
unfoldable pub truth : Bool → ℕ
truth b = pick b 1 0

-- what a table says of two values, by their classes
abbrev pub by_classes : List (List ℕ) → Numbers → ℕ → ℕ → ℕ
by_classes t N x y = entry t (class_of N x) (class_of N y)

-- the class that a table gives, where arithmetic does not decide
unfoldable pub settled : Numbers → ℕ → Option ℕ → Option ℕ
settled N k result = pick (eqb k arithmetic) result (Some (special N k))

-- the truth that a table gives, where arithmetic does not decide
unfoldable pub compared : ℕ → Bool → Bool
compared k result = pick (eqb k arithmetic) result (eqb k yes)

-- a product v of two values: of two numbers as the rule takes it, and with an infinity by its sign
unfoldable pub scaled : Numbers → ℕ → ℕ → ℤ → Option ℕ
scaled N x y v =
    pick (ltb x (finites N)) (pick (ltb y (finites N)) (fit N v) (Some (infinity_by N v))) (Some (infinity_by N v))

-- the operators on numbers: "settled by the class of each operand, four by four; only finite pairs, and finite times
-- infinity, need arithmetic"
unfoldable pub plus_of : Numbers → ℕ → ℕ → Option ℕ
plus_of N x y = settled N (by_classes sums N x y) (fit N (signed N x +ℤ signed N y))

unfoldable pub minus_of : Numbers → ℕ → ℕ → Option ℕ
minus_of N x y = settled N (by_classes differences N x y) (fit N (signed N x -ℤ signed N y))

unfoldable pub times_of : Numbers → ℕ → ℕ → Option ℕ
times_of N x y = settled N (by_classes products N x y) (scaled N x y (signed N x *ℤ signed N y))

unfoldable pub remainder_of : Numbers → ℕ → ℕ → Option ℕ
remainder_of N x y =
    settled N (by_classes remainders N x y) (fit_some N (remainder (signed N x) (signed N y)))

unfoldable pub less_of : Numbers → ℕ → ℕ → Bool
less_of N x y = compared (by_classes below N x y) (lt_z (signed N x) (signed N y))

-- numbers are equal exactly if their codes are
unfoldable pub equal_of : Numbers → ℕ → ℕ → Bool
equal_of N x y = compared (by_classes alike N x y) (eqb x y)

-- The result's code, from the operands' codes. Truths are equal exactly if their codes are: `equal_truths` is what the
-- other cases leave.
unfoldable pub operate : Numbers → ℕ → ℕ → ℕ → Option ℕ
operate N o x y =
    pick (eqb o op.plus) (plus_of N x y)
    (pick (eqb o op.minus) (minus_of N x y)
    (pick (eqb o op.times) (times_of N x y)
    (pick (eqb o op.remainder) (remainder_of N x y)
    (pick (eqb o op.equal) (Some (truth (equal_of N x y)))
    (pick (eqb o op.less) (Some (truth (less_of N x y)))
    (pick (eqb o op.and) (Some (truth (pick (eqb x 1) (eqb y 1) false)))
    (pick (eqb o op.or) (Some (truth (pick (eqb x 1) true (eqb y 1))))
    (Some (truth (eqb x y))))))))))
