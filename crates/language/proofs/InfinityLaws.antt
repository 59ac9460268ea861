-- The sentences of document 02, [8], about infinities and not-a-number, and those of document 01 about rules 0 and 1.
use Rattle.std.specs.Prelude.{Option, None, Some}
use Prim.Native.Nat.{ℕ, zero, suc, ◌+◌, ◌-◌, ◌*◌, ◌≤◌, ◌<◌}
use native.Mathlib.Omega.{arith}
use mathlib.Core.Path.{◌≡◌, refl, ap, ◌∙◌}
use mathlib.Core.Bool.{Bool, true, false}
use mathlib.Core.List.{List, [], ◌∷◌}
use lib.Dec.{eqb, ltb}
use lib.ListN.{get_or}
use lib.IntN.{ℤ, pos, negsuc, neg_ℤ, nat_abs, ◌+ℤ◌, ◌-ℤ◌, ◌*ℤ◌}
use lib.Signed.{lt_z}
use borrow.Author.Tests.{eq-eqb, ne_eqb, lt-ltb, le-ltb, lt-leb, ltb-true, ltb-false}
use Rattle.language.specs.declared.Numbers.{Numbers}
use Rattle.language.specs.Choice.{pick}
use Rattle.language.specs.Number.{finites, extras, numbers, finite, minus_infinity, infinity}
use Rattle.language.specs.Number.{not_a_number, class_of, special, code, signed, in_range}
use Rattle.language.specs.Tables as tables
use Rattle.language.specs.Tables.{entry, sums, differences, products, remainders}
use Rattle.language.specs.Operator.{infinity_by, beyond, fit, fit_some, remainder, truth, settled, compared, scaled}
use Rattle.language.specs.Operator.{plus_of, minus_of, times_of, remainder_of, less_of, equal_of, operate}
use Rattle.language.specs.Infinity.{least, greatest, none_of, Infinite, below, above, FiniteValue, ThreeMore}
use Rattle.language.specs.Infinity.{ExactResult, sum, difference, product, FinitePairs, OverflowRules}
use Rattle.language.specs.Infinity.{NothingLost, NoNumber, UsualSign, EqualAndLess, zeros_of, zeros}
use Rattle.language.specs.Infinity.{NeedArithmetic}
use Rattle.language.proofs.NumberLaws.{by-test, finites-are, finites-above, code-finite, signed-least}
use Rattle.language.proofs.NumberLaws.{signed-greatest, signed-none, signed-injective, signed-from-0}
use Rattle.language.proofs.NumberLaws.{signed-below-0, minus-below}
use Rattle.language.proofs.OperatorLaws.{finite-class, class-below, any-pair, operate-number}

-- rows and columns of the tables
threes : (k : ℕ) → k < 4 → ◌≡◌ {A = ℕ} (get_or (3 ∷ 3 ∷ 3 ∷ 3 ∷ []) k 0) 3
threes zero h = refl
threes (suc zero) h = refl
threes (suc (suc zero)) h = refl
threes (suc (suc (suc zero))) h = refl
threes (suc (suc (suc (suc k)))) h = absurd (omega arith)

ones : (k : ℕ) → k < 4 → ◌≡◌ {A = ℕ} (get_or (1 ∷ 1 ∷ 1 ∷ 1 ∷ []) k 0) 1
ones zero h = refl
ones (suc zero) h = refl
ones (suc (suc zero)) h = refl
ones (suc (suc (suc zero))) h = refl
ones (suc (suc (suc (suc k)))) h = absurd (omega arith)

-- the entries of a column
abbrev column_of : List (List ℕ) → ℕ → List ℕ
column_of t b = entry t 0 b ∷ entry t 1 b ∷ entry t 2 b ∷ entry t 3 b ∷ []

column : (t : List (List ℕ)) (b v : ℕ) → column_of t b ≡ v ∷ v ∷ v ∷ v ∷ [] → (a : ℕ) → a < 4 → entry t a b ≡ v
column t b v e zero h = ap (λ (xs : List ℕ). get_or xs 0 0) e
column t b v e (suc zero) h = ap (λ (xs : List ℕ). get_or xs 1 0) e
column t b v e (suc (suc zero)) h = ap (λ (xs : List ℕ). get_or xs 2 0) e
column t b v e (suc (suc (suc zero))) h = ap (λ (xs : List ℕ). get_or xs 3 0) e
column t b v e (suc (suc (suc (suc a)))) h = absurd (omega arith)

module _ (N : Numbers) where
  -- the classes of the three values
  class-least : class_of N (least N) ≡ minus_infinity
  unfolding class_of special
  class-least =
      rw (
        le-ltb (2 * N.z + 1) (finites N) (omega (arith, finites-are N)),
        eq-eqb (2 * N.z + 1) (finites N) (omega (arith, finites-are N)),
      )

  class-greatest : class_of N (greatest N) ≡ infinity
  unfolding class_of special
  class-greatest =
      rw (
        le-ltb (2 * N.z + 2) (finites N) (omega (arith, finites-are N)),
        ne_eqb (2 * N.z + 2) (finites N) (λ e. omega (arith, finites-are N)),
        eq-eqb (2 * N.z + 2) (finites N + 1) (omega (arith, finites-are N)),
      )

  class-none : class_of N (none_of N) ≡ not_a_number
  unfolding class_of special
  class-none =
      rw (
        le-ltb (2 * N.z + 3) (finites N) (omega (arith, finites-are N)),
        ne_eqb (2 * N.z + 3) (finites N) (λ e. omega (arith, finites-are N)),
        ne_eqb (2 * N.z + 3) (finites N + 1) (λ e. omega (arith, finites-are N)),
      )

  -- THEOREM: there are three more values, with these bytes
  pub three-more : ThreeMore N
  unfolding numbers extras finites
  three-more = record {
    count = λ e. rw (eq-eqb N.rule 2 e) (omega arith);
    no_more = λ e. rw (ne_eqb N.rule 2 e) (omega arith);
    minus_infinite = signed-least N;
    infinite = signed-greatest N;
    no_number = signed-none N;
    apart = λ few x y h k e. signed-injective N few x y h k e;
    constants = λ b. code-finite N _;
    start = finites-above N;
    not_least = out_of_range 129 (omega arith) (omega arith);
    not_greatest = out_of_range 126 (omega arith) (omega arith);
    not_none = out_of_range 127 (omega arith) (omega arith);
  }
    where
      out_of_range : (b : ℕ) → 125 < b → b < 131 → N.z ≤ 125 → in_range N b ≡ false
      out_of_range b h k few =
          unfold in_range in rw (lt-leb b N.z (omega arith), lt-leb (256 - N.z) b (omega arith))

  -- the class of a number, and of 0
  class-zero : class_of N 0 ≡ finite
  class-zero = finite-class N 0 (omega (arith, finites-are N))

  -- THEOREM: the operators on two numbers
  finite-pairs : FinitePairs N
  unfolding operate plus_of minus_of times_of remainder_of equal_of less_of settled compared scaled
  finite-pairs = record {
    exact = exact;
    remainders = λ x y h k. rw (finite-class N x h, finite-class N y k);
    equals = λ x y h k. rw (finite-class N x h, finite-class N y k);
    lesses = λ x y h k. rw (finite-class N x h, finite-class N y k);
  }
    where
      exact : (o x y : ℕ) (v : ℤ) → ExactResult N o x y v → operate N o x y ≡ fit N v
      exact o x y v (sum h k) = rw (finite-class N x h, finite-class N y k)
      exact o x y v (difference h k) = rw (finite-class N x h, finite-class N y k)
      exact o x y v (product h k) =
          rw (finite-class N x h, finite-class N y k, lt-ltb x (finites N) h, lt-ltb y (finites N) k)

  -- a result by the rule
  module _ (v : ℤ) where
    fit-within : nat_abs v ≤ N.z → fit N v ≡ Some (code N v)
    unfolding fit
    fit-within h = rw (le-ltb N.z (nat_abs v) h)

    fit-no-play : N.rule ≡ 0 → N.z < nat_abs v → fit N v ≡ None
    unfolding fit beyond
    fit-no-play e h = rw (lt-ltb N.z (nat_abs v) h, eq-eqb N.rule 0 e)

    fit-turned : N.rule ≡ 1 → fit N v ≡ Some (code N v)
    unfolding fit beyond
    fit-turned e =
        by-test (ltb N.z (nat_abs v))
        (λ t. rw (t, ne_eqb N.rule 0 (λ z. omega arith), ne_eqb N.rule 2 (λ z. omega arith)))
        (λ t. rw t)

    fit-beyond : N.rule ≡ 2 → N.z < nat_abs v → fit N v ≡ Some (infinity_by N v)
    unfolding fit beyond
    fit-beyond e h =
        rw (lt-ltb N.z (nat_abs v) h, ne_eqb N.rule 0 (λ z. omega arith), eq-eqb N.rule 2 e)

    signed-infinity : N.z < nat_abs v → infinity_by N v ≡ special N (pick (lt_z v (pos 0)) minus_infinity infinity)
    unfolding infinity_by
    signed-infinity h = rw (ne_eqb (nat_abs v) 0 (λ e. omega arith))

  -- THEOREM: what becomes of a result, by the rule
  pub overflow-rules : OverflowRules N
  overflow-rules = record {
    within = λ o x y v r h. finite-pairs.exact o x y v r ∙ fit-within v h;
    no-play = λ e o x y v r h. finite-pairs.exact o x y v r ∙ fit-no-play v e h;
    turned = λ e o x y v r. finite-pairs.exact o x y v r ∙ fit-turned v e;
    beyond_below = λ e o x y v r h t. signs e o x y v r h true t;
    beyond_above = λ e o x y v r h t. signs e o x y v r h false t;
    not_divided = λ e x h.
        finite-pairs.remainders x 0 h (finites-above N) ∙
        unfold fit_some remainder in rw (signed-from-0 N 0 (omega arith), ne_eqb N.rule 2 e);
  }
    where
      signs : N.rule ≡ 2 → (o x y : ℕ) (v : ℤ) → ExactResult N o x y v → N.z < nat_abs v → (b : Bool) →
          lt_z v (pos 0) ≡ b → operate N o x y ≡ Some (special N (pick b minus_infinity infinity))
      signs e o x y v r h b t =
          finite-pairs.exact o x y v r ∙ fit-beyond v e h ∙ ap Some (signed-infinity v h) ∙
          ap (λ (c : Bool). Some (special N (pick c minus_infinity infinity))) t

  not-finite-least : ltb (least N) (finites N) ≡ false
  unfolding special
  not-finite-least = le-ltb (2 * N.z + 1) (finites N) (omega (arith, finites-are N))

  not-finite-greatest : ltb (greatest N) (finites N) ≡ false
  unfolding special
  not-finite-greatest = le-ltb (2 * N.z + 2) (finites N) (omega (arith, finites-are N))

  -- the infinity of a sign
  of_negative : (m : ℕ) → 0 < m → infinity_by N (neg_ℤ (pos m)) ≡ least N
  unfolding infinity_by
  of_negative zero h = absurd (omega arith)
  of_negative (suc m) h = rw (ne_eqb (suc m) 0 (λ e. omega arith))

  of_positive : (m : ℕ) → 0 < m → infinity_by N (pos m) ≡ greatest N
  unfolding infinity_by
  of_positive m h = rw (ne_eqb m 0 (λ e. omega arith), le-ltb m 0 (omega arith))

  -- THEOREM: what gives not-a-number
  -- no remainder by zero
  no-quotient : N.rule ≡ 2 → (x : ℕ) → fit_some N (remainder (signed N x) (signed N 0)) ≡ Some (none_of N)
  unfolding fit_some remainder
  no-quotient e x = rw (signed-from-0 N 0 (omega arith), eq-eqb N.rule 2 e) refl

  no_number : NoNumber N
  unfolding operate plus_of minus_of times_of remainder_of settled
  no_number = record {
    left = left;
    right = right;
    opposite = opposite;
    itself = itself;
    zero_times = zero_times;
    times_zero = times_zero;
    by_zero = by_zero;
    remainder_of = remainder_of;
    remainder_by = remainder_by;
  }
    where
      left : (o y : ℕ) → o < 4 → operate N o (none_of N) y ≡ Some (none_of N)
      left zero y h = rw (class-none, threes (class_of N y) (class-below N y))
      left (suc zero) y h = rw (class-none, threes (class_of N y) (class-below N y))
      left (suc (suc zero)) y h = rw (class-none, threes (class_of N y) (class-below N y))
      left (suc (suc (suc zero))) y h = rw (class-none, threes (class_of N y) (class-below N y))
      left (suc (suc (suc (suc o)))) y h = absurd (omega arith)

      right : (o x : ℕ) → o < 4 → operate N o x (none_of N) ≡ Some (none_of N)
      right zero x h = rw (class-none, column sums 3 3 refl (class_of N x) (class-below N x))
      right (suc zero) x h = rw (class-none, column differences 3 3 refl (class_of N x) (class-below N x))
      right (suc (suc zero)) x h = rw (class-none, column products 3 3 refl (class_of N x) (class-below N x))
      right (suc (suc (suc zero))) x h = rw (class-none, column remainders 3 3 refl (class_of N x) (class-below N x))
      right (suc (suc (suc (suc o)))) x h = absurd (omega arith)

      opposite : (x y : ℕ) → Infinite N x y → operate N 0 x y ≡ Some (none_of N)
      opposite x y below = rw (class-least, class-greatest)
      opposite x y above = rw (class-least, class-greatest)

      itself : (x y : ℕ) → Infinite N x y → operate N 1 x x ≡ Some (none_of N)
      itself x y below = rw class-least
      itself x y above = rw class-greatest

      zero_times : (x y : ℕ) → Infinite N x y → operate N 2 0 x ≡ Some (none_of N)
      zero_times x y below =
          rw (class-zero, class-least) (unfold scaled infinity_by in
          rw (
            lt-ltb 0 (finites N) (omega (arith, finites-are N)),
            not-finite-least,
            signed-from-0 N 0 (omega arith),
            signed-least N,
          ))
      zero_times x y above =
          rw (class-zero, class-greatest) (unfold scaled infinity_by in
          rw (
            lt-ltb 0 (finites N) (omega (arith, finites-are N)),
            not-finite-greatest,
            signed-from-0 N 0 (omega arith),
            signed-greatest N,
          ))

      times_zero : (x y : ℕ) → Infinite N x y → operate N 2 x 0 ≡ Some (none_of N)
      times_zero x y below =
          rw (class-zero, class-least) (unfold scaled infinity_by in
          rw (not-finite-least, signed-from-0 N 0 (omega arith), signed-least N))
      times_zero x y above =
          rw (class-zero, class-greatest) (unfold scaled infinity_by in
          rw (not-finite-greatest, signed-from-0 N 0 (omega arith), signed-greatest N))

      by_zero : N.rule ≡ 2 → (x : ℕ) → FiniteValue N x → operate N 3 x 0 ≡ Some (none_of N)
      by_zero e x h = rw (finite-class N x h, class-zero) (no-quotient e x)

      remainder_of : (x y z : ℕ) → Infinite N x y → operate N 3 x z ≡ Some (none_of N)
      remainder_of x y z below = rw (class-least, threes (class_of N z) (class-below N z))
      remainder_of x y z above = rw (class-greatest, threes (class_of N z) (class-below N z))

      remainder_by : (x y z : ℕ) → Infinite N x y → operate N 3 z x ≡ Some (none_of N)
      remainder_by x y z below = rw (class-least, column remainders 1 3 refl (class_of N z) (class-below N z))
      remainder_by x y z above = rw (class-greatest, column remainders 2 3 refl (class_of N z) (class-below N z))

  -- a product with an infinity
  module _ (z : ℕ) where
    least_by : scaled N (least N) z (signed N (least N) *ℤ signed N z) ≡ Some (infinity_by N (negsuc 126 *ℤ signed N z))
    unfolding scaled
    least_by = rw (not-finite-least, signed-least N)

    greatest-by :
        scaled N (greatest N) z (signed N (greatest N) *ℤ signed N z) ≡ Some (infinity_by N (pos 126 *ℤ signed N z))
    unfolding scaled
    greatest-by = rw (not-finite-greatest, signed-greatest N)

    by-least :
        FiniteValue N z → scaled N z (least N) (signed N z *ℤ signed N (least N))
        ≡ Some (infinity_by N (signed N z *ℤ negsuc 126))
    unfolding scaled
    by-least h = rw (lt-ltb z (finites N) h, not-finite-least, signed-least N)

    by-greatest :
        FiniteValue N z → scaled N z (greatest N) (signed N z *ℤ signed N (greatest N))
        ≡ Some (infinity_by N (signed N z *ℤ pos 126))
    unfolding scaled
    by-greatest h = rw (lt-ltb z (finites N) h, not-finite-greatest, signed-greatest N)

  -- THEOREM: the usual sign
  pub usual-sign : UsualSign N
  unfolding operate plus_of minus_of times_of settled
  usual-sign = record {
    sum_left = sum_left;
    sum_right = sum_right;
    sum_both = sum_both;
    difference_left = difference_left;
    difference_right = difference_right;
    difference_both = difference_both;
    product_same = product_same;
    product_opposite = product_opposite;
    times_positive = times_positive;
    positive_times = positive_times;
    times_negative = times_negative;
    negative_times = negative_times;
  }
    where
      sum_left : (x y z : ℕ) → Infinite N x y → FiniteValue N z → operate N 0 x z ≡ Some x
      sum_left x y z below h = rw (class-least, finite-class N z h)
      sum_left x y z above h = rw (class-greatest, finite-class N z h)

      sum_right : (x y z : ℕ) → Infinite N x y → FiniteValue N z → operate N 0 z x ≡ Some x
      sum_right x y z below h = rw (class-least, finite-class N z h)
      sum_right x y z above h = rw (class-greatest, finite-class N z h)

      sum_both : (x y : ℕ) → Infinite N x y → operate N 0 x x ≡ Some x
      sum_both x y below = rw class-least
      sum_both x y above = rw class-greatest

      difference_left : (x y z : ℕ) → Infinite N x y → FiniteValue N z → operate N 1 x z ≡ Some x
      difference_left x y z below h = rw (class-least, finite-class N z h)
      difference_left x y z above h = rw (class-greatest, finite-class N z h)

      difference_right : (x y z : ℕ) → Infinite N x y → FiniteValue N z → operate N 1 z x ≡ Some y
      difference_right x y z below h = rw (class-least, finite-class N z h)
      difference_right x y z above h = rw (class-greatest, finite-class N z h)

      difference_both : (x y : ℕ) → Infinite N x y → operate N 1 x y ≡ Some x
      difference_both x y below = rw (class-least, class-greatest)
      difference_both x y above = rw (class-least, class-greatest)

      product_same : (x y : ℕ) → Infinite N x y → operate N 2 x x ≡ Some (greatest N)
      product_same x y below = rw class-least
      product_same x y above = rw class-greatest

      product_opposite : (x y : ℕ) → Infinite N x y → operate N 2 x y ≡ Some (least N)
      product_opposite x y below = rw (class-least, class-greatest)
      product_opposite x y above = rw (class-least, class-greatest)

      finite-of : (z : ℕ) → z ≤ N.z → FiniteValue N z
      finite-of z h = omega (arith, finites-are N)

      times_positive : (x y z : ℕ) → Infinite N x y → 0 < z → z ≤ N.z → operate N 2 x z ≡ Some x
      times_positive x y z below p h =
          rw (class-least, finite-class N z (finite-of z h)) (least_by z ∙
          rw (signed-from-0 N z h) (ap Some (of_negative (127 * z) (omega arith))))
      times_positive x y z above p h =
          rw (class-greatest, finite-class N z (finite-of z h)) (greatest-by z ∙
          rw (signed-from-0 N z h) (ap Some (of_positive (126 * z) (omega arith))))

      positive_times : (x y z : ℕ) → Infinite N x y → 0 < z → z ≤ N.z → operate N 2 z x ≡ Some x
      positive_times x y z below p h =
          rw (class-least, finite-class N z (finite-of z h)) (by-least z (finite-of z h) ∙
          rw (signed-from-0 N z h) (ap Some (of_negative (z * 127) (omega arith))))
      positive_times x y z above p h =
          rw (class-greatest, finite-class N z (finite-of z h)) (by-greatest z (finite-of z h) ∙
          rw (signed-from-0 N z h) (ap Some (of_positive (z * 126) (omega arith))))

      times_negative : (x y z : ℕ) → Infinite N x y → N.z < z → FiniteValue N z → operate N 2 x z ≡ Some y
      times_negative x y z below p h =
          rw (class-least, finite-class N z h) (least_by z ∙
          rw (signed-below-0 N z p h, minus-below z (finites N) h)
          (ap Some (of_positive (127 * suc (finites N - suc z)) (omega arith))))
      times_negative x y z above p h =
          rw (class-greatest, finite-class N z h) (greatest-by z ∙
          rw (signed-below-0 N z p h, minus-below z (finites N) h)
          (ap Some (of_negative (126 * suc (finites N - suc z)) (omega arith))))

      negative_times : (x y z : ℕ) → Infinite N x y → N.z < z → FiniteValue N z → operate N 2 z x ≡ Some y
      negative_times x y z below p h =
          rw (class-least, finite-class N z h) (by-least z h ∙
          rw (signed-below-0 N z p h, minus-below z (finites N) h)
          (ap Some (of_positive (suc (finites N - suc z) * 127) (omega arith))))
      negative_times x y z above p h =
          rw (class-greatest, finite-class N z h) (by-greatest z h ∙
          rw (signed-below-0 N z p h, minus-below z (finites N) h)
          (ap Some (of_negative (suc (finites N - suc z) * 126) (omega arith))))

  -- THEOREM: equal and less
  pub equal-and-less : EqualAndLess N
  unfolding operate equal_of less_of compared truth
  equal-and-less = record {
    equal_left = λ y. rw (class-none, ones (class_of N y) (class-below N y));
    equal_right = λ x. rw (class-none, column tables.alike 3 1 refl (class_of N x) (class-below N x));
    less_left = λ y. rw (class-none, ones (class_of N y) (class-below N y));
    less_right = λ x. rw (class-none, column tables.below 3 1 refl (class_of N x) (class-below N x));
    equal_itself = equal_itself;
    not_opposite = not_opposite;
    not_finite = not_finite;
    below_all = λ z h. (rw (class-least, finite-class N z h), rw (class-least, finite-class N z h));
    above_all = λ z h. (rw (class-greatest, finite-class N z h), rw (class-greatest, finite-class N z h));
    in_order = (rw (class-least, class-greatest), rw (class-least, class-greatest));
    not-less = not-less;
  }
    where
      equal_itself : (x y : ℕ) → Infinite N x y → operate N 4 x x ≡ Some 1
      equal_itself x y below = rw class-least
      equal_itself x y above = rw class-greatest

      not_opposite : (x y : ℕ) → Infinite N x y → operate N 4 x y ≡ Some 0
      not_opposite x y below = rw (class-least, class-greatest)
      not_opposite x y above = rw (class-least, class-greatest)

      not_finite : (x y z : ℕ) → Infinite N x y → FiniteValue N z →
          (operate N 4 x z ≡ Some 0) × (operate N 4 z x ≡ Some 0)
      not_finite x y z below h = (rw (class-least, finite-class N z h), rw (class-least, finite-class N z h))
      not_finite x y z above h = (rw (class-greatest, finite-class N z h), rw (class-greatest, finite-class N z h))

      not-less : (x y : ℕ) → Infinite N x y → operate N 5 x x ≡ Some 0
      not-less x y below = rw class-least
      not-less x y above = rw class-greatest

  -- a result
  abbrev Result : Option ℕ → Type 0
  Result r = (z : ℕ) × (r ≡ Some z)

  settled-result : (k : ℕ) (r : Option ℕ) → Result r → Result (settled N k r)
  unfolding settled
  settled-result k r h = go (eqb k 0)
    where
      go : (b : Bool) → Result (pick b r (Some (special N k)))
      go true = h
      go false = (special N k, refl)

  fit-result : N.rule ≡ 2 → (v : ℤ) → Result (fit N v)
  fit-result e v =
      by-test (ltb N.z (nat_abs v))
      (λ t. (infinity_by N v, fit-beyond v e (ltb-true N.z (nat_abs v) t)))
      (λ t. (code N v, fit-within v (ltb-false N.z (nat_abs v) t)))

  scaled-result : N.rule ≡ 2 → (x y : ℕ) (v : ℤ) → Result (scaled N x y v)
  unfolding scaled
  scaled-result e x y v = go (ltb x (finites N)) (ltb y (finites N))
    where
      go : (a b : Bool) → Result (pick a (pick b (fit N v) (Some (infinity_by N v))) (Some (infinity_by N v)))
      go true true = fit-result e v
      go true false = (infinity_by N v, refl)
      go false b = (infinity_by N v, refl)

  some_result : N.rule ≡ 2 → (v : Option ℤ) → Result (fit_some N v)
  unfolding fit_some
  some_result e None = rw (eq-eqb N.rule 2 e) (special N 3, refl)
  some_result e (Some v) = fit-result e v

  operate-result : N.rule ≡ 2 → (o x y : ℕ) → o < 4 → Result (operate N o x y)
  unfolding operate plus_of minus_of times_of remainder_of
  operate-result e zero x y l = settled-result _ _ (fit-result e (signed N x +ℤ signed N y))
  operate-result e (suc zero) x y l = settled-result _ _ (fit-result e (signed N x -ℤ signed N y))
  operate-result e (suc (suc zero)) x y l = settled-result _ _ (scaled-result e x y (signed N x *ℤ signed N y))
  operate-result e (suc (suc (suc zero))) x y l =
      settled-result _ _ (some_result e (remainder (signed N x) (signed N y)))
  operate-result e (suc (suc (suc (suc o)))) x y l = absurd (omega arith)

  -- THEOREM: under rule 2 no play is lost
  pub nothing-lost : NothingLost N
  nothing-lost e o x y l h k =
      let (z, d) = operate-result e o x y l in (z, d, operate-number N x y (any-pair e) o l d)

-- THEOREM: where arithmetic is needed
pub need-arithmetic : NeedArithmetic
unfolding zeros_of zeros
need-arithmetic = record {
  sums = refl;
  differences = refl;
  remainders = refl;
  less = refl;
  equal = refl;
  products = refl;
}
