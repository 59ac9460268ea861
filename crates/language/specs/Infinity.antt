-- That rule 2 is document 02's, [8], sentence by sentence, and that rules 0 and 1 are as they were.
use Rattle.std.specs.Prelude.{ℕ, suc, ◌+◌, ◌*◌, ◌≤◌, ◌<◌, ◌≡◌, true, false, List, [], ◌∷◌, ◌++◌, eqb, ℤ, pos, negsuc, nat_abs, ◌+ℤ◌, ◌-ℤ◌, ◌*ℤ◌, None, Some}
use Rattle.std.specs.Int.Signed.{lt_z}
use Rattle.language.specs.declared.Numbers.{Numbers}
use Rattle.language.specs.Choice.{pick}
use Rattle.language.specs.Number.{no_play, turning, infinities, finites, numbers, finite, minus_infinity, infinity}
use Rattle.language.specs.Number.{not_a_number, special, code, signed, from_byte, in_range}
use Rattle.language.specs.Operators as op
use Rattle.language.specs.Tables as tables
use Rattle.language.specs.Tables.{arithmetic}
use Rattle.language.specs.Operator.{fit, fit_some, remainder, truth, operate}

-- the codes of the three values
abbrev pub least : Numbers → ℕ
least N = special N minus_infinity

abbrev pub greatest : Numbers → ℕ
greatest N = special N infinity

abbrev pub none_of : Numbers → ℕ
none_of N = special N not_a_number

-- an infinity, and its opposite
pub data Infinite (N : Numbers) : ℕ → ℕ → Type 0 where
  below : Infinite N (least N) (greatest N)
  above : Infinite N (greatest N) (least N)

-- a number from -Z to Z
abbrev pub FiniteValue : Numbers → ℕ → Type 0
FiniteValue N x = x < finites N

-- "Overflow rule 2 has three more values: minus infinity (byte -127), infinity (126) and not-a-number (127), so K for
-- numbers is 2Z + 4. Constants don't reach them."
pub record ThreeMore (N : Numbers) : Type 0 where
  pub count : N.rule ≡ infinities → numbers N ≡ 2 * N.z + 4
  pub no_more : (N.rule ≡ infinities → ⊥) → numbers N ≡ 2 * N.z + 1
  pub minus_infinite : signed N (least N) ≡ negsuc 126
  pub infinite : signed N (greatest N) ≡ pos 126
  pub no_number : signed N (none_of N) ≡ pos 127
  pub apart : N.z ≤ 125 → (x y : ℕ) → x < numbers N → y < numbers N → signed N x ≡ signed N y → x ≡ y
  -- a constant byte, and the start of a private variable (the code 0 in `Plays`), stand for a number
  pub constants : (b : ℕ) → FiniteValue N (code N (from_byte b))
  pub start : FiniteValue N 0
  -- the bytes of the three values, -127 as 129, are out of range, which the reader refuses by 3 and `Fine` forbids
  pub not_least : N.z ≤ 125 → in_range N 129 ≡ false
  pub not_greatest : N.z ≤ 125 → in_range N 126 ≡ false
  pub not_none : N.z ≤ 125 → in_range N 127 ≡ false

-- v is the exact result of plus, minus or times on two numbers
pub data ExactResult (N : Numbers) : ℕ → ℕ → ℕ → ℤ → Type 0 where
  sum : {x y : ℕ} → FiniteValue N x → FiniteValue N y → ExactResult N op.plus x y (signed N x +ℤ signed N y)
  difference : {x y : ℕ} → FiniteValue N x → FiniteValue N y → ExactResult N op.minus x y (signed N x -ℤ signed N y)
  product : {x y : ℕ} → FiniteValue N x → FiniteValue N y → ExactResult N op.times x y (signed N x *ℤ signed N y)

-- The operators on two numbers, under every rule. Under rules 0 and 1 there are no other values (`no_more`).
pub record FinitePairs (N : Numbers) : Type 0 where
  pub exact : (o x y : ℕ) (v : ℤ) → ExactResult N o x y v → operate N o x y ≡ fit N v
  pub remainders : (x y : ℕ) → FiniteValue N x → FiniteValue N y →
      operate N op.remainder x y ≡ fit_some N (remainder (signed N x) (signed N y))
  pub equals : (x y : ℕ) → FiniteValue N x → FiniteValue N y → operate N op.equal x y ≡ Some (truth (eqb x y))
  pub lesses : (x y : ℕ) → FiniteValue N x → FiniteValue N y →
      operate N op.less x y ≡ Some (truth (lt_z (signed N x) (signed N y)))

-- What becomes of an exact result. One within the range is kept, under every rule. One outside "has no play under rule
-- 0; under rule 1 a multiple of 2Z + 1 is added or taken away until it fits", as document 01 has it; under rule 2 "A
-- finite result beyond the range becomes the infinity of its sign". A remainder is never outside (`RemainderLaw`).
pub record OverflowRules (N : Numbers) : Type 0 where
  pub within : (o x y : ℕ) (v : ℤ) → ExactResult N o x y v → nat_abs v ≤ N.z → operate N o x y ≡ Some (code N v)
  pub no-play : N.rule ≡ no_play → (o x y : ℕ) (v : ℤ) → ExactResult N o x y v → N.z < nat_abs v →
      operate N o x y ≡ None
  pub turned : N.rule ≡ turning → (o x y : ℕ) (v : ℤ) → ExactResult N o x y v → operate N o x y ≡ Some (code N v)
  pub beyond_below : N.rule ≡ infinities → (o x y : ℕ) (v : ℤ) → ExactResult N o x y v → N.z < nat_abs v →
      lt_z v (pos 0) ≡ true → operate N o x y ≡ Some (least N)
  pub beyond_above : N.rule ≡ infinities → (o x y : ℕ) (v : ℤ) → ExactResult N o x y v → N.z < nat_abs v →
      lt_z v (pos 0) ≡ false → operate N o x y ≡ Some (greatest N)
  pub not_divided : (N.rule ≡ infinities → ⊥) → (x : ℕ) → FiniteValue N x → operate N op.remainder x 0 ≡ None

-- Under rule 2 no play is lost: "losing the play there hides other differences". Every arithmetic operation on values
-- has a result, a value.
abbrev pub NothingLost : Numbers → Type 0
NothingLost N = N.rule ≡ infinities → (o x y : ℕ) → o < op.equal → x < numbers N → y < numbers N →
    (z : ℕ) × (operate N o x y ≡ Some z) × (z < numbers N)

-- "Not-a-number in an arithmetic operand gives not-a-number; so do infinity plus its opposite, infinity minus itself,
-- zero times an infinity, and remainder by zero or with any infinity"
pub record NoNumber (N : Numbers) : Type 0 where
  pub left : (o y : ℕ) → o < op.equal → operate N o (none_of N) y ≡ Some (none_of N)
  pub right : (o x : ℕ) → o < op.equal → operate N o x (none_of N) ≡ Some (none_of N)
  pub opposite : (x y : ℕ) → Infinite N x y → operate N op.plus x y ≡ Some (none_of N)
  pub itself : (x y : ℕ) → Infinite N x y → operate N op.minus x x ≡ Some (none_of N)
  pub zero_times : (x y : ℕ) → Infinite N x y → operate N op.times 0 x ≡ Some (none_of N)
  pub times_zero : (x y : ℕ) → Infinite N x y → operate N op.times x 0 ≡ Some (none_of N)
  pub by_zero : N.rule ≡ infinities → (x : ℕ) → FiniteValue N x → operate N op.remainder x 0 ≡ Some (none_of N)
  pub remainder_of : (x y z : ℕ) → Infinite N x y → operate N op.remainder x z ≡ Some (none_of N)
  pub remainder_by : (x y z : ℕ) → Infinite N x y → operate N op.remainder z x ≡ Some (none_of N)

-- "Other sums, differences and products with an infinity give the infinity of the usual sign"
pub record UsualSign (N : Numbers) : Type 0 where
  pub sum_left : (x y z : ℕ) → Infinite N x y → FiniteValue N z → operate N op.plus x z ≡ Some x
  pub sum_right : (x y z : ℕ) → Infinite N x y → FiniteValue N z → operate N op.plus z x ≡ Some x
  pub sum_both : (x y : ℕ) → Infinite N x y → operate N op.plus x x ≡ Some x
  pub difference_left : (x y z : ℕ) → Infinite N x y → FiniteValue N z → operate N op.minus x z ≡ Some x
  pub difference_right : (x y z : ℕ) → Infinite N x y → FiniteValue N z → operate N op.minus z x ≡ Some y
  pub difference_both : (x y : ℕ) → Infinite N x y → operate N op.minus x y ≡ Some x
  pub product_same : (x y : ℕ) → Infinite N x y → operate N op.times x x ≡ Some (greatest N)
  pub product_opposite : (x y : ℕ) → Infinite N x y → operate N op.times x y ≡ Some (least N)
  pub times_positive : (x y z : ℕ) → Infinite N x y → 0 < z → z ≤ N.z → operate N op.times x z ≡ Some x
  pub positive_times : (x y z : ℕ) → Infinite N x y → 0 < z → z ≤ N.z → operate N op.times z x ≡ Some x
  pub times_negative : (x y z : ℕ) → Infinite N x y → N.z < z → FiniteValue N z → operate N op.times x z ≡ Some y
  pub negative_times : (x y z : ℕ) → Infinite N x y → N.z < z → FiniteValue N z → operate N op.times z x ≡ Some y

-- "Equal and less are false where either side is not-a-number; an infinity equals itself and lies beyond all finite
-- numbers"
pub record EqualAndLess (N : Numbers) : Type 0 where
  pub equal_left : (y : ℕ) → operate N op.equal (none_of N) y ≡ Some 0
  pub equal_right : (x : ℕ) → operate N op.equal x (none_of N) ≡ Some 0
  pub less_left : (y : ℕ) → operate N op.less (none_of N) y ≡ Some 0
  pub less_right : (x : ℕ) → operate N op.less x (none_of N) ≡ Some 0
  pub equal_itself : (x y : ℕ) → Infinite N x y → operate N op.equal x x ≡ Some 1
  pub not_opposite : (x y : ℕ) → Infinite N x y → operate N op.equal x y ≡ Some 0
  pub not_finite : (x y z : ℕ) → Infinite N x y → FiniteValue N z →
      (operate N op.equal x z ≡ Some 0) × (operate N op.equal z x ≡ Some 0)
  pub below_all : (z : ℕ) → FiniteValue N z →
      (operate N op.less (least N) z ≡ Some 1) × (operate N op.less z (least N) ≡ Some 0)
  pub above_all : (z : ℕ) → FiniteValue N z →
      (operate N op.less z (greatest N) ≡ Some 1) × (operate N op.less (greatest N) z ≡ Some 0)
  pub in_order :
      (operate N op.less (least N) (greatest N) ≡ Some 1) × (operate N op.less (greatest N) (least N) ≡ Some 0)
  pub not-less : (x y : ℕ) → Infinite N x y → operate N op.less x x ≡ Some 0

-- the pairs of classes for which a table leaves the result to arithmetic: in row a from column b on, and from row a on
unfoldable pub zeros_of : ℕ → ℕ → List ℕ → List (List ℕ)
zeros_of a b [] = []
zeros_of a b (k ∷ ks) = pick (eqb k arithmetic) ((a ∷ b ∷ []) ∷ zeros_of a (suc b) ks) (zeros_of a (suc b) ks)

unfoldable pub zeros : ℕ → List (List ℕ) → List (List ℕ)
zeros a [] = []
zeros a (r ∷ rs) = zeros_of a 0 r ++ zeros (suc a) rs

abbrev pub FiniteOnly : List (List ℕ) → Type 0
FiniteOnly t = zeros 0 t ≡ (finite ∷ finite ∷ []) ∷ []

-- "only finite pairs, and finite times infinity, need arithmetic"
pub record NeedArithmetic : Type 0 where
  pub sums : FiniteOnly tables.sums
  pub differences : FiniteOnly tables.differences
  pub remainders : FiniteOnly tables.remainders
  pub less : FiniteOnly tables.below
  pub equal : FiniteOnly tables.alike
  pub products : zeros 0 tables.products ≡
      (finite ∷ finite ∷ []) ∷ (finite ∷ minus_infinity ∷ []) ∷ (finite ∷ infinity ∷ []) ∷ (minus_infinity ∷ finite ∷ [])
      ∷ (infinity ∷ finite ∷ []) ∷ []
