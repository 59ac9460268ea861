-- Descending gives small words: the part, its question and the numbers of its frame are words of 32 bits.
use mathlib.Core.Path.{◌≡◌}
use mathlib.Core.Bool.{Bool, true, false}
use mathlib.Core.List.{List}
use Prim.Native.Nat.{ℕ, zero, suc, ◌+◌, ◌-◌, ◌/◌, ◌≤◌, ◌<◌}
use native.Mathlib.Omega.{arith}
use native.Mathlib.Decide.{dec_lt, ℕ_discrete}
use native.Mathlib.Nat.{div-le_self, mul-le-mul_right}
use lib.Dec.{eqb, ltb, leb}
use borrow.Author.Tests.{lt-ltb, le-ltb, eq-eqb, ne_eqb}
use Rattle.language.specs.Choice.{pick}
use Rattle.sheet_rows.specs.Row.{word}
use Rattle.states_positions.specs.declared.Move.{Move}
use Rattle.states_positions.specs.declared.Frame.{Frame}
use Rattle.states_positions.specs.declared.Spot.{Spot}
use Rattle.states_positions.specs.declared.Spot.TheVariants.{Here, Inside}
use Rattle.states_positions.specs.Row.{part_weight, part_class, part_values, name_count, sum_of, mul_add_of}
use Rattle.states_positions.specs.Types.{question_kind, question_value, answers_of}
use Rattle.states_names.specs.Name.{framed_of, copies_of, arg_here, in_args, arg_spots, inner_of, in_name}
use Rattle.states_step.specs.walk.Down.{in_fetch, in_seq, in_while, cond_in, in_cond, operate_in, in_operate}
use Rattle.states_step.specs.walk.Down.{assign_in, in_assign, in_new, down_as, down_of}
use Rattle.states_step.specs.walk.Shows.{Words}
use Rattle.states_step.proofs.Sums.{mul_add_small}
use Rattle.states_path.proofs.Steady.{small_word}

-- every sum is a word of 32 bits, and so is 1 more than a product
pub sum_fits : (a b : ℕ) → sum_of a b < 4294967296
unfolding sum_of
sum_fits a b = go (dec_lt a 2147483648) (dec_lt b 2147483648)
  where
    go : Dec (a < 2147483648) → Dec (b < 2147483648) → sum_of a b < 4294967296
    go (yes x) (yes y) = rw (lt-ltb a 2147483648 x, lt-ltb b 2147483648 y) (omega arith)
    go (yes x) (no y) = rw (lt-ltb a 2147483648 x, le-ltb b 2147483648 (omega arith)) (omega arith)
    go (no x) y = rw (le-ltb a 2147483648 (omega arith)) (omega arith)

pub product-fits : (x w : ℕ) → mul_add_of x w 1 < 4294967296
unfolding mul_add_of
product-fits x w = go (dec_lt x 65536) (dec_lt w 65536)
  where
    go : Dec (x < 65536) → Dec (w < 65536) → mul_add_of x w 1 < 4294967296
    go (yes a) (yes b) =
        let l : x ≤ 65535 = omega arith in
        omega (arith, mul_add_small x w 1 a b (omega arith), mul-le-mul_right w l)
    go (yes a) (no b) = rw (lt-ltb x 65536 a, le-ltb w 65536 (omega arith)) (omega arith)
    go (no a) b = rw (le-ltb x 65536 (omega arith)) (omega arith)

-- a choice of numbers below n
pub pick_low : (b : Bool) (x y n : ℕ) → x < n → y < n → pick b x y < n
pick_low true x y n h k = h
pick_low false x y n h k = k

-- the kind of a question, and its value, which is at most its number
kind-low : (class i : ℕ) → question_kind class i < 65536
unfolding question_kind
kind-low class i =
    pick_low (eqb class 0) _ _ _ (omega arith)
    (pick_low (eqb class 1) _ _ _ (omega arith) (pick_low (eqb i 0) _ _ _ (omega arith) (omega arith)))

value_low : (class i : ℕ) → i < 65536 → question_value class i < 65536
unfolding question_value
value_low class i h =
    pick_low (eqb class 2) _ _ _ (pick_low (ltb 0 i) _ _ _ (omega arith) (omega arith)) (omega arith)

-- the words of a part that is entered
pub record Modest (part kind value : ℕ) (f : Frame) : Type 0 where
  pub part_small : part < 65536
  pub kind_small : kind < 65536
  pub value_small : value < 65536
  pub role-small : f.role < 8
  pub a-fits : f.a < 4294967296
  pub b-fits : f.b < 4294967296
  pub c-fits : f.c < 4294967296
  pub d-fits : f.d < 4294967296

unfoldable pub ModestAt : Spot → Type 0
ModestAt (Here o) = Unit
ModestAt (Inside part kind value inner f) = Modest part kind value f

pub as-modest : (part kind value inner : ℕ) (f : Frame) (S : Spot) → Inside part kind value inner f ≡ S → ModestAt S →
    Modest part kind value f
unfolding ModestAt
as-modest part kind value inner f S e h = rw (← e) at h

pub modest-pick : (b : Bool) (S S' : Spot) → ModestAt S → ModestAt S' → ModestAt (pick b S S')
modest-pick true S S' h k = h
modest-pick false S S' h k = k

framed : (part kind value role base a b c d : ℕ) → part < 65536 → kind < 65536 → value < 65536 → role < 8 →
    a < 4294967296 → b < 4294967296 → c < 4294967296 → d < 4294967296 →
    Modest part kind value (framed_of role base a b c d)
framed part kind value role base a b c d h₁ h₂ h₃ h₄ h₅ h₆ h₇ h₈ = record {
  part_small = h₁;
  kind_small = h₂;
  value_small = h₃;
  role-small = h₄;
  a-fits = h₅;
  b-fits = h₆;
  c-fits = h₇;
  d-fits = h₈;
}

-- position k of an argument, which is a place of the table where it has a weight
pub modest-argument : (part class n w k base after : ℕ) → ((w ≡ 0 → ⊥) → part < 65536) → class < 65536 → n < 65536 →
    k < 65536 → after < 4294967296 → ModestAt (arg_here part class n w k base after)
unfolding arg_here ModestAt
modest-argument part class n w k base after p h l s a = go (ℕ_discrete w 0)
  where
    go : Dec (w ≡ 0) → ModestAt (arg_here part class n w k base after)
    go (yes e) = rw (eq-eqb w 0 e) tt
    go (no e) =
        let y : k / w < 65536 = omega (arith, div-le_self k w) in
        rw (ne_eqb w 0 e) (framed part (question_kind class (k / w)) (question_value class (k / w)) 6 (mul_add_of (k / w)
        w base) after class n (k / w) (p e) (kind-low class (k / w)) (value_low class (k / w) y) (omega arith) a
        (omega arith) (omega arith) (omega arith))

module _ (t : List ℕ) (W : Words t) where
  -- the weight, the class and the number of values of a part
  weight-small : (at j : ℕ) → part_weight t at j < 65536
  unfolding part_weight
  weight-small at j = small_word t W (word t at (5 + j)) 1

  class-small : (at j : ℕ) → part_class t at j < 65536
  unfolding part_class
  class-small at j = small_word t W (word t at (5 + j)) 2

  values-small : (at j : ℕ) → part_values t at j < 65536
  unfolding part_values
  values-small at j = small_word t W (word t at (5 + j)) 3

  modest-fetch : (at k : ℕ) → ModestAt (in_fetch t at k)
  unfolding in_fetch ModestAt
  modest-fetch at k =
      framed _ _ _ _ _ _ _ _ _ (small_word t W at 5) (omega arith) (omega arith) (omega arith) (omega arith)
      (omega arith) (omega arith) (omega arith)

  modest-seq : (at q x k : ℕ) → q < 65536 → x < 65536 → ModestAt (in_seq t at q x k)
  unfolding in_seq ModestAt
  modest-seq at q x k a b =
      modest-pick (ltb k (part_weight t at 0)) _ _
      (framed _ _ _ _ _ _ _ _ _ (small_word t W at 5) (omega arith) (omega arith) (omega arith)
      (omega (arith, weight-small at 0)) (omega arith) (omega arith) (omega arith))
      (framed _ _ _ _ _ _ _ _ _ (small_word t W at 6) a b (omega arith) (omega arith) (omega arith) (omega arith)
      (omega arith))

  modest-while : (at k : ℕ) → ModestAt (in_while t at k)
  unfolding in_while ModestAt
  modest-while at k =
      modest-pick (ltb k (part_weight t at 0)) _ _
      (framed _ _ _ _ _ _ _ _ _ (small_word t W at 5) (omega arith) (omega arith) (omega arith)
      (omega (arith, weight-small at 0)) (omega arith) (omega arith) (omega arith))
      (framed _ _ _ _ _ _ _ _ _ (small_word t W at 6) (omega arith) (omega arith) (omega arith) (omega arith)
      (omega arith) (omega arith) (omega arith))

  modest-cond : (at q x k : ℕ) → q < 65536 → x < 65536 → ModestAt (in_cond t at q x k)
  unfolding in_cond cond_in ModestAt
  modest-cond at q x k a b =
      modest-pick (ltb k (part_weight t at 0)) _ _
      (framed _ _ _ _ _ _ _ _ _ (small_word t W at 5) (omega arith) (omega arith) (omega arith)
      (omega (arith, weight-small at 0)) (sum_fits _ _) (omega arith) (omega arith))
      (modest-pick (ltb (k - part_weight t at 0) (part_weight t at 1)) _ _
      (framed _ _ _ _ _ _ _ _ _ (small_word t W at 6) a b (omega arith) (omega arith) (omega arith) (omega arith)
      (omega arith))
      (framed _ _ _ _ _ _ _ _ _ (small_word t W at 7) a b (omega arith) (omega arith) (omega arith) (omega arith)
      (omega arith)))

  -- the copy of a part in which a position is
  copy-small : (k w v : ℕ) → k < 65536 → (k - w) / v < 65536
  copy-small k w v h = omega (arith, div-le_self (k - w) v)

  modest-operate : (at k : ℕ) → k < 65536 → ModestAt (in_operate t at k)
  unfolding in_operate operate_in ModestAt
  modest-operate at k h =
      modest-pick (ltb k (part_weight t at 0)) _ _
      (framed _ _ _ _ _ _ _ _ _ (small_word t W at 5) (omega arith) (omega arith) (omega arith)
      (omega (arith, weight-small at 0)) (omega (arith, weight-small at 1)) (omega (arith, values-small at 0))
      (omega arith))
      (modest-pick (eqb (part_weight t at 1) 0) _ _ tt
      (framed _ _ _ _ _ _ _ _ _ (small_word t W at 6) (omega arith) (omega arith) (omega arith)
      (omega (arith, copy-small k (part_weight t at 0) (part_weight t at 1) h)) (omega (arith, small_word t W at 4))
      (omega (arith, values-small at 0)) (omega arith)))

  modest-assign : (at k : ℕ) → k < 65536 → ModestAt (in_assign t at k)
  unfolding in_assign assign_in ModestAt
  modest-assign at k h =
      modest-pick (ltb k (part_weight t at 1)) _ _
      (framed _ _ _ _ _ _ _ _ _ (small_word t W at 6) (omega arith) (omega arith) (omega arith)
      (omega (arith, weight-small at 1)) (omega (arith, weight-small at 0)) (omega (arith, values-small at 0))
      (omega arith))
      (modest-pick (eqb (part_weight t at 0) 0) _ _ tt
      (framed _ _ _ _ _ _ _ _ _ (small_word t W at 5) (omega arith)
      (copy-small k (part_weight t at 1) (part_weight t at 0) h) (omega arith) (omega arith) (omega arith)
      (omega arith) (omega arith)))

  modest-new : (at q x k : ℕ) → q < 65536 → x < 65536 → k < 65536 → ModestAt (in_new t at q x k)
  unfolding in_new ModestAt
  modest-new at q x k a b h =
      modest-pick (eqb (part_weight t at 0) 0) _ _ tt
      (framed _ _ _ _ _ _ _ _ _ (small_word t W at 5) a b (omega arith) (sum_fits _ _)
      (omega (arith, weight-small at 0)) (omega (arith, div-le_self k (part_weight t at 0))) (omega arith))

  -- n arguments from argument j on
  modest-arguments : (at j n k base after : ℕ) → k < 65536 → after < 4294967296 →
      ModestAt (in_args t at j n k base after)
  unfolding in_args ModestAt
  modest-arguments at j zero k base after h a = tt
  modest-arguments at j (suc n) k base after h a =
      modest-pick (leb (copies_of t at j) k) _ _
      (modest-arguments at (sum_of j 1) n (k - copies_of t at j) (sum_of base (copies_of t at j))
      (sum_of after (answers_of (part_class t at j) (part_values t at j))) (omega arith) (sum_fits _ _))
      (modest-argument (word t at (5 + j)) (part_class t at j) (part_values t at j) (part_weight t at j) k base after
      (λ e. small_word t W at (5 + j)) (class-small at j) (values-small at j) h a)

  modest-name : (at q x k : ℕ) (m : Move) → k < 65536 → ModestAt (in_name t at q x k m)
  unfolding in_name ModestAt
  modest-name at q x k m h =
      modest-pick (eqb k 0) _ _ tt
      (modest-pick (eqb k 1) _ _ tt
      (modest-pick (ltb k (inner_of t at)) _ _ tt
      (modest-pick (ltb (k - inner_of t at) (arg_spots t at 0 (name_count t at))) _ _
      (modest-arguments at 0 (name_count t at) (k - inner_of t at) (inner_of t at)
      (sum_of (inner_of t at) (arg_spots t at 0 (name_count t at))) (omega arith) (sum_fits _ _)) tt)))

  -- THEOREM: descending gives small words
  pub modest : (at q x k : ℕ) (s : ℕ → ℕ) (m : Move) → q < 65536 → x < 65536 → k < 65536 →
      ModestAt (down_of t at q x k s m)
  unfolding down_as ModestAt
  modest at q x k s m a b h =
      modest-pick (eqb kind 16) _ _ tt
      (modest-pick (eqb kind 18) _ _ tt
      (modest-pick (eqb kind 20) _ _ (modest-name at q x k m h)
      (modest-pick (eqb kind 21) _ _ (modest-fetch at k)
      (modest-pick (eqb kind 22) _ _ (modest-operate at k h)
      (modest-pick (eqb kind 23) _ _ (modest-assign at k h)
      (modest-pick (eqb kind 24) _ _ (modest-seq at q x k a b)
      (modest-pick (eqb kind 25) _ _ (modest-cond at q x k a b)
      (modest-pick (eqb kind 26) _ _ (modest-while at k)
      (modest-pick (eqb kind 27) _ _ (modest-new at q x k a b h)
      (modest-pick (eqb kind 128) _ _ tt tt))))))))))
    where
      kind : ℕ
      kind = word t at 0
