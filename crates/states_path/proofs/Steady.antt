-- Descending is steady: for all positions of the part that it gives, it gives the same part, question and frame.
use mathlib.Core.Path.{◌≡◌, refl, sym, ◌∙◌, ap}
use mathlib.Core.Bool.{Bool, true, false}
use mathlib.Core.Logic.{◌⊎◌, inl, inr}
use mathlib.Core.List.{List}
use Prim.Native.Nat.{ℕ, zero, suc, ◌+◌, ◌*◌, ◌-◌, ◌/◌, ◌%◌, ◌≤◌, ◌<◌}
use native.Mathlib.Omega.{arith}
use native.Mathlib.Decide.{dec_lt, ℕ_discrete}
use native.Mathlib.Nat.{div-add-mod', mod-lt, mul-le-mul_right, mul-zero}
use lib.Dec.{eqb}
use borrow.Author.Tests.{lt-ltb, le-ltb, lt-leb, le-leb, eq-eqb, ne_eqb}
use Rattle.language.specs.Choice.{pick}
use Rattle.sheet_rows.specs.Row.{cell}
use Rattle.sheet_rows.specs.Row.{word}
use Rattle.states_positions.specs.declared.Move.{Move}
use Rattle.states_positions.specs.declared.Frame.{Frame}
use Rattle.states_positions.specs.declared.Out.{Out}
use Rattle.states_positions.specs.declared.Out.TheVariants.{Exit, Stuck}
use Rattle.states_positions.specs.declared.Spot.{Spot}
use Rattle.states_positions.specs.declared.Spot.TheVariants.{Here, Inside}
use Rattle.states_positions.specs.Row.{part_weight, part_class, part_values, name_count, name_spent, sum_of, mul_add_of}
use Rattle.states_positions.specs.Types.{questions_of, question_kind, question_value, answers_of}
use Rattle.states_names.specs.Name.{framed_of, copies_of, arg_here, in_args, arg_spots, inner_of, in_name}
use Rattle.states_step.specs.walk.Down.{in_fetch, in_seq, in_while, cond_in, in_cond, operate_in, in_operate, assign_in, in_assign}
use Rattle.states_step.specs.walk.Down.{in_new, in_private, down_as, down_of}
use Rattle.states_step.specs.walk.Shows.{Words}
use Rattle.states_step.proofs.Sums.{sum-small, mul_add_small, quotient, remainder, times}
use Rattle.states_path.specs.Path.{Same, SameAt, Steady}

-- the copy v of a part of weight w
pub copy : (v w k : ℕ) → v * w ≤ k → k < v * w + w → (k / w ≡ v) × (k % w ≡ k - v * w)
copy v w k a b =
    let e : v * w + (k - v * w) ≡ k = omega arith in
    let l : k - v * w < w = omega arith in (
      ap (λ (y : ℕ). y / w) (sym e) ∙ quotient v w (k - v * w) l,
      ap (λ (y : ℕ). y % w) (sym e) ∙ remainder v w (k - v * w) l,
    )

-- a number lies in its copy
pub in-copy : (w k : ℕ) → 0 < w → (k / w * w + k % w ≡ k) × (k % w < w) × (k / w ≤ k)
in-copy w k p =
    let e = div-add-mod' k w in
    (e, mod-lt k p, omega (arith, mul-le-mul_right (k / w) p))

-- a word of the table
pub small_word : (t : List ℕ) → Words t → (at i : ℕ) → word t at i < 65536
unfolding word
small_word t W at i = W (cell at i)

module _ (t : List ℕ) (W : Words t) where
  -- a choice that does not depend on the position
  steady-pick : (b : Bool) (F G : ℕ → Move → Spot) → Steady t F → Steady t G → Steady t (λ k m. pick b
      (F k m) (G k m))
  steady-pick true F G f g = f
  steady-pick false F G f g = g

  steady-here : (o : ℕ → Move → Out) → Steady t (λ k m. Here (o k m))
  unfolding SameAt
  steady-here o k m l = tt

  steady-fetch : (at : ℕ) → Steady t (λ k m. in_fetch t at k)
  unfolding in_fetch SameAt
  steady-fetch at k m l = record {
    whole = omega arith;
    own = λ e. omega arith;
    same = λ k' m' b h. ap (λ (y : ℕ). Inside (word t at 5) 3 0 y (framed_of 0 0 0 0 0 0)) (omega arith);
  }

  -- the first of several parts, and the last
  first : (F : ℕ → Move → Spot) (k m-part kind value w : ℕ) (f : Frame) → f.base ≡ 0 → (f.role ≡ 7 → ⊥) →
      word t m-part 1 ≡ w → k < w → ((k' : ℕ) (m : Move) → k' < w → F k' m ≡ Inside m-part kind value k' f) →
      Same t F k m-part kind value k f
  first F k part kind value w f z r e l h = record {
    whole = omega arith;
    own = λ s. absurd (r s);
    same = λ k' m' b c. h k' m' (below k' c) ∙ ap (λ (y : ℕ). Inside part kind value y f) (omega arith);
  }
    where
      below : (k' : ℕ) → (k' ≤ k) ⊎ (k' < f.base + word t part 1) → k' < w
      below k' (inl a) = omega arith
      below k' (inr a) = omega arith

  rest : (F : ℕ → Move → Spot) (k part kind value w : ℕ) (f : Frame) → f.base ≡ w → (f.role ≡ 7 → ⊥) → w ≤ k →
      ((k' : ℕ) (m : Move) → w ≤ k' → F k' m ≡ Inside part kind value (k' - w) f) →
      Same t F k part kind value (k - w) f
  rest F k part kind value w f z r l h = record {
    whole = omega arith;
    own = λ s. absurd (r s);
    same = λ k' m' b c. h k' m' (omega arith) ∙ ap (λ (y : ℕ). Inside part kind value y f) (omega arith);
  }

  steady-seq : (at q x : ℕ) → Steady t (λ k m. in_seq t at q x k)
  unfolding in_seq SameAt part_weight
  steady-seq at q x k m l = go (dec_lt k w)
    where
      w : ℕ
      w = part_weight t at 0

      go : Dec (k < w) → SameAt t (λ k m. in_seq t at q x k) k (in_seq t at q x k)
      go (yes h) =
          rw (lt-ltb k w h) (first (λ k m. in_seq t at q x k) k (word t at 5) 0 0 w (framed_of 1 0 w 0 0 0) refl
          (λ e. omega arith) refl h (λ k' m' h'. rw (lt-ltb k' w h')))
      go (no h) =
          rw (le-ltb k w (omega arith)) (rest (λ k m. in_seq t at q x k) k (word t at 6) q x w (framed_of 0 w 0 0 0 0)
          refl (λ e. omega arith) (omega arith) (λ k' m' h'. rw (le-ltb k' w h')))

  steady-while : (at : ℕ) → Steady t (λ k m. in_while t at k)
  unfolding in_while SameAt part_weight
  steady-while at k m l = go (dec_lt k w)
    where
      w : ℕ
      w = part_weight t at 0

      go : Dec (k < w) → SameAt t (λ k m. in_while t at k) k (in_while t at k)
      go (yes h) =
          rw (lt-ltb k w h) (first (λ k m. in_while t at k) k (word t at 5) 2 0 w (framed_of 2 0 w 0 0 0) refl
          (λ e. omega arith) refl h (λ k' m' h'. rw (lt-ltb k' w h')))
      go (no h) =
          rw (le-ltb k w (omega arith)) (rest (λ k m. in_while t at k) k (word t at 6) 0 0 w (framed_of 1 w 0 0 0 0)
          refl (λ e. omega arith) (omega arith) (λ k' m' h'. rw (le-ltb k' w h')))

  -- the second of three parts
  middle : (F : ℕ → Move → Spot) (k part kind value w v : ℕ) (f : Frame) → f.base ≡ w → (f.role ≡ 7 → ⊥) → w ≤ k →
      word t part 1 ≡ v → k - w < v →
      ((k' : ℕ) (m : Move) → w ≤ k' → k' - w < v → F k' m ≡ Inside part kind value (k' - w) f) →
      Same t F k part kind value (k - w) f
  middle F k part kind value w v f z r l e j h = record {
    whole = omega arith;
    own = λ s. absurd (r s);
    same = λ k' m' b c. h k' m' (omega arith) (below k' b c) ∙ ap (λ (y : ℕ). Inside part kind value y f) (omega
        arith);
  }
    where
      below : (k' : ℕ) → f.base ≤ k' → (k' ≤ k) ⊎ (k' < f.base + word t part 1) → k' - w < v
      below k' b (inl a) = omega arith
      below k' b (inr a) = omega arith

  steady-cond : (b m n w v q x : ℕ) → word t b 1 ≡ w → word t m 1 ≡ v → Steady t (λ k o. cond_in b m n w v q x k)
  unfolding cond_in SameAt
  steady-cond b m n w v q x e d k o l = go (dec_lt k w) (dec_lt (k - w) v)
    where
      small : sum_of w v ≡ w + v
      small = sum-small w v (omega (arith, small_word t W b 1, small_word t W m 1))

      go : Dec (k < w) → Dec (k - w < v) → SameAt t (λ k o. cond_in b m n w v q x k) k (cond_in b m n w v q x k)
      go (yes h) g =
          rw (lt-ltb k w h) (first (λ k o. cond_in b m n w v q x k) k b 2 0 w (framed_of 2 0 w (sum_of w v) 0 0) refl
          (λ e. omega arith) e h (λ k' m' h'. rw (lt-ltb k' w h')))
      go (no h) (yes g) =
          rw (le-ltb k w (omega arith), lt-ltb (k - w) v g) (middle (λ k o. cond_in b m n w v q x k) k m q x w v
          (framed_of 0 w 0 0 0 0) refl (λ e. omega arith) (omega arith) d g
          (λ k' m' h' g'. rw (le-ltb k' w h', lt-ltb (k' - w) v g')))
      go (no h) (no g) =
          rw (le-ltb k w (omega arith), le-ltb (k - w) v (omega arith)) (record {
            whole = omega (arith, small);
            own = λ s. omega arith;
            same = λ k' m' r c. rw (le-ltb k' w (omega (arith, small)), le-ltb (k' - w) v (omega (arith, small)))
                (ap (λ (y : ℕ). Inside n q x y (framed_of 0 (sum_of w v) 0 0 0 0)) (omega (arith, small)));
          })

  -- a part that is copied for each value, after w positions
  copied : (F : ℕ → Move → Spot) (k part w v : ℕ) (kind value : ℕ → ℕ) (f : ℕ → Frame) → w ≤ k → k < 65536 →
      word t part 1 ≡ v → 0 < v → ((y : ℕ) → y < 65536 → (f y).base ≡ y * v + w) → ((y : ℕ) → (f y).role ≡ 7 → 0 < (f y).a) →
      ((k' : ℕ) (m : Move) → w ≤ k' →
      F k' m ≡ Inside part (kind ((k' - w) / v)) (value ((k' - w) / v)) ((k' - w) % v) (f ((k' - w) / v))) →
      Same t F k part (kind ((k - w) / v)) (value ((k - w) / v)) ((k - w) % v) (f ((k - w) / v))
  copied F k part w v kind value f l s e p base own h = record {
    whole = omega (arith, base y small, c.0);
    own = own y;
    same = λ k' m' b d. again k' m' b (below k' b d);
  }
    where
      y : ℕ
      y = (k - w) / v

      c : (y * v + (k - w) % v ≡ k - w) × ((k - w) % v < v) × (y ≤ k - w)
      c = in-copy v (k - w) p

      small : y < 65536
      small = omega (arith, c.2)

      below : (k' : ℕ) → (f y).base ≤ k' → (k' ≤ k) ⊎ (k' < (f y).base + word t part 1) → k' - w < y * v + v
      below k' b (inl a) = omega (arith, base y small, c.0, c.1)
      below k' b (inr a) = omega (arith, base y small)

      again : (k' : ℕ) (m' : Move) → (f y).base ≤ k' → k' - w < y * v + v →
          F k' m' ≡ Inside part (kind y) (value y) (k' - (f y).base) (f y)
      again k' m' b d =
          let z = copy y v (k' - w) (omega (arith, base y small)) d in
          let r : k' - w - y * v ≡ k' - (f y).base = omega (arith, base y small) in
          h k' m' (omega (arith, base y small)) ∙ rw (z.0, z.1, r)

  inside : (F : ℕ → Move → Spot) (k part kind value inner : ℕ) (f : Frame) (S : Spot) →
      Same t F k part kind value inner f → S ≡ Inside part kind value inner f → SameAt t F k S
  unfolding SameAt
  inside F k part kind value inner f S h e = rw e h

  steady-operate : (a b w v o n : ℕ) → word t a 1 ≡ w → word t b 1 ≡ v → Steady t (λ k m. operate_in a b w v o n k)
  unfolding operate_in SameAt
  steady-operate a b w v o n e d k m l = go (dec_lt k w) (ℕ_discrete v 0)
    where
      go : Dec (k < w) → Dec (v ≡ 0) → SameAt t (λ k m. operate_in a b w v o n k) k (operate_in a b w v o n k)
      go (yes h) g =
          rw (lt-ltb k w h) (first (λ k m. operate_in a b w v o n k) k a 2 0 w (framed_of 3 0 w v n 0) refl
          (λ e. omega arith) e h (λ k' m' h'. rw (lt-ltb k' w h')))
      go (no h) (yes g) = rw (le-ltb k w (omega arith), eq-eqb v 0 g) tt
      go (no h) (no g) =
          inside (λ k m. operate_in a b w v o n k) k _ _ _ _ _ (operate_in a b w v o n k) (copied (λ k m. operate_in a
          b w v o n k) k b w v (λ y. 2)
          (λ y. 0) (λ y. framed_of 4 (mul_add_of y v w) y o n 0) (omega arith) l d (omega arith)
          (λ y s. mul_add_small y v w s (omega (arith, small_word t W b 1)) (omega (arith, small_word t W a 1)))
          (λ y s. omega arith) (λ k' m' h'. rw (le-ltb k' w h', ne_eqb v 0 g)))
          (rw (le-ltb k w (omega arith), ne_eqb v 0 g))

  steady-assign : (a b w v n : ℕ) → word t b 1 ≡ w → word t a 1 ≡ v → Steady t (λ k m. assign_in a b w v n k)
  unfolding assign_in SameAt
  steady-assign a b w v n e d k m l = go (dec_lt k w) (ℕ_discrete v 0)
    where
      go : Dec (k < w) → Dec (v ≡ 0) → SameAt t (λ k m. assign_in a b w v n k) k (assign_in a b w v n k)
      go (yes h) g =
          rw (lt-ltb k w h) (first (λ k m. assign_in a b w v n k) k b 2 0 w (framed_of 3 0 w v n 0) refl
          (λ e. omega arith) e h (λ k' m' h'. rw (lt-ltb k' w h')))
      go (no h) (yes g) = rw (le-ltb k w (omega arith), eq-eqb v 0 g) tt
      go (no h) (no g) =
          inside (λ k m. assign_in a b w v n k) k _ _ _ _ _ (assign_in a b w v n k) (copied (λ k m. assign_in a b w v n
          k) k a w v (λ y. 6)
          (λ y. y) (λ y. framed_of 5 (mul_add_of y v w) 0 0 0 0) (omega arith) l d (omega arith)
          (λ y s. mul_add_small y v w s (omega (arith, small_word t W a 1)) (omega (arith, small_word t W b 1)))
          (λ y s. omega arith) (λ k' m' h'. rw (le-ltb k' w h', ne_eqb v 0 g)))
          (rw (le-ltb k w (omega arith), ne_eqb v 0 g))

  steady-new : (at q x : ℕ) → Steady t (λ k m. in_new t at q x k)
  unfolding in_new SameAt part_weight
  steady-new at q x k m l = go (ℕ_discrete w 0)
    where
      w : ℕ
      w = word t (word t at 5) 1

      as-new : (w ≡ 0 → ⊥) → (k : ℕ) → in_new t at q x k ≡
          Inside (word t at 5) q x ((k - 0) % w) (framed_of 7 (mul_add_of ((k - 0) / w) w 0) (sum_of (at % 65536) 1) w ((k -
          0) / w)
          0)
      as-new g k = let z : k - 0 ≡ k = omega arith in rw (ne_eqb w 0 g, z)

      go : Dec (w ≡ 0) → SameAt t (λ k m. in_new t at q x k) k (in_new t at q x k)
      go (yes g) = rw (eq-eqb w 0 g) tt
      go (no g) =
          inside (λ k m. in_new t at q x k) k _ _ _ _ _ (in_new t at q x k) (copied (λ k m. in_new t at q x k) k
          (word t at 5) 0 w
          (λ y. q) (λ y. x)
          (λ y. framed_of 7 (mul_add_of y w 0) (sum_of (at % 65536) 1) w y 0) (omega arith) l refl (omega arith)
          (λ y s. mul_add_small y w 0 s (small_word t W (word t at 5) 1) (omega arith))
          (λ y s. omega (arith, sum-small (at % 65536) 1 (omega arith)))
          (λ k' m' h'. as-new g k')) (as-new g k)

  -- an argument whose positions begin at b
  pub steady-argument : (part class n w b after k : ℕ) → word t part 1 ≡ w → b ≤ k → k < 65536 → 0 < w →
      (F : ℕ → Move → Spot) →
      ((k' : ℕ) (m : Move) → b ≤ k' → (k' ≤ k) ⊎ (k' - b < (k - b) / w * w + w) →
      F k' m ≡ arg_here part class n w (k' - b) b after) →
      SameAt t F k (arg_here part class n w (k - b) b after)
  unfolding arg_here SameAt
  steady-argument part class n w b after k e l s p F h =
      rw (ne_eqb w 0 (λ e. omega arith)) (record {
        whole = omega (arith, base, c.0);
        own = λ r. omega arith;
        same = λ k' m' r d. again k' m' (omega (arith, base)) (below k' (omega (arith, base)) (over k' d)) (over
            k' d);
      })
    where
      y : ℕ
      y = (k - b) / w

      f : Frame
      f = framed_of 6 (mul_add_of y w b) after class n y

      c : (y * w + (k - b) % w ≡ k - b) × ((k - b) % w < w) × (y ≤ k - b)
      c = in-copy w (k - b) p

      base : mul_add_of y w b ≡ y * w + b
      base = mul_add_small y w b (omega (arith, c.2)) (omega (arith, small_word t W part 1)) (omega arith)

      over : (k' : ℕ) → (k' ≤ k) ⊎ (k' < mul_add_of y w b + word t part 1) → (k' ≤ k) ⊎ (k' - b < y * w + w)
      over k' (inl g) = inl g
      over k' (inr g) = inr (omega (arith, base))

      below : (k' : ℕ) → y * w + b ≤ k' → (k' ≤ k) ⊎ (k' - b < y * w + w) → k' - b < y * w + w
      below k' r (inl g) = omega (arith, c.0, c.1)
      below k' r (inr g) = g

      again : (k' : ℕ) (m : Move) → y * w + b ≤ k' → k' - b < y * w + w → (k' ≤ k) ⊎ (k' - b < y * w + w) →
          F k' m ≡ Inside part (question_kind class y) (question_value class y) (k' - mul_add_of y w b) f
      again k' m r d o =
          let v = copy y w (k' - b) (omega arith) d in
          let u : k' - b - y * w ≡ k' - mul_add_of y w b = omega (arith, base) in
          h k' m (omega arith) o ∙ rw (ne_eqb w 0 (λ e. omega arith), v.0, v.1, u)

  -- the copies of an argument, where one of them has the position k
  copies-are : (q w k : ℕ) → k < mul_add_of q w 0 → mul_add_of q w 0 ≡ q * w
  unfolding mul_add_of
  copies-are q w k h = go (dec_lt q 65536) (dec_lt w 65536)
    where
      go : Dec (q < 65536) → Dec (w < 65536) → mul_add_of q w 0 ≡ q * w
      go (yes a) (yes b) = mul_add_small q w 0 a b (omega arith) ∙ omega arith
      go (yes a) (no b) =
          let z : mul_add_of q w 0 ≡ 0 = simp (lt-ltb q 65536 a, le-ltb w 65536 (omega arith)) in
          absurd (omega (arith, z))
      go (no a) b =
          let z : mul_add_of q w 0 ≡ 0 = simp (le-ltb q 65536 (omega arith)) in
          absurd (omega (arith, z))

  sum_are : (a b k : ℕ) → k < sum_of a b → sum_of a b ≡ a + b
  unfolding sum_of
  sum_are a b k h = go (dec_lt a 2147483648) (dec_lt b 2147483648)
    where
      go : Dec (a < 2147483648) → Dec (b < 2147483648) → sum_of a b ≡ a + b
      go (yes x) (yes y) = simp (lt-ltb a 2147483648 x, lt-ltb b 2147483648 y)
      go (yes x) (no y) =
          let z : sum_of a b ≡ 0 = simp (lt-ltb a 2147483648 x, le-ltb b 2147483648 (omega arith)) in
          absurd (omega (arith, z))
      go (no x) y =
          let z : sum_of a b ≡ 0 = simp (le-ltb a 2147483648 (omega arith)) in
          absurd (omega (arith, z))

  positive : (q w k : ℕ) → k < q * w → 0 < w
  positive q zero k h = absurd (omega (arith, mul-zero q))
  positive q (suc w) k h = omega arith

  last-copy : (q w k : ℕ) → 0 < w → k < q * w → k / w * w + w ≤ q * w
  last-copy q w k p h = go (dec_lt (k / w) q)
    where
      go : Dec (k / w < q) → k / w * w + w ≤ q * w
      go (yes a) = times q w (k / w) a
      go (no a) =
          let l : q ≤ k / w = omega arith in
          absurd (omega (arith, (in-copy w k p).0, mul-le-mul_right w l))

  -- n arguments from argument j on, which begin at b
  arg-first : (at j n b after k : ℕ) → b ≤ k → k < 65536 → (F : ℕ → Move → Spot) →
      ((k' : ℕ) (m : Move) → b ≤ k' → k' - b < copies_of t at j → F k' m ≡ in_args t at j (suc n) (k' - b) b after) →
      k - b < copies_of t at j → SameAt t F k (in_args t at j (suc n) (k - b) b after)
  unfolding in_args copies_of part_weight
  arg-first at j n b after k l s F h y =
      rw (lt-leb c (k - b) y) (steady-argument part (part_class t at j) (part_values t at j) w b after k refl l s p F
      (λ k' m r d. h k' m r (below k' d) ∙ rw (lt-leb c (k' - b) (below k' d))))
    where
      part : ℕ
      part = word t at (5 + j)

      w : ℕ
      w = word t part 1

      q : ℕ
      q = questions_of (part_class t at j) (part_values t at j)

      c : ℕ
      c = mul_add_of q w 0

      all : c ≡ q * w
      all = copies-are q w (k - b) y

      p : 0 < w
      p = positive q w (k - b) (omega (arith, all))

      below : (k' : ℕ) → (k' ≤ k) ⊎ (k' - b < (k - b) / w * w + w) → k' - b < c
      below k' (inl g) = omega arith
      below k' (inr g) = omega (arith, all, last-copy q w (k - b) p (omega (arith, all)))

  args : (at j n b after k : ℕ) → j + n < 65536 → b ≤ k → k < 65536 → k - b < arg_spots t at j n →
      (F : ℕ → Move → Spot) →
      ((k' : ℕ) (m : Move) → b ≤ k' → k' - b < arg_spots t at j n → F k' m ≡ in_args t at j n (k' - b) b after) →
      SameAt t F k (in_args t at j n (k - b) b after)
  unfolding in_args SameAt arg_spots
  args at j zero b after k f l s i F h = tt
  args at j (suc n) b after k f l s i F h =
      go (dec_lt (k - b) c) (λ r v. args at (j + 1) n (b + c) next k (omega arith) r s v F)
    where
      c : ℕ
      c = copies_of t at j

      more : ℕ
      more = arg_spots t at (j + 1) n

      both : sum_of c more ≡ c + more
      both = sum_are c more (k - b) i

      next : ℕ
      next = sum_of after (answers_of (part_class t at j) (part_values t at j))

      go : Dec (k - b < c) → (b + c ≤ k → k - (b + c) < more →
          ((k' : ℕ) (m : Move) → b + c ≤ k' → k' - (b + c) < more →
          F k' m ≡ in_args t at (j + 1) n (k' - (b + c)) (b + c) next) →
          SameAt t F k (in_args t at (j + 1) n (k - (b + c)) (b + c) next)) →
          SameAt t F k (in_args t at j (suc n) (k - b) b after)
      go (yes y) rec = arg-first at j n b after k l s F (λ k' m r v. h k' m r (omega (arith, both))) y
      go (no y) rec =
          let e : k - b - c ≡ k - (b + c) = omega arith in
          rw (le-leb c (k - b) (omega arith), sum-small j 1 (omega arith), sum-small b c (omega arith), e)
          (rec (omega arith) (omega (arith, both)) (λ k' m r v.
          let e' : k' - b - c ≡ k' - (b + c) = omega arith in
          h k' m (omega arith) (omega (arith, both)) ∙
          rw (le-leb c (k' - b) (omega arith), sum-small j 1 (omega arith), sum-small b c (omega arith), e')))

  few-arguments : (at : ℕ) → name_count t at < 8
  unfolding name_count
  few-arguments at = mod-lt (word t at 4 / 256) (omega arith)

  two-before : (at : ℕ) → 2 ≤ inner_of t at
  unfolding inner_of name_spent
  two-before at = rw (sum-small 2 (word t at 4 / 2048) (omega (arith, small_word t W at 4))) (omega arith)

  steady-name : (at q x : ℕ) → Steady t (λ k m. in_name t at q x k m)
  unfolding in_name SameAt
  steady-name at q x k m l = go (ℕ_discrete k 0) (ℕ_discrete k 1) (dec_lt k first) (dec_lt (k - first) all)
    where
      all : ℕ
      all = arg_spots t at 0 (name_count t at)

      first : ℕ
      first = inner_of t at

      go : Dec (k ≡ 0) → Dec (k ≡ 1) → Dec (k < first) → Dec (k - first < all) →
          SameAt t (λ k m. in_name t at q x k m) k (in_name t at q x k m)
      go (yes a) b d c = rw (eq-eqb k 0 a) tt
      go (no a) (yes b) d c = rw (ne_eqb k 0 a, eq-eqb k 1 b) tt
      go (no a) (no b) (yes d) c = rw (ne_eqb k 0 a, ne_eqb k 1 b, lt-ltb k first d) tt
      go (no a) (no b) (no d) (no c) =
          rw (ne_eqb k 0 a, ne_eqb k 1 b, le-ltb k first (omega arith), le-ltb (k - first) all (omega arith)) tt
      go (no a) (no b) (no d) (yes c) =
          rw (ne_eqb k 0 a, ne_eqb k 1 b, le-ltb k first (omega arith), lt-ltb (k - first) all c)
          (args at 0 (name_count t at) first (sum_of first all) k (omega (arith, few-arguments at)) (omega arith) l c
          (λ k m. in_name t at q x k m)
          (λ k' m' r v.
          rw (
            ne_eqb k' 0 (λ e. omega (arith, two-before at)),
            ne_eqb k' 1 (λ e. omega (arith, two-before at)),
            le-ltb k' first r,
            lt-ltb (k' - first) all v,
          )))

  steady-operate-at : (at : ℕ) → Steady t (λ k m. in_operate t at k)
  unfolding in_operate part_weight
  steady-operate-at at =
      steady-operate (word t at 5) (word t at 6) (part_weight t at 0) (part_weight t at 1) (word t at 4) (part_values t
      at 0)
      refl refl

  steady-assign-at : (at : ℕ) → Steady t (λ k m. in_assign t at k)
  unfolding in_assign part_weight
  steady-assign-at at =
      steady-assign (word t at 5) (word t at 6) (part_weight t at 1) (part_weight t at 0) (part_values t at 0) refl refl

  steady-cond-at : (at q x : ℕ) → Steady t (λ k m. in_cond t at q x k)
  unfolding in_cond part_weight
  steady-cond-at at q x =
      steady-cond (word t at 5) (word t at 6) (word t at 7) (part_weight t at 0) (part_weight t at 1) q x refl refl

  -- THEOREM: descending is steady
  pub steady : (at q x : ℕ) (s : ℕ → ℕ) → Steady t (λ k m. down_of t at q x k s m)
  unfolding down_as
  steady at q x s =
      steady-pick (eqb kind 16) _ _ (steady-here (λ k m. Exit 1 0 0 0))
      (steady-pick (eqb kind 18) _ _ (steady-here (λ k m. Exit 5 (word t at 4) 0 0))
      (steady-pick (eqb kind 20) _ _ (steady-name at q x)
      (steady-pick (eqb kind 21) _ _ (steady-fetch at)
      (steady-pick (eqb kind 22) _ _ (steady-operate-at at)
      (steady-pick (eqb kind 23) _ _ (steady-assign-at at)
      (steady-pick (eqb kind 24) _ _ (steady-seq at q x)
      (steady-pick (eqb kind 25) _ _ (steady-cond-at at q x)
      (steady-pick (eqb kind 26) _ _ (steady-while at)
      (steady-pick (eqb kind 27) _ _ (steady-new at q x)
      (steady-pick (eqb kind 128) _ _ (steady-here (λ k m. in_private t at q x k s)) (steady-here (λ k m.
      Stuck))))))))))))
    where
      kind : ℕ
      kind = word t at 0
