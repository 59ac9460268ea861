-- Where the path is entered deeper, the part stands there.
use mathlib.Core.Path.{◌≡◌, refl, sym, ◌∙◌, ap}
use mathlib.Core.Logic.{◌⊎◌, inl, inr}
use mathlib.Core.List.{List, ◌∷◌}
use Prim.Native.Nat.{ℕ, zero, suc, ◌+◌, ◌-◌, ◌/◌, ◌≤◌, ◌<◌}
use native.Mathlib.Omega.{arith}
use native.Mathlib.Decide.{dec_lt, ℕ_discrete}
use lib.ListN.{length}
use borrow.Author.Tests.{lt-ltb, le-ltb, lt-leb, le-leb, eq-eqb, ne_eqb}
use Rattle.language.specs.declared.Numbers.{Numbers}
use Rattle.sheet_rows.specs.Row.{word}
use Rattle.states_positions.specs.declared.Move.{Move}
use Rattle.states_positions.specs.declared.Frame.{Frame}
use Rattle.states_positions.specs.declared.Out.TheVariants.{Stuck}
use Rattle.states_positions.specs.declared.Spot.{Spot}
use Rattle.states_positions.specs.declared.Spot.TheVariants.{Here, Inside}
use Rattle.states_names.specs.Name.{framed_of, arg_here}
use Rattle.states_step.specs.walk.Down.{down_of}
use Rattle.states_step.specs.walk.Step.{step_at}
use Rattle.states_step.specs.walk.Shows.{Words}
use Rattle.states_path.specs.States.{at_start, after_of, sheet_at}
use Rattle.states_path.specs.Path.{Same, SameAt, rise_all, store_of}
use Rattle.states_path.specs.Levels.{frames_of, level_at}
use Rattle.states_names.specs.Name.{no_move}
use Rattle.states_path.specs.Kept.{sheet_spot, spot_in, start_of, stop_of, least_of, until_of, child_of}
use Rattle.states_path.specs.Kept.{Stands, KeptPath, Covers}
use Rattle.states_positions.specs.Row.{mul_add_of}
use Rattle.states_step.proofs.Sums.{mul_add_small}
use Rattle.states_path.proofs.Steady.{in-copy, small_word, steady, steady-argument}
use Rattle.states_path.proofs.PathWords.{frames-length}
use Rattle.states_path.proofs.PathSays.{path-says, start-next, stop-next, spot-next, stop-low, in-range, after-inside}

-- the end of a part's states
until-within : (k past end k' : ℕ) → k' < until_of k past end → (k' < end) × ((k' ≤ k) ⊎ (k' < past))
unfolding until_of least_of
until-within k past end k' h = go (dec_lt k past) (dec_lt end (k + 1)) (dec_lt end past) h
  where
    go : Dec (k < past) → Dec (end < k + 1) → Dec (end < past) → k' < until_of k past end →
        (k' < end) × ((k' ≤ k) ⊎ (k' < past))
    go (yes a) b (yes c) h =
        let l : k' < end = rw (lt-leb past k a, lt-ltb end past c) at h in (l, inr (omega arith))
    go (yes a) b (no c) h =
        let l : k' < past = rw (lt-leb past k a, le-ltb end past (omega arith)) at h in (omega arith, inr l)
    go (no a) (yes b) c h =
        let l : k' < end = rw (le-leb past k (omega arith), lt-ltb end (k + 1) b) at h in (l, inl (omega arith))
    go (no a) (no b) c h =
        let l : k' < k + 1 = rw (le-leb past k (omega arith), le-ltb end (k + 1) (omega arith)) at h in
        (omega arith, inl (omega arith))

pub until-past : (k past end : ℕ) → k < end → (k < until_of k past end) × (until_of k past end ≤ end)
unfolding until_of least_of
until-past k past end l = go (dec_lt k past) (dec_lt end (k + 1)) (dec_lt end past)
  where
    go : Dec (k < past) → Dec (end < k + 1) → Dec (end < past) → (k < until_of k past end) × (until_of k past end ≤ end)
    go (yes a) b (yes c) = rw (lt-leb past k a, lt-ltb end past c) (omega arith, omega arith)
    go (yes a) b (no c) = rw (lt-leb past k a, le-ltb end past (omega arith)) (omega arith, omega arith)
    go (no a) (yes b) c = absurd (omega arith)
    go (no a) (no b) c = rw (le-leb past k (omega arith), le-ltb end (k + 1) (omega arith)) (omega arith, omega arith)

-- an argument that is entered has a weight, and begins where it says or later
arg-some : (part class n w k base after part' kind value inner : ℕ) (f : Frame) →
    arg_here part class n w k base after ≡ Inside part' kind value inner f → w ≡ 0 → ⊥
unfolding arg_here
arg-some part class n w k base after part' kind value inner f e z =
    let h : Here Stuck ≡ Inside part' kind value inner f = rw (eq-eqb w 0 z) at e in
    let z : ◌≡◌ {A = ℕ} 0 1 = cc in omega arith

arg-base : (part class n w k base after part' kind value inner : ℕ) (f : Frame) →
    arg_here part class n w k base after ≡ Inside part' kind value inner f → 0 < w → w < 65536 → k < 65536 →
    base < 65536 → base ≤ f.base
unfolding arg_here
arg-base part class n w k base after part' kind value inner f e p a b d =
    let h = rw (ne_eqb w 0 (λ z. omega arith)) at e in
    let g : f ≡ framed_of 6 (mul_add_of (k / w) w base) after class n (k / w) = cc in
    let q : f.base ≡ mul_add_of (k / w) w base = ap (λ (y : Frame). y.base) g in
    omega (arith, q, mul_add_small (k / w) w base (omega (arith, (in-copy w k p).2)) a (omega arith))

as_same : (t : List ℕ) (F : ℕ → Move → Spot) (k part kind value inner : ℕ) (f : Frame) (S : Spot) →
    S ≡ Inside part kind value inner f → SameAt t F k S → Same t F k part kind value inner f
unfolding SameAt
as_same t F k part kind value inner f S e h = rw e at h

-- a part of the innermost of c levels, steady there
pub record Inner (t : List ℕ) (root : ℕ) (p : List ℕ) (c k part kind value : ℕ) (f : Frame) : Type 0 where
  pub begins : start_of p c + f.base ≤ k
  pub some : 0 < start_of p c + f.base
  pub own : f.role ≡ 7 → 0 < f.a
  pub inside : k < stop_of t root p c
  pub same : (k' : ℕ) (m : Move) → start_of p c + f.base ≤ k' → k' < stop_of t root p c →
      (k' ≤ k) ⊎ (k' < start_of p c + f.base + word t part 1) →
      spot_in t root p c k' m ≡ Inside part kind value (k' - (start_of p c + f.base)) f

module _ (t : List ℕ) (W : Words t) (root : ℕ) where
  -- of the whole sheet
  inner_first : (p : List ℕ) (k part kind value inner : ℕ) (f : Frame) → k < 65536 →
      sheet_spot t root k no_move ≡ Inside part kind value inner f → Inner t root p 0 k part kind value f
  unfolding sheet_spot start_of stop_of spot_in frames_of
  inner_first p k part kind value inner f s e = go (ℕ_discrete k 0) (dec_lt k (after_of t root)) (ℕ_discrete w 0) e
    where
      w : ℕ
      w = word t root 1

      over : (k' : ℕ) → (k' ≤ k) ⊎ (k' < 0 + f.base + word t part 1) → (k' ≤ k) ⊎ (k' < f.base + word t part 1)
      over k' (inl h) = inl h
      over k' (inr h) = inr (omega arith)

      F : ℕ → Move → Spot
      F k m = arg_here root (word t root 2) (word t root 3) w (k - 1) 1 (after_of t root)

      as-inner : (k ≡ 0 → ⊥) → k < after_of t root → 0 < w → F k no_move ≡ Inside part kind value inner f →
          Same t F k part kind value inner f → Inner t root p 0 k part kind value f
      as-inner a b c h S =
          let q : 1 ≤ f.base = arg-base root (word t root 2) (word t root 3) w (k - 1) 1 (after_of t root) part kind
          value
          inner f h c (small_word t W root 1) (omega arith) (omega arith) in
          record {
            begins = omega (arith, S.whole);
            some = omega arith;
            own = S.own;
            inside = b;
            same = λ k' m r l d.
                let y : 0 + f.base ≡ f.base = omega arith in
                rw (ne_eqb k' 0 (λ z. omega arith), lt-ltb k' (after_of t root) l, y)
                (S.same k' m (omega arith) (over k' d));
          }

      go : Dec (k ≡ 0) → Dec (k < after_of t root) → Dec (w ≡ 0) → sheet_spot t root k no_move ≡ Inside part kind value
          inner f →
          Inner t root p 0 k part kind value f
      go (yes a) b c e =
          let h : Here (at_start t root no_move) ≡ Inside part kind value inner f = rw (eq-eqb k 0 a) at e in
          let z : ◌≡◌ {A = ℕ} 0 1 = cc in absurd (omega arith)
      go (no a) (no b) c e =
          let h = rw (ne_eqb k 0 a, le-ltb k (after_of t root) (omega arith)) at e in
          let z : ◌≡◌ {A = ℕ} 0 1 = cc in absurd (omega arith)
      go (no a) (yes b) (yes c) e =
          let h : F k no_move ≡ Inside part kind value inner f =
          rw (ne_eqb k 0 a, lt-ltb k (after_of t root) b) at e in
          absurd (arg-some root (word t root 2) (word t root 3) w (k - 1) 1 (after_of t root) part kind value inner f
          h c)
      go (no a) (yes b) (no c) e =
          let h : F k no_move ≡ Inside part kind value inner f =
          rw (ne_eqb k 0 a, lt-ltb k (after_of t root) b) at e in
          as-inner a b (omega arith) h
          (as_same t F k part kind value inner f (F k no_move) h
          (steady-argument t W root (word t root 2) (word t root 3) w 1 (after_of t root) k refl (omega arith) s
          (omega arith) F (λ k' m r d. refl)))

  -- of the innermost of some levels
  inner-next : (p : List ℕ) (i k part kind value inner : ℕ) (f : Frame) → k < 65536 → i < 6145 → 0 < (level_at p i).base →
      (level_at p i).base ≤ k → k < (level_at p i).end →
      spot_in t root p (suc i) k no_move ≡ Inside part kind value inner f → Inner t root p (suc i) k part kind value f
  inner-next p i k part kind value inner f s u o a b e = record {
    begins = omega (arith, S.whole, start-next p i);
    some = omega (arith, start-next p i);
    own = S.own;
    inside = omega (arith, stop-next t root p i);
    same = λ k' m r l d. spot-next t root p i k' m
        ∙ S.same (k' - base) m (omega (arith, start-next p i)) (over k' (omega (arith, start-next p i)) d)
        ∙ ap (λ (y : ℕ). Inside part kind value y f) (omega (arith, start-next p i));
  }
    where
      base : ℕ
      base = (level_at p i).base

      F : ℕ → Move → Spot
      F k m = down_of t (level_at p i).part (level_at p i).kind (level_at p i).value k (store_of (frames_of p (suc i)))
          m

      S : Same t F (k - base) part kind value inner f
      S = as_same t F (k - base) part kind value inner f (F (k - base) no_move) (sym (spot-next t root p i k
          no_move) ∙ e)
          (steady t W (level_at p i).part (level_at p i).kind (level_at p i).value
          (store_of (frames_of p (suc i)))
          (k - base) no_move (omega arith))

      over : (k' : ℕ) → base + f.base ≤ k' → (k' ≤ k) ⊎ (k' < start_of p (suc i) + f.base + word t part 1) →
          (k' - base ≤ k - base) ⊎ (k' - base < f.base + word t part 1)
      over k' r (inl h) = inl (omega arith)
      over k' r (inr h) = inr (omega (arith, start-next p i))

  -- THEOREM: a part that the path is entered to stands there
  pub deeper-stands : (p : List ℕ) (c k part kind value : ℕ) (f : Frame) → c < 6145 →
      ((i : ℕ) → i < c → Stands t root (frames_of p i) (level_at p i)) → Inner t root p c k part kind value f →
      Stands t root (frames_of p c) (child_of t root p c k part kind value f)
  unfolding child_of
  deeper-stands p c k part kind value f h S I = record {
    before_answers = omega (arith, until-past k past (stop_of t root p c) I.inside, stop-low t root p c S);
    says = says;
  }
    where
      base : ℕ
      base = start_of p c + f.base

      past : ℕ
      past = base + word t part 1

      fs : List Frame
      fs = frames_of p c

      says : (N : Numbers) (k' : ℕ) (m : Move) → base ≤ k' → k' < until_of k past (stop_of t root p c) →
          sheet_at t N root k' m ≡ rise_all N (f ∷ fs) (step_at t N (6144 - length fs) part kind value (k' - base)
          (store_of (f ∷ fs)) m)
      says N k' m a b =
          let u = until-within k past (stop_of t root p c) k' b in
          let e = I.same k' m a u.0 u.1 in
          path-says t N root p c k' m h S (λ g. in-range t root p c k' g (omega arith) u.0)
          ∙ after-inside t N fs (6144 - c) m (spot_in t root p c k' m) part kind value (k' - base) f e
          ∙ ap (λ (y : ℕ). rise_all N (f ∷ fs) (step_at t N y part kind value (k' - base) (store_of (f ∷ fs)) m)) (omega
          (arith, frames-length p c))

  -- where the path holds the state k
  pub entered : (p : List ℕ) (c k part kind value inner : ℕ) (f : Frame) → k < 65536 → c < 6145 → KeptPath t root p c
      k →
      Covers p c k → Inside part kind value inner f ≡ spot_in t root p c k no_move → Inner t root p c k part kind value f
  unfolding spot_in
  entered p zero k part kind value inner f s h K C e = inner_first p k part kind value inner f s (sym e)
  entered p (suc i) k part kind value inner f s h K C e =
      let d : suc i - 1 ≡ i = omega arith in
      let b = rw d at (C (omega arith)) in
      inner-next p i k part kind value inner f s (omega arith) (K.sound.plain i (omega arith)).some
      (K.begun i (omega arith)) b (sym e)
