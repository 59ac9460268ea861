-- Where an exit leads: it passes the frames that pass it on, up to the innermost that does not.
use mathlib.Core.Path.{◌≡◌, refl, sym, ◌∙◌, ap}
use mathlib.Core.Bool.{Bool, true, false}
use mathlib.Core.List.{List, [], ◌∷◌}
use Prim.Native.Nat.{ℕ, zero, suc, ◌≤◌, ◌<◌}
use native.Mathlib.Omega.{arith}
use native.Mathlib.Decide.{dec_lt, ℕ_discrete}
use lib.ListN.{length}
use borrow.Author.Tests.{eq-eqb, ne_eqb, lt-ltb, le-ltb}
use Rattle.language.specs.declared.Numbers.{Numbers}
use Rattle.states_positions.specs.declared.Frame.{Frame}
use Rattle.states_positions.specs.declared.Out.{Out}
use Rattle.states_positions.specs.declared.Out.TheVariants.{Exit}
use Rattle.states_rise.specs.Up.{exit_new, exits_of, rise_of}
use Rattle.states_path.specs.Path.{rise_all, Owned, passes_of, up_of, block_in, left_of}
use Rattle.states_path.specs.Levels.{frame_of, level_at, frames_of, Sound}
use Rattle.states_path.proofs.PathWords.{frames-length}
use Rattle.states_path.proofs.PathBlocks.{block-found, block-low, block-least}

up-pass : (f : Frame) (fs : List Frame) → passes_of f.role ≡ true → up_of (f ∷ fs) ≡ up_of fs
unfolding up_of
up-pass f fs e = rw e

up-stop : (f : Frame) (fs : List Frame) → passes_of f.role ≡ false → up_of (f ∷ fs) ≡ suc (length fs)
unfolding up_of
up-stop f fs e = rw e

up-empty : up_of [] ≡ 0
unfolding up_of
up-empty = refl

pub up-low : (p : List ℕ) (c : ℕ) → up_of (frames_of p c) ≤ c
unfolding frames_of
up-low p zero = omega (arith, up-empty)
up-low p (suc c) = go (passes_of (frame_of p c).role) refl (up-low p c)
  where
    go : (b : Bool) → passes_of (frame_of p c).role ≡ b → up_of (frames_of p c) ≤ c → up_of (frame_of p c ∷ frames_of p c) ≤
        suc c
    go true e h = omega (arith, up-pass (frame_of p c) (frames_of p c) e)
    go false e h = omega (arith, up-stop (frame_of p c) (frames_of p c) e, frames-length p c)

stops-not : (role : ℕ) → role ≡ 7 → passes_of role ≡ false → ⊥
unfolding passes_of
stops-not role e d =
    let h : true ≡ false = rw e at d in
    let z : ◌≡◌ {A = ℕ} 0 1 = cc in omega arith

-- the frame that does not pass an exit on is no block's
pub up-stops : (p : List ℕ) (c j : ℕ) → up_of (frames_of p c) ≡ suc j → (frame_of p j).role ≡ 7 → ⊥
unfolding frames_of
up-stops p zero j e = λ d. omega (arith, up-empty)
up-stops p (suc c) j e = go (passes_of (frame_of p c).role) refl (up-stops p c j)
  where
    go : (b : Bool) → passes_of (frame_of p c).role ≡ b → (up_of (frames_of p c) ≡ suc j → (frame_of p j).role ≡ 7 → ⊥) →
        (frame_of p j).role ≡ 7 → ⊥
    go true d rec = rec (sym (up-pass (frame_of p c) (frames_of p c) d) ∙ e)
    go false d rec = λ a.
        let q : j ≡ c = omega (arith, up-stop (frame_of p c) (frames_of p c) d, frames-length p c) in
        stops-not (frame_of p c).role (ap (λ (y : ℕ). (frame_of p y).role) (sym q) ∙ a) d

-- what is written is forgotten at the same level or further in, but for the block's own
left-same : (i m v : ℕ) → (m ≡ suc i → ⊥) → left_of (suc i) m v ≡ left_of i m v
unfolding left_of
left-same i m v n = go (dec_lt i m)
  where
    go : Dec (i < m) → left_of (suc i) m v ≡ left_of i m v
    go (yes h) = rw (lt-ltb i m h, lt-ltb (suc i) m (omega arith))
    go (no h) = rw (le-ltb i m (omega arith), le-ltb (suc i) m (omega arith))

left-own : (i m v : ℕ) → m ≤ i → left_of i m v ≡ v
unfolding left_of
left-own i m v h = rw (le-ltb i m h)

left-none : (i m v : ℕ) → i < m → left_of i m v ≡ 0
unfolding left_of
left-none i m v h = rw (lt-ltb i m h)

-- an exit of what is inside c levels, which writes u to the variable of the block l, found at the level m - 1
module _ (N : Numbers) (p : List ℕ) (c l u m : ℕ) (S : Sound p c) (d : m ≡ block_in (frames_of p c) l) where
  abbrev exits : ℕ → ℕ → ℕ → Out
  exits i k x = Exit k x (left_of i m l) (left_of i m u)

  not-other : (i : ℕ) → ((frame_of p i).role ≡ 7 → ⊥) → m ≡ suc i → ⊥
  not-other i n e = n (block-found p c l i (sym d ∙ e)).1

  exits-same : (i k x : ℕ) → (m ≡ suc i → ⊥) → exits (suc i) k x ≡ exits i k x
  exits-same i k x n = rw (left-same i m l n, left-same i m u n)

  -- a block that is not the one found passes on what is written
  unlike : (i : ℕ) → i < c → (frame_of p i).role ≡ 7 → (m ≡ suc i → ⊥) → left_of (suc i) m l ≡ (frame_of p i).a → ⊥
  unfolding Owned level_at
  unlike i b e n g = go (dec_lt (suc i) m)
    where
      go : Dec (suc i < m) → ⊥
      go (yes h) = omega (arith, left-none (suc i) m l h, (S.plain i b).owned.0 e)
      go (no h) = omega (arith, d, block-least p c l i b e (sym (sym (left-own (suc i) m l (omega arith)) ∙ g)))

  -- a frame that passes an exit on
  passed : (i k x : ℕ) → i < c → passes_of (frame_of p i).role ≡ true →
      rise_of N (frame_of p i) (exits (suc i) k x) ≡ exits i k x
  unfolding passes_of rise_of exits_of exit_new
  passed i k x b e = go (ℕ_discrete (frame_of p i).role 0) (ℕ_discrete (frame_of p i).role 7) (ℕ_discrete m (suc i)) e
    where
      f : Frame
      f = frame_of p i

      go : Dec (f.role ≡ 0) → Dec (f.role ≡ 7) → Dec (m ≡ suc i) → passes_of f.role ≡ true →
          rise_of N f (exits (suc i) k x) ≡ exits i k x
      go (yes a) g h e = rw a (exits-same i k x (not-other i (λ z. omega arith)))
      go (no a) (yes g) (yes h) e =
          let w : left_of (suc i) m l ≡ f.a =
          left-own (suc i) m l (omega arith) ∙ sym (block-found p c l i (sym d ∙ h)).2 in
          rw (g, eq-eqb (left_of (suc i) m l) f.a w, left-none i m l (omega arith), left-none i m u (omega arith))
      go (no a) (yes g) (no h) e =
          rw (g, ne_eqb (left_of (suc i) m l) f.a (unlike i b g h)) (exits-same i k x h)
      go (no a) (no g) h e =
          let h : false ≡ true = rw (ne_eqb f.role 0 a, ne_eqb f.role 7 g) at e in
          let z : ◌≡◌ {A = ℕ} 0 1 = cc in absurd (omega arith)

  -- where all frames pass it on, it is an exit of the whole
  pub exit-none : (left k x : ℕ) → left ≤ c → up_of (frames_of p left) ≡ 0 →
      rise_all N (frames_of p left) (exits left k x) ≡ exits 0 k x
  unfolding frames_of rise_all
  exit-none zero k x b e = refl
  exit-none (suc i) k x b e = go (passes_of (frame_of p i).role) refl (exit-none i k x (omega arith))
    where
      go : (t : Bool) → passes_of (frame_of p i).role ≡ t →
          (up_of (frames_of p i) ≡ 0 → rise_all N (frames_of p i) (exits i k x) ≡ exits 0 k x) →
          rise_all N (frames_of p i) (rise_of N (frame_of p i) (exits (suc i) k x)) ≡ exits 0 k x
      go true g rec =
          ap (λ (o : Out). rise_all N (frames_of p i) o) (passed i k x (omega arith) g)
          ∙ rec (sym (up-pass (frame_of p i) (frames_of p i) g) ∙ e)
      go false g rec = absurd (omega (arith, up-stop (frame_of p i) (frames_of p i) g))

  stopped : (i j k x : ℕ) → j ≡ i → passes_of (frame_of p i).role ≡ false →
      rise_all N (frames_of p i) (rise_of N (frame_of p i) (exits (suc i) k x))
      ≡ rise_all N (frames_of p j) (exits_of N (frame_of p j) k x (left_of j m l) (left_of j m u))
  unfolding rise_of
  stopped i j k x q g =
      rw q (ap (λ (o : Out). rise_all N (frames_of p i) (rise_of N (frame_of p i) o))
      (exits-same i k x (not-other i (λ z. stops-not (frame_of p i).role z g))))

  -- THEOREM: it leads where the innermost frame that does not pass it on leads it
  pub exit-up : (left j k x : ℕ) → left ≤ c → up_of (frames_of p left) ≡ suc j →
      rise_all N (frames_of p left) (exits left k x)
      ≡ rise_all N (frames_of p j) (exits_of N (frame_of p j) k x (left_of j m l) (left_of j m u))
  unfolding frames_of rise_all
  exit-up zero j k x b e = absurd (omega (arith, up-empty))
  exit-up (suc i) j k x b e = go (passes_of (frame_of p i).role) refl (exit-up i j k x (omega arith))
    where
      go : (t : Bool) → passes_of (frame_of p i).role ≡ t →
          (up_of (frames_of p i) ≡ suc j → rise_all N (frames_of p i) (exits i k x)
          ≡ rise_all N (frames_of p j) (exits_of N (frame_of p j) k x (left_of j m l) (left_of j m u))) →
          rise_all N (frames_of p i) (rise_of N (frame_of p i) (exits (suc i) k x))
          ≡ rise_all N (frames_of p j) (exits_of N (frame_of p j) k x (left_of j m l) (left_of j m u))
      go true g rec =
          ap (λ (o : Out). rise_all N (frames_of p i) o) (passed i k x (omega arith) g)
          ∙ rec (sym (up-pass (frame_of p i) (frames_of p i) g) ∙ e)
      go false g rec =
          stopped i j k x (omega (arith, up-stop (frame_of p i) (frames_of p i) g, frames-length p i)) g

  -- at first nothing is forgotten
  pub exit-all : (k x : ℕ) → exits c k x ≡ Exit k x l u
  exit-all k x = rw (
    left-own c m l (omega (arith, d, block-low p c l)),
    left-own c m u (omega (
      arith,
      d,
      block-low p
          c l,
    )),
  )
