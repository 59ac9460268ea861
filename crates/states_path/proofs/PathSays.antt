-- What the kept path says of a state: what is done where it is, risen through the frames.
use mathlib.Core.Path.{◌≡◌, refl, sym, ◌∙◌, ap, subst}
use mathlib.Core.List.{List, [], ◌∷◌}
use Prim.Native.Nat.{ℕ, zero, suc, ◌-◌, ◌≤◌, ◌<◌}
use native.Mathlib.Omega.{arith}
use native.Mathlib.Decide.{dec_lt, ℕ_discrete}
use lib.ListN.{length}
use borrow.Author.Tests.{lt-ltb, le-ltb, eq-eqb, ne_eqb}
use Rattle.language.specs.declared.Numbers.{Numbers}
use Rattle.sheet_rows.specs.Row.{word}
use Rattle.states_positions.specs.declared.Move.{Move}
use Rattle.states_positions.specs.declared.Frame.{Frame}
use Rattle.states_positions.specs.declared.Out.{Out}
use Rattle.states_positions.specs.declared.Spot.{Spot}
use Rattle.states_positions.specs.declared.Spot.TheVariants.{Here, Inside}
use Rattle.states_step.specs.walk.Store.{store_in}
use Rattle.states_names.specs.Name.{arg_here}
use Rattle.states_step.specs.walk.Down.{down_of}
use Rattle.states_rise.specs.Up.{rise_of}
use Rattle.states_step.specs.walk.Step.{on_spot, step_at}
use Rattle.states_path.specs.States.{after_of, sheet_at, within_of}
use Rattle.states_path.specs.Path.{rise_all, store_of, base_of, Owned}
use Rattle.states_path.specs.Levels.{frames_of, level_at, Sound}
use Rattle.states_path.specs.Kept.{sheet_spot, spot_in, start_of, stop_of}
use Rattle.states_path.specs.Kept.{Stands}
use Rattle.states_path.proofs.PathWords.{frames-next, frames-length}

-- what is done where a state is: by the step of the part there
unfoldable pub after-spot : List ℕ → Numbers → List Frame → ℕ → Move → Spot → Out
after-spot t N fs left m S =
    on_spot S (λ part kind value inner f.
    rise_of N f (step_at t N left part kind value inner (store_of (f ∷ fs)) m))

-- the copies of the whole term
within-spot : (t : List ℕ) (N : Numbers) (root k after : ℕ) (m : Move) →
    within_of t N root k after m ≡
    after-spot t N [] 6144 m (arg_here root (word t root 2) (word t root 3) (word t root 1) k 1 after)
unfolding within_of after-spot arg_here store_of on_spot store_in
within-spot t N root k after m = go (ℕ_discrete (word t root 1) 0)
  where
    go : Dec (word t root 1 ≡ 0) → within_of t N root k after m ≡
        after-spot t N [] 6144 m (arg_here root (word t root 2) (word t root 3) (word t root 1) k 1 after)
    go (yes e) = rw (eq-eqb (word t root 1) 0 e)
    go (no e) = rw (ne_eqb (word t root 1) 0 e)

spot-here : (t : List ℕ) (N : Numbers) (fs : List Frame) (left : ℕ) (m : Move) (o : Out) →
    o ≡ after-spot t N fs left m (Here o)
unfolding after-spot on_spot
spot-here t N fs left m o = refl

-- a state of the sheet
sheet-says : (t : List ℕ) (N : Numbers) (root k : ℕ) (m : Move) →
    sheet_at t N root k m ≡ after-spot t N [] 6144 m (sheet_spot t root k m)
unfolding sheet_at sheet_spot
sheet-says t N root k m = go (ℕ_discrete k 0) (dec_lt k (after_of t root))
  where
    go : Dec (k ≡ 0) → Dec (k < after_of t root) → sheet_at t N root k m ≡ after-spot t N [] 6144 m (sheet_spot t root k m)
    go (yes e) d = rw (eq-eqb k 0 e) (spot-here t N [] 6144 m _)
    go (no e) (yes d) = rw (ne_eqb k 0 e, lt-ltb k (after_of t root) d) (within-spot t N root (k - 1) (after_of t root) m)
    go (no e) (no d) = rw (ne_eqb k 0 e, le-ltb k (after_of t root) (omega arith)) (spot-here t N [] 6144 m _)

-- a level's states are those of the part it gives
level-says : (t : List ℕ) (N : Numbers) (root : ℕ) (p : List ℕ) (i k : ℕ) (m : Move) → i < 6144 →
    Stands t root (frames_of p i) (level_at p i) → (level_at p i).base ≤ k → k < (level_at p i).end →
    sheet_at t N root k m ≡ rise_all N (frames_of p (suc i)) (after-spot t N (frames_of p (suc i)) (6144 - suc i) m
    (down_of t (level_at p i).part (level_at p i).kind (level_at p i).value (k - (level_at p i).base)
    (store_of (frames_of p (suc i))) m))
unfolding after-spot step_at store_of
level-says t N root p i k m h S a b =
    let e : 6144 - length (frames_of p i) ≡ suc (6144 - suc i) = omega (arith, frames-length p i) in
    rw (frames-next p i) (subst (λ (y : ℕ). sheet_at t N root k m ≡
    rise_all N ((level_at p i).f ∷ frames_of p i) (step_at t N y (level_at p i).part (level_at p i).kind (level_at p i
    ).value
    (k - (level_at p i).base) (store_of ((level_at p i).f ∷ frames_of p i)) m))
    e (S.says N k m a b))

-- the innermost of c levels has the state k
abbrev pub Holds : List ℕ → ℕ → ℕ → Type 0
Holds p c k = 0 < c → ((level_at p (c - 1)).base ≤ k) × (k < (level_at p (c - 1)).end)

-- THEOREM: a state of the innermost level does what is done where it is there, risen through the frames
pub path-says : (t : List ℕ) (N : Numbers) (root : ℕ) (p : List ℕ) (c k : ℕ) (m : Move) → c < 6145 →
    ((i : ℕ) → i < c → Stands t root (frames_of p i) (level_at p i)) → Holds p c k →
    sheet_at t N root k m ≡ rise_all N (frames_of p c) (after-spot t N (frames_of p c) (6144 - c) m (spot_in t root p c k m))
unfolding spot_in rise_all frames_of
path-says t N root p zero k m h S l = sheet-says t N root k m
path-says t N root p (suc i) k m h S l =
    let e : suc i - 1 ≡ i = omega arith in
    let b = rw e at (l (omega arith)) in
    rw (ne_eqb (suc i) 0 (λ z. omega arith), e) (level-says t N root p i k m (omega arith) (S i (omega arith)) b.0 b.1)

-- the innermost of some levels
pub start-next : (p : List ℕ) (i : ℕ) → start_of p (suc i) ≡ (level_at p i).base
unfolding start_of
start-next p i = let e : suc i - 1 ≡ i = omega arith in rw (ne_eqb (suc i) 0 (λ z. omega arith), e)

pub stop-next : (t : List ℕ) (root : ℕ) (p : List ℕ) (i : ℕ) → stop_of t root p (suc i) ≡ (level_at p i).end
unfolding stop_of
stop-next t root p i = let e : suc i - 1 ≡ i = omega arith in rw (ne_eqb (suc i) 0 (λ z. omega arith), e)

pub spot-next : (t : List ℕ) (root : ℕ) (p : List ℕ) (i k : ℕ) (m : Move) → spot_in t root p (suc i) k m ≡
    down_of t (level_at p i).part (level_at p i).kind (level_at p i).value (k - (level_at p i).base)
    (store_of (frames_of p (suc i))) m
unfolding spot_in
spot-next t root p i k m = let e : suc i - 1 ≡ i = omega arith in rw (ne_eqb (suc i) 0 (λ z. omega arith), e)

pub stop-low : (t : List ℕ) (root : ℕ) (p : List ℕ) (c : ℕ) → ((i : ℕ) → i < c → Stands t root (frames_of p i) (level_at p
    i)) →
    stop_of t root p c ≤ after_of t root
unfolding stop_of
stop-low t root p zero S = omega arith
stop-low t root p (suc i) S = omega (arith, stop-next t root p i, (S i (omega arith)).before_answers)

pub in-range : (t : List ℕ) (root : ℕ) (p : List ℕ) (c k : ℕ) → 0 < c → start_of p c ≤ k → k < stop_of t root p c →
    ((level_at p (c - 1)).base ≤ k) × (k < (level_at p (c - 1)).end)
unfolding start_of stop_of
in-range t root p c k g a b =
    let n : (c ≡ 0 → ⊥) = λ z. omega arith in
    (rw (ne_eqb c 0 n) at a, rw (ne_eqb c 0 n) at b)

pub after-inside : (t : List ℕ) (N : Numbers) (fs : List Frame) (left : ℕ) (m : Move) (S : Spot)
    (part kind value inner : ℕ) (f : Frame) → S ≡ Inside part kind value inner f →
    rise_all N fs (after-spot t N fs left m S) ≡
    rise_all N (f ∷ fs) (step_at t N left part kind value inner (store_of (f ∷ fs)) m)
unfolding after-spot on_spot rise_all
after-inside t N fs left m S part kind value inner f e = rw e

-- the first state of the innermost level, by the frames
pub start-base : (p : List ℕ) (c : ℕ) → Sound p c → start_of p c ≡ base_of (frames_of p c)
unfolding start_of base_of frames_of
start-base p zero S = refl
start-base p (suc i) S =
    start-next p i ∙ (S.plain i (omega arith)).first_state ∙ ap base_of (sym (frames-next p i))

pub frames-owned : (p : List ℕ) (c : ℕ) → Sound p c → Owned (frames_of p c)
unfolding Owned frames_of
frames-owned p zero S = tt
frames-owned p (suc i) S = subst (λ (fs : List Frame). Owned fs) (sym (frames-next p i)) (S.plain i (omega arith)
    ).owned
