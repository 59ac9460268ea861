-- Where a state is at hand, the path says what it does, and what follows each move where it waits.
use mathlib.Core.Path.{◌≡◌, sym, ◌∙◌, ap, subst}
use mathlib.Core.List.{List, ◌∷◌}
use Prim.Native.Nat.{ℕ, zero, suc, ◌-◌, ◌≤◌, ◌<◌}
use native.Mathlib.Omega.{arith}
use native.Mathlib.Decide.{dec_lt, ℕ_discrete}
use lib.ListN.{length}
use borrow.Author.Tests.{lt-ltb, le-ltb, eq-eqb, ne_eqb}
use Rattle.language.specs.declared.Numbers.{Numbers}
use Rattle.states_positions.specs.declared.Move.{Move}
use Rattle.states_positions.specs.declared.Frame.{Frame}
use Rattle.states_positions.specs.declared.Out.{Out}
use Rattle.states_positions.specs.declared.Out.TheVariants.{Hear, Stuck}
use Rattle.states_positions.specs.declared.Spot.{Spot}
use Rattle.states_positions.specs.declared.Spot.TheVariants.{Here}
use Rattle.states_names.specs.Name.{at_wait}
use Rattle.states_step.specs.walk.Step.{on_spot, step_at}
use Rattle.states_path.specs.States.{after_of, sheet_at}
use Rattle.states_path.specs.Path.{rise_all, store_of}
use Rattle.states_path.specs.Levels.{frames_of, level_at}
use Rattle.states_names.specs.Name.{no_move}
use Rattle.states_path.specs.Kept.{sheet_spot, spot_in}
use Rattle.states_path.specs.Kept.{Stands, KeptPath, Covers, wait_at, Arrived}
use Rattle.states_path.proofs.PathWords.{frames-next, frames-length}
use Rattle.states_path.proofs.PathHearing.{listens, never-waits, still-argument}
use Rattle.states_path.proofs.PathSays.{after-spot, Holds, path-says, spot-next}

wait-later : (t : List ℕ) (root k at q x n : ℕ) (m : Move) → 0 < k →
    wait_at t root k at q x n m ≡ at_wait t at q x n m
unfolding wait_at
wait-later t root k at q x n m h = rw (ne_eqb k 0 (λ z. omega arith))

module _ (t : List ℕ) (root : ℕ) where
  -- what is done at a state that is at hand
  after-here : (N : Numbers) (fs : List Frame) (left : ℕ) (m : Move) (S : Spot) (o : Out) → S ≡ Here o →
      rise_all N fs (after-spot t N fs left m S) ≡ rise_all N fs o
  unfolding after-spot on_spot
  after-here N fs left m S o e = rw e

  holds : (p : List ℕ) (c k : ℕ) → KeptPath t root p c k → Covers p c k → Holds p c k
  holds p c k K C z = (K.begun (c - 1) (omega arith), C z)

  -- a wait at the start of the sheet
  first-waits : (k at q x n : ℕ) → sheet_spot t root k no_move ≡ Here (Hear at q x n) → (m : Move) →
      sheet_spot t root k m ≡ Here (wait_at t root k at q x n m)
  unfolding sheet_spot wait_at
  first-waits k at q x n e m = go (ℕ_discrete k 0) (dec_lt k (after_of t root)) e
    where
      go : Dec (k ≡ 0) → Dec (k < after_of t root) → sheet_spot t root k no_move ≡ Here (Hear at q x n) →
          sheet_spot t root k m ≡ Here (wait_at t root k at q x n m)
      go (yes a) b e = rw (eq-eqb k 0 a)
      go (no a) (yes b) e =
          let h = rw (ne_eqb k 0 a, lt-ltb k (after_of t root) b) at e in
          absurd (never-waits _ at q x n (still-argument _ _ _ _ _ _ _) h)
      go (no a) (no b) e =
          let h = rw (ne_eqb k 0 a, le-ltb k (after_of t root) (omega arith)) at e in
          let z : ◌≡◌ {A = ℕ} 0 1 = cc in absurd (omega arith)

  spot-waits : (p : List ℕ) (c k at q x n : ℕ) → KeptPath t root p c k →
      spot_in t root p c k no_move ≡ Here (Hear at q x n) →
      (m : Move) → spot_in t root p c k m ≡ Here (wait_at t root k at q x n m)
  unfolding spot_in
  spot-waits p zero k at q x n K e m = first-waits k at q x n e m
  spot-waits p (suc i) k at q x n K e m =
      spot-next t root p i k m
      ∙ listens t (level_at p i).part (level_at p i).kind (level_at p i).value (k - (level_at p i).base) _ at q x n
      (sym (spot-next t root p i k no_move) ∙ e) m
      ∙ ap Here (sym (wait-later t root k at q x n m
      (omega (arith, (K.sound.plain i (omega arith)).some, K.begun i (omega arith)))))

  -- THEOREM: where the state is at hand, the path says what it does
  pub arrives : (p : List ℕ) (c k : ℕ) (o : Out) → c < 6145 → KeptPath t root p c k → Covers p c k →
      Here o ≡ spot_in t root p c k no_move → Arrived t root p c k o
  arrives p c k o h K C e = record {
    kept = K;
    at = record {
      does = λ N. path-says t N root p c k no_move h K.stands (holds p c k K C)
          ∙ after-here N (frames_of p c) (6144 - c) no_move _ o (sym e);
      hears = λ N m at q x n g. path-says t N root p c k m h K.stands (holds p c k K C)
          ∙ after-here N (frames_of p c) (6144 - c) m _ _ (spot-waits p c k at q x n K (sym e ∙ ap Here g) m);
    };
  }

  -- past the last level nothing is done
  deep-says : (N : Numbers) (p : List ℕ) (k : ℕ) (m : Move) → Stands t root (frames_of p 6144) (level_at p 6144) →
      (level_at p 6144).base ≤ k → k < (level_at p 6144).end → sheet_at t N root k m ≡ rise_all N (frames_of p 6145) Stuck
  unfolding step_at
  deep-says N p k m S a b =
      let e : 6144 - length (frames_of p 6144) ≡ 0 = omega (arith, frames-length p 6144) in
      rw (frames-next p 6144) (subst (λ (y : ℕ). sheet_at t N root k m ≡
      rise_all N ((level_at p 6144).f ∷ frames_of p 6144) (step_at t N y (level_at p 6144).part (level_at p 6144).kind
      (level_at p 6144).value (k - (level_at p 6144).base) (store_of ((level_at p 6144).f ∷ frames_of p 6144)) m)) e (S.says N k m a b))

  deep-arrives : (p : List ℕ) (k : ℕ) → KeptPath t root p 6145 k → Covers p 6145 k → Arrived t root p 6145 k Stuck
  deep-arrives p k K C = record {
    kept = K;
    at = record {
      does = λ N. deep-says N p k no_move (K.stands 6144 (omega arith)) (K.begun 6144 (omega arith)) (C (omega
          arith));
      hears = λ N m at q x n g. let z : ◌≡◌ {A = ℕ} 0 1 = cc in absurd (omega arith);
    };
  }

  pub arrives-deep : (p : List ℕ) (c k : ℕ) → 6145 ≤ c → KeptPath t root p c k → Covers p c k →
      Arrived t root p 6145 k Stuck
  arrives-deep p c k h K C =
      let e : c ≡ 6145 = omega (arith, K.sound.few) in
      deep-arrives p k (subst (λ (y : ℕ). KeptPath t root p y k) e K) (subst (λ (y : ℕ). Covers p y k) e C)
