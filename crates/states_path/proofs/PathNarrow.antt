-- The level of a part that is entered has words of 32 bits.
use mathlib.Core.Path.{◌≡◌}
use mathlib.Core.List.{List, ◌∷◌}
use Prim.Native.Nat.{ℕ, zero, suc, ◌+◌, ◌-◌, ◌≤◌, ◌<◌}
use native.Mathlib.Omega.{arith}
use native.Mathlib.Decide.{dec_lt}
use lib.Dec.{eqb, ltb}
use lib.ListN.{get_or-eq_default}
use Rattle.sheet_rows.specs.Row.{cell, word}
use Rattle.states_positions.specs.declared.Frame.{Frame}
use Rattle.states_positions.specs.declared.Spot.TheVariants.{Inside}
use Rattle.states_names.specs.Name.{no_move}
use Rattle.states_step.specs.walk.Shows.{TermRows}
use Rattle.states_path.specs.declared.Level.{Level}
use Rattle.states_path.specs.States.{after_of}
use Rattle.states_path.specs.Path.{passes_of, up_of}
use Rattle.states_path.specs.Levels.{frames_of, level_at, level_words, Narrow}
use Rattle.states_path.specs.Kept.{sheet_spot, spot_in, start_of, stop_of, until_of, child_of, KeptPath, Covers}
use Rattle.states_path.proofs.Steady.{small_word}
use Rattle.states_path.proofs.PathWords.{frames-length}
use Rattle.states_path.proofs.PathBlocks.{innermost-is}
use Rattle.states_path.proofs.PathExits.{up-low}
use Rattle.states_path.proofs.PathSays.{spot-next, stop-low}
use Rattle.states_path.proofs.PathInner.{Inner, until-past, entered}
use Rattle.states_path.proofs.Narrow.{product-fits, pick_low, Modest, ModestAt, as-modest, modest-pick}
use Rattle.states_path.proofs.Narrow.{modest-argument, modest}

-- the answers of a sheet begin at a word of 32 bits
after-fits : (t : List ℕ) (root : ℕ) → after_of t root < 4294967296
unfolding after_of
after-fits t root = product-fits _ _

-- the level up to which exits are passed on
up_fits : (p : List ℕ) (c : ℕ) (f : Frame) → c < 6145 → up_of (f ∷ frames_of p c) < 4294967296
unfolding up_of
up_fits p c f h =
    pick_low (passes_of f.role) _ _ _ (omega (arith, up-low p c)) (omega (arith, frames-length p c))

module _ (t : List ℕ) (R : TermRows t) (root : ℕ) where
  -- a place of the table where something has a weight
  place-small : (word t root 1 ≡ 0 → ⊥) → root < 65536
  unfolding word cell
  place-small n = go (dec_lt root 65536)
    where
      go : Dec (root < 65536) → root < 65536
      go (yes h) = h
      go (no h) = absurd (n (get_or-eq_default t 0 (omega (arith, R.0))))

  modest-sheet : (k : ℕ) → k < 65536 → ModestAt (sheet_spot t root k no_move)
  unfolding sheet_spot ModestAt
  modest-sheet k h = modest-pick (eqb k 0) _ _ tt (modest-pick (ltb k (after_of t root)) _ _
      (modest-argument root (word t root 2) (word t root 3) (word t root 1) (k - 1) 1 (after_of t root) place-small
      (small_word t R.1 root 2) (small_word t R.1 root 3) (omega arith) (after-fits t root)) tt)

  modest-spot : (p : List ℕ) (c k : ℕ) → k < 65536 → KeptPath t root p c k → ModestAt (spot_in t root p c k no_move)
  unfolding spot_in
  modest-spot p zero k h K = modest-sheet k h
  modest-spot p (suc i) k h K =
      rw (spot-next t root p i k no_move) (modest t R.1 (level_at p i).part (level_at p i).kind (level_at p i).value
      (k - (level_at p i).base) _ no_move (K.sound.plain i (omega arith)).kind_small
      (K.sound.plain i (omega arith)).value_small (omega arith))

  module _ (p : List ℕ) (c k part kind value inner : ℕ) (f : Frame) (s : k < 65536) (h : c < 6145)
      (K : KeptPath t root p c k) (e : Inside part kind value inner f ≡ spot_in t root p c k no_move) where
    pub entered-modest : Modest part kind value f
    entered-modest = as-modest part kind value inner f (spot_in t root p c k no_move) e (modest-spot p c k s K)

    level-fits : Inner t root p c k part kind value f → Modest part kind value f →
        Narrow (level_words (child_of t root p c k part kind value f))
    unfolding Narrow level_words child_of
    level-fits I M = (
      omega (arith, M.part_small),
      (
        omega (arith, M.kind_small),
        (
          omega (arith, M.value_small),
          (
            omega (
              arith,
              I.begins,
            ),
            (
              omega (arith, ends, stop-low t root p c K.stands, after-fits t root),
              (
                omega (
                  arith,
                  (innermost-is p c 0).low,
                ),
                (
                  omega (arith, M.role-small),
                  (
                    omega (arith, I.begins),
                    (
                      M.a-fits,
                      (
                        M.b-fits,
                        (M.c-fits, (M.d-fits, (up_fits p c f h, tt))),
                      ),
                    ),
                  ),
                ),
              ),
            ),
          ),
        ),
      ),
    )
      where
        past : ℕ
        past = start_of p c + f.base + word t part 1

        ends : until_of k past (stop_of t root p c) ≤ stop_of t root p c
        ends = (until-past k past (stop_of t root p c) I.inside).1

    -- THEOREM: the level that is written has words of 32 bits
    pub entered-narrow : Covers p c k → (l : Level) → l ≡ child_of t root p c k part kind value f →
        Narrow (level_words l)
    entered-narrow C l g =
        rw g (level-fits (entered t R.1 root p c k part kind value inner f s h K C e) entered-modest)
