-- With the level of a part the path is kept.
use mathlib.Core.Path.{◌≡◌, refl, ◌∙◌, ap}
use mathlib.Core.Logic.{◌⊎◌, inl, inr}
use mathlib.Core.List.{List}
use Prim.Native.Nat.{ℕ, suc, ◌+◌, ◌-◌, ◌≤◌, ◌<◌}
use native.Mathlib.Omega.{arith}
use native.Mathlib.Numerals.{add-one}
use native.Mathlib.Decide.{dec_lt}
use lib.ListN.{length}
use Rattle.states_positions.specs.declared.Frame.{Frame}
use Rattle.states_positions.specs.declared.Spot.TheVariants.{Inside}
use Rattle.states_step.specs.walk.Shows.{TermRows}
use Rattle.states_path.specs.declared.Level.{Level}
use Rattle.states_path.specs.Path.{Owned}
use Rattle.states_path.specs.Levels.{frames_of, level_at, with_level, Plain}
use Rattle.states_names.specs.Name.{no_move}
use Rattle.states_path.specs.Kept.{spot_in, stop_of, child_of}
use Rattle.states_path.specs.Kept.{Stands, KeptPath, Covers}
use Rattle.states_path.proofs.PathWords.{entered-length, entered-new, entered-old, entered-frames}
use Rattle.states_path.proofs.PathSays.{start-base, frames-owned}
use Rattle.states_path.proofs.Narrow.{Modest}
use Rattle.states_path.proofs.PathInner.{until-past, Inner, deeper-stands, entered}
use Rattle.states_path.proofs.PathNarrow.{entered-modest}

module _ (t : List ℕ) (R : TermRows t) (root : ℕ) where
  -- the levels with one more
  module _ (p : List ℕ) (c k part kind value : ℕ) (f : Frame) (s : k < 65536) (h : c < 6145) (K : KeptPath t root p c k)
      (I : Inner t root p c k part kind value f) (M : Modest part kind value f) where
    abbrev l : Level
    l = child_of t root p c k part kind value f

    child-plain : Plain (frames_of p c) l
    unfolding child_of Owned
    child-plain = record {
      outer_block = refl;
      first_state = ap (λ (y : ℕ). y + f.base) (start-base p c K.sound);
      owned = (I.own, frames-owned p c K.sound);
      upper = refl;
      small = omega (arith, I.begins);
      some = I.some;
      kind_small = M.kind_small;
      value_small = M.value_small;
    }

    child-begins : l.base ≤ k
    unfolding child_of
    child-begins = I.begins

    child-covers : k < l.end
    unfolding child_of
    child-covers = (until-past k _ (stop_of t root p c) I.inside).0

    split : (i : ℕ) → i < suc c → (i < c) ⊎ (i ≡ c)
    split i b = go (dec_lt i c)
      where
        go : Dec (i < c) → (i < c) ⊎ (i ≡ c)
        go (yes a) = inl a
        go (no a) = inr (omega arith)

    abbrev q : List ℕ
    q = with_level p c l

    room : length p ≡ 79885
    room = K.sound.room

    plain-all : (i : ℕ) → (i < c) ⊎ (i ≡ c) → Plain (frames_of q i) (level_at q i)
    plain-all i (inl a) = rw (entered-old p c l h room i a, entered-frames p c l h room i (omega arith)) (K.sound.plain i a)
    plain-all i (inr e) = rw (e, entered-new p c l h room, entered-frames p c l h room c (omega arith)) child-plain

    stands-all : (i : ℕ) → (i < c) ⊎ (i ≡ c) → Stands t root (frames_of q i) (level_at q i)
    stands-all i (inl a) = rw (entered-old p c l h room i a, entered-frames p c l h room i (omega arith)) (K.stands i
        a)
    stands-all i (inr e) =
        rw (e, entered-new p c l h room, entered-frames p c l h room c (omega arith)) (deeper-stands t R.1 root p c k
        part kind value f h K.stands I)

    begun_all : (i : ℕ) → (i < c) ⊎ (i ≡ c) → (level_at q i).base ≤ k
    begun_all i (inl a) = rw (entered-old p c l h room i a) (K.begun i a)
    begun_all i (inr e) = rw (e, entered-new p c l h room) child-begins

    -- THEOREM: with the part's level the path is kept
    pub deeper : (p' : List ℕ) → p' ≡ q → KeptPath t root p' (c + 1) k × Covers p' (c + 1) k
    deeper p' e = rw (e, add-one) (
      record {
        sound = record {
          room = entered-length p c l h room;
          few = omega arith;
          plain = λ i b. plain-all i (split i b);
        };
        stands = λ i b. stands-all i (split i b);
        begun = λ i b. begun_all i (split i b);
      },
      λ z.
          let d : suc c - 1 ≡ c = omega arith in rw (d, entered-new p c l h room) child-covers,
    )

  -- a turn of the code: the part's level is written
  pub goes-deeper : (p p' : List ℕ) (c k part kind value inner : ℕ) (f : Frame) (l : Level) → k < 65536 → c < 6145 →
      KeptPath t root p c k → Covers p c k → Inside part kind value inner f ≡ spot_in t root p c k no_move →
      l ≡ child_of t root p c k part kind value f → p' ≡ with_level p c l → KeptPath t root p' (c + 1) k × Covers p'
      (c + 1) k
  goes-deeper p p' c k part kind value inner f l s h K C e g w =
      deeper p c k part kind value f s h K (entered t R.1 root p c k part kind value inner f s h K C e)
      (entered-modest t R root p c k part kind value inner f s h K e) p'
      (w ∙ ap (λ (y : Level). with_level p c y) g)

-- fewer levels are kept too, and for a later state
pub kept-fewer : {t : List ℕ} {root : ℕ} {p : List ℕ} {c k : ℕ} (c' k' : ℕ) → KeptPath t root p c k → c' ≤ c → k ≤ k' →
    KeptPath t root p c' k'
kept-fewer c' k' K a b = record {
  sound = record
      { room = K.sound.room; few = omega (arith, K.sound.few); plain = λ i l. K.sound.plain i (omega arith) };
  stands = λ i l. K.stands i (omega arith);
  begun = λ i l. omega (arith, K.begun i (omega arith));
}

-- before the first state
pub kept-none : (t : List ℕ) (root : ℕ) (p : List ℕ) → length p ≡ 79885 → KeptPath t root p 0 0
kept-none t root p e = record {
  sound = record { room = e; few = omega arith; plain = λ i l. absurd (omega arith) };
  stands = λ i l. absurd (omega arith);
  begun = λ i l. absurd (omega arith);
}
