-- The values of private variables, by the frames passed.
use mathlib.Core.Path.{◌≡◌, refl}
use mathlib.Core.List.{List, [], ◌∷◌}
use Prim.Native.Nat.{ℕ, suc}
use borrow.Author.Tests.{eq-eqb, ne_eqb}
use Rattle.sheet_rows.specs.Row.{word}
use Rattle.states_positions.specs.declared.Move.{Move}
use Rattle.states_positions.specs.declared.Frame.{Frame}
use Rattle.states_positions.specs.declared.Spot.TheVariants.{Here}
use Rattle.states_step.specs.walk.Store.{with_value, store_in}
use Rattle.states_step.specs.walk.Down.{in_private, down_as, down_of}
use Rattle.states_path.specs.Path.{store_of}

pub value_none : (l : ℕ) → 0 ≡ store_of [] l
unfolding store_of
value_none l = refl

-- a frame that is no block's, a block of another row, and the block of the row
pub value-passed : (f : Frame) (fs : List Frame) (l : ℕ) → (f.role ≡ 7 → ⊥) → store_of (f ∷ fs) l ≡ store_of fs l
unfolding store_of store_in
value-passed f fs l r = rw (ne_eqb f.role 7 r)

pub value-other : (f : Frame) (fs : List Frame) (l : ℕ) → f.role ≡ 7 → (f.a ≡ suc l → ⊥) →
    store_of (f ∷ fs) l ≡ store_of fs l
unfolding store_of store_in with_value
value-other f fs l r n = rw (eq-eqb f.role 7 r, ne_eqb f.a (suc l) n)

pub value-own : (f : Frame) (fs : List Frame) (l : ℕ) → f.role ≡ 7 → f.a ≡ suc l → f.c ≡ store_of (f ∷ fs) l
unfolding store_of store_in with_value
value-own f fs l r e = rw (eq-eqb f.role 7 r, eq-eqb f.a (suc l) e)

-- a private variable is at hand
pub down-private : (t : List ℕ) (at q x k : ℕ) (s : ℕ → ℕ) (m : Move) → word t at 0 ≡ 128 →
    down_of t at q x k s m ≡ Here (in_private t at q x k s)
unfolding down_as
down-private t at q x k s m e = simp e
