-- What each turn of the path's code needs.
use mathlib.Core.Path.{◌≡◌, sym, ◌∙◌, ap}
use mathlib.Core.List.{List, ◌∷◌}
use Prim.Native.Nat.{ℕ, zero, suc, ◌+◌, ◌-◌, ◌≤◌, ◌<◌}
use native.Mathlib.Omega.{arith}
use borrow.Author.Tests.{ne_eqb}
use Rattle.language.specs.Choice.{pick}
use Rattle.language.specs.declared.Numbers.{Numbers}
use Rattle.sheet_rows.specs.Row.{word}
use Rattle.states_positions.specs.declared.Frame.{Frame}
use Rattle.states_positions.specs.declared.Out.{Out}
use Rattle.states_positions.specs.declared.Spot.{Spot}
use Rattle.states_positions.specs.declared.Spot.TheVariants.{Here}
use Rattle.states_rise.specs.Up.{goes_of, rise_of}
use Rattle.states_positions.specs.declared.Silent.{Silent}
use Rattle.states_step.specs.walk.Down.{in_private, down_bare}
use Rattle.states_positions.specs.Row.{sum_of}
use Rattle.states_path.specs.Path.{rise_all, store_of, passes_of, up_of, innermost_of}
use Rattle.states_path.proofs.PathWords.{frames-length}
use Rattle.states_path.specs.Levels.{field_of, frame_of, level_at, frames_of, Sound}
use Rattle.states_names.specs.Name.{no_move}
use Rattle.states_path.specs.Kept.{spot_in, start_of, stop_of, until_of, child_of, Covers}
use Rattle.states_positions.specs.declared.Out.TheVariants.{Go, Stuck}
use Rattle.states_path.proofs.PathValues.{down-private}
use Rattle.states_step.proofs.Steps.{told-other}

-- the frames below the first `left`
pub frames-less : (p : List ℕ) (left : ℕ) → 0 < left → frames_of p left ≡ frame_of p (left - 1) ∷ frames_of p (left - 1)
unfolding frames_of
frames-less p zero h = absurd (omega arith)
frames-less p (suc i) h = let e : suc i - 1 ≡ i = omega arith in rw e

pub fewer : (p : List ℕ) (c left : ℕ) → Sound p c → left ≤ c → Sound p left
fewer p c left S h = record { room = S.room; few = omega (arith, S.few); plain = λ i b. S.plain i (omega arith) }

-- rising
pub climb-again : (N : Numbers) (p : List ℕ) (c left : ℕ) (f : Frame) (g g₀ : Silent) (out : Silent) → 0 < left →
    f ≡ frame_of p (left - 1) → Go out.next out.block out.set ≡ goes_of f g.next g.block g.set →
    rise_all N (frames_of p left) (Go g.next g.block g.set) ≡
    rise_all N (frames_of p c) (Go g₀.next g₀.block g₀.set) →
    rise_all N (frames_of p (left - 1)) (Go out.next out.block out.set) ≡
    rise_all N (frames_of p c) (Go g₀.next g₀.block g₀.set)
unfolding rise_all rise_of
climb-again N p c left f g g₀ out z e r inv =
    let h = rw (frames-less p left z) at inv in
    rw (r, e) h

pub climb-last : (N : Numbers) (p : List ℕ) (c left : ℕ) (out o : Out) → left ≤ 0 →
    rise_all N (frames_of p left) out ≡ rise_all N (frames_of p c) o → out ≡ rise_all N (frames_of p c) o
unfolding rise_all frames_of
climb-last N p c zero out o z inv = inv
climb-last N p c (suc i) out o z inv = absurd (omega arith)

-- a sum counted from a number by another name
pub from_first : (a b x r : ℕ) → a ≡ b → r ≡ sum_of b x → r ≡ sum_of a x
from_first a b x r e h = rw e h

-- where a state is in the innermost of some levels
pub spot-private : (t : List ℕ) (root : ℕ) (p : List ℕ) (c k part kind value base : ℕ) (o : Out) → (c ≡ 0 → ⊥) →
    part ≡ field_of p (c - 1) 0 → kind ≡ field_of p (c - 1) 1 → value ≡ field_of p (c - 1) 2 → base ≡ field_of p (c - 1) 3 →
    word t part 0 ≡ 128 → o ≡ in_private t part kind value (k - base) (store_of (frames_of p c)) →
    Here o ≡ spot_in t root p c k no_move
unfolding spot_in level_at
spot-private t root p c k part kind value base o n a b d e w h =
    rw (ne_eqb c 0 n, ← a, ← b, ← d, ← e)
    (ap Here h ∙ sym (down-private t part kind value (k - base) (store_of (frames_of p c)) no_move w))

pub spot-down : (t : List ℕ) (root : ℕ) (p : List ℕ) (c k part kind value base : ℕ) (S : Spot) → (c ≡ 0 → ⊥) →
    part ≡ field_of p (c - 1) 0 → kind ≡ field_of p (c - 1) 1 → value ≡ field_of p (c - 1) 2 → base ≡ field_of p (c - 1) 3 →
    (word t part 0 ≡ 128 → ⊥) → S ≡ down_bare t part kind value (k - base) → S ≡ spot_in t root p c k no_move
unfolding spot_in level_at
spot-down t root p c k part kind value base S n a b d e w q =
    rw (ne_eqb c 0 n, ← a, ← b, ← d, ← e) (q ∙ told-other (word t part 0) t part kind value (k - base) Stuck
    (in_private t part kind value (k - base) (store_of (frames_of p c))) no_move w)

-- a level that is left
pub leaves : (p : List ℕ) (i k v : ℕ) → v ≡ field_of p i 4 → k < v → Covers p (i + 1) k
unfolding level_at
leaves p i k v e h z =
    let n : i + 1 - 1 ≡ i = omega arith in
    rw n (omega (arith, e))

-- the level of a part
pub child-is : (t : List ℕ) (root : ℕ) (p : List ℕ) (c k part kind value : ℕ) (f : Frame) (s w z e h u : ℕ) →
    s ≡ start_of p c → w ≡ word t part 1 → z ≡ stop_of t root p c → e ≡ until_of k (s + f.base + w) z →
    h ≡ innermost_of (frames_of p c) → u ≡ pick (passes_of f.role) (up_of (frames_of p c)) (suc c) →
    (record { part = part; kind = kind; value = value; base = s + f.base; end = e; outer = h; up = u; f = f }) ≡
    child_of t root p c k part kind value f
unfolding child_of up_of
child-is t root p c k part kind value f s w z e h u a b d g i j = rw (g, a, b, d, i, j, frames-length p c)
