-- The path that is kept from state to state, and what it says.
use Rattle.std.specs.Prelude.{◌≡◌, List, ◌∷◌, ℕ, ◌+◌, ◌-◌, ◌≤◌, ◌<◌, length, eqb, ltb, leb}
use Rattle.language.specs.Choice.{pick}
use Rattle.language.specs.declared.Numbers.{Numbers}
use Rattle.sheet_rows.specs.Row.{word}
use Rattle.sheet_rows.specs.Rep.{DEPTH}
use Rattle.states_positions.specs.declared.Move.{Move}
use Rattle.states_positions.specs.declared.Frame.{Frame}
use Rattle.states_positions.specs.declared.Out.{Out}
use Rattle.states_positions.specs.declared.Out.TheVariants.{Say, Hear}
use Rattle.sheet_rows.specs.PartKind.{WEIGHT, CLASS, VALUES}
use Rattle.states_positions.specs.declared.Spot.{Spot}
use Rattle.states_positions.specs.declared.Spot.TheVariants.{Here}
use Rattle.states_names.specs.Name.{no_move, arg_here, at_wait}
use Rattle.states_step.specs.walk.Down.{down_of}
use Rattle.states_step.specs.walk.Step.{step_at}
use Rattle.states_path.specs.declared.Level.{Level}
use Rattle.states_path.specs.States.{at_start, replied_of, after_of, spots_of, sheet_at}
use Rattle.states_path.specs.Path.{rise_all, store_of, innermost_of, up_of}
use Rattle.states_path.specs.Levels.{frames_of, level_at, Sound}

-- where the state k is: the start, a copy of the term, or an answer
unfoldable pub sheet_spot : List ℕ → ℕ → ℕ → Move → Spot
sheet_spot t root k m =
    pick (eqb k 0) (Here (at_start t root m))
    (pick (ltb k (after_of t root))
    (arg_here root (word t root CLASS) (word t root VALUES) (word t root WEIGHT) (k - 1) 1 (after_of t root))
    (Here (Say (replied_of (word t root CLASS) (word t root VALUES) (k - after_of t root)) (spots_of t root))))

-- where it is in the innermost of c levels
unfoldable pub spot_in : List ℕ → ℕ → List ℕ → ℕ → ℕ → Move → Spot
spot_in t root p c k m =
    pick (eqb c 0) (sheet_spot t root k m)
    (down_of t (level_at p (c - 1)).part (level_at p (c - 1)).kind (level_at p (c - 1)).value
    (k - (level_at p (c - 1)).base)
    (store_of (frames_of p c)) m)

-- the first state of the innermost of c levels, and the end of its states
unfoldable pub start_of : List ℕ → ℕ → ℕ
start_of p c = pick (eqb c 0) 0 (level_at p (c - 1)).base

unfoldable pub stop_of : List ℕ → ℕ → List ℕ → ℕ → ℕ
stop_of t root p c = pick (eqb c 0) (after_of t root) (level_at p (c - 1)).end

-- the end of a part's states: past k, and within the whole's
unfoldable pub least_of : ℕ → ℕ → ℕ
least_of a b = pick (ltb b a) b a

unfoldable pub until_of : ℕ → ℕ → ℕ → ℕ
until_of k past end = pick (leb past k) (least_of (k + 1) end) (least_of past end)

-- the level of a part of the innermost of c levels
unfoldable pub child_of : List ℕ → ℕ → List ℕ → ℕ → ℕ → ℕ → ℕ → ℕ → Frame → Level
child_of t root p c k part kind value f =
    record {
      part = part;
      kind = kind;
      value = value;
      base = start_of p c + f.base;
      end = until_of k (start_of p c + f.base + word t part WEIGHT) (stop_of t root p c);
      outer = innermost_of (frames_of p c);
      up = up_of (f ∷ frames_of p c);
      f = f;
    }

-- a level, inside others, says what its states do
pub record Stands (t : List ℕ) (root : ℕ) (fs : List Frame) (l : Level) : Type 0 where
  pub before_answers : l.end ≤ after_of t root
  pub says : (N : Numbers) (k : ℕ) (m : Move) → l.base ≤ k → k < l.end → sheet_at t N root k m ≡
      rise_all N (l.f ∷ fs) (step_at t N (DEPTH - length fs) l.part l.kind l.value (k - l.base)
      (store_of (l.f ∷ fs)) m)

-- the words hold c levels that say so, and their states begin at k or before
pub record KeptPath (t : List ℕ) (root : ℕ) (p : List ℕ) (c k : ℕ) : Type 0 where
  pub sound : Sound p c
  pub stands : (i : ℕ) → i < c → Stands t root (frames_of p i) (level_at p i)
  pub begun : (i : ℕ) → i < c → (level_at p i).base ≤ k

-- the state k is one of the innermost level's
abbrev pub Covers : List ℕ → ℕ → ℕ → Type 0
Covers p c k = 0 < c → k < (level_at p (c - 1)).end

-- what follows a move at the state k, which waits
unfoldable pub wait_at : List ℕ → ℕ → ℕ → ℕ → ℕ → ℕ → ℕ → Move → Out
wait_at t root k at q x n m = pick (eqb k 0) (at_start t root m) (at_wait t at q x n m)

-- the innermost of c levels does `out` at the state k
pub record Does (t : List ℕ) (root : ℕ) (p : List ℕ) (c k : ℕ) (out : Out) : Type 0 where
  pub does : (N : Numbers) → sheet_at t N root k no_move ≡ rise_all N (frames_of p c) out
  pub hears : (N : Numbers) (m : Move) (at q x n : ℕ) → out ≡ Hear at q x n →
      sheet_at t N root k m ≡ rise_all N (frames_of p c) (wait_at t root k at q x n m)

-- the path has come to the state k
pub record Arrived (t : List ℕ) (root : ℕ) (p : List ℕ) (c k : ℕ) (out : Out) : Type 0 where
  pub kept : KeptPath t root p c k
  pub at : Does t root p c k out
