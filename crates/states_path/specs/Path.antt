-- The way from the root of a sheet to the part in which a state lies: the frames passed, the innermost first.
use Rattle.std.specs.Prelude.{◌≡◌, ◌⊎◌, Bool, true, List, [], ◌∷◌, ℕ, suc, ◌+◌, ◌-◌, ◌≤◌, ◌<◌, length, eqb, ltb}
use Rattle.language.specs.Choice.{pick}
use Rattle.language.specs.declared.Numbers.{Numbers}
use Rattle.sheet_rows.specs.Row.{word}
use Rattle.states_positions.specs.Row.{SHORTS}
use Rattle.states_positions.specs.declared.Move.{Move}
use Rattle.states_positions.specs.declared.Frame.{Frame}
use Rattle.states_positions.specs.declared.Out.{Out}
use Rattle.states_positions.specs.declared.Spot.{Spot}
use Rattle.states_positions.specs.declared.Spot.TheVariants.{Here, Inside}
use Rattle.states_positions.specs.Role.{BLOCK, AS-IS}
use Rattle.sheet_rows.specs.PartKind.{WEIGHT}
use Rattle.states_step.specs.walk.Store.{store_in}
use Rattle.states_rise.specs.Up.{rise_of}

-- descending by F from position k comes to a part, and to the same part from each of its positions
pub record Same (t : List ℕ) (F : ℕ → Move → Spot) (k part kind value inner : ℕ) (f : Frame) : Type 0 where
  pub whole : f.base + inner ≡ k
  pub own : f.role ≡ BLOCK → 0 < f.a
  pub same : (k' : ℕ) (m : Move) → f.base ≤ k' → (k' ≤ k) ⊎ (k' < f.base + word t part WEIGHT) →
      F k' m ≡ Inside part kind value (k' - f.base) f

unfoldable pub SameAt : List ℕ → (ℕ → Move → Spot) → ℕ → Spot → Type 0
SameAt t F k (Here o) = Unit
SameAt t F k (Inside part kind value inner f) = Same t F k part kind value inner f

abbrev pub Steady : List ℕ → (ℕ → Move → Spot) → Type 0
Steady t F = (k : ℕ) (m : Move) → k < SHORTS → SameAt t F k (F k m)

-- a step of the innermost part, seen in the whole sheet
unfoldable pub rise_all : Numbers → List Frame → Out → Out
rise_all N [] o = o
rise_all N (f ∷ fs) o = rise_all N fs (rise_of N f o)

-- the values of the variables of the blocks that enclose it, by the rows of their news
unfoldable pub store_of : List Frame → ℕ → ℕ
store_of [] = λ row. 0
store_of (f ∷ fs) = store_in (store_of fs) f

-- its first state
unfoldable pub base_of : List Frame → ℕ
base_of [] = 0
base_of (f ∷ fs) = base_of fs + f.base

-- a block is 1 more than a row
unfoldable pub Owned : List Frame → Type 0
Owned [] = Unit
Owned (f ∷ fs) = (f.role ≡ BLOCK → 0 < f.a) × Owned fs

-- whether a frame of a role passes an exit on: the whole exits so, or a block does
unfoldable pub passes_of : ℕ → Bool
passes_of role = pick (eqb role AS-IS) true (eqb role BLOCK)

-- how many frames there are up to the innermost that does not pass an exit on, counted from the outermost; 0 where all
-- do
unfoldable pub up_of : List Frame → ℕ
up_of [] = 0
up_of (f ∷ fs) = pick (passes_of f.role) (up_of fs) (suc (length fs))

-- how many frames there are up to the innermost block's, counted from the outermost; 0 where there is none
unfoldable pub innermost_of : List Frame → ℕ
innermost_of [] = 0
innermost_of (f ∷ fs) = pick (eqb f.role BLOCK) (suc (length fs)) (innermost_of fs)

-- the same up to the innermost block whose new has the row `block - 1`
unfoldable pub block_in : List Frame → ℕ → ℕ
block_in [] block = 0
block_in (f ∷ fs) block =
    pick (eqb f.role BLOCK) (pick (eqb block f.a) (suc (length fs)) (block_in fs block))
    (block_in fs block)

-- what is written of a block, found at the level own - 1, is forgotten inside i levels where the block is left
unfoldable pub left_of : ℕ → ℕ → ℕ → ℕ
left_of i own v = pick (ltb i own) 0 v
