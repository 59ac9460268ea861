-- The step at a position: down to the part that the position is in, the part's step, and up again.
use Rattle.std.specs.Prelude.{ℕ, zero, suc, List}
use Rattle.language.specs.declared.Numbers.{Numbers}
use Rattle.states_positions.specs.declared.Move.{Move}
use Rattle.states_positions.specs.declared.Frame.{Frame}
use Rattle.states_positions.specs.declared.Out.{Out}
use Rattle.states_positions.specs.declared.Out.TheVariants.{Stuck}
use Rattle.states_positions.specs.declared.Spot.{Spot}
use Rattle.states_positions.specs.declared.Spot.TheVariants.{Here, Inside}
use Rattle.states_step.specs.walk.Store.{store_in}
use Rattle.states_step.specs.walk.Down.{down_of}
use Rattle.states_rise.specs.Up.{rise_of}

-- what is done here, or g of the part that the position is in
unfoldable pub on_spot : Spot → (ℕ → ℕ → ℕ → ℕ → Frame → Out) → Out
on_spot (Here o) g = o
on_spot (Inside part kind value k f) g = g part kind value k f

-- the step at position k of the term at a place, of at most `left` levels
unfoldable pub step_at : List ℕ → Numbers → ℕ → ℕ → ℕ → ℕ → ℕ → (ℕ → ℕ) → Move → Out
step_at t N zero at q x k s m = Stuck
step_at t N (suc left) at q x k s m =
    on_spot (down_of t at q x k s m)
    (λ part kind value inner f. rise_of N f (step_at t N left part kind value inner (store_in s f) m))
