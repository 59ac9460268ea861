-- One step of the recursion, as the code takes it.
use Prim.Native.Nat.{ℕ}
use mathlib.Core.Path.{◌≡◌, refl}
use mathlib.Core.List.{List}
use Rattle.states_positions.specs.declared.Move.{Move}
use Rattle.states_step.specs.walk.Down.{down_as}
use borrow.Author.Tests.{ne_eqb}
use Rattle.states_positions.specs.declared.Out.{Out}

-- what is told of a private variable does not matter elsewhere
pub told-other : (kind : ℕ) (t : List ℕ) (at q x k : ℕ) (told other : Out) (m : Move) → (kind ≡ 128 → ⊥) →
    down_as kind t at q x k told m ≡ down_as kind t at q x k other m
unfolding down_as
told-other kind t at q x k told other m h = rw (ne_eqb kind 128 h) refl
