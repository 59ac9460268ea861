-- A test whose one answer is no result.
use mathlib.Core.Path.{◌≡◌, refl}
use mathlib.Core.Bool.{Bool, true, false}
use Rattle.language.specs.Choice.{pick}

pub pick-false : {A : Type 0} (t : Bool) {x y z : A} → (x ≡ z → ⊥) → pick t x y ≡ z → (t ≡ false) × (y ≡ z)
pick-false true n h = absurd (n h)
pick-false false n h = (refl, h)

pub pick_true : {A : Type 0} (t : Bool) {x y z : A} → (y ≡ z → ⊥) → pick t x y ≡ z → (t ≡ true) × (x ≡ z)
pick_true true n h = (refl, h)
pick_true false n h = absurd (n h)
