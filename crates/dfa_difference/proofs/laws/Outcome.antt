-- What an outcome tells. Assumes nothing.
use mathlib.Core.List.{List}
use mathlib.Core.Path.{◌≡◌, subst}
use Prim.Native.Nat.{ℕ}
use Rattle.dfa_difference.specs.Outcome.{Outcome, ToldApart}
use Rattle.dfa_difference.specs.declared.Task.{Task}
use Rattle.std.specs.Prelude.{Option, Some}

-- the word of the entry is the first that tells the two states apart
pub told_of : (G : List ℕ) (t : Task) (ws : List ℕ) (v : Option ℕ) (k : ℕ) → v ≡ Some k
    → Outcome G t ws v → ToldApart G t ws k
told_of G t ws v k e o = subst (λ v. Outcome G t ws v) e o
