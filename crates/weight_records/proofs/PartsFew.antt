-- A record has four parts at most.
use Prim.Native.Nat.{ℕ, ◌≤◌}
use native.Mathlib.Omega.{arith}
use mathlib.Core.Path.{◌≡◌}
use mathlib.Core.Bool.{Bool, true, false}
use lib.Dec.{eqb, ltb}
use Rattle.language.specs.Choice.{pick}
use Rattle.sheet_rows.specs.PartKind.{NAME, FETCH, IF, NEW, ROUTINE}
use Rattle.weight_theory.specs.Plan.{parts_of}

either-few : (b : Bool) (x y : ℕ) → x ≤ 4 → y ≤ 4 → pick b x y ≤ 4
either-few true x y h g = h
either-few false x y h g = g

pub parts-few : (kind detail count : ℕ) → count ≡ parts_of kind detail → count ≤ 4
unfolding parts_of
parts-few kind detail count e =
    rw e
    (either-few (ltb kind NAME) _ _ (omega arith)
    (either-few (eqb kind NAME) _ _ (omega arith)
    (either-few (eqb kind FETCH) _ _ (omega arith)
    (either-few (ltb kind IF) _ _ (omega arith)
    (either-few (eqb kind IF) _ _ (omega arith)
    (either-few (ltb kind NEW) _ _ (omega arith)
    (either-few (eqb kind NEW) _ _ (omega arith)
    (either-few (eqb kind ROUTINE) _ _ (omega arith) (omega arith)))))))))
