-- The data of a variable is below 4.
use native.Mathlib.Omega.{arith}
use mathlib.Core.Path.{◌∙◌, sym}
use Rattle.sheet_records.proofs.StandingLaws.{holds-small}
use Rattle.sheet_reader.proofs.close.leaf_use.Goals as goal

pub overflow_add-result : goal.overflow_add-result
overflow_add-result c = omega (arith, holds-small _ _ _ (sym c.from.ensures ∙ c.in-Variable.is))
