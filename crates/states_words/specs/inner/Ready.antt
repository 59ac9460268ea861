-- A sheet whose table is ready for its automaton.
use Rattle.std.specs.Prelude.{List, [], ℕ, ◌≤◌, ◌<◌}
use Rattle.language.specs.declared.Numbers.{Numbers}
use Rattle.language.specs.Ty.{Ty}
use Rattle.language.specs.Term.{Term}
use Rattle.language.specs.Typing.{Typed}
use Rattle.language.specs.Weight.{size}
use Rattle.states_machine.specs.Range.{TyIn, InRange}
use Rattle.sheet_records.specs.Limits.{greatest_z, greatest_size}
use Rattle.sheet_rows.specs.Rep.{DEPTH, Rep}
use Rattle.states_step.specs.walk.Shows.{Words}

-- the table represents the term M of type T at the root, and all numbers are in range
pub record Ready (N : Numbers) (t : List ℕ) (root : ℕ) (T : Ty) (M : Term) : Type 0 where
  pub z_above : 0 < N.z
  pub z_below : N.z ≤ greatest_z
  pub words : Words t
  pub represents : Rep N t DEPTH root [] [] M T
  pub small : size T M ≤ greatest_size
  pub typed : Typed [] M T
  pub type_in : TyIn N T
  pub term_in : InRange N M
