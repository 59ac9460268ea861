-- The number of the procedure that a record uses, 0 for any other record. Only inner contracts cite it.
use Rattle.std.specs.Prelude.{ℕ, eqb}
use Rattle.language.specs.Choice.{pick}
use Rattle.sheet_records.specs.Standing.{standing_of}
use Rattle.sheet_heads.specs.declared.head.Record.{Record}
use Rattle.sheet_records.specs.declared.standing.Standing.{Standing}
use Rattle.sheet_records.specs.declared.standing.Standing.TheVariants.{Free, Retired, Declared, Variable, Parameter}
use Rattle.sheet_records.specs.declared.standing.Standing.TheVariants.{Procedure}

unfoldable pub number_in : Standing → ℕ
number_in Free = 0
number_in Retired = 0
number_in (Declared place once) = 0
number_in (Variable number holds) = 0
number_in (Parameter number ty) = 0
number_in (Procedure number place) = number

-- 20 is the kind of a use
unfoldable pub used_number : Record → ℕ
used_number r = pick (eqb r.kind 20) (number_in (standing_of r.b)) 0
