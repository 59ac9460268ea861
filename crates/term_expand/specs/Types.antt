-- The types of the enclosing parameters, by their numbers. Document 02 [1]; only inner contracts cite it.
use Rattle.std.specs.Prelude.{ℕ, List, [], ◌∷◌, length, eqb}
use Rattle.language.specs.Choice.{pick}
use Rattle.sheet_written.specs.Meaning.{Binder, a_block, a_parameter, a_procedure}

unfoldable pub type_at : List Binder → ℕ → ℕ
type_at [] s = 0
type_at (a_block id d ∷ bs) s = type_at bs s
type_at (a_parameter id ty ∷ bs) s = pick (eqb s (length bs)) ty (type_at bs s)
type_at (a_procedure id ty tys ∷ bs) s = type_at bs s
