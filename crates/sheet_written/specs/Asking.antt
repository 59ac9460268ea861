-- A sheet with other kinds of its names: the records of declared names are of kind 1 or of kind 3, document 02 [5].
use Rattle.std.specs.Prelude.{ℕ, List, [], ◌∷◌}
use Rattle.language.specs.Term.{Often}
use Rattle.sheet_written.specs.Written.{Name, declare, retire, Sheet}

-- the records, each name asking as often as is said of its id
unfoldable pub asking_names : (ℕ → Often) → List Name → List Name
asking_names κ [] = []
asking_names κ (declare often id ty tys ∷ ns) = declare (κ id) id ty tys ∷ asking_names κ ns
asking_names κ (retire id ∷ ns) = retire id ∷ asking_names κ ns

unfoldable pub with_kinds : (ℕ → Often) → Sheet → Sheet
with_kinds κ S = record { numbers = S.numbers; names = asking_names κ S.names; term = S.term }
