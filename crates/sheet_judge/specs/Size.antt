-- The size of a term from its type and its weight. Document 01, "Reckoned size". SHEETS 7.3.
use Rattle.std.specs.Prelude.{ℕ, ◌+◌, ◌*◌}
use Rattle.language.specs.declared.Numbers.{Numbers}
use Rattle.sheet_parts.specs.Rule.{questions, answers}

unfoldable pub size_of : Numbers → ℕ → ℕ → ℕ
size_of N ty w = 2 + questions N ty * w + answers N ty
