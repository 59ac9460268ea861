-- The figures of working words (document 02, [11]), as statements.
use Rattle.std.specs.Prelude.{◌≡◌, ℕ, ◌+◌, ◌*◌, ◌≤◌, ◌<◌}
use Rattle.language.specs.declared.Numbers.{Numbers}
use Rattle.sheet_records.specs.Limits.{earlier_z}
use Rattle.serve_conditions.specs.Lent.{words_asked}

-- "up to 7 the old figure stands"
abbrev pub OldFigure : Type 0
OldFigure = (N : Numbers) (n : ℕ) → N.z ≤ earlier_z → words_asked N n ≡ 32 * (n + 1)

-- "Where Z is above 7, working words are 128 for each position counted"
abbrev pub NewFigure : Type 0
NewFigure = (N : Numbers) (n : ℕ) → earlier_z < N.z → words_asked N n ≡ 128 * (n + 1)
