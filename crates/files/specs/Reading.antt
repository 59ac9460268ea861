-- What the programs are told of a file. No contract can say what a file holds.
use Rattle.std.specs.Prelude.{List, ℕ, Option, Some, None}
use Rattle.io.specs.Counts.{IsPrefixLen}

-- a sheet lies at the start of the buffer; of what could not be read to its end there is no count
abbrev pub Within : Option ℕ → List ℕ → Type 0
Within (Some n) buf = IsPrefixLen n buf
Within None buf = Unit
