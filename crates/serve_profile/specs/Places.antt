-- The order of the places of offending records. Document 02 [13].
use Rattle.std.specs.Prelude.{ℕ, suc, ◌+◌, ◌≤◌, List, [], ◌∷◌}
use Rattle.sheet_written.specs.Written.{Sheet}
use Rattle.sheet_written.specs.Width.{width, heading_width}
use Rattle.serve_profile.specs.Offence.{offences}

-- "the first offending record": the places rise, from low on and below high, so the first is the lowest
unfoldable pub Rising : ℕ → ℕ → List ℕ → Type 0
Rising low high [] = low ≤ high
Rising low high (p ∷ ps) = (low ≤ p) × Rising (suc p) high ps

unfoldable pub PlacesRise : Type 0
PlacesRise = (S : Sheet) → Rising (heading_width S) (heading_width S + width S.term) (offences S)
