-- What a store leaves. Assumes nothing.
use Rattle.std.specs.Prelude.{List, ◌≡◌, ◌<◌, ◌≤◌, ℕ, get_or}

-- the places from a on stay; those below a stay
abbrev pub SameFrom : ℕ → List ℕ → List ℕ → Type 0
SameFrom a ws ws' = (i : ℕ) → a ≤ i → get_or ws' i 0 ≡ get_or ws i 0

abbrev pub SameBelow : ℕ → List ℕ → List ℕ → Type 0
SameBelow a ws ws' = (i : ℕ) → i < a → get_or ws' i 0 ≡ get_or ws i 0
