-- Writing at a cursor. A byte is written, and the cursor moves on, only where there is room.
use Rattle.std.specs.Prelude.{ℕ, ◌+◌, ◌≤◌, ◌≡◌, List, [], ◌∷◌, length, take, set, ltb}
use Rattle.language.specs.Choice.{pick}

-- the bytes lent, and how many of them are written
pub record Page : Type 0 where
  pub out : List ℕ
  pub at : ℕ

abbrev pub page : List ℕ → ℕ → Page
page out at = record { out = out; at = at }

-- one byte more, where there is room for it
unfoldable pub pushed : ℕ → Page → Page
pushed v p = pick (ltb p.at (length p.out)) (page (set p.out p.at v) (p.at + 1)) p

-- bytes more
unfoldable pub pushes : List ℕ → Page → Page
pushes [] p = p
pushes (v ∷ vs) p = pushes vs (pushed v p)

-- so many bytes at the start of out. The second part follows from the first; both stand here so that who lends these
-- bytes needs no proof
abbrev pub Counts : ℕ → List ℕ → Type 0
Counts n out = (n ≤ length out) × (n ≡ length (take n out))
