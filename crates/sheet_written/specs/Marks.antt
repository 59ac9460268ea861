-- Marks of parts, a word for each place of a sheet: what a part comes down to (specs/Come), and of a procedure also which
-- arguments it uses (a bit for each parameter), times `COMES`. Document 02 [1]; only inner contracts cite it.
use Rattle.std.specs.Prelude.{ℕ, suc, ◌+◌, ◌*◌, ◌<◌, ◌≡◌, List, length, get_or}
use Rattle.language.specs.declared.Numbers.{Numbers}
use Rattle.sheet_written.specs.Environment.{beyond}
use Rattle.sheet_written.specs.Written.{Written, skip, diverge, truth, number, call, fetch, operate, assign}
use Rattle.sheet_written.specs.Written.{sequence, while, choose, new, procedure, Parameter, Writtens, none, more}
use Rattle.sheet_written.specs.Written.{Name}
use Rattle.sheet_written.specs.Come.{come}
use Rattle.sheet_written.specs.Context.{Context, whole, in_block, in_procedure, in_scope, binders, downs, uses}
use Rattle.sheet_written.specs.Made.{sign}
use Rattle.sheet_rows.specs.PartKind.{PARTS}
use Rattle.sheet_rows.specs.Row.{word}

-- what a part comes down to is below this
abbrev pub COMES : ℕ
COMES = 128

-- which of four arguments are used: a bit each, the first lowest
unfoldable pub bits : (ℕ → ℕ) → ℕ
bits used = sign (used 0) + 2 * sign (used 1) + 4 * sign (used 2) + 8 * sign (used 3)

-- those of a procedure's own parameters, of which there are `count`
unfoldable pub used_bits : Numbers → List Name → Context → List Parameter → Written → ℕ
used_bits N ns Γ ps body = bits (beyond (length ps) (uses N ns Γ ps body) (λ j. 0))

module _ (N : Numbers) (ns : List Name) (t marks : List ℕ) where
  -- the mark of the part W at a place
  abbrev pub Comes : Context → ℕ → Written → Type 0
  Comes Γ at W = get_or marks at 0 ≡ come ns (binders Γ) (downs ns Γ) W

  -- the marks of the part W at a place and of its parts
  unfoldable mutual
    pub Marked : Context → ℕ → Written → Type 0
    Marked Γ at skip = Comes Γ at skip
    Marked Γ at (diverge ty) = Comes Γ at (diverge ty)
    Marked Γ at (truth b) = Comes Γ at (truth b)
    Marked Γ at (number b) = Comes Γ at (number b)
    Marked Γ at (call id ws) = Comes Γ at (call id ws) × MarkedArgs Γ at 0 ws
    Marked Γ at (fetch x) = Comes Γ at (fetch x) × Marked Γ (word t at PARTS) x
    Marked Γ at (operate op x y) =
        Comes Γ at (operate op x y) × Marked Γ (word t at PARTS) x × Marked Γ (word t at (PARTS + 1)) y
    Marked Γ at (assign x y) =
        Comes Γ at (assign x y) × Marked Γ (word t at PARTS) x × Marked Γ (word t at (PARTS + 1)) y
    Marked Γ at (sequence x y) =
        Comes Γ at (sequence x y) × Marked Γ (word t at PARTS) x × Marked Γ (word t at (PARTS + 1)) y
    Marked Γ at (choose b x y) =
        Comes Γ at (choose b x y) × Marked Γ (word t at PARTS) b × Marked Γ (word t at (PARTS + 1)) x
        × Marked Γ (word t at (PARTS + 2)) y
    Marked Γ at (while x y) =
        Comes Γ at (while x y) × Marked Γ (word t at PARTS) x × Marked Γ (word t at (PARTS + 1)) y
    Marked Γ at (new id d x) = Comes Γ at (new id d x) × Marked (in_block id d Γ) (word t at PARTS) x
    Marked Γ at (procedure id ty ps body rest) =
        (get_or marks at 0 ≡ come ns (binders Γ) (downs ns Γ) (procedure id ty ps body rest)
        + COMES * used_bits N ns Γ ps body)
        × Marked (in_procedure ps Γ) (word t at PARTS) body
        × Marked (in_scope id ty ps body Γ) (word t at (PARTS + 1)) rest

    -- those of arguments j, j + 1, .. of the use at a place
    pub MarkedArgs : Context → ℕ → ℕ → Writtens → Type 0
    MarkedArgs Γ at j none = Unit
    MarkedArgs Γ at j (more w ws) = Marked Γ (word t at (PARTS + j)) w × MarkedArgs Γ at (suc j) ws

  -- those of the terms of the procedures of a context, and which arguments they use
  unfoldable pub MarkedIn : Context → (ℕ → ℕ) → Type 0
  MarkedIn whole π = Unit
  MarkedIn (in_block id d Γ) π = MarkedIn Γ π
  MarkedIn (in_procedure ps Γ) π = MarkedIn Γ π
  MarkedIn (in_scope id ty ps body Γ) π =
      let p : ℕ = π (length (binders Γ)) in
      (c : ℕ) × (c < COMES) × (get_or marks p 0 ≡ c + COMES * used_bits N ns Γ ps body)
      × Marked (in_procedure ps Γ) (word t p PARTS) body × MarkedIn Γ π
