-- Which records of a sheet offend against the profile of quiet expressions, and where. Document 02 [13]: "A sheet of
-- this profile has no sequence and no kind 28 inside a part of expression type (the whole term counts as a part, and a
-- part's own record is inside it), and there no use whose declared arguments, or parameters for a procedure of kind 28,
-- include a command or a variable."
use Rattle.std.specs.Prelude.{ℕ, ◌+◌, ◌≡◌, Bool, true, false, ◌||◌, ◌&&◌, not, List, [], ◌∷◌, ◌++◌, eqb}
use Rattle.language.specs.Choice.{pick}
use Rattle.sheet_parts.specs.Types as a-type
use Rattle.sheet_written.specs.Written.{Written, skip, diverge, truth, number, call, fetch, operate, assign, sequence}
use Rattle.sheet_written.specs.Written.{while, choose, new, procedure, Writtens, none, more, Name, Sheet}
use Rattle.sheet_written.specs.Meaning.{Binder, a_block, Meaning, private, argument, routine, named, retired, free}
use Rattle.sheet_written.specs.Meaning.{meaning, inside, after, typed}
use Rattle.sheet_written.specs.Width.{width, heading_width}
use Rattle.sheet_written.specs.Pieces.{own_width}

-- "a part of expression type"
unfoldable pub is_expression : ℕ → Bool
is_expression ty = eqb ty a-type.truth || eqb ty a-type.number

-- the types "include a command or a variable"
unfoldable pub any_loud : List ℕ → Bool
any_loud [] = false
any_loud (ty ∷ tys) = not (is_expression ty) || any_loud tys

-- a use by what its id means: of a private variable or a parameter none
unfoldable pub loud_use : Meaning → Bool
loud_use (private k d) = false
loud_use (argument k ty) = false
loud_use (routine k ty tys) = any_loud tys
loud_use (named often ty tys) = any_loud tys
loud_use retired = false
loud_use free = false

-- whether the record of a term, its parts left aside, may not stand inside an expression: "no sequence and no kind 28",
-- "no use whose declared arguments, or parameters for a procedure of kind 28, include a command or a variable"
unfoldable pub loud : List Name → List Binder → Written → Bool
loud ns bs skip = false
loud ns bs (diverge ty) = false
loud ns bs (truth b) = false
loud ns bs (number b) = false
loud ns bs (call id ws) = loud_use (meaning ns bs id)
loud ns bs (fetch v) = false
loud ns bs (operate op x y) = false
loud ns bs (assign x y) = false
loud ns bs (sequence x y) = true
loud ns bs (choose b x y) = false
loud ns bs (while x y) = false
loud ns bs (new id d c) = false
loud ns bs (procedure id ty ps x y) = true

-- whether a record stands inside an expression, where what is around it stands inside one or not: "a part's own record
-- is inside it"
unfoldable pub within : List Name → List Binder → Bool → Written → Bool
within ns bs i W = i || is_expression (typed ns bs W)

-- the place of a record that offends
unfoldable pub hit : Bool → Bool → ℕ → List ℕ
hit i l at = pick (i && l) (at ∷ []) []

-- a record, its kind byte at a place, and then its parts: `parts` gives their places, from whether they stand inside an
-- expression and where the first of them begins
unfoldable pub record_and : List Name → List Binder → Bool → ℕ → Written → (Bool → ℕ → List ℕ) → List ℕ
record_and ns bs i at W parts =
    let j : Bool = within ns bs i W in
    hit j (loud ns bs W) at ++ parts j (at + own_width W)

-- the places of the offending records, from left to right, of a term whose kind byte is at a place, with the binders bs
-- around it; i says whether what is around it stands inside an expression
unfoldable mutual
  pub offending : List Name → List Binder → Bool → ℕ → Written → List ℕ
  offending ns bs i at skip = record_and ns bs i at skip (λ j p. [])
  offending ns bs i at (diverge ty) = record_and ns bs i at (diverge ty) (λ j p. [])
  offending ns bs i at (truth b) = record_and ns bs i at (truth b) (λ j p. [])
  offending ns bs i at (number b) = record_and ns bs i at (number b) (λ j p. [])
  offending ns bs i at (call id ws) = record_and ns bs i at (call id ws) (λ j p. all_offending ns bs j p ws)
  offending ns bs i at (fetch v) = record_and ns bs i at (fetch v) (λ j p. offending ns bs j p v)
  offending ns bs i at (operate op x y) =
      record_and ns bs i at (operate op x y) (λ j p. offending ns bs j p x ++ offending ns bs j (p + width x) y)
  offending ns bs i at (assign x y) =
      record_and ns bs i at (assign x y) (λ j p. offending ns bs j p x ++ offending ns bs j (p + width x) y)
  offending ns bs i at (sequence x y) =
      record_and ns bs i at (sequence x y) (λ j p. offending ns bs j p x ++ offending ns bs j (p + width x) y)
  offending ns bs i at (choose b x y) =
      record_and ns bs i at (choose b x y) (λ j p. offending ns bs j p b
      ++ (offending ns bs j (p + width b) x ++ offending ns bs j (p + width b + width x) y))
  offending ns bs i at (while x y) =
      record_and ns bs i at (while x y) (λ j p. offending ns bs j p x ++ offending ns bs j (p + width x) y)
  offending ns bs i at (new id d c) =
      record_and ns bs i at (new id d c) (λ j p. offending ns (a_block id d ∷ bs) j p c)
  offending ns bs i at (procedure id ty ps x y) =
      record_and ns bs i at (procedure id ty ps x y) (λ j p. offending ns (inside ps bs) j p x
      ++ offending ns (after id ty ps bs) j (p + width x) y)

  pub all_offending : List Name → List Binder → Bool → ℕ → Writtens → List ℕ
  all_offending ns bs i at none = []
  all_offending ns bs i at (more w ws) = offending ns bs i at w ++ all_offending ns bs i (at + width w) ws

-- those of a sheet: nothing is around the whole term
unfoldable pub offences : Sheet → List ℕ
offences S = offending S.names [] false (heading_width S) S.term

-- a sheet of the profile
unfoldable pub InProfile : Sheet → Type 0
InProfile S = offences S ≡ []
