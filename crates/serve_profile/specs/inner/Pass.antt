-- The pass over the records of a sheet, as the code makes it. Only inner contracts cite it.
use Rattle.std.specs.Prelude.{ℕ, zero, suc, ◌+◌, ◌≡◌, Bool, true, false, ◌&&◌, List, [], ◌∷◌, eqb, leb, ltb, Option, Some, None}
use Rattle.language.specs.Choice.{pick}
use Rattle.sheet_rows.specs.Class.{EXPRESSIONS}
use Rattle.sheet_rows.specs.Row.{word}
use Rattle.sheet_rows.specs.PartKind.{NAME, SEQUENCE, PROCEDURE, END, CLASS}
use Rattle.sheet_written.specs.Written.{Sheet}
use Rattle.sheet_written.specs.Width.{heading_width}
use Rattle.sheet_reader.specs.Reader.{read_sheet, accepted}
use Rattle.sheet_table.specs.inner.Seats.{Seated}
use Rattle.serve_profile.specs.Offence.{offences}
use Rattle.sheet_records.specs.Kind.{shape_of, body_in}

-- whether one of at most so many arguments, which stand from one place up to another, is no expression: by the classes
-- of the arguments, where the definition goes by the types declared (`loud_use`)
unfoldable pub loud_from : List ℕ → ℕ → ℕ → ℕ → Bool
loud_from t zero at end = false
loud_from t (suc left) at end =
    pick (leb end at) false
    (pick (eqb (word t at CLASS) EXPRESSIONS) (loud_from t left (word t at END) end) true)

-- whether the record of a kind at a place may not stand inside an expression; a use's kind is that of a name
unfoldable pub loud_at : List ℕ → ℕ → ℕ → Bool
loud_at t at kind =
    pick (eqb kind SEQUENCE) true
    (pick (eqb kind PROCEDURE) true
    (pick (eqb kind NAME) (loud_from t 4 (at + 1 + body_in (shape_of kind)) (word t at END)) false))

-- where the outermost expression ends that has the record at a place, or the last one before it
unfoldable pub reach_at : List ℕ → ℕ → ℕ → ℕ
reach_at t at until =
    pick (ltb at until) until (pick (eqb (word t at CLASS) EXPRESSIONS) (word t at END) until)

-- whether the record of a kind at a place offends, where that expression ends at a place
unfoldable pub offends_at : List ℕ → ℕ → ℕ → ℕ → Bool
offends_at t at until kind = ltb at until && loud_at t at kind

-- the first of the places
unfoldable pub first_of : List ℕ → Option ℕ
first_of [] = None
first_of (p ∷ ps) = Some p

-- the first offending record of an accepted sheet whose term is at a place and whose rows are in the table
pub record Finds (s t : List ℕ) (root : ℕ) (r : Option ℕ) : Type 0 where
  pub does : (S : Sheet) (ty n : ℕ) → read_sheet s ≡ accepted S ty n → root ≡ heading_width S →
      Seated S.names t [] root S.term → r ≡ first_of (offences S)
