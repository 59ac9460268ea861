-- What loading a sheet leaves: the sheet is accepted, and the rows represent its term; or why it is refused. Only inner
-- contracts cite it.
use Rattle.std.specs.Prelude.{ℕ, ◌<◌, ◌≡◌, List, [], length, get_or, Result, Ok, Err}
use Rattle.sheet_records.specs.Limits.{most_bytes}
use Rattle.weight_theory.specs.Stack.{marks_in}
use Rattle.sheet_written.specs.Written as written
use Rattle.sheet_written.specs.Meaning.{ty_of, term_of}
use Rattle.sheet_written.specs.Width.{heading_width}
use Rattle.sheet_rows.specs.Rep.{DEPTH, Rep}
use Rattle.term_closing.specs.Rows.{TERM-WORDS}
use Rattle.term_expand.specs.Contract.{Readied, Top}
use Rattle.sheet_reader.specs.Reader.{numbers_at, read_sheet, accepted, rejected}
use Rattle.sheet_records.specs.declared.refusal.Refusal.{Refusal}
use Rattle.sheet_judge.specs.Mark.{uses_of}
use Rattle.sheet_judge.specs.declared.mark.Uses.{Uses}
use Rattle.term_load.specs.declared.load.Loaded.{Loaded}

-- the marks of the first n places of the table t
pub record MarksOf (t marks : List ℕ) (n : ℕ) : Type 0 where
  pub each : (i : ℕ) → i < n → get_or marks i 0 ≡ get_or (marks_in t) i 0

-- the table t shows a term from the root on that can be expanded into the rows, with the marks of its places
pub record Shows (t : List ℕ) (root : ℕ) (rows : List ℕ) : Type 0 where
  pub small : root < most_bytes
  pub readied : (marks : List ℕ) → MarksOf t marks most_bytes → Readied t marks root rows

-- the term whose parts the table t has from the root on becomes the row r
pub record Expanded (t : List ℕ) (root : ℕ) (rows after : List ℕ) (r : ℕ) : Type 0 where
  pub marks : List ℕ
  pub copied : MarksOf t marks most_bytes
  pub count : ℕ
  pub expands : Top t marks root rows after r count

-- the sheet is accepted with type ty and the given size and uses the given names, its term stands at root, and the rows
-- u, which have their length, represent it at a row
pub record Ready (s : List ℕ) (root row ty size : ℕ) (uses : Uses) (u : List ℕ) : Type 0 where
  pub sheet : written.Sheet
  pub accepts : read_sheet s ≡ accepted sheet ty size
  pub numbered : sheet.numbers ≡ numbers_at s
  pub rooted : root ≡ heading_width sheet
  pub used : uses ≡ uses_of sheet
  pub long : length u ≡ TERM-WORDS
  pub represents : Rep (numbers_at s) u DEPTH row [] [] (term_of sheet) (ty_of (numbers_at s) ty)

unfoldable pub LoadedBy : List ℕ → Result Loaded Refusal → List ℕ → Type 0
LoadedBy s (Ok x) u = Ready s x.root x.row x.ty x.size x.uses u
LoadedBy s (Err x) u = read_sheet s ≡ rejected x.reason x.place
