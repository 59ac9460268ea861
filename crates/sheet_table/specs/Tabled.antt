-- What reading a sheet leaves: the sheet is in order but for its size, the table shows its term, with a row at the
-- place of each record's kind byte, the uses of its names are noted, its weight stands in the first form, held at
-- 4,097, and its parts are marked. Only inner contracts cite it.
use Rattle.std.specs.Prelude.{ℕ, ◌≤◌, ◌<◌, ◌≡◌, List, [], length, ltb, Result, Ok, Err}
use Rattle.sheet_records.specs.declared.refusal.Refusal.{Refusal}
use Rattle.sheet_records.specs.Limits.{greatest_z, greatest_rule}
use Rattle.language.specs.Choice.{pick}
use Rattle.language.specs.Weight.{size}
use Rattle.sheet_records.specs.Refusal.{too_large}
use Rattle.sheet_records.specs.declared.edition.Edition.{Edition}
use Rattle.sheet_written.specs.Written as written
use Rattle.sheet_written.specs.Meaning.{ty_of, term_of, type_of}
use Rattle.sheet_written.specs.Fine.{Fine, FineNames, depth}
use Rattle.sheet_written.specs.Context.{whole}
use Rattle.sheet_written.specs.Table.{Shown}
use Rattle.sheet_written.specs.Form.{form_of, no_forms}
use Rattle.sheet_written.specs.Held.{held}
use Rattle.sheet_written.specs.Marks.{Marked}
use Rattle.weight_theory.specs.Stack.{marks_in, form_word}
use Rattle.sheet_written.specs.Uses.{uses}
use Rattle.sheet_written.specs.Width.{heading_width}
use Rattle.sheet_reader.specs.Reader.{numbers_at, read_under, accepted, rejected}
use Rattle.sheet_reader.specs.table.Notes.{is_noted}
use Rattle.sheet_table.specs.inner.Seats.{Seated}
use Rattle.sheet_reader.specs.declared.names.Reading.{Reading}

-- the places of procedures, of which none encloses a whole term
abbrev pub places : ℕ → ℕ
places k = 0

-- the sheet is read with type ty and accepted by its size; the table u shows its term from root up to next and has the
-- notes of its uses
pub record Tabled (ed : Edition) (s : List ℕ) (root ty next : ℕ) (u : List ℕ) : Type 0 where
  pub sheet : written.Sheet
  pub finds :
      read_under ed s ≡
      pick (ltb 4096 (size (ty_of (numbers_at s) ty) (term_of sheet))) (rejected too_large 0)
      (accepted sheet ty (size (ty_of (numbers_at s) ty) (term_of sheet)))
  pub numbered : sheet.numbers ≡ numbers_at s
  pub z_above : 0 < (numbers_at s).z
  pub z_below : (numbers_at s).z ≤ greatest_z
  pub rule_below : (numbers_at s).rule ≤ greatest_rule
  pub few_names : length sheet.names ≤ 32
  pub fine_names : FineNames [] sheet.names
  pub fine_term : Fine (numbers_at s) sheet.names [] sheet.term
  pub types : type_of sheet ≡ ty
  pub known : ty < 5
  pub shallow : depth sheet.term ≤ 32
  pub rooted : root ≡ heading_width sheet
  pub shown : Shown (numbers_at s) sheet.names u whole places root next sheet.term
  pub seats : Seated sheet.names u [] root sheet.term
  pub notes : (id : ℕ) → id < 256 → is_noted u id ≡ uses sheet.names id [] sheet.term
  pub weighs : form_word u 0 1 ≡ held (form_of (numbers_at s) sheet.names [] no_forms sheet.term).constant
  pub marked : Marked (numbers_at s) sheet.names u (marks_in u) whole root sheet.term

unfoldable pub TabledBy : Edition → List ℕ → Result Reading Refusal → List ℕ → Type 0
TabledBy ed s (Ok x) u = Tabled ed s x.root x.ty x.next u
TabledBy ed s (Err x) u = Unit
