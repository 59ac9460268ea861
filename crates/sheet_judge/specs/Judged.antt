-- What judging a sheet leaves for the passes over its parts: the sheet is accepted, the table shows its term, with a
-- row at the place of each record's kind byte, and the marks are those of its parts; or why it is refused. Only inner
-- contracts cite it.
use Rattle.std.specs.Prelude.{ℕ, ◌≡◌, List, [], Result, Ok, Err}
use Rattle.sheet_records.specs.declared.edition.Edition.{Edition}
use Rattle.sheet_records.specs.declared.refusal.Refusal.{Refusal}
use Rattle.sheet_written.specs.Written as written
use Rattle.sheet_written.specs.Context.{whole}
use Rattle.sheet_written.specs.Table.{Shown}
use Rattle.sheet_written.specs.Marks.{Marked}
use Rattle.sheet_written.specs.Width.{heading_width}
use Rattle.sheet_reader.specs.Reader.{numbers_at, read_under, accepted, rejected}
use Rattle.sheet_judge.specs.Mark.{uses_of}
use Rattle.sheet_table.specs.inner.Seats.{Seated}
use Rattle.sheet_table.specs.Tabled.{places}
use Rattle.weight_theory.specs.Stack.{marks_in}
use Rattle.sheet_judge.specs.declared.mark.Uses.{Uses}
use Rattle.sheet_judge.specs.declared.judge.Judgement.{Judgement}

-- the sheet is accepted with type ty and the given size, and uses the given names; the table u shows its term from
-- root on and has its marks
pub record Judged (ed : Edition) (s : List ℕ) (root ty size : ℕ) (uses : Uses) (u : List ℕ) : Type 0 where
  pub sheet : written.Sheet
  pub end : ℕ
  pub accepts : read_under ed s ≡ accepted sheet ty size
  pub numbered : sheet.numbers ≡ numbers_at s
  pub rooted : root ≡ heading_width sheet
  pub shown : Shown (numbers_at s) sheet.names u whole places root end sheet.term
  pub seats : Seated sheet.names u [] root sheet.term
  pub used : uses ≡ uses_of sheet
  pub marked : Marked (numbers_at s) sheet.names u (marks_in u) whole root sheet.term

unfoldable pub JudgedBy : Edition → List ℕ → Result Judgement Refusal → List ℕ → Type 0
JudgedBy ed s (Ok x) u = Judged ed s x.root x.ty x.size x.uses u
JudgedBy ed s (Err x) u = read_under ed s ≡ rejected x.reason x.place
