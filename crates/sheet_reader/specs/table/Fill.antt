-- What the reader answers and what it leaves in the table of parts. Only inner contracts cite it.
use Rattle.std.specs.Prelude.{ℕ, ◌+◌, ◌≤◌, ◌<◌, ◌≡◌, List, [], Result, Ok, Err, length, ltb}
use Rattle.language.specs.Choice.{pick}
use Rattle.language.specs.declared.Numbers.{Numbers}
use Rattle.sheet_records.specs.Limits.{bytes}
use Rattle.sheet_records.specs.Refusal.{refusal, left_over}
use Rattle.sheet_parts.specs.Rule.{part_type}
use Rattle.sheet_rows.specs.Row as row
use Rattle.sheet_rows.specs.Row.{linked}
use Rattle.sheet_records.specs.declared.edition.Edition.{Edition}
use Rattle.sheet_records.specs.declared.refusal.Refusal.{Refusal}
use Rattle.sheet_heads.specs.declared.head.Record.{Record}
use Rattle.sheet_reader.specs.Reader.{Tree, node, Trees, leaf, branch, Answer, got, refused, bind, read_part, Whole}
use Rattle.sheet_reader.specs.Reader.{whole}
use Rattle.weight_theory.specs.Step.{weighed}
use Rattle.sheet_reader.specs.table.Notes.{noted}
use Rattle.sheet_reader.specs.table.Number.{used_number}
use Rattle.sheet_reader.specs.declared.part.Part.{Part}
use Rattle.sheet_reader.specs.declared.names.Reading.{Reading}

-- the rows of a part and of its parts, and of parts j, j + 1, .. of the record at p; with the notes of their uses,
-- their forms and their marks
unfoldable mutual
  pub fill : Numbers → Tree → List ℕ → List ℕ
  fill N (node r ty number end ts) t =
      weighed (used_number r) r.place (noted r (row.row_written N r ty number end (fills N ts r.place 0 t)))

  pub fills : Numbers → Trees → ℕ → ℕ → List ℕ → List ℕ
  fills N leaf p j t = t
  fills N (branch at x xs) p j t = fills N xs p (j + 1) (fill N x (linked p j at t))

-- the same of parts j, j + 1, .. where the place of part j is in the row at p already
unfoldable pub fills_next : Numbers → Trees → ℕ → ℕ → List ℕ → List ℕ
fills_next N leaf p j t = t
fills_next N (branch at x xs) p j t = fills N xs p (j + 1) (fill N x t)

-- what was read, and a sheet that was read, as the code gives them
abbrev pub read : ℕ → ℕ → Result Part Refusal
read ty next = Ok (record { ty = ty; next = next })

abbrev pub sheet : ℕ → ℕ → ℕ → Result Reading Refusal
sheet root ty next = Ok (record { root = root; ty = ty; next = next })

-- the answer as the code gives it
unfoldable pub erase : {X : Type 0} → Answer X → Result Part Refusal
erase (got x ty next) = read ty next
erase (refused n p) = Err (refusal n p)

-- the table after reading, by f from the one before; after a refusal nothing is said of it
unfoldable pub Leaves : {X : Type 0} → (X → List ℕ → List ℕ) → Answer X → List ℕ → List ℕ → Type 0
Leaves f (got x ty next) t u = u ≡ f x t
Leaves f (refused n p) t u = Unit

pub record Reads {X : Type 0} (f : X → List ℕ → List ℕ) (A : Answer X) (r : Result Part Refusal) (t u : List ℕ) : Type 0 where
  pub answer : r ≡ erase A
  pub table : Leaves f A t u

-- the type of a part is a byte, and the place after it is beyond its own and within the sheet
unfoldable pub Beyond : ℕ → ℕ → Result Part Refusal → Type 0
Beyond at n (Ok x) = (x.ty < bytes) × (at < x.next) × (x.next ≤ n)
Beyond at n (Err x) = Unit

-- the type of what was read is a byte, and the place after it is at most n
unfoldable pub Ends : ℕ → Result Part Refusal → Type 0
Ends n (Ok x) = (x.ty < bytes) × (x.next ≤ n)
Ends n (Err x) = Unit

-- a record closed after its parts: the answer and the table
unfoldable pub closed_answer : List ℕ → Record → Result Part Refusal → Result Part Refusal
closed_answer s r (Ok x) = read (part_type r.rule s r x.ty) x.next
closed_answer s r (Err x) = Err x

unfoldable pub closed_table : Numbers → List ℕ → ℕ → Record → Result Part Refusal → List ℕ → List ℕ
closed_table N s number r (Ok x) t =
    weighed (used_number r) r.place (noted r (row.row_written N r (part_type r.rule s r x.ty) number x.next t))
closed_table N s number r (Err x) t = t

-- the term of a sheet, without name records
abbrev pub term_at : Edition → Numbers → List ℕ → List ℕ → ℕ → Answer Whole
term_at ed N s st at = bind (read_part ed 32 N s st 0 at) (λ t ty end. got (whole [] at t) ty end)

-- a whole sheet: the answer and the table
unfoldable pub erase_sheet : Answer Whole → Result Reading Refusal
erase_sheet (got (whole ns root x) ty next) = sheet root ty next
erase_sheet (refused n p) = Err (refusal n p)

unfoldable pub LeavesSheet : Numbers → Answer Whole → List ℕ → List ℕ → Type 0
LeavesSheet N (got (whole ns root x) ty next) t u = u ≡ fill N x t
LeavesSheet N (refused n p) t u = Unit

pub record ReadsSheet (N : Numbers) (A : Answer Whole) (r : Result Reading Refusal) (t u : List ℕ) : Type 0 where
  pub answer : r ≡ erase_sheet A
  pub table : LeavesSheet N A t u

-- the end of a sheet judged
unfoldable pub closed_reading : List ℕ → Result Reading Refusal → Result Reading Refusal
closed_reading s (Ok x) = pick (ltb x.next (length s)) (Err (refusal left_over x.next)) (Ok x)
closed_reading s (Err x) = Err x
