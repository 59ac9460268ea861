-- What the program renumber prints, as bytes, and what its report promises. Document 02, [4]: a change is listed as
-- "place of the id byte in two bytes, low byte first, old id, new id", "and the number of changes is given". A refusal
-- is one line, as document 01 has it.
use Rattle.std.specs.Prelude.{ℕ, zero, suc, ◌+◌, ◌*◌, ◌≡◌, Bool, true, false, List, [], ◌++◌, get_or}
use Rattle.std.specs.Prelude.{Result, Ok, Err}
use Rattle.sheet_records.specs.declared.refusal.Cause.{Cause}
use Rattle.serve_renumber.specs.Outcome.{RenumberPromise}
use Rattle.print_report.specs.declared.changes.Told.{Told}
use Rattle.print_text.specs.Page.{page, pushes}
use Rattle.print_text.specs.Text.{ascii, digits, refused_text}

-- "30 4 1"
unfoldable pub change_text : ℕ → ℕ → ℕ → List ℕ
change_text place old given = digits place ++ ascii " " ++ digits old ++ ascii " " ++ digits given ++ ascii "\n"

-- a change of the list, by its number from 0
unfoldable pub change_at : ℕ → List ℕ → List ℕ
change_at i list =
    change_text (get_or list (4 * i) 0 + 256 * get_or list (4 * i + 1) 0) (get_or list (4 * i + 2) 0) (get_or list (4 * i + 3) 0)

-- so many changes, from a number on
unfoldable pub changes_text : ℕ → ℕ → List ℕ → List ℕ
changes_text zero i list = []
changes_text (suc n) i list = change_at i list ++ changes_text n (i + 1) list

-- "changes 2", and the changes
unfoldable pub changed_text : ℕ → List ℕ → List ℕ
changed_text n list = ascii "changes " ++ digits n ++ ascii "\n" ++ changes_text n 0 list

-- the whole text for the answer of renumber and the list after it
unfoldable pub renumber_text : Result ℕ Cause → List ℕ → List ℕ
renumber_text (Ok n) list = changed_text n list
renumber_text (Err x) list = refused_text x

-- whether there is a sheet to be written
unfoldable pub is_renumbered : Result ℕ Cause → Bool
is_renumbered (Ok n) = true
is_renumbered (Err x) = false

-- an answer of renumber, its text at the start of out, as much as there is room for, and whether a sheet is to be
-- written
pub record RenumberReported (s output list out : List ℕ) (t : Told) (output' list' out' : List ℕ) : Type 0 where
  pub answer : Result ℕ Cause
  pub promised : RenumberPromise s answer output output' list list'
  pub written : page out' t.count ≡ pushes (renumber_text answer list') (page out 0)
  pub said : t.renumbered ≡ is_renumbered answer
