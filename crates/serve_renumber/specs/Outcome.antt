-- What renumber promises, for all slices lent. Document 02 [4].
use Rattle.std.specs.Prelude.{ℕ, ◌%◌, ◌/◌, ◌≡◌, ◌||◌, List, [], ◌∷◌, ◌++◌, length, drop, ltb, Result, Ok, Err}
use Rattle.language.specs.Choice.{pick}
use Rattle.sheet_records.specs.Refusal.{cause, old_sheet, both_sheets, space_too_short, no_id_left}
use Rattle.sheet_records.specs.declared.edition.Edition.TheVariants.{Earlier}
use Rattle.sheet_records.specs.declared.refusal.Cause.{Cause}
use Rattle.sheet_written.specs.Written.{Sheet, Written}
use Rattle.sheet_written.specs.Rules.{with_term}
use Rattle.sheet_written.specs.Renumber.{Change, Renumbering, renumbered, none_left, renumber_sheet}
use Rattle.sheet_reader.specs.Encoding.{encode_sheet}
use Rattle.sheet_reader.specs.Reader.{Checks, accepted, rejected, read_under}

-- "reads a sheet under the earlier rule"
abbrev pub read_earlier : List ℕ → Checks
read_earlier s = read_under Earlier s

-- "That space must have 1,020 bytes"
abbrev pub list_space : ℕ
list_space = 1020

-- "lists each binding record's change, left to right, in a second lent space: place of the id byte in two bytes, low
-- byte first, old id, new id"
unfoldable pub listed : List Change → List ℕ
listed [] = []
listed (c ∷ cs) = c.place % 256 ∷ c.place / 256 ∷ c.old ∷ c.given ∷ listed cs

-- the sheet written and the changes; or the refusal
pub data Outcome : Type 0 where
  done : List ℕ → List Change → Outcome
  refused : Cause → Outcome

-- "gives each inner name that hides an outer one the lowest id .."; "then 17 at the id byte for which no id is left"
unfoldable pub written : Sheet → Renumbering Written → Outcome
written S (renumbered W cs taken) = done (encode_sheet (with_term S W)) cs
written S (none_left p) = refused (cause no_id_left old_sheet p)

-- "Refused: first as check does under the earlier rule; then 14 at place 0 where the output is shorter than the sheet
-- or the list space than 1,020 bytes"
unfoldable pub checked : ℕ → ℕ → ℕ → Checks → Outcome
checked long room space (rejected n p) = refused (cause n old_sheet p)
checked long room space (accepted S ty n) =
    pick (ltb room long || ltb space list_space) (refused (cause space_too_short both_sheets 0))
    (written S (renumber_sheet S))

-- the outcome for a sheet, an output of `room` bytes and a list space of `space` bytes
unfoldable pub outcome : List ℕ → ℕ → ℕ → Outcome
outcome s room space = checked (length s) room space (read_earlier s)

-- "It writes the sheet ..; bytes after the sheet and after the list are untouched", "the number of changes is given";
-- on refusal "each time sheet and list space are untouched"
unfoldable pub RenumberedBy : Outcome → Result ℕ Cause → List ℕ → List ℕ → List ℕ → List ℕ → Type 0
RenumberedBy (done b cs) r out out' list list' =
    (r ≡ Ok (length cs)) × (out' ≡ b ++ drop (length b) out)
    × (list' ≡ listed cs ++ drop (length (listed cs)) list)
RenumberedBy (refused x) r out out' list list' = (r ≡ Err x) × (out' ≡ out) × (list' ≡ list)

abbrev pub RenumberPromise : List ℕ → Result ℕ Cause → List ℕ → List ℕ → List ℕ → List ℕ → Type 0
RenumberPromise s r out out' list list' = RenumberedBy (outcome s (length out) (length list)) r out out' list list'
