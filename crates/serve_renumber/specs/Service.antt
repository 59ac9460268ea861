-- What document 02 [4] says of renumber, as statements.
use Rattle.std.specs.Prelude.{ℕ, ◌≤◌, ◌≡◌, ◌⊎◌, List, [], length, Bool, Result}
use Rattle.sheet_records.specs.Refusal.{space_too_short, no_id_left}
use Rattle.sheet_records.specs.declared.refusal.Reason.{Reason}
use Rattle.sheet_records.specs.declared.refusal.Cause.{Cause}
use Rattle.sheet_written.specs.Written.{Sheet, Written}
use Rattle.sheet_written.specs.Hiding.{Apart}
use Rattle.sheet_written.specs.Renumber.{Change, taken_at_first}
use Rattle.sheet_reader.specs.Reader.{accepted, read_sheet}
use Rattle.serve_renumber.specs.Outcome.{read_earlier, list_space, listed, done, refused, outcome, RenumberPromise}
use Rattle.sheet_records.specs.declared.edition.Edition.TheVariants.{Earlier}
use Rattle.sheet_written.specs.Rules.{with_term}
use Rattle.sheet_written.specs.Renumbering.{Gives, Renumbered as RenumberedSheet}
use Rattle.sheet_judge.specs.Check.{NumberOf}

-- the bytes b written for those of the sheet S, of a type and a size, with the changes cs
pub record WellWritten (s : List ℕ) (S : Sheet) (ty size : ℕ) (b : List ℕ) (cs : List Change) : Type 0 where
  pub term : Written
  -- "The sheet written is accepted": by the present rule, with the same type and size
  pub reads : read_sheet b ≡ accepted (with_term S term) ty size
  -- "and has the plays the earlier rule gave the old one", "the uses it governs follow", "and lists each binding
  -- record's change, left to right"
  pub renumbers : RenumberedSheet S term cs
  -- "gives each inner name that hides an outer one the lowest id that is neither declared, retired, nor bound anywhere
  -- in the sheet as read or as changed so far"; the ids taken at last
  pub taken : ℕ → Bool
  pub gives : Gives (taken_at_first S) cs taken
  -- "It writes the sheet at the same length"
  pub same_length : length b ≡ length s
  -- "That space must have 1,020 bytes": so they suffice
  pub fits : length (listed cs) ≤ list_space
  -- renumbering the sheet written changes nothing, where enough is lent
  pub again : (room space : ℕ) → length b ≤ room → list_space ≤ space → outcome b room space ≡ done b []

unfoldable pub WrittenRule : Type 0
WrittenRule =
    (s : List ℕ) (room space : ℕ) (b : List ℕ) (cs : List Change) (S : Sheet) (ty size : ℕ) →
    outcome s room space ≡ done b cs → read_earlier s ≡ accepted S ty size → WellWritten s S ty size b cs

-- only an accepted sheet is renumbered
pub record EarlierAccepted (s : List ℕ) : Type 0 where
  pub sheet : Sheet
  pub type : ℕ
  pub size : ℕ
  pub reads : read_earlier s ≡ accepted sheet type size

unfoldable pub AcceptedRule : Type 0
AcceptedRule =
    (s : List ℕ) (room space : ℕ) (b : List ℕ) (cs : List Change) → outcome s room space ≡ done b cs → EarlierAccepted s

-- "a sheet with nothing to change comes back unaltered"
unfoldable pub UnalteredService : Type 0
UnalteredService =
    (s : List ℕ) (room space : ℕ) (S : Sheet) (ty size : ℕ) → read_earlier s ≡ accepted S ty size → Apart [] S.term →
    length s ≤ room → list_space ≤ space → outcome s room space ≡ done s []

-- the numbers of renumber's refusals: those of check under the earlier rule, 14 and 17
unfoldable pub RenumberNumber : Reason → Type 0
RenumberNumber n = NumberOf Earlier n ⊎ ((n ≡ space_too_short) ⊎ (n ≡ no_id_left))

unfoldable pub RenumberNumbers : Type 0
RenumberNumbers =
    (s : List ℕ) (room space : ℕ) (x : Cause) → outcome s room space ≡ refused x → RenumberNumber x.reason

-- the promise allows one answer, and one state of all that is lent
unfoldable pub RenumberUnique : Type 0
RenumberUnique =
    (s out list : List ℕ) (r q : Result ℕ Cause) (out' out'' list' list'' : List ℕ) →
    RenumberPromise s r out out' list list' → RenumberPromise s q out out'' list list'' →
    (r ≡ q) × (out' ≡ out'') × (list' ≡ list'')
