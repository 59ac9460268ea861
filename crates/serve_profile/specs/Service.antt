-- What document 02 [13] says of the service, as statements.
use Rattle.std.specs.Prelude.{ℕ, ◌≤◌, ◌≡◌, ◌⊎◌, true, List, ◌∷◌, Err}
use Rattle.language.specs.Move.{Word}
use Rattle.sheet_records.specs.Limits.{most_bytes}
use Rattle.sheet_records.specs.Refusal.{old_sheet, not_quiet}
use Rattle.sheet_records.specs.declared.edition.Edition.TheVariants.{Present}
use Rattle.sheet_records.specs.declared.refusal.Cause.{Cause}
use Rattle.sheet_written.specs.Written.{Sheet}
use Rattle.sheet_written.specs.Meaning.{CompletePlay}
use Rattle.sheet_reader.specs.Reader.{accepted, read_sheet}
use Rattle.sheet_judge.specs.Check.{answered, checked_of, NumberOf}
use Rattle.sheet_judge.specs.declared.mark.Uses.{Uses}
use Rattle.serve_profile.specs.Offence.{is_expression, offences, InProfile}
use Rattle.serve_profile.specs.Quiet.{AllCalm}
use Rattle.serve_profile.specs.Profile.{profiled_of}

-- a sheet that profile accepts
pub record Passed (s : List ℕ) (ty size : ℕ) (uses : Uses) : Type 0 where
  pub sheet : Sheet
  pub reads : read_sheet s ≡ accepted sheet ty size
  -- "where it refuses nothing, answers as check does"
  pub as_check : checked_of (read_sheet s) ≡ answered ty size uses
  pub in_profile : InProfile sheet
  -- "every complete play consists of *ask*, *read* and value moves only"
  pub quiet : is_expression ty ≡ true → (u : Word) → CompletePlay sheet u → AllCalm u

unfoldable pub PassedRule : Type 0
PassedRule =
    (s : List ℕ) (ty size : ℕ) (uses : Uses) → profiled_of (read_sheet s) ≡ answered ty size uses → Passed s ty size uses

-- a sheet in the profile is answered as check answers it, and so is one that check refuses
unfoldable pub AsCheck : Type 0
AsCheck =
    (s : List ℕ) → ((S : Sheet) (ty size : ℕ) → read_sheet s ≡ accepted S ty size → InProfile S) →
    profiled_of (read_sheet s) ≡ checked_of (read_sheet s)

-- "18 at the kind byte of the first offending record, after all the sheet's other refusals"
pub record Offended (s : List ℕ) (x : Cause) : Type 0 where
  pub sheet : Sheet
  pub type : ℕ
  pub size : ℕ
  pub reads : read_sheet s ≡ accepted sheet type size
  pub others : List ℕ
  pub first : offences sheet ≡ x.place ∷ others
  pub number : x.reason ≡ not_quiet
  pub named : x.sheet ≡ old_sheet

unfoldable pub RefusedRule : Type 0
RefusedRule =
    (s : List ℕ) (x : Cause) → profiled_of (read_sheet s) ≡ Err x →
    (checked_of (read_sheet s) ≡ Err x) ⊎ Offended s x

-- the numbers of profile's refusals: those of check, and 18; and no place is above 4,096
pub record WellRefused (x : Cause) : Type 0 where
  pub numbered : NumberOf Present x.reason ⊎ (x.reason ≡ not_quiet)
  pub placed : x.place ≤ most_bytes

unfoldable pub ProfileNumbers : Type 0
ProfileNumbers = (s : List ℕ) (x : Cause) → profiled_of (read_sheet s) ≡ Err x → WellRefused x
