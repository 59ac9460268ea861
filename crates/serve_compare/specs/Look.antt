-- What look promises, for all slices lent and every number of moves L. Document 02, [9]. SHEETS 8.7.
use Rattle.std.specs.Prelude.{◌≡◌, List, ◌++◌, ℕ, ◌+◌, ◌-◌, ◌≤◌, ltb, length, drop}
use Rattle.std.specs.Prelude.{Option, Some, None, Result, Ok, Err}
use Rattle.std.proofs.Math.Option as math
use Rattle.std.proofs.Math.Option.{none, some}
use Rattle.language.specs.Choice.{pick}
use Rattle.language.specs.declared.Numbers.{Numbers}
use Rattle.language.specs.Move.{Word, records}
use Rattle.sheet_records.specs.declared.refusal.Cause.{Cause}
use Rattle.sheet_written.specs.Written.{Sheet}
use Rattle.sheet_judge.specs.Mark.{uses_of}
use Rattle.sheet_judge.specs.declared.mark.Uses.{Uses}
use Rattle.serve_compare.specs.Plays.{reckoned, Alike, FirstPlay}
use Rattle.serve_compare.specs.Refusals.{compare_refusal}
use Rattle.serve_compare.specs.Promise.{Holds, Cleared}
use Rattle.play_words.specs.declared.Difference.{Difference}
use Rattle.serve_compare.specs.declared.Looking.{Looking}
use Rattle.serve_compare.specs.declared.Outcome.{Outcome}
use Rattle.serve_compare.specs.declared.Outcome.TheVariants.{Same, Apart, SoFar}
use Rattle.sheet_records.specs.declared.refusal.Sheets.{Sheets}

-- what is found within a number of moves: no play that tells the sheets apart; or the first, and which sheet has it
pub data Found : Type 0 where
  nothing : Found
  first : Sheets → Word → Found

-- "if some play of at most L moves tells the sheets apart, with the play compare would show"; "if there is none"
unfoldable pub FoundIn : ℕ → Sheet → Sheet → Found → Type 0
FoundIn limit S T nothing = (u : Word) → length u ≤ limit → Alike S T u
FoundIn limit S T (first which play) = FirstPlay S T which play × (length play ≤ limit)

-- "S + T - 1"
abbrev pub whole_depth : Sheet → Sheet → ℕ
whole_depth S T = reckoned S + reckoned T - 1

-- what is found, the play by its number of moves
unfoldable pub decision_of : Found → Option Difference
decision_of nothing = None
decision_of (first which play) = Some (record { sheet = which; moves = length play })

-- the three answers: "apart", with the sheet that has the play and its number of moves; "same"; "same so far"
pub data Ruling : Type 0 where
  apart : Sheets → ℕ → Ruling
  same : Ruling
  so_far : Ruling

-- ""same" if there is none and L is at least S + T - 1; else "same so far""
unfoldable pub ruling_of : Option Difference → ℕ → ℕ → Ruling
ruling_of (Some d) limit whole = apart d.sheet d.moves
ruling_of None limit whole = pick (ltb limit whole) so_far same

-- "how many moves were looked through: the play's own length, S + T - 1, or L, in that order of answers"
unfoldable pub depth_of : Ruling → ℕ → ℕ → ℕ
depth_of (apart which moves) limit whole = moves
depth_of same limit whole = whole
depth_of so_far limit whole = limit

-- an answer, with a number of moves and the names that the old and the new sheet use
abbrev pub telling : Outcome → ℕ → Uses → Uses → Looking
telling outcome looked old new = record { outcome = outcome; looked = looked; old = old; new = new }

unfoldable pub saying : Ruling → ℕ → Uses → Uses → Looking
saying (apart which moves) looked old new = telling (Apart which) looked old new
saying same looked old new = telling Same looked old new
saying so_far looked old new = telling SoFar looked old new

-- the answer, from what is decided within L moves
abbrev pub look_answer : Option Difference → ℕ → ℕ → Uses → Uses → Looking
look_answer d limit whole = saying (ruling_of d limit whole) (depth_of (ruling_of d limit whole) limit whole)

-- play space afterwards: the records of the play at its start, or "untouched"
unfoldable pub space_after : Numbers → Found → List ℕ → List ℕ
space_after N nothing space = space
space_after N (first which play) space = records N play ++ drop (length (records N play)) space

-- two sheets looked through, and all that was lent
pub record Looked (old new : List ℕ) (limit : ℕ) (ws space ws' space' : List ℕ) : Type 0 where
  pub first_sheet : Sheet
  pub second_sheet : Sheet
  pub first_held : Holds old first_sheet
  pub second_held : Holds new second_sheet
  pub found : Found
  pub found_in : FoundIn limit first_sheet second_sheet found
  pub space-after : space' ≡ space_after first_sheet.numbers found space
  pub cleared : Cleared ws ws'

-- the answer of look to an accepted call
pub record LookAnswered (old new : List ℕ) (limit : ℕ) (ws space : List ℕ) (r : Result Looking Cause) (ws' space' : List ℕ) :
    Type 0 where
  pub looked : Looked old new limit ws space ws' space'
  pub answer : r ≡ Ok (look_answer (decision_of looked.found) limit
      (whole_depth looked.first_sheet looked.second_sheet) (uses_of looked.first_sheet)
      (uses_of looked.second_sheet))

-- the promise of look: "Refused: as compare, in its order"
unfoldable pub LookedBy : math.Option Cause → List ℕ → List ℕ → ℕ → List ℕ → List ℕ → Result Looking Cause → List ℕ → List ℕ → Type 0
LookedBy none old new limit ws space r ws' space' = LookAnswered old new limit ws space r ws' space'
LookedBy (some x) old new limit ws space r ws' space' = (r ≡ Err x) × ((ws' ≡ ws) × (space' ≡ space))

abbrev pub LookPromise : List ℕ → List ℕ → ℕ → List ℕ → List ℕ → Result Looking Cause → List ℕ → List ℕ → Type 0
LookPromise old new limit ws space r ws' space' =
    LookedBy (compare_refusal old new (length ws) (length space)) old new limit ws space r ws' space'
