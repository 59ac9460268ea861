-- What follow and compare promise, for all slices lent. Document 01, "Three services". SHEETS 8.3 and 8.4.
use Rattle.std.specs.Prelude.{◌≡◌, ◌↔◌, ◌⊎◌, Bool, true, List, ◌++◌, map, ℕ, ◌+◌, ◌-◌, ◌≤◌, ◌<◌, length, take, drop, replicate}
use Rattle.std.specs.Prelude.{Some, None, Result, Ok, Err}
use Rattle.std.proofs.Math.Option.{Option, none, some}
use Rattle.language.specs.Move.{Word, record_of, records}
use Rattle.sheet_records.specs.declared.refusal.Cause.{Cause}
use Rattle.sheet_written.specs.Written.{Sheet}
use Rattle.sheet_reader.specs.Reader.{read_sheet, accepted}
use Rattle.sheet_judge.specs.Mark.{uses_of}
use Rattle.sheet_judge.specs.declared.mark.Uses.{Uses}
use Rattle.serve_compare.specs.Plays.{CompletePlay, reckoned, Alike, FirstPlay}
use Rattle.play_records.specs.Records.{moves, parse}
use Rattle.serve_compare.specs.Refusals.{follow_refusal, compare_refusal}
use Rattle.serve_compare.specs.declared.Following.{Following}
use Rattle.serve_compare.specs.declared.Comparison.{Comparison}
use Rattle.sheet_records.specs.declared.refusal.Sheets.{Sheets}

-- the sheet that the bytes hold
pub record Holds (s : List ℕ) (S : Sheet) : Type 0 where
  pub type : ℕ
  pub size : ℕ
  pub reads : read_sheet s ≡ accepted S type size

-- "After an accepted call all working words are 0"
abbrev pub Cleared : List ℕ → List ℕ → Type 0
Cleared ws ws' = ws' ≡ replicate (length ws) 0

-- the first k records of a play begin some complete play
abbrev pub Begins : Sheet → List (List ℕ) → ℕ → Type 0
Begins S rs k =
    (u : Word) × (CompletePlay S u × ((k ≤ length u) × (take k (map (record_of S.numbers) u) ≡ take k rs)))

-- "the greatest number of moves at the start of the play that begin some complete play of the term (0 where the term has
-- none)": so many begin one, and no larger number does
pub record Greatest (S : Sheet) (rs : List (List ℕ)) (count : ℕ) : Type 0 where
  pub begins : Begins S rs count
  pub no_more : (k : ℕ) → count < k → k ≤ length rs → Begins S rs k → ⊥

-- or there is no complete play, and the count is 0
pub record NoPlay (S : Sheet) (count : ℕ) : Type 0 where
  pub none : (u : Word) → CompletePlay S u → ⊥
  pub zero : count ≡ 0

-- the count, "and whether the whole given play is complete"
pub record Counted (S : Sheet) (rs : List (List ℕ)) (count : ℕ) (complete : Bool) : Type 0 where
  pub within : count ≤ length rs
  pub greatest : Greatest S rs count ⊎ NoPlay S count
  pub whole : (complete ≡ true) ↔ ((u : Word) × (CompletePlay S u × (map (record_of S.numbers) u ≡ rs)))

-- the answer of follow to an accepted call
pub record Followed (s play ws : List ℕ) (r : Result Following Cause) (ws' : List ℕ) : Type 0 where
  pub sheet : Sheet
  pub held : Holds s sheet
  pub records : List (List ℕ)
  pub parsed : parse 0 play ≡ moves records
  pub count : ℕ
  pub complete : Bool
  pub answer : r ≡ Ok (record { count = count; complete = complete })
  pub counted : Counted sheet records count complete
  pub cleared : Cleared ws ws'

-- the promise of follow: by refusal, all lent unchanged, or an accepted call
unfoldable pub FollowedBy : Option Cause → List ℕ → List ℕ → List ℕ → Result Following Cause → List ℕ → Type 0
FollowedBy none s play ws r ws' = Followed s play ws r ws'
FollowedBy (some x) s play ws r ws' = (r ≡ Err x) × (ws' ≡ ws)

abbrev pub FollowPromise : List ℕ → List ℕ → List ℕ → Result Following Cause → List ℕ → Type 0
FollowPromise s play ws r ws' = FollowedBy (follow_refusal s play (length ws)) s play ws r ws'

-- the answers "same" and "apart", with the names that the old and the new sheet use
abbrev pub Same : Uses → Uses → Result Comparison Cause
Same old new = Ok (record { found = None; old = old; new = new })

abbrev pub Apart : Sheets → ℕ → Uses → Uses → Result Comparison Cause
Apart which many old new = Ok (record { found = Some (record { sheet = which; moves = many }); old = old; new = new })

-- "same": the sheets have the same complete plays; "same" leaves play space untouched. Document 02 [6]: "Compare passes
-- on both sheets' marks"
pub record SamePlays (S T : Sheet) (space : List ℕ) (r : Result Comparison Cause) (space' : List ℕ) : Type 0 where
  pub answer : r ≡ Same (uses_of S) (uses_of T)
  pub plays : (u : Word) → Alike S T u
  pub space_kept : space' ≡ space

-- "apart": the sheet that has the first play, its number of moves, and its records at the start of play space, the rest
-- of it untouched
pub record ApartPlays (S T : Sheet) (space : List ℕ) (r : Result Comparison Cause) (space' : List ℕ) : Type 0 where
  pub which : Sheets
  pub play : Word
  pub answer : r ≡ Apart which (length play) (uses_of S) (uses_of T)
  pub first : FirstPlay S T which play
  pub short : length play ≤ reckoned S + reckoned T - 1
  pub written : space' ≡ records S.numbers play ++ drop (length (records S.numbers play)) space

pub data Decided (S T : Sheet) (space : List ℕ) (r : Result Comparison Cause) (space' : List ℕ) : Type 0 where
  same : SamePlays S T space r space' → Decided S T space r space'
  apart : ApartPlays S T space r space' → Decided S T space r space'

-- the answer of compare to an accepted call
pub record Compared (old new ws space : List ℕ) (r : Result Comparison Cause) (ws' space' : List ℕ) : Type 0 where
  pub first_sheet : Sheet
  pub second_sheet : Sheet
  pub first_held : Holds old first_sheet
  pub second_held : Holds new second_sheet
  pub decided : Decided first_sheet second_sheet space r space'
  pub cleared : Cleared ws ws'

-- the promise of compare
unfoldable pub ComparedBy : Option Cause → List ℕ → List ℕ → List ℕ → List ℕ → Result Comparison Cause → List ℕ → List ℕ → Type 0
ComparedBy none old new ws space r ws' space' = Compared old new ws space r ws' space'
ComparedBy (some x) old new ws space r ws' space' = (r ≡ Err x) × ((ws' ≡ ws) × (space' ≡ space))

abbrev pub ComparePromise : List ℕ → List ℕ → List ℕ → List ℕ → Result Comparison Cause → List ℕ → List ℕ → Type 0
ComparePromise old new ws space r ws' space' =
    ComparedBy (compare_refusal old new (length ws) (length space)) old new ws space r ws' space'
