-- The demands (docs/DEMANDS.md), each a type: of the numbers of refusals and of what a promise leaves open (1), of the answer
-- (2), and the length rules (3), for all bytes and for all sheets in order. SHEETS 8.
use Rattle.std.specs.Prelude.{◌≡◌, ◌↔◌, ◌⊎◌, List, map, ℕ, ◌+◌, ◌-◌, ◌≤◌, length, take, Result, Err}
use Rattle.std.proofs.Math.Option.{none, some}
use Rattle.language.specs.Move.{Word, record_of, records}
use Rattle.sheet_records.specs.declared.edition.Edition.TheVariants.{Present}
use Rattle.sheet_records.specs.declared.refusal.Cause.{Cause}
use Rattle.sheet_records.specs.declared.refusal.Reason.{Reason}
use Rattle.sheet_written.specs.Written.{Sheet}
use Rattle.sheet_written.specs.Meaning.{type_of}
use Rattle.sheet_written.specs.Fine.{InOrder}
use Rattle.sheet_reader.specs.Fine.{Accepted}
use Rattle.sheet_reader.specs.Reader.{read_sheet, rejected}
use Rattle.play_records.specs.Records.{moves, parse}
use Rattle.sheet_judge.specs.Check.{NumberOf}
use Rattle.sheet_judge.specs.Mark.{uses_of}
use Rattle.serve_compare.specs.Plays.{CompletePlay, reckoned, Alike, Only, FirstPlay}
use Rattle.sheet_records.specs.Refusal.{headings_differ, too_few_words, space_too_short, bad_play}
use Rattle.serve_compare.specs.Refusals.{follow_refusal, compare_refusal}
use Rattle.serve_compare.specs.Promise.{Holds, FollowPromise, Same, Apart, ComparePromise}
use Rattle.serve_compare.specs.Look.{LookPromise}
use Rattle.serve_compare.specs.declared.Following.{Following}
use Rattle.serve_compare.specs.declared.Comparison.{Comparison}
use Rattle.sheet_records.specs.declared.refusal.Sheets.{Sheets}

-- Demand 1, of the numbers: check refuses by 1 to 11 and 16, follow also by 13 and 15, compare and look also by 12, 13
-- and 14
abbrev pub CheckNumber : Reason → Type 0
CheckNumber k = NumberOf Present k

unfoldable pub FollowNumber : Reason → Type 0
FollowNumber k = CheckNumber k ⊎ ((k ≡ too_few_words) ⊎ (k ≡ bad_play))

unfoldable pub CompareNumber : Reason → Type 0
CompareNumber k = CheckNumber k ⊎ ((k ≡ headings_differ) ⊎ ((k ≡ too_few_words) ⊎ (k ≡ space_too_short)))

pub record NumbersOnly : Type 0 where
  pub of_check : (s : List ℕ) (reason : Reason) (place : ℕ) → read_sheet s ≡ rejected reason place → CheckNumber reason
  pub of_follow : (s play : List ℕ) (words : ℕ) (x : Cause) → follow_refusal s play words ≡ some x →
      FollowNumber x.reason
  pub of_compare : (old new : List ℕ) (words space : ℕ) (x : Cause) → compare_refusal old new words space ≡ some x →
      CompareNumber x.reason
  pub of_look : (old new : List ℕ) (limit : ℕ) (ws space : List ℕ) (x : Cause) (ws' space' : List ℕ) →
      LookPromise old new limit ws space (Err x) ws' space' → CompareNumber x.reason

-- Demand 1, of what is lent: a promise allows one answer and one state of everything lent
abbrev pub FollowUnique : Type 0
FollowUnique = (s play ws : List ℕ) (r r₂ : Result Following Cause) (ws₁ ws₂ : List ℕ) → FollowPromise s play ws r ws₁ →
    FollowPromise s play ws r₂ ws₂ → (r ≡ r₂) × (ws₁ ≡ ws₂)

abbrev pub CompareUnique : Type 0
CompareUnique = (old new ws space : List ℕ) (r r₂ : Result Comparison Cause) (ws₁ ws₂ space₁ space₂ : List ℕ) →
    ComparePromise old new ws space r ws₁ space₁ → ComparePromise old new ws space r₂ ws₂ space₂ →
    (r ≡ r₂) × ((ws₁ ≡ ws₂) × (space₁ ≡ space₂))

-- Demand 2. "Apart", with the sheet that has the first play of exactly one and its own number of moves; its records stand at
-- the start of play space, and it has at most S + T - 1 moves
pub record Shown (S T : Sheet) (r : Result Comparison Cause) (space : List ℕ) : Type 0 where
  pub which : Sheets
  pub play : Word
  pub answer : r ≡ Apart which (length play) (uses_of S) (uses_of T)
  pub first : FirstPlay S T which play
  pub records_first : take (length (records S.numbers play)) space ≡ records S.numbers play
  pub short : length play ≤ reckoned S + reckoned T - 1

-- either "same", and every play is of both sheets or of neither, or "apart" as above, and nothing else
pub record Exact (old new : List ℕ) (r : Result Comparison Cause) (space : List ℕ) : Type 0 where
  pub first_sheet : Sheet
  pub second_sheet : Sheet
  pub first_held : Holds old first_sheet
  pub second_held : Holds new second_sheet
  pub decided :
      ((r ≡ Same (uses_of first_sheet) (uses_of second_sheet)) × ((u : Word) → Alike first_sheet second_sheet u))
      ⊎ Shown first_sheet second_sheet r space
  pub same_exactly :
      (r ≡ Same (uses_of first_sheet) (uses_of second_sheet)) ↔ ((u : Word) → Alike first_sheet second_sheet u)

-- of whatever keeps compare's promise, where nothing is refused
abbrev pub ExactAnswer : Type 0
ExactAnswer = (old new ws space : List ℕ) (r : Result Comparison Cause) (ws' space' : List ℕ) →
    ComparePromise old new ws space r ws' space' → compare_refusal old new (length ws) (length space) ≡ none →
    Exact old new r space'

-- "its number of moves is how many they are": the records of a complete play, read as a play is given to follow, are one
-- for each move
abbrev pub RecordsOfMoves : Type 0
RecordsOfMoves = (S : Sheet) (u : Word) → Accepted S → CompletePlay S u →
    parse 0 (records S.numbers u) ≡ moves (map (record_of S.numbers) u)

-- Demand 3 speaks of more sheets than check accepts: of all that are `InOrder`. The ranges, the rules and the result
-- types are equal, as they are where headings and result types are
pub record Comparable (S T : Sheet) : Type 0 where
  pub numbers : S.numbers ≡ T.numbers
  pub types : type_of S ≡ type_of T

-- the complete plays are the same exactly when no complete play of at most S + T - 1 moves belongs to exactly one sheet
abbrev pub DifferShort : Type 0
DifferShort = (S T : Sheet) → InOrder S → InOrder T → Comparable S T →
    ((u : Word) → Alike S T u) ↔
    ((which : Sheets) (u : Word) → length u ≤ reckoned S + reckoned T - 1 → Only which S T u → ⊥)

-- a sheet has a complete play exactly when it has one of at most S - 1 moves
abbrev pub PlayShort : Type 0
PlayShort = (S : Sheet) → InOrder S →
    ((u : Word) × CompletePlay S u) ↔ ((u : Word) × (CompletePlay S u × (length u ≤ reckoned S - 1)))
