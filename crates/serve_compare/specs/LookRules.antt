-- What document 02, [9], says of look beside its promise, each a type: of look and compare, of two numbers of moves, and
-- that there is one answer. Each is of whatever keeps the promises.
use Rattle.std.specs.Prelude.{◌≡◌, ◌⊎◌, List, ℕ, ◌≤◌, ◌<◌, length, Result, Ok, Err}
use Rattle.language.specs.Move.{Word}
use Rattle.sheet_records.specs.declared.refusal.Cause.{Cause}
use Rattle.sheet_written.specs.Written.{Sheet}
use Rattle.sheet_judge.specs.declared.mark.Uses.{Uses}
use Rattle.serve_compare.specs.Plays.{Only}
use Rattle.serve_compare.specs.Promise as compared
use Rattle.serve_compare.specs.Promise.{Holds, ComparePromise}
use Rattle.serve_compare.specs.Look.{whole_depth, telling, LookPromise}
use Rattle.serve_compare.specs.declared.Comparison.{Comparison}
use Rattle.serve_compare.specs.declared.Looking.{Looking}
use Rattle.serve_compare.specs.declared.Outcome.TheVariants.{Same, Apart, SoFar}
use Rattle.sheet_records.specs.declared.refusal.Sheets.{Sheets}

-- look says what compare says, of the same sheet, moves and names; or refuses as it does
pub data Agrees : Result Looking Cause → Result Comparison Cause → Type 0 where
  same : (looked : ℕ) (old new : Uses) → Agrees (Ok (telling Same looked old new)) (compared.Same old new)
  apart : (which : Sheets) (moves : ℕ) (old new : Uses) →
      Agrees (Ok (telling (Apart which) moves old new)) (compared.Apart which moves old new)
  refused : (x : Cause) → Agrees (Err x) (Err x)

-- look says "same so far" of L moves, and every play that tells the sheets apart has more
pub record Open (old new : List ℕ) (limit : ℕ) (r : Result Looking Cause) : Type 0 where
  pub old_uses : Uses
  pub new_uses : Uses
  pub answer : r ≡ Ok (telling SoFar limit old_uses new_uses)
  pub longer : (S T : Sheet) → Holds old S → Holds new T → (which : Sheets) (u : Word) → Only which S T u →
      limit < length u

-- look against compare, with everything lent; or "same so far"
abbrev pub LookCompare : Type 0
LookCompare = (old new : List ℕ) (limit : ℕ) (ws space : List ℕ) (r : Result Looking Cause) (c : Result Comparison Cause)
    (ws₁ ws₂ space₁ space₂ : List ℕ) → LookPromise old new limit ws space r ws₁ space₁ →
    ComparePromise old new ws space c ws₂ space₂ →
    (Agrees r c × ((ws₁ ≡ ws₂) × (space₁ ≡ space₂))) ⊎ Open old new limit r

-- "A larger L never changes "same" or "apart""
abbrev pub LookLarger : Type 0
LookLarger = (old new : List ℕ) (limit more : ℕ) (ws space : List ℕ) (r r₂ : Result Looking Cause)
    (ws₁ ws₂ space₁ space₂ : List ℕ) → limit ≤ more → LookPromise old new limit ws space r ws₁ space₁ →
    LookPromise old new more ws space r₂ ws₂ space₂ →
    ((r ≡ r₂) × ((ws₁ ≡ ws₂) × (space₁ ≡ space₂))) ⊎ Open old new limit r

-- with L of at least S + T - 1 look is compare
abbrev pub LookWhole : Type 0
LookWhole = (old new : List ℕ) (limit : ℕ) (ws space : List ℕ) (r : Result Looking Cause) (c : Result Comparison Cause)
    (ws₁ ws₂ space₁ space₂ : List ℕ) →
    ((S T : Sheet) → Holds old S → Holds new T → whole_depth S T ≤ limit) →
    LookPromise old new limit ws space r ws₁ space₁ → ComparePromise old new ws space c ws₂ space₂ →
    Agrees r c × ((ws₁ ≡ ws₂) × (space₁ ≡ space₂))

-- a promise allows one answer and one state of everything lent
abbrev pub LookUnique : Type 0
LookUnique = (old new : List ℕ) (limit : ℕ) (ws space : List ℕ) (r r₂ : Result Looking Cause) (ws₁ ws₂ space₁ space₂ : List ℕ) →
    LookPromise old new limit ws space r ws₁ space₁ → LookPromise old new limit ws space r₂ ws₂ space₂ →
    (r ≡ r₂) × ((ws₁ ≡ ws₂) × (space₁ ≡ space₂))
