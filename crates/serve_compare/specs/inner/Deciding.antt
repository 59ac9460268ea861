-- What the comparison decides of two terms whose automata stand in the working words.
use Rattle.std.specs.Prelude.{◌≡◌, ◌↔◌, List, [], ◌++◌, ℕ, zero, suc, ◌+◌, ◌≤◌, length, drop}
use Rattle.std.specs.Prelude.{Option, Some, None, Result, Ok, Err}
use Rattle.std.proofs.Math.Option as math
use Rattle.std.proofs.Math.Option.{none, some}
use Rattle.language.specs.declared.Numbers.{Numbers}
use Rattle.language.specs.Ty.{Ty}
use Rattle.language.specs.Term.{Term}
use Rattle.language.specs.Typing.{Typed}
use Rattle.language.specs.Move.{Word, Before, records}
use Rattle.language.specs.Play.{Complete}
use Rattle.language.specs.Weight.{size}
use Rattle.states_machine.specs.Range.{TyIn, InRange}
use Rattle.sheet_records.specs.Limits.{greatest_z, greatest_size}
use Rattle.serve_conditions.specs.Lent.{words_asked, bytes_asked}
use Rattle.states_build.specs.inner.Built.{TwoBuilt}
use Rattle.sheet_judge.specs.declared.mark.Uses.{Uses}
use Rattle.sheet_judge.specs.Mark.{uses_of}
use Rattle.sheet_records.specs.declared.refusal.Cause.{Cause}
use Rattle.serve_compare.specs.Refusals.{compare_refusal}
use Rattle.serve_compare.specs.Look.{decision_of, whole_depth, Looked}
use Rattle.serve_compare.specs.declared.Examined.{Examined}
use Rattle.play_words.specs.declared.Difference.{Difference}
use Rattle.serve_compare.specs.declared.Comparison.{Comparison}
use Rattle.sheet_records.specs.declared.refusal.Sheets.{Sheets}
use Rattle.sheet_records.specs.declared.refusal.Sheets.TheVariants.{Old, New, Both}

-- two terms of one type, of sizes `all` and `more`, in range, their automata in the words, and room for the play
pub record Deciding (ws space : List ℕ) (all more : ℕ) : Type 0 where
  pub numbers : Numbers
  pub type : Ty
  pub term : Term
  pub other_term : Term
  pub z_below : numbers.z ≤ greatest_z
  pub typed : Typed [] term type
  pub other_typed : Typed [] other_term type
  pub type_in : TyIn numbers type
  pub term_in : InRange numbers term
  pub other_in : InRange numbers other_term
  pub sized : size type term ≡ all
  pub other_sized : size type other_term ≡ more
  pub small : all ≤ greatest_size
  pub other_small : more ≤ greatest_size
  pub room : words_asked numbers (all + more) ≤ length ws
  pub space_room : bytes_asked (all + more) ≤ length space
  pub built : TwoBuilt numbers type term other_term (all + more + 1) ws

-- exactly one of two terms has the play: 0 the first, 1 the second
unfoldable pub OnlyTerm : Sheets → Ty → Term → Term → Word → Type 0
OnlyTerm Old T M M' u = Complete T M u × (Complete T M' u → ⊥)
OnlyTerm New T M M' u = Complete T M' u × (Complete T M u → ⊥)
OnlyTerm Both T M M' u = ⊥

-- the same plays of at most `most` moves, the space untouched; or the first play of exactly one, and its records
pub data Verdicts (N : Numbers) (T : Ty) (M M' : Term) (most : ℕ) (space : List ℕ) (r : Option Difference) (space' : List ℕ) :
    Type 0 where
  alike : r ≡ None → ((u : Word) → length u ≤ most → Complete T M u ↔ Complete T M' u) → space' ≡ space →
      Verdicts N T M M' most space r space'
  differ : (which : Sheets) (play : Word) → r ≡ Some (record { sheet = which; moves = length play }) → OnlyTerm which T M M' play →
      ((v : Word) → Before N v play → Complete T M v ↔ Complete T M' v) → length play ≤ most →
      space' ≡ records N play ++ drop (length (records N play)) space → Verdicts N T M M' most space r space'

-- the answer of compare, from what is decided and the names that the old and the new sheet use
abbrev pub answer_of : Option Difference → Uses → Uses → Comparison
answer_of d old new = record { found = d; old = old; new = new }

-- what examine gives of two sheets that are accepted
pub record Examines (old new : List ℕ) (most : ℕ) (ws space : List ℕ) (r : Result Examined Cause) (ws' space' : List ℕ) : Type 0 where
  pub looked : Looked old new most ws space ws' space'
  pub answer : r ≡ Ok (record {
    found = decision_of looked.found;
    whole = whole_depth looked.first_sheet looked.second_sheet;
    old = uses_of looked.first_sheet;
    new = uses_of looked.second_sheet;
  })

-- the promise of examine
unfoldable pub ExaminedBy : math.Option Cause → List ℕ → List ℕ → ℕ → List ℕ → List ℕ → Result Examined Cause → List ℕ → List ℕ → Type 0
ExaminedBy none old new most ws space r ws' space' = Examines old new most ws space r ws' space'
ExaminedBy (some x) old new most ws space r ws' space' = (r ≡ Err x) × ((ws' ≡ ws) × (space' ≡ space))

abbrev pub ExaminePromise : List ℕ → List ℕ → ℕ → List ℕ → List ℕ → Result Examined Cause → List ℕ → List ℕ → Type 0
ExaminePromise old new most ws space r ws' space' =
    ExaminedBy (compare_refusal old new (length ws) (length space)) old new most ws space r ws' space'
