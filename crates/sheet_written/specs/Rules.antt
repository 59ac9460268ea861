-- What document 02 [1] says of procedures, as statements.
use Rattle.std.specs.Prelude.{ℕ, ◌≤◌, ◌≡◌, ◌↔◌, List, [], ◌∷◌, length}
use Rattle.std.proofs.Math.Option.{Option}
use Rattle.language.specs.Move.{Word}
use Rattle.language.specs.Weight.{weight}
use Rattle.language.specs.declared.Numbers.{Numbers}
use Rattle.sheet_written.specs.Written.{Written, call, procedure, Parameter, Writtens, Name, Sheet}
use Rattle.sheet_written.specs.Meaning.{Binder, inside, after, typed, term_of, type_of, CompletePlay, a_block, routine}
use Rattle.sheet_written.specs.Fine.{WellFormed}
use Rattle.sheet_written.specs.Weigh.{Weights, weigh, weighed, weigh_sheet, with-body, with_passed}
use Rattle.sheet_written.specs.Form.{no_forms}
use Rattle.sheet_written.specs.Playing.{CompleteIn}
use Rattle.sheet_written.specs.Shared.{Row, Rep, Fresh}
use Rattle.sheet_written.specs.Expand.{Expansion}
use Rattle.sheet_written.specs.Exchange.{Exchanged}
use Rattle.sheet_written.specs.LeaveOut.{LeftOut}
use Rattle.sheet_written.specs.Meaning.{meaning, types_of}

-- what the binders weigh in the second term of a procedure
unfoldable pub weights_after : Numbers → List Name → List Binder → Weights → List Parameter → Written → Weights
weights_after N ns bs ω ps body =
    with-body (length bs) (λ xs. weigh N ns (inside ps bs) (with_passed (length bs) xs ω) body) ω

-- the binders around a place in the scope of others, and what they weigh there
pub data Reaches (N : Numbers) (ns : List Name) (bs : List Binder) (ω : Weights) : List Binder → Weights → Type 0 where
  here : Reaches N ns bs ω bs ω
  -- in the block of a new
  in_block : {cs : List Binder} {ψ : Weights} (id d : ℕ) → Reaches N ns bs ω cs ψ →
      Reaches N ns bs ω (a_block id d ∷ cs) ψ
  -- in the first term of a procedure, whose parameters weigh what some use gives them
  in_procedure : {cs : List Binder} {ψ : Weights} (ps : List Parameter) (xs : ℕ → ℕ) → Reaches N ns bs ω cs ψ →
      Reaches N ns bs ω (inside ps cs) (with_passed (length cs) xs ψ)
  -- in its second term
  in_scope : {cs : List Binder} {ψ : Weights} (id ty : ℕ) (ps : List Parameter) (body : Written) →
      Reaches N ns bs ω cs ψ → Reaches N ns bs ω (after id ty ps cs) (weights_after N ns cs ψ ps body)

pub record WeightRule : Type 0 where
  -- "The weight of a use is that of the procedure's term with each parameter weighing what its argument weighs": of
  -- every use that means the procedure, wherever it stands in its scope; the arguments weigh what they do there
  pub use_weighs : (N : Numbers) (ns : List Name) (bs cs : List Binder) (ω ψ : Weights) (id ty : ℕ)
      (ps : List Parameter) (body : Written) (ws : Writtens) →
      Reaches N ns (after id ty ps bs) (weights_after N ns bs ω ps body) cs ψ →
      meaning ns cs id ≡ routine (length bs) ty (types_of ps) →
      weigh N ns cs ψ (call id ws)
      ≡ weigh N ns (inside ps bs) (with_passed (length bs) (λ j. weighed N ns cs ψ ws j) ω) body
  -- "and kind 28 itself has the type of its second term and weighs what that weighs"
  pub scope_weighs : (N : Numbers) (ns : List Name) (bs : List Binder) (ω : Weights) (id ty : ℕ) (ps : List Parameter)
      (body rest : Written) →
      weigh N ns bs ω (procedure id ty ps body rest) ≡ weigh N ns (after id ty ps bs) (weights_after N ns bs ω ps body)
      rest
  pub scope_type : (ns : List Name) (bs : List Binder) (id ty : ℕ) (ps : List Parameter) (body rest : Written) →
      typed ns bs (procedure id ty ps body rest) ≡ typed ns (after id ty ps bs) rest
  -- the weight so reckoned is the weight of the let-free term
  pub term_weighs : (S : Sheet) → weight (term_of S) ≡ weigh_sheet S

-- "The meaning is section 7 of document 001": the plays in an environment of plays are the plays of the let-free term
unfoldable pub SectionSeven : Type 0
SectionSeven = (S : Sheet) (u : Word) → CompleteIn S u ↔ CompletePlay S u

-- two sheets of the same type, with the same plays and the same weight
pub record SameSheets (S T : Sheet) : Type 0 where
  pub same_type : type_of S ≡ type_of T
  pub same_plays : (u : Word) → CompleteIn S u ↔ CompleteIn T u
  pub same_weight : weigh_sheet S ≡ weigh_sheet T

-- a sheet with another term
unfoldable pub with_term : Sheet → Written → Sheet
with_term S W = record { numbers = S.numbers; names = S.names; term = W }

-- a procedure that is not used may be left out
unfoldable pub UnusedProcedure : Type 0
UnusedProcedure = (S : Sheet) (W : Written) → LeftOut S.term W → SameSheets S (with_term S W)

-- an argument that is not used may be any other
unfoldable pub UnusedArgument : Type 0
UnusedArgument =
    (S : Sheet) (W : Written) → Exchanged S.numbers S.names [] no_forms S.term W → SameSheets S (with_term S W)

-- the row to which a sheet is expanded represents its term; on every path the row of a new stands once
unfoldable pub RowsRepresent : Type 0
RowsRepresent = (S : Sheet) (R : ℕ → Option Row) (r n : ℕ) → Expansion S R r n → Rep R Fresh [] r (term_of S)

-- an accepted sheet has an expansion, and at most 12,288 rows
pub record Exists (S : Sheet) : Type 0 where
  pub rows : ℕ → Option Row
  pub row : ℕ
  pub count : ℕ
  pub expansion : Expansion S rows row count

-- the expansion of an accepted sheet has at most 12,288 rows
unfoldable pub FewRows : Type 0
FewRows = (S : Sheet) (R : ℕ → Option Row) (r n : ℕ) → WellFormed S → Expansion S R r n → n ≤ 12288
