-- The control points of a term, by recursion on the term, and the states of its machine.
use Rattle.std.specs.Prelude.{◌⊎◌, List, [], ◌∷◌, ℕ}
use Rattle.std.proofs.Common.{inl}
use Rattle.language.specs.Ty.{Ty, Question, Answer, Fits, Answers}
use Rattle.language.specs.Term.{Term, skip, diverge, const, private, name, fetch, operate, assign, seq}
use Rattle.language.specs.Term.{while, cond, new, Often, freely, once, Args, no_args, arg}
use Rattle.language.specs.Play.{Val}
use Rattle.states_machine.specs.Action.{AnswersAt}

-- how many values the variable of each enclosing block has, the innermost first
abbrev pub Context : Type 0
Context = List ℕ

-- the values of those variables
abbrev pub Store : Context → Type 0
Store [] = Unit
Store (m ∷ n) = Val m × Store n

-- a question of a type
abbrev pub QuestionOf : Ty → Type 0
QuestionOf T = (q : Question) × Fits T q

-- a question of a type with an answer to it
abbrev pub AnswerOf : Ty → Type 0
AnswerOf T = (q : Question) × (a : Answer) × Answers T q a

-- an argument, counted from 0, a question to it and an answer
abbrev pub Reply : List Ty → Type 0
Reply Ts = (j : ℕ) × (q : Question) × (a : Answer) × AnswersAt Ts j q a

-- the types of the arguments
unfoldable pub types : Args → List Ty
types no_args = []
types (arg T M args) = T ∷ types args

-- the second wait of a name that asks once: its question has been answered
abbrev pub Spent : Often → Type 0
Spent freely = ⊥
Spent once = Unit

-- at a name: about to ask it, waiting for its move, waiting for its answer alone, in an argument, about to give an
-- argument's answer
pub data AtName (S X Y : Type 0) : Type 0 where
  start wait : AtName S X Y
  spent : S → AtName S X Y
  within : X → AtName S X Y
  reply : Y → AtName S X Y

-- Positions. One copy of a part for each value that has to be remembered: of a left operand, of an assigned value, of a
-- block's variable, and of the question to an argument.
abbrev mutual
  pub Position : Term → Type 0
  Position skip = Unit
  Position diverge = Unit
  Position (const v) = Unit
  Position (private i) = Unit {0} ⊎ Unit {0}
  Position (name i o T args) = AtName (Spent o) (PositionArgs args) (Reply (types args))
  Position (fetch X) = Position X
  Position (operate m o L R) = Position L ⊎ (Val m × Position R)
  Position (assign m X E) = Position E ⊎ (Val m × Position X)
  Position (seq C M) = Position C ⊎ Position M
  Position (while B C) = Position B ⊎ Position C
  Position (cond B M N) = Position B ⊎ (Position M ⊎ Position N)
  Position (new m h C) = Val m × Position C

  pub PositionArgs : Args → Type 0
  PositionArgs no_args = ⊥
  PositionArgs (arg T M args) = (QuestionOf T × Position M) ⊎ PositionArgs args

-- where a term begins; a private variable starts at 0
unfoldable pub entry : (M : Term) → Position M
entry skip = tt
entry diverge = tt
entry (const v) = tt
entry (private i) = inl tt
entry (name i o T args) = start
entry (fetch X) = entry X
entry (operate m o L R) = inl (entry L)
entry (assign m X E) = inl (entry E)
entry (seq C M) = inl (entry C)
entry (while B C) = inl (entry B)
entry (cond B M N) = inl (entry B)
entry (new m h C) = ((0, h), entry C)

-- a state of a term in a context
abbrev pub State : Context → Term → Type 0
State n M = Store n × Position M

-- how a term exits: the store and the answer
abbrev pub Exit : Context → Type 0
Exit n = Store n × Answer

-- a state of a name's arguments
abbrev pub StateArgs : Context → Args → Type 0
StateArgs n args = Store n × PositionArgs args

-- how an argument exits: the store and the reply
abbrev pub ExitArgs : Context → List Ty → Type 0
ExitArgs n Ts = Store n × Reply Ts
