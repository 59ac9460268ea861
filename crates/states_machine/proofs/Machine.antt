-- That the machine of a term plays exactly its plays: the statement, for a term and for a name's arguments.
use mathlib.Core.Logic.{◌↔◌}
use Prim.Native.Nat.{ℕ}
use Rattle.language.specs.Ty.{Question}
use Rattle.language.specs.Move.{Word}
use Rattle.language.specs.Term.{Term, Args}
use Rattle.language.specs.Play.{Plays, PlaysArg}
use Rattle.states_machine.specs.Action.{to, Action, FitsAt, AnswersAt}
use Rattle.states_machine.specs.Position.{Context, Store, types, entry, State, Exit, StateArgs, ExitArgs}
use Rattle.states_machine.specs.Step.{enter, step, step_args}
use Rattle.states_machine.proofs.Execution.{Rest, Reaches}
use Rattle.states_machine.proofs.Means.{Means}

-- the machine of a term that has been asked q
abbrev pub machine : (M : Term) (n : Context) → Question → State n M → Action (State n M) (Exit n)
machine M n q s = step M n q s.0 s.1

-- an execution from the entry is a play
abbrev pub Correct : Term → Type 1
Correct M = (n : Context) (q : Question) (σ : Store n) (w : Word) (P : Exit n → Rest) →
    Reaches (machine M n q) (to (σ, entry M)) w P ↔ Means n (Plays M q) σ w P

-- the machine of a name's arguments
abbrev pub machine_args : (args : Args) (n : Context) → StateArgs n args →
    Action (StateArgs n args) (ExitArgs n (types args))
machine_args args n s = step_args args n s.0 s.1

-- an execution from the entry of argument j is a play of it
abbrev pub CorrectArgs : Args → Type 1
CorrectArgs args = (n : Context) (j : ℕ) (q : Question) (σ : Store n) (w : Word) (P : ExitArgs n (types args) → Rest)
    (f : FitsAt (types args) j q) →
    Reaches (machine_args args n) (enter args n σ j q f) w P ↔
    Means n (PlaysArg args j q) σ w (λ e v. (h : AnswersAt (types args) j q e.1) × P (e.0, (j, q, e.1, h)) v)
