-- What it means that the step at a number shows the machine's step.
use Rattle.std.specs.Prelude.{◌≡◌, ◌⊎◌, List, [], ◌∷◌, ℕ, suc, ◌+◌, ◌<◌, get_or, eqb}
use Rattle.language.specs.Choice.{pick}
use Rattle.language.specs.Ty.{Ty, Question, run, ask, read, write, Answer, done, ok, value}
use Rattle.language.specs.Move.{Event, question, answer, at, private, Move, move}
use Rattle.language.specs.Term.{Term, Often, Args, name}
use Rattle.language.specs.declared.Numbers.{Numbers}
use Rattle.states_machine.specs.Action.{Next, to, out, dead, Heard, Listen, calling, Hears, Action, go, say, hear}
use Rattle.states_machine.specs.Edge.{edge_hear}
use Rattle.states_machine.specs.Position.{Context, Store, types, State, Exit as ExitOf, StateArgs, ExitArgs}
use Rattle.states_machine.specs.Numbering.{numbered, numbered_args, numbered_replies}
use Rattle.sheet_rows.specs.Rep.{count, Rep}
use Rattle.states_positions.specs.Row.{SHORTS, Long}
use Rattle.states_positions.specs.declared.Move.{Move as Record}
use Rattle.states_positions.specs.MoveKind.{RUN, DONE, ASK, READ, OK, VALUE, WRITE, NO-MOVE}
use Rattle.states_names.specs.Name.{no_move}
use Rattle.states_positions.specs.declared.Out.{Out as Did}
use Rattle.states_positions.specs.declared.Out.TheVariants.{Go, Exit, Say, Hear, Stuck}

-- the kind and the value of a question, and of an answer
unfoldable pub kind_q : Question → ℕ
kind_q run = RUN
kind_q ask = ASK
kind_q read = READ
kind_q (write v) = WRITE

unfoldable pub value_q : Question → ℕ
value_q run = 0
value_q ask = 0
value_q read = 0
value_q (write v) = v

unfoldable pub kind_a : Answer → ℕ
kind_a done = DONE
kind_a ok = OK
kind_a (value v) = VALUE

unfoldable pub value_a : Answer → ℕ
value_a done = 0
value_a ok = 0
value_a (value v) = v

-- a move as the code has it
unfoldable pub move_of : Move → Record
move_of (move (at i j) (question q)) = record { kind = kind_q q; id = i; arg = j; value = value_q q }
move_of (move (at i j) (answer a)) = record { kind = kind_a a; id = i; arg = j; value = value_a a }
move_of (move (private i) e) = no_move

-- what is given: nothing, or a move at a place
abbrev pub GivenMove : Record → Type 0
GivenMove m = (m.kind ≡ NO-MOVE) ⊎ ((i : ℕ) × (j : ℕ) × (e : Event) × (m ≡ move_of (move (at i j) e)))

-- every word of the table is a word of 16 bits
abbrev pub Words : List ℕ → Type 0
Words t = (i : ℕ) → get_or t i 0 < SHORTS

-- the rows of a term as the code has them: all their words, each of 16 bits
abbrev pub TermRows : List ℕ → Type 0
TermRows t = Long t × Words t

-- the values of a store, the innermost first
unfoldable pub stored : (n : Context) → Store n → List ℕ
stored [] σ = []
stored (m ∷ n) σ = σ.0.0 ∷ stored n σ.1

-- the variables of the enclosing blocks, the innermost first: the row of the block's new, and the value
abbrev pub Variables : Type 0
Variables = List (ℕ × ℕ)

-- the variables of a store, by the rows of the blocks
unfoldable pub held : List ℕ → (n : Context) → Store n → Variables
held rs [] σ = []
held [] (m ∷ n) σ = (0, σ.0.0) ∷ held [] n σ.1
held (r ∷ rs) (m ∷ n) σ = (r, σ.0.0) ∷ held rs n σ.1

-- their values
unfoldable pub valued : Variables → List ℕ
valued [] = []
valued (v ∷ vs) = v.1 ∷ valued vs

-- the values with u at the innermost variable of the row b - 1, and unchanged where b is 0
unfoldable pub updated : Variables → ℕ → ℕ → List ℕ
updated [] b u = []
updated (v ∷ vs) b u = pick (eqb b (suc v.0)) (u ∷ valued vs) (v.1 ∷ updated vs b u)

-- the code holds the values, each at its row
unfoldable pub HeldStore : (ℕ → ℕ) → Variables → Type 0
HeldStore s [] = Unit
HeldStore s (v ∷ vs) = (s v.0 ≡ v.1) × HeldStore s vs

-- the steps of a term M in a context, from a state whose variables have the values vs
module _ (n : Context) (M : Term) (vs : Variables) where
  -- a silent step, an exit, or none: the position and the answer by number, and the variable that is written
  unfoldable pub ShowsNext : Next (State n M) (ExitOf n) → Did → Type 0
  ShowsNext (to s) o = (l : ℕ) × (u : ℕ) × (o ≡ Go ((numbered M).code s.1) l u) × (stored n s.0 ≡ updated vs l u)
  ShowsNext (out e) o = (l : ℕ) × (u : ℕ) × (o ≡ Exit (kind_a e.1) (value_a e.1) l u)
      × (stored n e.0 ≡ updated vs l u)
  ShowsNext dead o = o ≡ Stuck

  -- a move that is said, which writes no variable
  unfoldable pub ShowsSaid : Move → Next (State n M) (ExitOf n) → Did → Type 0
  ShowsSaid x (to s) o = (o ≡ Say (move_of x) ((numbered M).code s.1)) × (stored n s.0 ≡ valued vs)
  ShowsSaid x (out e) o = ⊥
  ShowsSaid x dead o = ⊥

-- the arguments that a name may ask, by their types and their number: all of them, or none after the one question
pub data Takes (args : Args) : List Ty → ℕ → Type 0 where
  takes_all : Takes args (types args) (count args)
  takes_none : Takes args [] 0

-- whom a position waits for: the name at a place of the table, which has been asked the question of this kind and
-- value and may ask so many arguments
pub record Awaits (K : Numbers) (t : List ℕ) (l : Listen) (node kind value number : ℕ) : Type 0 where
  pub left : ℕ
  pub rows : List ℕ
  pub within : Context
  pub id : ℕ
  pub often : Often
  pub result : Ty
  pub args : Args
  pub part : Rep K t left node rows within (name id often result args) result
  pub asked : Question
  pub asks : List Ty
  pub takes : Takes args asks number
  pub listens : l ≡ calling id asks result asked
  pub kinded : kind ≡ kind_q asked
  pub valued : value ≡ value_q asked

module _ (K : Numbers) (t : List ℕ) (n : Context) (M : Term) (vs : Variables) where
  -- a wait: where no move is given the step says whom it waits for, and where one is given it shows what follows
  -- the move
  pub data ShowsHeard (m : Record) (l : Listen) (k : (r : Heard) → Hears l r → Next (State n M) (ExitOf n))
      (o : Did) : Type 0 where
    waits : {node q x c : ℕ} → m.kind ≡ NO-MOVE → Awaits K t l node q x c → o ≡ Hear node q x c → ShowsHeard m l k o
    leads : (i j : ℕ) (e : Event) → m ≡ move_of (move (at i j) e) →
        ShowsNext n M vs (edge_hear l k (move (at i j) e)) o → ShowsHeard m l k o

  unfoldable pub Shows : Record → Action (State n M) (ExitOf n) → Did → Type 0
  Shows m (go x) o = ShowsNext n M vs x o
  Shows m (say y x) o = ShowsSaid n M vs y x o
  Shows m (hear l k) o = ShowsHeard m l k o

-- the same for the arguments of a name, whose positions begin at base and whose replies at after
module _ (n : Context) (args : Args) (base after : ℕ) (vs : Variables) where
  unfoldable pub ArgsNext : Next (StateArgs n args) (ExitArgs n (types args)) → Did → Type 0
  ArgsNext (to s) o = (l : ℕ) × (u : ℕ) × (o ≡ Go (base + (numbered_args args).code s.1) l u)
      × (stored n s.0 ≡ updated vs l u)
  ArgsNext (out e) o = (l : ℕ) × (u : ℕ) × (o ≡ Go (after + (numbered_replies (types args)).code e.1) l u)
      × (stored n e.0 ≡ updated vs l u)
  ArgsNext dead o = o ≡ Stuck

  unfoldable pub ArgsSaid : Move → Next (StateArgs n args) (ExitArgs n (types args)) → Did → Type 0
  ArgsSaid x (to s) o = (o ≡ Say (move_of x) (base + (numbered_args args).code s.1)) × (stored n s.0 ≡ valued vs)
  ArgsSaid x (out e) o = ⊥
  ArgsSaid x dead o = ⊥

module _ (K : Numbers) (t : List ℕ) (n : Context) (args : Args) (base after : ℕ) (vs : Variables) where
  pub data ArgsHeard (m : Record) (l : Listen)
      (k : (r : Heard) → Hears l r → Next (StateArgs n args) (ExitArgs n (types args))) (o : Did) : Type 0 where
    a_waits : {node q x c : ℕ} → m.kind ≡ NO-MOVE → Awaits K t l node q x c → o ≡ Hear node q x c → ArgsHeard m l k o
    a_leads : (i j : ℕ) (e : Event) → m ≡ move_of (move (at i j) e) →
        ArgsNext n args base after vs (edge_hear l k (move (at i j) e)) o → ArgsHeard m l k o

  unfoldable pub ArgsShow : Record → Action (StateArgs n args) (ExitArgs n (types args)) → Did → Type 0
  ArgsShow m (go x) o = ArgsNext n args base after vs x o
  ArgsShow m (say y x) o = ArgsSaid n args base after vs y x o
  ArgsShow m (hear l k) o = ArgsHeard m l k o
