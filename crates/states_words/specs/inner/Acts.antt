-- What it means that the code's answer at a state shows the machine's action there.
use Rattle.std.specs.Prelude.{◌≡◌, List, ℕ}
use Rattle.language.specs.declared.Numbers.{Numbers}
use Rattle.language.specs.Ty.{Ty}
use Rattle.language.specs.Move.{Event, at, Move, move}
use Rattle.states_machine.specs.Action.{Next, to, out, dead, Heard, Listen, opening, Hears, Action, go, say, hear}
use Rattle.states_machine.specs.Edge.{edge_hear}
use Rattle.states_machine.specs.Settle.{Index}
use Rattle.sheet_rows.specs.Rep.{TyRow}
use Rattle.states_positions.specs.declared.Move.{Move as Record}
use Rattle.states_positions.specs.declared.Out.{Out}
use Rattle.states_positions.specs.declared.Out.TheVariants.{Go, Say, Hear, Stuck}
use Rattle.states_positions.specs.MoveKind.{OPENING, NO-MOVE}
use Rattle.states_step.specs.walk.Shows.{move_of, Awaits}
use Rattle.states_path.specs.States.{WHOLE}

-- whom a state waits for: a name at a place of the table, or the asker of the whole term, which is at the root
pub data Waits (N : Numbers) (t : List ℕ) : Listen → ℕ → ℕ → ℕ → ℕ → Type 0 where
  calls : {l : Listen} {node q x c : ℕ} → Awaits N t l node q x c → Waits N t l node q x c
  opens : {T : Ty} {root : ℕ} → TyRow t root T → Waits N t (opening WHOLE T) root OPENING 0 0

-- where a silent step or a move that is heard leads
unfoldable pub Leads : {K : ℕ} → Next (Index K) (Unit {0}) → Out → Type 0
Leads (to s) o = (l : ℕ) × (u : ℕ) × (o ≡ Go s.0 l u)
Leads (out a) o = ⊥
Leads dead o = o ≡ Stuck

-- a move that is said; the end has the number K
unfoldable pub SaysMove : {K : ℕ} → Move → Next (Index K) (Unit {0}) → Out → Type 0
SaysMove m (to s) o = o ≡ Say (move_of m) s.0
SaysMove {K} m (out a) o = o ≡ Say (move_of m) K
SaysMove m dead o = ⊥

module _ (N : Numbers) (t : List ℕ) {K : ℕ} where
  -- a wait: where no move is given the state says whom it waits for, and where one is given it shows what follows it
  pub data Listens (m : Record) (l : Listen) (k : (r : Heard) → Hears l r → Next (Index K) (Unit {0})) (o : Out) :
      Type 0 where
    waits : {node q x c : ℕ} → m.kind ≡ NO-MOVE → Waits N t l node q x c → o ≡ Hear node q x c → Listens m l k o
    leads : (i j : ℕ) (e : Event) → m ≡ move_of (move (at i j) e) → Leads (edge_hear l k (move (at i j) e)) o →
        Listens m l k o

  unfoldable pub Acts : Record → Action (Index K) (Unit {0}) → Out → Type 0
  Acts m (go x) o = Leads x o
  Acts m (say y x) o = SaysMove y x o
  Acts m (hear l k) o = Listens m l k o
