-- What the path that is kept says of a state that waits.
use Rattle.std.specs.Prelude.{◌≡◌, List, ℕ, ◌≤◌, ◌<◌}
use Rattle.language.specs.declared.Numbers.{Numbers}
use Rattle.states_positions.specs.declared.Move.{Move}
use Rattle.states_positions.specs.declared.Out.TheVariants.{Exit}
use Rattle.states_positions.specs.MoveKind.{OPENING}
use Rattle.states_positions.specs.Row.{name_id}
use Rattle.states_path.specs.declared.Site.{Site}
use Rattle.states_path.specs.States.{sheet_at, target_of}
use Rattle.states_path.specs.Path.{rise_all}
use Rattle.states_path.specs.Levels.{frames_of, Sound}
use Rattle.states_path.specs.Kept.{wait_at}
use Rattle.states_words.specs.declared.Wait.{Wait}

-- what the one a state waits for says, the path says of the state
pub record Listening (t : List ℕ) (N : Numbers) (root : ℕ) (p : List ℕ) (c : ℕ) (e : Wait) : Type 0 where
  pub sound : Sound p c
  pub hears : (m : Move) → sheet_at t N root e.state m ≡
      rise_all N (frames_of p c) (wait_at t root e.state e.at e.kind e.value e.count m)
  pub first : e.state ≡ 0 → e.kind ≡ OPENING
  pub named : (e.kind ≡ OPENING → ⊥) → e.id ≡ name_id t e.at

-- a state that waits for a name, not for the first question
abbrev pub Calling : Wait → Type 0
Calling e = e.kind ≡ OPENING → ⊥

-- a number of arguments that the name for which a state waits may ask, and one of these
pub record Arguments (e : Wait) (count : ℕ) : Type 0 where
  pub calls : Calling e
  pub within : count ≤ e.count

pub record Argument (e : Wait) (arg : ℕ) : Type 0 where
  pub within : Arguments e arg
  pub some : 0 < arg

-- an answer below the limit of the name that a state waits for is an exit of the innermost level
pub record Answering (t : List ℕ) (N : Numbers) (s : Site) (p : List ℕ) (c : ℕ) (e : Wait) (kind below : ℕ) : Type 0
  where
    pub sound : Sound p c
    pub exits : (v : ℕ) → v < below →
        target_of s (sheet_at t N s.root e.state (record { kind = kind; id = e.id; arg = 0; value = v })) ≡
        target_of s (rise_all N (frames_of p c) (Exit kind v 0 0))
