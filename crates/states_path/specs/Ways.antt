-- How the values lead on that what is inside some frames exits with, where one frame tells it for all of them.
use Rattle.std.specs.Prelude.{List, ℕ, ◌+◌, eqb, ltb, leb}
use Rattle.language.specs.Choice.{pick}
use Rattle.language.specs.declared.Numbers.{Numbers}
use Rattle.states_positions.specs.declared.Frame.{Frame}
use Rattle.states_positions.specs.declared.Out.TheVariants.{Exit}
use Rattle.states_positions.specs.MoveKind.{VALUE}
use Rattle.states_positions.specs.Row.{SHORTS}
use Rattle.states_path.specs.declared.Site.{Site}
use Rattle.states_path.specs.declared.exits.Ways.{Ways}
use Rattle.states_path.specs.declared.exits.Ways.TheVariants.{Copies, Either, Each}
use Rattle.states_path.specs.Path.{rise_all}
use Rattle.states_path.specs.States.{target_of}

-- to copies that are b states apart, the first of them at the state a of a part that begins at the state `start`
unfoldable pub copies_of : ℕ → ℕ → ℕ → ℕ → Ways
copies_of first start a b =
    pick (ltb first SHORTS) (pick (ltb a SHORTS) (pick (ltb b SHORTS) (Copies (first + start + a) b) Each) Each) Each

-- a value that is not v
unfoldable pub other_than : ℕ → ℕ
other_than v = pick (eqb v 0) 1 0

-- where a value leads
unfoldable pub value_to : Numbers → Site → List Frame → ℕ → ℕ
value_to N s fs v = target_of s (rise_all N fs (Exit VALUE v 0 0))

-- to one state by the left operand of *equal*, and to one by every other
unfoldable pub either_of : Numbers → Site → List Frame → ℕ → Ways
either_of N s fs left =
    pick (leb SHORTS left) Each (Either left (value_to N s fs left) (value_to N s fs (other_than left)))
