-- A row of a private variable is one word.
use Rattle.std.proofs.Common.{arith}
use Rattle.states_path.proofs.Steady.{small_word}
use Rattle.states_path.proofs.path.private_at.Goals as goal

pub value_at-requires : goal.value_at-requires
value_at-requires c = (
  c.requires.sound,
  omega (arith, c.cell-row.ensures, small_word c.args.t.now c.requires.term_rows.1 c.args.at 4),
)
