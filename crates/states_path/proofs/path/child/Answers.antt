-- What `child` gives is what `child_of` says, case by case.
use Rattle.states_path.proofs.PathCode.{child-is}
use Rattle.states_path.proofs.Steady.{small_word}
use native.Mathlib.Omega.{arith}
use Rattle.states_path.proofs.path.child.Goals as goal

pub overflow_add-base-2 : goal.overflow_add-base-2
overflow_add-base-2 c = omega (arith, c.cell.ensures, small_word c.args.t.now c.requires.term_rows.1 c.args.part 1, c.requires.sound.1.0, c.requires.sound.1.1, c.start_at.ensures)

pub returns : goal.returns
returns c = child-is _ _ _ _ _ _ _ _ _ _ _ _ _ _ _ c.start_at.ensures c.cell.ensures c.stop_at.ensures c.until-end.ensures c.innermost-outer.ensures c.up_with-up.ensures
