use Rattle.term_load.proofs.Copying.{Copied}
use Rattle.term_load.proofs.load.copy_marks.Given as goal

abbrev pub invariant-loop-i : goal.invariant-loop-i
invariant-loop-i l = Copied l.t l.marks l.i
