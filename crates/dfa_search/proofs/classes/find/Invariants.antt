use mathlib.Core.Path.{◌≡◌}
use lib.ListN.{get_or}
use Rattle.dfa_search.specs.Classes.{Finding}
use Rattle.dfa_search.proofs.classes.find.Given as goal

abbrev pub invariant-loop-p : goal.invariant-loop-p
invariant-loop-p l = Finding l.x l.initial.work l.work l.y × (l.p ≡ get_or l.work l.y 0)

abbrev pub decreases-loop-p : goal.decreases-loop-p
decreases-loop-p l = l.y
