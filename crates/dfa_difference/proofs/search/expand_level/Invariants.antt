use Rattle.dfa_difference.specs.inner.Search.{Leveling}
use Rattle.dfa_difference.proofs.search.expand_level.Given as goal

abbrev pub invariant-loop-head : goal.invariant-loop-head
invariant-loop-head l = Leveling l.t l.from l.end l.initial.words l.words l.head l.tail
