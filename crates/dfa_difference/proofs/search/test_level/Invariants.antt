use Rattle.dfa_difference.specs.inner.Search.{Testing}
use Rattle.dfa_difference.proofs.search.test_level.Given as goal

abbrev pub invariant-loop-head : goal.invariant-loop-head
invariant-loop-head l = Testing l.t l.from l.words l.head
