-- `test_level` keeps what `Outcome` says.
use mathlib.Core.Path.{sym, ◌∙◌}
use Rattle.dfa_difference.proofs.laws.Search.{test-same, test-told}
use Rattle.dfa_difference.proofs.search.test_level.Goals as goal

pub returns-then-not-alike_at : goal.returns-then-not-alike_at
returns-then-not-alike_at c = test-told _ _ _ _ c.requires.0 c.requires.1.0 c.requires.1.1 _ c.loop-head.invariant c.loop-head-test.true
    (sym c.alike_at.ensures ∙ c.if-not-alike_at.true)

pub returns : goal.returns
returns c = test-same _ _ _ _ c.requires.0 c.requires.1.0 c.requires.1.1 _ c.loop-head.invariant c.loop-head-test.false
