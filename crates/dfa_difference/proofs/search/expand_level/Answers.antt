-- `expand_level` keeps what `Leveled` says.
use mathlib.Core.Path.{sym, ◌∙◌}
use Rattle.dfa_difference.proofs.laws.Search.{level-again, level-on}
use Rattle.dfa_difference.proofs.laws.Search.{level-told}
use Rattle.dfa_difference.proofs.search.expand_level.Goals as goal

pub returns-then-not-alike_at : goal.returns-then-not-alike_at
returns-then-not-alike_at c = (
  level-told _ _ _ _ _ _ _ c.loop-head.invariant c.loop-head-test.true
      (sym c.alike_at.ensures ∙ c.if-not-alike_at.true),
  c.loop-head.invariant.graph,
)

pub expand-tail-requires : goal.expand-tail-requires
expand-tail-requires c = (
  c.loop-head.invariant.set_at,
  level-on _ _ _ _ _ _ _ c.loop-head.invariant c.loop-head-test.true c.requires.1.1
      (sym c.alike_at.ensures ∙ c.if-not-alike_at.false),
)

pub loop-head-preserved : goal.loop-head-preserved
loop-head-preserved c = level-again _ _ _ _ _ _ _ c.loop-head.invariant c.loop-head-test.true _ _ c.expand-tail.auto.words c.expand-tail.ensures
