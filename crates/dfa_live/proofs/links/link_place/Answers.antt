-- Before the graph or behind it.
use borrow.Author.Tests.{lt-ltb, le-ltb}
use Rattle.dfa_live.specs.inner.Links.{link_place}
use Rattle.dfa_live.proofs.links.link_place.Goals as goal

pub returns-then-e-n : goal.returns-then-e-n
unfolding link_place
returns-then-e-n c = rw (lt-ltb _ _ c.if-e-n.true)

pub returns : goal.returns
unfolding link_place
returns c = rw (le-ltb _ _ c.if-e-n.false)
