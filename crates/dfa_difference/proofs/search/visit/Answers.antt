-- `visit` keeps what `Visited` says.
use native.Mathlib.Numerals.{add-one}
use Rattle.dfa_difference.proofs.laws.Queue.{visit-same, visit-new}
use Rattle.dfa_difference.proofs.search.visit.Goals as goal

pub returns-then-a-b : goal.returns-then-a-b
returns-then-a-b c = let a = c.find-a.ensures _
    c.requires.0
    c.requires.1.1.1.1.0 in
    visit-same _ _ _ _ _ _ _ _ _ _ _ a (c.find-b.ensures _ a.low
    c.requires.1.1.1.1.1)
    c.if-a-b.true

pub returns : goal.returns
returns c = let a = c.find-a.ensures _
    c.requires.0
    c.requires.1.1.1.1.0 in
    rw add-one (visit-new _ _ _ _ _ _ _ _ _ _ _ a
    (c.find-b.ensures _
    a.low c.requires.1.1.1.1.1)
    c.requires.1.0
    c.requires.1.1.0 _ _
    c.if-a-b.false
    c.link.ensures c.push.ensures)
