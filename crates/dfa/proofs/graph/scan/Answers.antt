-- What `scan` gives is what `δ` says, case by case.
use Rattle.dfa.proofs.laws.Scan.{scan-hit, scan-again, scan-last}
use Rattle.dfa.proofs.graph.scan.Goals as goal

pub returns-then-at-m : goal.returns-then-at-m
returns-then-at-m c = scan-hit _ _ _ _ _ _ _ _ c.loop-i.invariant c.loop-i-test.true c.at.ensures c.if-at-m.true
    c.at-then-at-m.ensures

pub loop-i-preserved : goal.loop-i-preserved
loop-i-preserved c = scan-again _ _ _ _ _ _ _ c.loop-i.invariant c.loop-i-test.true
    c.at.ensures c.if-at-m.false

pub returns : goal.returns
returns c = scan-last _ _ _ _ _ _ c.loop-i.invariant c.loop-i-test.false
