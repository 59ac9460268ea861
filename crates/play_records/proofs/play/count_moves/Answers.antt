-- What `count_moves` gives is what `counted` says, case by case.
use Rattle.play_records.proofs.Counting.{count-again, count-unknown, count-short, count-last}
use Rattle.play_records.proofs.play.count_moves.Goals as goal

pub returns-then-w-eq0 : goal.returns-then-w-eq0
returns-then-w-eq0 c = count-unknown c.loop-at.invariant _ _ c.get_or.ensures c.width_of-w.ensures c.loop-at-test.true c.if-w-eq0.true

pub returns-then-play-at : goal.returns-then-play-at
returns-then-play-at c = count-short c.loop-at.invariant _ _ c.get_or.ensures c.width_of-w.ensures c.loop-at-test.true c.if-play-at.true

pub loop-at-preserved : goal.loop-at-preserved
loop-at-preserved c =
    count-again c.loop-at.invariant _ _ c.get_or.ensures c.width_of-w.ensures c.loop-at-test.true c.if-w-eq0.false c.if-play-at.false

pub returns : goal.returns
returns c = count-last c.loop-at.invariant c.loop-at-test.false
