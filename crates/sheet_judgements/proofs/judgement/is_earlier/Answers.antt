-- The earlier parameters, the last one first.
use Rattle.sheet_judgements.proofs.JudgeLaws.{earlier-met, earlier-again, earlier-none}
use Rattle.sheet_judgements.proofs.judgement.is_earlier.Goals as goal

pub returns-then-get_or-id : goal.returns-then-get_or-id
returns-then-get_or-id c =
    earlier-met _ _ _ _ _ _ c.loop-i-test.true c.get_or.ensures c.if-get_or-id.true c.loop-i.invariant

pub loop-i-preserved : goal.loop-i-preserved
loop-i-preserved c =
    earlier-again _ _ _ _ _ _ c.loop-i-test.true c.get_or.ensures c.if-get_or-id.false c.loop-i.invariant

pub returns : goal.returns
returns c = earlier-none _ _ _ _ _ c.loop-i-test.false c.loop-i.invariant
