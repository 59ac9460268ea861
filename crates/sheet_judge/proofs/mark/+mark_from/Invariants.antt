use Rattle.sheet_judge.proofs.mark.+mark_from.Given as goal

-- how many records are still looked at falls
abbrev pub decreases-mark_from : goal.decreases-mark_from
decreases-mark_from l = l.left
