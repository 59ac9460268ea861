use Rattle.sheet_judge.proofs.mark.+declared_from.Given as goal

-- how many records are still looked at falls
abbrev pub decreases-declared_from : goal.decreases-declared_from
decreases-declared_from l = l.left
