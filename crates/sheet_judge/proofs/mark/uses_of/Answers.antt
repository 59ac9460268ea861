-- The masks, how many bits are set, and the first that is wanting.
use Rattle.sheet_judge.specs.Masks.{uses_by}
use Rattle.sheet_judge.proofs.Masking.{uses-made}
use Rattle.sheet_judge.proofs.mark.uses_of.Goals as goal

pub returns : goal.returns
unfolding uses_by
returns c = uses-made _ _ c.mark_from-mark.ensures c.declared_from-declared.ensures
