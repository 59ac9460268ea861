use mathlib.Core.Path.{◌≡◌}
use Rattle.sheet_judgements.specs.Judge.{earlier}
use Rattle.sheet_judgements.proofs.judgement.is_earlier.Given as goal

abbrev pub invariant-loop-i : goal.invariant-loop-i
invariant-loop-i l = earlier l.s l.place l.j l.id ≡ earlier l.s l.place l.i l.id
