-- The figure by whether Z is above 7.
use native.Mathlib.Omega.{arith}
use mathlib.Core.Path.{sym}
use Rattle.serve_conditions.proofs.Figures.{old-figure, new-figure}
use Rattle.serve_conditions.proofs.lent.words_asked.Goals as goal

pub returns-then-n-gt-EARLIER_Z : goal.returns-then-n-gt-EARLIER_Z
returns-then-n-gt-EARLIER_Z c = sym (new-figure _ _ (omega (arith, c.if-n-gt-EARLIER_Z.true)))

pub returns : goal.returns
returns c = sym (old-figure _ _ (omega (arith, c.if-n-gt-EARLIER_Z.false)))
