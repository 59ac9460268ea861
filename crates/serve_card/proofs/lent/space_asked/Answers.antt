-- The figure by whether Z is above 7.
use native.Mathlib.Omega.{arith}
use mathlib.Core.Path.{sym}
use borrow.Author.Rules.{rules}
use Rattle.serve_card.proofs.Length.{space-few, space-more}
use Rattle.serve_card.proofs.lent.space_asked.Goals as goal

pub returns-then-n-gt-EARLIER_Z : goal.returns-then-n-gt-EARLIER_Z
returns-then-n-gt-EARLIER_Z c = sym (space-more _ _ (omega (arith, c.if-n-gt-EARLIER_Z.true)))

pub returns : goal.returns
returns c = sym (space-few _ _ (omega (arith, c.if-n-gt-EARLIER_Z.false)))
