-- The word at the place of the row, as a number.
use borrow.Author.Rules.{rules}
use native.Mathlib.Omega.{arith}
use mathlib.Core.Path.{◌∙◌}
use Rattle.sheet_rows.proofs.RowSteps.{word_read}
use Rattle.sheet_rows.proofs.row.word_of.Goals as goal

pub returns : goal.returns
returns c = (c.get_or.ensures ∙ word_read _ _ _, omega arith)
