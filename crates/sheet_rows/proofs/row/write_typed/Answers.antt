-- The class and the number of values of the type.
use borrow.Author.Rules.{rules}
use mathlib.Core.Path.{◌∙◌}
use Rattle.sheet_rows.proofs.row.write_typed.Goals as goal

pub returns : goal.returns
returns c =
    c.put_five.ensures ∙ rw (c.class_of-class.ensures, c.values_of-values.ensures.0)
