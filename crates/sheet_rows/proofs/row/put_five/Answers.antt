-- With one test, or word by word.
use borrow.Author.Rules.{rules}
use native.Mathlib.Omega.{arith}
use Rattle.sheet_rows.proofs.RowSteps.{cell-next}
use Rattle.sheet_rows.proofs.row.put_five.Goals as goal

pub put_words-requires : goal.put_words-requires
put_words-requires c =
    omega (
      arith,
      c.cell_at.ensures,
      c.cell_at-then-cell_at-t.ensures,
      c.if-cell_at-t.true,
      cell-next c.args.place 4,
    )

pub returns-then-cell_at-t : goal.returns-then-cell_at-t
returns-then-cell_at-t c = rw (← c.cell_at-then-cell_at-t.ensures) c.put_words.ensures

pub returns : goal.returns
returns c = c.put_each.ensures
