-- Five stores within the table.
use borrow.Author.Rules.{rules}
use native.Mathlib.Omega.{arith}
use mathlib.Core.Path.{refl}
use lib.ListN.{length-set}
use Rattle.sheet_rows.specs.Row.{five_from}
use Rattle.sheet_rows.proofs.row.put_words.Goals as goal

pub bounds-t-at-2 : goal.bounds-t-at-2
bounds-t-at-2 c = simp length-set (omega arith)

pub bounds-t-at-3 : goal.bounds-t-at-3
bounds-t-at-3 c = simp length-set (omega arith)

pub bounds-t-at-4 : goal.bounds-t-at-4
bounds-t-at-4 c = simp length-set (omega arith)

pub bounds-t-at-5 : goal.bounds-t-at-5
bounds-t-at-5 c = simp length-set (omega arith)

pub returns : goal.returns
unfolding five_from
returns c = refl
