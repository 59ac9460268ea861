-- 18 for a constant, of a use by its standing, else the kind.
use borrow.Author.Rules.{rules}
use Rattle.sheet_rows.specs.Row.{row_kind}
use Rattle.sheet_rows.proofs.row.row_kind.Goals as goal

pub returns-in-Skip : goal.returns-in-Skip
unfolding row_kind
returns-in-Skip c = simp c.in-Skip.is

pub returns-in-Diverge : goal.returns-in-Diverge
unfolding row_kind
returns-in-Diverge c = simp c.in-Diverge.is

pub returns-in-Truth : goal.returns-in-Truth
unfolding row_kind
returns-in-Truth c = simp c.in-Truth.is

pub returns-in-Number : goal.returns-in-Number
unfolding row_kind
returns-in-Number c = simp c.in-Number.is

pub returns-in-Use : goal.returns-in-Use
unfolding row_kind
returns-in-Use c = simp (c.in-Use.is, ← c.use_kind.ensures)

pub returns-in-Fetch : goal.returns-in-Fetch
unfolding row_kind
returns-in-Fetch c = simp c.in-Fetch.is

pub returns-in-Operate : goal.returns-in-Operate
unfolding row_kind
returns-in-Operate c = simp c.in-Operate.is

pub returns-in-Assign : goal.returns-in-Assign
unfolding row_kind
returns-in-Assign c = simp c.in-Assign.is

pub returns-in-Sequence : goal.returns-in-Sequence
unfolding row_kind
returns-in-Sequence c = simp c.in-Sequence.is

pub returns-in-If : goal.returns-in-If
unfolding row_kind
returns-in-If c = simp c.in-If.is

pub returns-in-While : goal.returns-in-While
unfolding row_kind
returns-in-While c = simp c.in-While.is

pub returns-in-New : goal.returns-in-New
unfolding row_kind
returns-in-New c = simp c.in-New.is

pub returns-in-Procedure : goal.returns-in-Procedure
unfolding row_kind
returns-in-Procedure c = simp c.in-Procedure.is
