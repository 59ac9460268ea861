-- Each rule has its own detail.
use borrow.Author.Rules.{rules}
use Rattle.sheet_rows.specs.Row.{detail}
use Rattle.sheet_rows.proofs.row.detail_of.Goals as goal

pub returns-in-Skip : goal.returns-in-Skip
unfolding detail
returns-in-Skip c = simp c.in-Skip.is

pub returns-in-Diverge : goal.returns-in-Diverge
unfolding detail
returns-in-Diverge c = simp c.in-Diverge.is

pub returns-in-Truth : goal.returns-in-Truth
unfolding detail
returns-in-Truth c = simp c.in-Truth.is

pub returns-in-Number : goal.returns-in-Number
unfolding detail
returns-in-Number c = simp (c.in-Number.is, ← c.code_of_byte.ensures)

pub returns-in-Use : goal.returns-in-Use
unfolding detail
returns-in-Use c = simp (c.in-Use.is, ← c.use_detail.ensures)

pub returns-in-Fetch : goal.returns-in-Fetch
unfolding detail
returns-in-Fetch c = simp c.in-Fetch.is

pub returns-in-Operate : goal.returns-in-Operate
unfolding detail
returns-in-Operate c = simp c.in-Operate.is

pub returns-in-Assign : goal.returns-in-Assign
unfolding detail
returns-in-Assign c = simp c.in-Assign.is

pub returns-in-Sequence : goal.returns-in-Sequence
unfolding detail
returns-in-Sequence c = simp c.in-Sequence.is

pub returns-in-If : goal.returns-in-If
unfolding detail
returns-in-If c = simp c.in-If.is

pub returns-in-While : goal.returns-in-While
unfolding detail
returns-in-While c = simp c.in-While.is

pub returns-in-New : goal.returns-in-New
unfolding detail
returns-in-New c = simp (c.in-New.is, ← c.values_of.ensures.0)

pub returns-in-Procedure : goal.returns-in-Procedure
unfolding detail
returns-in-Procedure c = simp c.in-Procedure.is
