-- Each rule has its own row.
use Rattle.sheet_reader.proofs.Sums.{fetch-sum, sequence-sum, if-sum, while-sum, new-sum, other-sum}
use Rattle.sheet_reader.proofs.close.sum_row.Goals as goal

pub returns-in-Skip : goal.returns-in-Skip
returns-in-Skip c = other-sum _ _ _ _

pub returns-in-Diverge : goal.returns-in-Diverge
returns-in-Diverge c = other-sum _ _ _ _

pub returns-in-Truth : goal.returns-in-Truth
returns-in-Truth c = other-sum _ _ _ _

pub returns-in-Number : goal.returns-in-Number
returns-in-Number c = other-sum _ _ _ _

pub returns-in-Operate : goal.returns-in-Operate
returns-in-Operate c = c.operate_row.ensures _ _ c.in-Operate.is

pub returns-in-Sequence : goal.returns-in-Sequence
returns-in-Sequence c = sequence-sum _ _ _ _ c.in-Sequence.is c.plain_row.ensures

pub returns-in-While : goal.returns-in-While
returns-in-While c = while-sum _ _ _ _ c.in-While.is c.plain_row-in-While.ensures

pub returns-in-If : goal.returns-in-If
returns-in-If c = if-sum _ _ _ _ c.in-If.is c.plain_row-in-If.ensures

pub returns-in-Use : goal.returns-in-Use
returns-in-Use c = other-sum _ _ _ _

pub returns-in-Fetch : goal.returns-in-Fetch
returns-in-Fetch c =
    fetch-sum _ _ _ _ c.in-Fetch.is c.held_type.ensures c.plain_row-in-Fetch.ensures

pub returns-in-Assign : goal.returns-in-Assign
returns-in-Assign c = c.assign_row.ensures _ _ c.in-Assign.is

pub returns-in-New : goal.returns-in-New
returns-in-New c = new-sum _ _ _ _ c.in-New.is c.new_row.ensures

pub returns-in-Procedure : goal.returns-in-Procedure
returns-in-Procedure c = other-sum _ _ _ _
