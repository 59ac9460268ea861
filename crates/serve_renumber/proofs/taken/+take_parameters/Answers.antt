-- A parameter fewer each time.
use Rattle.serve_renumber.proofs.Leaves.{took-none, took_more}
use Rattle.serve_renumber.proofs.taken.+take_parameters.Goals as goal

pub returns-then-count-eq0 : goal.returns-then-count-eq0
returns-then-count-eq0 t c = took-none _ _ _ _ c.if-count-eq0.true

-- take_parameters
pub returns : goal.returns
returns t c =
    took_more _ _ _ _ _ _ _ c.if-count-eq0.false c.byte-id.ensures.0 c.put.ensures c.take_parameters.ensures
