-- A new binds its id, a procedure its own and those of its parameters.
use Rattle.serve_renumber.proofs.Leaves.{took-new, took-procedure, took-nothing}
use Rattle.serve_renumber.proofs.taken.take_ids.Goals as goal

pub returns-then-kind-eq-NEW : goal.returns-then-kind-eq-NEW
returns-then-kind-eq-NEW c =
    took-new c.args.s.now _ _ c.args.at _ _ _ c.if-kind-eq-NEW.true c.byte-id.ensures.0 c.put.ensures

pub returns-then-kind-eq-PROCEDURE : goal.returns-then-kind-eq-PROCEDURE
returns-then-kind-eq-PROCEDURE c =
    took-procedure c.args.s.now
    _ _ _ c.args.at _ _ _ _
    c.if-kind-eq-NEW.false c.if-kind-eq-PROCEDURE.true c.byte-id.ensures.0
    c.byte.ensures.0 c.least-count.ensures
    c.put-then-kind-eq-PROCEDURE.ensures c.take_parameters.ensures

pub returns-else-kind-eq-PROCEDURE : goal.returns-else-kind-eq-PROCEDURE
returns-else-kind-eq-PROCEDURE c =
    took-nothing c.args.s.now _ c.args.at _
    _ c.if-kind-eq-NEW.false c.if-kind-eq-PROCEDURE.false
