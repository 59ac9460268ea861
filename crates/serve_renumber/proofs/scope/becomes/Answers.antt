-- An id that no enclosing binder has stays as it is.
use native.Mathlib.Omega.{arith}
use Rattle.serve_renumber.proofs.Leaves.{becomes-held, becomes-free}
use Rattle.serve_renumber.proofs.scope.becomes.Goals as goal

pub returns-then-e-ge-FIRST_BOUND : goal.returns-then-e-ge-FIRST_BOUND
returns-then-e-ge-FIRST_BOUND c = becomes-held _ _ c.if-e-ge-FIRST_BOUND.true

pub returns : goal.returns
returns c = (becomes-free _ _ c.if-e-ge-FIRST_BOUND.false, omega arith)
