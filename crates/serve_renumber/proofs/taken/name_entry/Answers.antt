-- A name that is retired has no arguments.
use native.Mathlib.Omega.{arith}
use Rattle.serve_renumber.proofs.Leaves.{entry-declared, entry-retired}
use Rattle.serve_renumber.proofs.taken.name_entry.Goals as goal

pub returns-then-kind-eq-RETIRE : goal.returns-then-kind-eq-RETIRE
returns-then-kind-eq-RETIRE c = (entry-retired _ _ c.if-kind-eq-RETIRE.true, omega arith)

pub returns : goal.returns
returns c = (entry-declared _ _ _ c.if-kind-eq-RETIRE.false c.named_entry.ensures.0, c.named_entry.ensures.1)
