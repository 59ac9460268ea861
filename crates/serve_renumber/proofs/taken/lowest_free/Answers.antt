-- The ids before are taken.
use native.Mathlib.Omega.{arith}
use Rattle.serve_renumber.proofs.Leaves.{lowest-first, lowest-here, lowest-again, lowest-last}
use Rattle.serve_renumber.proofs.taken.lowest_free.Goals as goal

pub loop-id-init : goal.loop-id-init
loop-id-init c = lowest-first c.args.taken.now

pub returns-then-byte-ne-TAKEN : goal.returns-then-byte-ne-TAKEN
returns-then-byte-ne-TAKEN c = (
  lowest-here c.args.taken.now c.loop-id.id _ c.loop-id-test.true c.loop-id.invariant c.byte.ensures.0
      c.if-byte-ne-TAKEN.true,
  omega arith,
)

pub loop-id-preserved : goal.loop-id-preserved
loop-id-preserved c =
    lowest-again c.args.taken.now c.loop-id.id _ c.loop-id-test.true c.loop-id.invariant c.byte.ensures.0
    c.if-byte-ne-TAKEN.false

pub returns : goal.returns
returns c = (lowest-last c.args.taken.now c.loop-id.id (omega arith) c.loop-id.invariant, omega arith)
