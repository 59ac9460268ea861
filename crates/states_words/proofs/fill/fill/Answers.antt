-- What `fill` gives is what `edges_after` says, and what it leaves what `filled_of` says.
use Rattle.states_path.proofs.PathDeeper.{kept-none, kept-fewer}
use native.Mathlib.Omega.{arith}
use Rattle.states_words.proofs.Loops.{filled-first, filled-again, filled-last}
use Rattle.states_words.proofs.fill.fill.Goals as goal

pub loop-k-init : goal.loop-k-init
loop-k-init c = (kept-none _ _ _ c.requires.room.1, filled-first _ _ _ _ _)

pub loop-k-preserved : goal.loop-k-preserved
loop-k-preserved c = (
  kept-fewer _ _ c.go_to-at.ensures.kept (omega arith) (omega arith),
  filled-again c.loop-k.invariant.1 c.write_row-next.ensures.returned c.write_row-next.ensures.written,
)

pub returns : goal.returns
returns c =
    let r =
    filled-last _ _ _ _ _ _ _ _ _ _ _ c.loop-k.invariant.1 (omega (arith, c.loop-k-test.false))
    c.spots_of-all.ensures c.sum.ensures c.write_head.ensures in
    record { returned = r.0; written = r.1; lent = c.loop-k.invariant.0.sound.room }
