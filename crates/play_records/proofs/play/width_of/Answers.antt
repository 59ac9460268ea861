-- What `width_of` gives is what `width_of` says, case by case.
use native.Mathlib.Omega.{arith}
use borrow.Author.Tests.{lt-ltb, le-ltb}
use Rattle.play_records.specs.Bytes.{width_of}
use Rattle.play_records.proofs.play.width_of.Goals as goal

pub returns-then-kind-lt-VALUE : goal.returns-then-kind-lt-VALUE
unfolding width_of
returns-then-kind-lt-VALUE c = simp (lt-ltb _ _ c.if-kind-lt-VALUE.true, lt-ltb c.args.kind 7 (omega (arith, c.if-kind-lt-VALUE.true)))

pub returns-then-kind-lt-MOVE_KINDS : goal.returns-then-kind-lt-MOVE_KINDS
unfolding width_of
returns-then-kind-lt-MOVE_KINDS c = simp (le-ltb _ _ c.if-kind-lt-VALUE.false, lt-ltb _ _ c.if-kind-lt-MOVE_KINDS.true)

pub returns : goal.returns
unfolding width_of
returns c = simp (le-ltb _ _ c.if-kind-lt-MOVE_KINDS.false)
