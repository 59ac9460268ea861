-- The cycle of the expansion: a bound of the turns to come falls.
use native.Mathlib.Omega.{arith}
use mathlib.Core.Path.{refl, sym}
use Rattle.term_expand.proofs.Joins.{piece-some, pieces-two, pieces-four, kind-stays, leaf-made}
use Rattle.term_expand.proofs.Expansion.{by-come, by_end, by_kind}
use Rattle.term_expand.proofs.Turns.{led-end, led-come, led-scope, led-use, led-record}
use Rattle.term_expand.proofs.expand.+expand.Goals as goal

-- expand
pub expand-returns-then-left-eq0 : goal.expand-returns-then-left-eq0
expand-returns-then-left-eq0 t c = by_end _ _ _ _ _ _ _ _ c.if-left-eq0.true

pub expand-returns : goal.expand-returns
expand-returns t c =
    by_kind _ _ _ _ _ _ _ _ _ (sym c.requires) (omega arith) c.if-left-eq0.false
    (kind-stays _ _ _ _ _ _ _ _ _ _ _ _ c.word_at-kind.ensures c.stays.ensures c.if-not-stays.false refl
    c.expand_row-count.ensures)

-- expand_own
pub expand_own-returns-then-come-gt0 : goal.expand_own-returns-then-come-gt0
expand_own-returns-then-come-gt0 t c =
    led-come _ _ _ _ _ _ _ _ _ _ _ _ _ _ c.loop-turns.invariant _ c.come_at-come.ensures _ c.if-come-gt0.true
    c.slot_at.ensures

pub expand_own-loop-turns-preserved-then-kind-eq-PROCEDURE : goal.expand_own-loop-turns-preserved-then-kind-eq-PROCEDURE
expand_own-loop-turns-preserved-then-kind-eq-PROCEDURE t c =
    led-scope _ _ _ _ _ _ _ _ _ _ _ _ _ _ c.loop-turns.invariant _ c.come_at-come.ensures c.if-come-gt0.false
    c.loop-turns-test.true _ c.word_at-kind.ensures _ _ c.if-kind-eq-PROCEDURE.true c.word_at-here.ensures
    c.more-around.ensures

pub expand_own-returns-then-kind-ne-ROUTINE : goal.expand_own-returns-then-kind-ne-ROUTINE
expand_own-returns-then-kind-ne-ROUTINE t c =
    led-record _ _ _ _ _ _ _ _ _ _ _ _ _ _ c.loop-turns.invariant _ c.come_at-come.ensures c.if-come-gt0.false
    c.loop-turns-test.true _ c.word_at-kind.ensures _ _ _ c.if-kind-eq-PROCEDURE.false c.if-kind-ne-ROUTINE.true
    c.expand_record.ensures

pub expand_own-loop-turns-preserved : goal.expand_own-loop-turns-preserved
expand_own-loop-turns-preserved t c =
    led-use _ _ _ _ _ _ _ _ _ _ _ _ _ _ c.loop-turns.invariant _ c.come_at-come.ensures c.if-come-gt0.false
    c.loop-turns-test.true _ c.word_at-kind.ensures _ _ _ _ _ c.if-kind-ne-ROUTINE.false c.enter-next.ensures

pub expand_own-returns : goal.expand_own-returns
expand_own-returns t c = led-end _ _ _ _ _ _ _ _ _ _ _ _ _ _ c.loop-turns.invariant c.loop-turns-test.false

-- expand_part
pub expand_part-returns-then-come-gt0 : goal.expand_part-returns-then-come-gt0
expand_part-returns-then-come-gt0 t c =
    piece-some _ _ _ _ _ _ _ _ _ _ _ _ _ _ c.if-wants-eq0.false c.word_at-part.ensures
    (by-come _ _ _ _ _ _ _ _ c.come_at-come.ensures c.if-come-gt0.true c.slot_at.ensures)

-- expand_parts
pub expand_parts-returns-then-last-eq0 : goal.expand_parts-returns-then-last-eq0
expand_parts-returns-then-last-eq0 t c =
    pieces-two _ _ _ _ _ _ c.args.wanted _ _ _ _ _ _ _ _ c.if-last-eq0.true c.expand_part-a.ensures
    c.expand_part-b.ensures

pub expand_parts-returns : goal.expand_parts-returns
expand_parts-returns t c =
    pieces-four _ _ _ _ _ _ c.args.wanted _ _ _ _ _ _ _ _ _ _ _ _ _ _ c.expand_part-a.ensures
    c.expand_part-b.ensures c.expand_part-c.ensures c.expand_part-d.ensures

-- expand_row
pub expand_row-returns-then-wanted-eq0 : goal.expand_row-returns-then-wanted-eq0
expand_row-returns-then-wanted-eq0 t c =
    leaf-made _ _ _ _ _ _ _ _ _ _ _ _ _ c.word_at.ensures c.word_at-2.ensures c.parts_of-wanted.ensures
    c.if-wanted-eq0.true c.more.ensures c.close_leaf.ensures
