-- The cycle of name records: how many are still allowed falls.
use mathlib.Core.Path.{sym, ◌∙◌}
use Rattle.sheet_reader.proofs.Core.{handed}
use Rattle.sheet_reader.proofs.Whole.{names-short, names-unknown, names-term, names-declare, names-retire, after-full}
use Rattle.sheet_reader.proofs.Whole.{after-bad, after-good}
use Rattle.sheet_reader.proofs.names.+names.Goals as goal

-- read_after
pub read_after-returns-then-left-eq0 : goal.read_after-returns-then-left-eq0
read_after-returns-then-left-eq0 t c = λ name. rw c.refuse.ensures (after-full _ _ _ _ _ _ _ _ _ name c.if-left-eq0.true)

pub read_after-returns-in_err-judged : goal.read_after-returns-in_err-judged
read_after-returns-in_err-judged t c =
    λ name. rw (handed _ c.from_residual.ensures.1)
    (after-bad _ _ _ _ _ _ _ _ _ name c.if-left-eq0.false c.in_err-judged.was)

pub read_after-returns : goal.read_after-returns
read_after-returns t c =
    λ name. after-good _ _ _ _ _ _ _ _ _ name
    c.if-left-eq0.false
    c.in_ok-judged.was
    (rw (← c.registered-next.ensures) c.read_names.ensures)

-- read_names
pub read_names-returns-then-s-at : goal.read_names-returns-then-s-at
read_names-returns-then-s-at t c = rw c.refuse.ensures (names-short _ _ _ _ _ _ c.if-s-at.true)

pub read_names-returns-in-Unknown : goal.read_names-returns-in-Unknown
read_names-returns-in-Unknown t c =
    rw c.refuse-in-Unknown.ensures
    (names-unknown _ _ _ _ _ _ c.if-s-at.false (sym c.shape_of-shape.ensures ∙ c.in-Unknown.is))

pub read_names-returns-in-Part : goal.read_names-returns-in-Part
read_names-returns-in-Part t c =
    names-term _ _ _ _ _ _ c.if-s-at.false (sym
    c.shape_of-shape.ensures ∙ c.in-Part.is) c.read_term.ensures

pub read_names-returns-in-Declare : goal.read_names-returns-in-Declare
read_names-returns-in-Declare t c =
    names-declare _ _ _ _ _ _ c.if-s-at.false (sym
    c.shape_of-shape.ensures ∙ c.in-Declare.is) c.judge_declare-judged.ensures c.declared_standing-c.ensures c.read_after.ensures

pub read_names-returns-in-Retire : goal.read_names-returns-in-Retire
read_names-returns-in-Retire t c =
    names-retire _ _ _ _ _ _ c.if-s-at.false (sym c.shape_of-shape.ensures ∙ c.in-Retire.is) c.judge_fresh-judged.ensures c.read_after-in-Retire.ensures
