-- A bit for each record: a record fewer each time.
use native.Mathlib.Omega.{arith}
use Rattle.sheet_judge.proofs.Masking.{mask_fits, mask-none, mask-set, mask-unset, mask-retired, mask-part}
use Rattle.sheet_judge.proofs.Masking.{mask-unknown}
use Rattle.sheet_judge.proofs.mark.+mark_from.Goals as goal

pub returns-then-left-eq0 : goal.returns-then-left-eq0
returns-then-left-eq0 t c = mask-none _ _ _ c.if-left-eq0.true

pub overflow_mul-result : goal.overflow_mul-result
overflow_mul-result t c = let h = mask_fits _ _ _ _ c.mark_from.ensures c.requires.0 in omega arith

pub overflow_mul-result-then-is_noted : goal.overflow_mul-result-then-is_noted
overflow_mul-result-then-is_noted t c = let h = mask_fits _ _ _ _ c.mark_from-rest.ensures c.requires.0 in omega
    arith

pub overflow_add-result : goal.overflow_add-result
overflow_add-result t c = let h = mask_fits _ _ _ _ c.mark_from-rest.ensures c.requires.0 in omega
    arith

pub returns-then-is_noted : goal.returns-then-is_noted
returns-then-is_noted t c = mask-set _ _ _ c.if-left-eq0.false c.get_or-kind.ensures c.shape_of-shape.ensures c.in-Declare.is c.mark_from-rest.ensures c.get_or-id.ensures c.is_noted.ensures c.if-is_noted.true

pub overflow_mul-result-in-Declare : goal.overflow_mul-result-in-Declare
overflow_mul-result-in-Declare t c = let h = mask_fits _ _ _ _ c.mark_from-rest.ensures c.requires.0 in omega
    arith

pub returns-in-Unknown : goal.returns-in-Unknown
returns-in-Unknown t c = mask-unknown _ _ _ c.if-left-eq0.false c.get_or-kind.ensures c.shape_of-shape.ensures c.in-Unknown.is

pub returns-in-Part : goal.returns-in-Part
returns-in-Part t c = mask-part _ _ _ c.if-left-eq0.false c.get_or-kind.ensures c.shape_of-shape.ensures c.in-Part.is

pub returns-in-Retire : goal.returns-in-Retire
returns-in-Retire t c = mask-retired _ _ _ c.if-left-eq0.false c.get_or-kind.ensures c.shape_of-shape.ensures c.in-Retire.is c.mark_from.ensures

pub returns-else-is_noted : goal.returns-else-is_noted
returns-else-is_noted t c = mask-unset _ _ _ c.if-left-eq0.false c.get_or-kind.ensures c.shape_of-shape.ensures c.in-Declare.is c.mark_from-rest.ensures c.get_or-id.ensures c.is_noted.ensures c.if-is_noted.false
