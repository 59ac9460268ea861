-- A bit for each record: a record fewer each time.
use native.Mathlib.Omega.{arith}
use mathlib.Core.Path.{refl}
use Rattle.sheet_judge.proofs.Masking.{mask_fits, mask-none, mask-set, mask-retired, mask-part, mask-unknown}
use Rattle.sheet_judge.proofs.mark.+declared_from.Goals as goal

pub returns-then-left-eq0 : goal.returns-then-left-eq0
returns-then-left-eq0 t c = mask-none _ _ _ c.if-left-eq0.true

pub overflow_mul-result : goal.overflow_mul-result
overflow_mul-result t c = let h = mask_fits _ _ _ _ c.declared_from.ensures c.requires.0 in omega arith

pub overflow_mul-result-in-Declare : goal.overflow_mul-result-in-Declare
overflow_mul-result-in-Declare t c = let h = mask_fits _ _ _ _ c.declared_from-in-Declare.ensures c.requires.0 in omega arith

pub overflow_add-result : goal.overflow_add-result
overflow_add-result t c = let h = mask_fits _ _ _ _ c.declared_from-in-Declare.ensures c.requires.0 in omega arith

pub returns-in-Unknown : goal.returns-in-Unknown
returns-in-Unknown t c = mask-unknown _ _ _ c.if-left-eq0.false c.get_or-kind.ensures c.shape_of-shape.ensures c.in-Unknown.is

pub returns-in-Part : goal.returns-in-Part
returns-in-Part t c = mask-part _ _ _ c.if-left-eq0.false c.get_or-kind.ensures c.shape_of-shape.ensures c.in-Part.is

pub returns-in-Retire : goal.returns-in-Retire
returns-in-Retire t c = mask-retired _ _ _ c.if-left-eq0.false c.get_or-kind.ensures c.shape_of-shape.ensures c.in-Retire.is c.declared_from.ensures

pub returns-in-Declare : goal.returns-in-Declare
returns-in-Declare t c = mask-set _ _ _ c.if-left-eq0.false c.get_or-kind.ensures c.shape_of-shape.ensures c.in-Declare.is c.declared_from-in-Declare.ensures refl refl refl
