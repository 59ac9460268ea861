-- The cycle of the pass: the levels of depth left fall, and at one depth the parts left.
use native.Mathlib.Omega.{arith}
use mathlib.Core.Path.{◌≡◌, refl}
use Prim.Native.Nat.{suc, ◌-◌}
use Rattle.std.proofs.lemmas.Result.{err_from_is_err_and}
use Rattle.serve_renumber.proofs.Choosing.{within-done}
use Rattle.serve_renumber.proofs.Steps.{part-deep, part-past, no_part, parts-full, parts_more, call-found, block-full}
use Rattle.serve_renumber.proofs.Steps.{block-found, onward-done, part-there, past-use, past-new, past-procedure}
use Rattle.serve_renumber.proofs.Routines.{routine-full, routine-full-parameter, routine-full-body, routine-found}
use Rattle.serve_renumber.proofs.Plain.{part-call, part-block, part-routine, part-plain}
use Rattle.serve_renumber.proofs.part.+renumber.Goals as goal

-- renumber_block
pub renumber_block-put-requires : goal.renumber_block-put-requires
renumber_block-put-requires t c = omega (arith, within-done c.in_ok-x.ensures.within)

pub renumber_block-bound_entry-requires : goal.renumber_block-bound_entry-requires
renumber_block-bound_entry-requires t c = (omega (arith, within-done c.in_ok-x.ensures.within), omega arith)

pub renumber_block-renumber_part-requires : goal.renumber_block-renumber_part-requires
renumber_block-renumber_part-requires t c = omega (arith, within-done c.in_ok-x.ensures.within)

pub renumber_block-returns-in_err-x : goal.renumber_block-returns-in_err-x
renumber_block-returns-in_err-x t c =
    let p = err_from_is_err_and c.from_residual.result c.from_residual.ensures.1 in
    rw (p.1, p.2) (block-full _ _ _ _ _ _ _ _ _ _ _ _ _ _ c.byte-id.ensures.0 c.in_err-x.ensures refl)

pub renumber_block-returns : goal.renumber_block-returns
renumber_block-returns t c =
    block-found _ _ _ _ _ _ _ _ _ _ _ _ _ _ _ _ _ _ _ _ _ _ c.byte-id.ensures.0 c.in_ok-x.ensures refl
    c.put.ensures c.bound_entry.ensures.0 c.enter.ensures (past-new _ c.body_of.ensures.0) c.renumber_part.ensures

-- renumber_call
pub renumber_call-returns : goal.renumber_call-returns
renumber_call-returns t c =
    call-found _ _ _ _ _ _ _ _ _ _ _ _ _ _ _ _ _ _ c.byte-id.ensures.0 c.word-entry.ensures.0 c.becomes.ensures.0
    c.put.ensures c.arguments-count.ensures.0 (past-use _ c.body_of.ensures.0) c.renumber_parts.ensures

-- renumber_part
pub renumber_part-returns-then-left-eq0 : goal.renumber_part-returns-then-left-eq0
renumber_part-returns-then-left-eq0 t c = part-deep _ _ _ _ _ _ _ _ c.if-left-eq0.true

pub renumber_part-returns-then-at-ge-MOST_BYTES : goal.renumber_part-returns-then-at-ge-MOST_BYTES
renumber_part-returns-then-at-ge-MOST_BYTES t c = part-past _ _ _ _ _ _ _ _ c.if-at-ge-MOST_BYTES.true

pub renumber_part-returns-then-kind-eq-NEW : goal.renumber_part-returns-then-kind-eq-NEW
renumber_part-returns-then-kind-eq-NEW t c =
    let e : c.args.left ≡ suc (c.args.left - 1) = omega (arith, c.if-left-eq0.false) in
    part-block _ _ _ _ _ _ _ _ _ _ _ _ _ _ e c.get_or-kind.ensures c.if-kind-eq-NEW.true c.renumber_block.ensures

pub renumber_part-returns-then-kind-eq-PROCEDURE : goal.renumber_part-returns-then-kind-eq-PROCEDURE
renumber_part-returns-then-kind-eq-PROCEDURE t c =
    let e : c.args.left ≡ suc (c.args.left - 1) = omega (arith, c.if-left-eq0.false) in
    part-routine _ _ _ _ _ _ _ _ _ _ _ _ _ _ e c.get_or-kind.ensures c.if-kind-eq-PROCEDURE.true
    c.renumber_routine.ensures

pub renumber_part-returns-then-kind-eq-USE : goal.renumber_part-returns-then-kind-eq-USE
renumber_part-returns-then-kind-eq-USE t c =
    let e : c.args.left ≡ suc (c.args.left - 1) = omega (arith, c.if-left-eq0.false) in
    part-call _ _ _ _ _ _ _ _ _ _ _ _ _ _ e c.get_or-kind.ensures c.if-kind-eq-USE.true c.renumber_call.ensures

pub renumber_part-returns : goal.renumber_part-returns
renumber_part-returns t c =
    let e : c.args.left ≡ suc (c.args.left - 1) = omega (arith, c.if-left-eq0.false) in
    part-plain _ _ _ _ _ _ _ _ _ _ _ _ _ _ _ _ e c.get_or-kind.ensures c.if-kind-eq-USE.false c.if-kind-eq-NEW.false
    c.if-kind-eq-PROCEDURE.false c.body_of.ensures.0 c.parts_of.ensures.0 c.renumber_parts.ensures

-- renumber_parts
pub renumber_parts-returns-then-count-eq0 : goal.renumber_parts-returns-then-count-eq0
renumber_parts-returns-then-count-eq0 t c =
    no_part _ _ _ _ _ _ _ _ _ c.if-count-eq0.true c.requires.1 c.requires.2

pub renumber_parts-renumber_parts-requires : goal.renumber_parts-renumber_parts-requires
renumber_parts-renumber_parts-requires t c = omega (arith, onward-done c.in_ok-x.ensures.onward)

pub renumber_parts-returns-in_err-x : goal.renumber_parts-returns-in_err-x
renumber_parts-returns-in_err-x t c =
    let p = err_from_is_err_and c.from_residual.result c.from_residual.ensures.1 in
    rw (p.1, p.2) (parts-full _ _ _ _ _ _ _ _ _ _ _ _ _ _ c.if-count-eq0.false c.in_err-x.ensures refl)

pub renumber_parts-returns : goal.renumber_parts-returns
renumber_parts-returns t c =
    parts_more _ _ _ _ _ _ _ _ _ _ _ _ _ _ _ _ _ _ _ _ c.if-count-eq0.false c.in_ok-x.ensures refl refl
    c.renumber_parts.ensures

-- renumber_routine
pub renumber_routine-returns-in_err-own : goal.renumber_routine-returns-in_err-own
renumber_routine-returns-in_err-own t c =
    let p = err_from_is_err_and c.from_residual.result c.from_residual.ensures.1 in
    rw (p.1, p.2) (routine-full _ _ _ _ _ _ _ _ _ _ _ _ _ _ c.byte-id.ensures.0 c.in_err-own.ensures refl)

pub renumber_routine-put-requires : goal.renumber_routine-put-requires
renumber_routine-put-requires t c = omega (arith, within-done c.in_ok-own.ensures.within)

pub renumber_routine-choose_parameters-requires : goal.renumber_routine-choose_parameters-requires
renumber_routine-choose_parameters-requires t c =
    omega (arith, within-done c.in_ok-own.ensures.within, c.least-count.ensures)

pub renumber_routine-returns-in_err-y : goal.renumber_routine-returns-in_err-y
renumber_routine-returns-in_err-y t c =
    let p = err_from_is_err_and c.from_residual-in_err-y.result c.from_residual-in_err-y.ensures.1 in
    rw (p.1, p.2) (routine-full-parameter _ _ _ _ _ _ _ _ _ _ _ _ _ _ _ _ _ _ _ _ _ _ _ c.byte-id.ensures.0
    c.byte.ensures.0 c.least-count.ensures c.in_ok-own.ensures refl c.in_err-y.ensures refl)

pub renumber_routine-renumber_part-requires : goal.renumber_routine-renumber_part-requires
renumber_routine-renumber_part-requires t c =
    omega (
      arith,
      c.decreases,
      c.requires.0,
      c.requires.1,
      c.requires.2,
      within-done c.in_ok-own.ensures.within,
      within-done c.in_ok-y.ensures.within,
      c.least-count.ensures,
      past-procedure c.args.at c.body_of.ensures.0,
    )

pub renumber_routine-returns-in_err-z : goal.renumber_routine-returns-in_err-z
renumber_routine-returns-in_err-z t c =
    let p = err_from_is_err_and c.from_residual-in_err-z.result c.from_residual-in_err-z.ensures.1 in
    rw (p.1, p.2) (routine-full-body _ _ _ _ _ _ _ _ _ _ _ _ _ _ _ _ _ _ _ _ _ _ _ _ _ _ _ _ _ c.byte-id.ensures.0
    c.byte.ensures.0 c.least-count.ensures c.in_ok-own.ensures refl c.in_ok-y.ensures refl
    (part-there (past-procedure _ c.body_of.ensures.0) c.in_err-z.ensures) refl)

pub renumber_routine-bound_entry-requires : goal.renumber_routine-bound_entry-requires
renumber_routine-bound_entry-requires t c =
    (omega (arith, within-done c.in_ok-own.ensures.within), omega (arith, c.least-count.ensures))

pub renumber_routine-renumber_part-requires-2 : goal.renumber_routine-renumber_part-requires-2
renumber_routine-renumber_part-requires-2 t c =
    omega (arith, c.decreases, c.requires.0, onward-done c.in_ok-z.ensures.onward)

pub renumber_routine-returns : goal.renumber_routine-returns
renumber_routine-returns t c =
    routine-found _ _ _ _ _ _ _ _ _ _ _ _ _ _ _ _ _ _ _ _ _ _ _ _ _ _ _ _ _ _ _ _ _ _ _ _ c.byte-id.ensures.0
    c.byte.ensures.0 c.least-count.ensures c.in_ok-own.ensures refl c.put.ensures c.in_ok-y.ensures refl
    (part-there (past-procedure _ c.body_of.ensures.0) c.in_ok-z.ensures) refl c.bound_entry.ensures.0 c.enter.ensures
    c.renumber_part-2.ensures
