-- A parameter fewer each time.
use native.Mathlib.Omega.{arith}
use mathlib.Core.Path.{refl}
use Rattle.std.proofs.lemmas.Result.{err_from_is_err_and}
use Rattle.serve_renumber.proofs.Choosing.{within-done, parameters-none, parameters-full, parameters-more}
use Rattle.serve_renumber.proofs.part.+choose_parameters.Goals as goal

pub returns-then-count-eq0 : goal.returns-then-count-eq0
returns-then-count-eq0 t c = parameters-none _ _ _ _ _ _ _ _ _ c.if-count-eq0.true

-- choose_parameters
pub put-requires : goal.put-requires
put-requires t c = omega (arith, within-done c.in_ok-x.ensures.within)

pub bound_entry-requires : goal.bound_entry-requires
bound_entry-requires t c = (omega (arith, within-done c.in_ok-x.ensures.within), omega arith)

pub choose_parameters-requires : goal.choose_parameters-requires
choose_parameters-requires t c = omega (arith, within-done c.in_ok-x.ensures.within)

pub returns-in_err-x : goal.returns-in_err-x
returns-in_err-x t c =
    let p = err_from_is_err_and c.from_residual.result c.from_residual.ensures.1 in
    rw (p.1, p.2) (parameters-full _ _ _ _ _ _ _ _ _ _ _ _ _ _ _ _ c.if-count-eq0.false c.byte-id.ensures.0
    c.in_err-x.ensures refl)

pub returns : goal.returns
returns t c =
    parameters-more _ _ _ _ _ _ _ _ _ _ _ _ _ _ _ _ _ _ _ _ _ _ _ _ _ c.if-count-eq0.false c.byte-id.ensures.0
    c.in_ok-x.ensures refl c.put.ensures c.bound_entry.ensures.0 c.enter.ensures refl refl c.choose_parameters.ensures
