-- `look` keeps what `LookPromise` says.
use Rattle.std.proofs.lemmas.Result.{err_from_is_err_and}
use Rattle.serve_compare.proofs.LookPlays.{look_known, look-refused}
use Rattle.serve_compare.proofs.look.look.Goals as goal

pub returns-in_err-x : goal.returns-in_err-x
returns-in_err-x c =
    let p = err_from_is_err_and c.from_residual.result c.from_residual.ensures.1 in
    rw (p.1, p.2) (look-refused _ _ c.args.words.now c.args.space.now _ _ _ _ c.in_err-x.ensures)

pub returns : goal.returns
returns c = look_known _ _ c.args.words.now c.args.space.now _ _ _ _ _ c.in_ok-x.ensures c.answer.ensures
