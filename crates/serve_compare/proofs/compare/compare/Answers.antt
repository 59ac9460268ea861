-- `compare` keeps what `ComparePromise` says.
use Rattle.std.proofs.lemmas.Result.{err_from_is_err_and}
use Rattle.serve_compare.proofs.LookPlays.{compare-known, compare-refused}
use Rattle.serve_compare.proofs.compare.compare.Goals as goal

pub returns-in_err-x : goal.returns-in_err-x
returns-in_err-x c =
    let p = err_from_is_err_and c.from_residual.result c.from_residual.ensures.1 in
    rw (p.1, p.2) (compare-refused _ _ c.args.words.now c.args.space.now _ _ _ c.in_err-x.ensures)

pub returns : goal.returns
returns c = compare-known _ _ c.args.words.now c.args.space.now _ _ _ c.in_ok-x.ensures
