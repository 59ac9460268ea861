-- Enclosing binders have the standings from those of variables on.
use Rattle.sheet_records.proofs.StandingLaws.{held-by}
use Rattle.sheet_records.proofs.standing.is_held.Goals as goal

pub returns : goal.returns
returns c = held-by c.args.c
