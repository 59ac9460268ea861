use native.Mathlib.Omega.{arith}
use Rattle.dfa_difference.proofs.laws.Run.{start-state}
use Rattle.dfa_difference.proofs.search.prepare.Goals as goal

pub returns : goal.returns
returns c = λ G s. start-state G _ s
    c.requires.1.1.1.1 c.singles.new.work
    (omega (
      arith,
      c.singles.auto,
      c.requires.0,
    )) c.singles.ensures _ _
    c.link.ensures c.push.ensures
