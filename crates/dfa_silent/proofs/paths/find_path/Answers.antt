-- `find_path` keeps what `PathFound` says.
use Rattle.dfa_silent.proofs.laws.Paths.{found-dead, found-other}
use Rattle.dfa_silent.proofs.paths.find_path.Goals as goal

pub returns-then-end-dead : goal.returns-then-end-dead
returns-then-end-dead c = found-dead _ _ _ _ _ _ c.requires.0
    c.requires.1
    c.replace-x.ensures.0
    c.replace-x.ensures.1 c.at-end.ensures c.if-end-dead.true

pub returns : goal.returns
returns c = found-other _ _ _ _ _ _
    c.requires.0
    c.requires.1
    c.replace-x.ensures.0
    c.replace-x.ensures.1
    c.at-end.ensures _ _ c.if-end-dead.false
    c.replace.ensures.0 c.replace.ensures.1
