-- What `heard` gives is what `target_of` says, case by case.
use Rattle.states_words.proofs.PathListens.{heard-start, heard-later}
use Rattle.states_words.proofs.hear.heard.Goals as goal

pub returns-then-wait-eq0 : goal.returns-then-wait-eq0
returns-then-wait-eq0 c =
    heard-start _ _ _ _ _ _ _ _ _ c.requires.listening c.if-wait-eq0.true c.at_start.ensures c.reach.ensures

pub returns : goal.returns
returns c = heard-later _ _ _ _ _ _ _ _ _ c.requires.listening c.if-wait-eq0.false
    c.waiting.ensures c.reach-2.ensures
