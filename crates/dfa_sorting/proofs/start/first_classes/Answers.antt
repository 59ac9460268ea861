-- `first_classes` makes class 1 of one state.
use Rattle.dfa_sorting.proofs.laws.Starting.{started}
use Rattle.dfa_sorting.proofs.start.first_classes.Goals as goal

pub returns : goal.returns
returns c =
    let asked = c.requires in
    started _ _ _
    asked.1.1.1.1
    asked.1.0
    asked.1.1.0
    asked.1.1.1.0
    _ _ _ _ _ _ _
    c.set_from.ensures
    c.set_to.ensures
    c.exchange.ensures
    c.put.ensures
    c.set_to-2.ensures
    c.set_from-2.ensures c.set_to-3.ensures
