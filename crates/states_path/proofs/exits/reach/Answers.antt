-- What `reach` gives is what `target_of` says, case by case.
use mathlib.Core.Path.{refl}
use Rattle.states_path.proofs.Reaching.{reach-as, reach-say, reach-hear, reach-stuck}
use Rattle.states_path.proofs.exits.reach.Goals as goal

pub returns-in-Go : goal.returns-in-Go
returns-in-Go c = reach-as _ _ _ _ _ _ _ c.in-Go.is (c.lead.ensures _ _ refl)

pub returns-in-Exit : goal.returns-in-Exit
returns-in-Exit c = reach-as _ _ _ _ _ _ _ c.in-Exit.is c.exit.ensures

pub returns-in-Say : goal.returns-in-Say
returns-in-Say c = reach-say _ _ _ _ _ _ _ _ c.requires c.in-Say.is
    c.dead.ensures

pub returns-in-Hear : goal.returns-in-Hear
returns-in-Hear c = reach-hear _ _ _ _ _ _ _ _ _ _ c.in-Hear.is c.dead-in-Hear.ensures

pub returns-in-Stuck : goal.returns-in-Stuck
returns-in-Stuck c = reach-stuck _ _ _ _ _ _ c.in-Stuck.is c.dead-in-Stuck.ensures
