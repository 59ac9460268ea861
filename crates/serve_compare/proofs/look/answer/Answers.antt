-- The answer of look from what is found, with the names that the sheets use.
use Rattle.serve_compare.specs.Look.{depth_of, ruling_of, saying}
use Rattle.serve_compare.proofs.LookSteps.{so-far-said, same-said}
use Rattle.serve_compare.proofs.look.answer.Goals as goal

pub returns-in-Some : goal.returns-in-Some
unfolding ruling_of depth_of saying
returns-in-Some c = simp c.in-Some.is

pub returns-in-None : goal.returns-in-None
returns-in-None c = so-far-said _ _ _ _ _ c.in-None.is c.if-most-whole.true

pub returns-in-None-2 : goal.returns-in-None-2
returns-in-None-2 c = same-said _ _ _ _ _ c.in-None-2.is c.if-most-whole.false
