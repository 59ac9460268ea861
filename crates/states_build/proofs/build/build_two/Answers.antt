-- `build_two` keeps what `TwoBuilt` says.
use borrow.Author.Rules.{rules}
use native.Mathlib.Omega.{arith}
use mathlib.Core.Path.{refl}
use Rattle.serve_conditions.proofs.Figures.{asked_low}
use Rattle.states_build.proofs.Building.{old-fits, new-fits, two-settles, two-built}
use Rattle.states_build.proofs.build.build_two.Goals as goal

pub overflow_add-states : goal.overflow_add-states
overflow_add-states c = record { fits = omega (arith, asked_low _ _ c.requires.two_ready.room) }

pub overflow_add-states-2 : goal.overflow_add-states-2
overflow_add-states-2 c = record { fits = omega (arith, asked_low _ _ c.requires.two_ready.room) }

pub fill-e-requires : goal.fill-e-requires
fill-e-requires c = record { term_rows = (c.requires.two_ready.long, c.requires.words.0); room = (old-fits c.requires.two_ready c.requires.words.0, refl) }

pub fill-e2-requires : goal.fill-e2-requires
fill-e2-requires c = record { term_rows = (c.requires.two_ready.other_long, c.requires.words.1); room = (new-fits c.requires.two_ready c.requires.words.1, c.fill-e.ensures.lent) }

pub settle-requires : goal.settle-requires
settle-requires c = two-settles c.requires.two_ready c.requires.words.0 c.requires.words.1
    c.fill-e.ensures.written c.fill-e.ensures.returned c.fill-e2.ensures.written c.fill-e2.ensures.returned c.close.ensures

pub returns : goal.returns
returns c = λ R. two-built R c.requires.words.0 c.requires.words.1 c.fill-e.ensures.written c.fill-e.ensures.returned c.fill-e2.ensures.written c.fill-e2.ensures.returned c.close.ensures c.settle.ensures
