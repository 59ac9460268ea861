-- `build_one` keeps what `OneBuilt` says.
use borrow.Author.Rules.{rules}
use native.Mathlib.Omega.{arith}
use mathlib.Core.Path.{refl}
use Rattle.serve_conditions.proofs.Figures.{asked_low}
use Rattle.states_build.proofs.Building.{one-fits, one-settles, one-built}
use Rattle.states_build.proofs.build.build_one.Goals as goal

pub overflow_add-states : goal.overflow_add-states
overflow_add-states c = record { fits = omega (arith, asked_low _ _ c.requires.one_ready.room) }

pub fill-e-requires : goal.fill-e-requires
fill-e-requires c = record { term_rows = (c.requires.one_ready.long, c.requires.words); room = (one-fits c.requires.one_ready c.requires.words, refl) }

pub settle-requires : goal.settle-requires
settle-requires c = one-settles c.requires.one_ready c.requires.words
    c.fill-e.ensures.written c.fill-e.ensures.returned c.close.ensures

pub returns : goal.returns
returns c = λ R. one-built R c.requires.words c.fill-e.ensures.written c.fill-e.ensures.returned c.close.ensures c.settle.ensures
