-- At most 511.
use native.Mathlib.Omega.{arith}
use Rattle.language.proofs.NumberLaws.{finites-are}
use Rattle.states_words.proofs.letters.count_of.Goals as goal

pub returns : goal.returns
returns c = (c.finites.ensures, omega (arith, c.finites.ensures, finites-are c.args.n))
