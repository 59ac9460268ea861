-- `depth` gives the length of the word that is spelled.
use native.Mathlib.Omega.{arith}
use Rattle.dfa_search.proofs.Trace.{count-more, count-last}
use Rattle.dfa_search.proofs.word.depth.Goals as goal

pub loop-e-preserved : goal.loop-e-preserved
loop-e-preserved c = (
  omega (
    arith,
    c.requires.from c.loop-e.e
        c.loop-e-test.true (omega arith),
    c.at-e.ensures,
  ),
  λ u s. count-more _ _ _ _ _ _
      c.loop-e-test.true c.at-e.ensures (c.loop-e.invariant.1 u s),
)

pub returns : goal.returns
returns c = λ u s. count-last _ _ _ _ _ c.loop-e-test.false (c.loop-e.invariant.1 u s)
