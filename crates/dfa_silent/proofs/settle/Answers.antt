-- `settle` keeps what `Settling` says.
use Rattle.dfa_silent.proofs.laws.Settle.{steps_of, graph-of, settling}
use Rattle.dfa_silent.proofs.laws.Paths.{begun-paths, whole_of}
use Rattle.dfa_silent.proofs.settle.Goals as goal

pub find_paths-requires : goal.find_paths-requires
find_paths-requires c = begun-paths _ _ _ (steps_of c.args.n
    c.args.words.now
    c.requires.0
    c.requires.1) c.begin.ensures

pub redirect-requires : goal.redirect-requires
redirect-requires c = (
  graph-of
      c.args.n _ _ _
      c.requires.0
      c.begin.ensures
      c.find_paths.ensures,
  whole_of _ _ _ c.find_paths.ensures,
)

pub returns : goal.returns
returns c = settling c.args.n _ _ _ _ c.requires.0
    c.begin.ensures
    c.find_paths.ensures c.redirect.ensures
