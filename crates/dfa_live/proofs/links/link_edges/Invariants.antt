use Prim.Native.Nat.{◌*◌}
use lib.ListN.{get_or}
use Rattle.dfa.specs.Graph.{rest}
use Rattle.dfa_live.specs.inner.Links.{Linking, Links}
use Rattle.dfa_live.proofs.links.link_edges.Given as goal

abbrev pub invariant-loop-p : goal.invariant-loop-p
invariant-loop-p l = Links (rest (5 * l.n) l.initial.words) l.n l.initial.words l.words
    (get_or (rest (5 * l.n) l.initial.words) l.p 0)

abbrev pub invariant-loop-e : goal.invariant-loop-e
invariant-loop-e l = Linking (rest (5 * l.n) l.fn.words) l.n l.fn.words l.words l.p l.e
