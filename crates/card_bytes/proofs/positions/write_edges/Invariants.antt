use Rattle.card_bytes.specs.inner.Laying.{Edging}
use Rattle.card_bytes.proofs.positions.write_edges.Given as goal

abbrev pub invariant-loop-e : goal.invariant-loop-e
invariant-loop-e l = Edging l.words l.n l.p l.initial.s l.place l.end l.s l.e l.i
