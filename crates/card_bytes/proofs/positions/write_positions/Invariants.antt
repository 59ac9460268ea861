use Rattle.card_bytes.specs.inner.Laying.{Placing}
use Rattle.card_bytes.proofs.positions.write_positions.Given as goal

abbrev pub invariant-loop-k : goal.invariant-loop-k
invariant-loop-k l = Placing l.words l.n l.f l.count l.initial.s l.place l.s l.k l.i
