use Rattle.states_path.specs.Kept.{KeptPath, Covers}
use Rattle.states_path.proofs.path.enter.Given as goal

abbrev pub invariant-loop-at : goal.invariant-loop-at
invariant-loop-at l = KeptPath l.t l.root l.p l.at l.k × Covers l.p l.at l.k
