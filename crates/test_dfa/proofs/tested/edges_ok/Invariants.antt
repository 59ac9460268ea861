use Rattle.std.proofs.Common.{ℕ, ◌≤◌, ◌<◌}
use Rattle.test_dfa.specs.Tested.{EdgeOk}
use Rattle.test_dfa.proofs.tested.edges_ok.Given as goal

abbrev pub invariant-loop-k : goal.invariant-loop-k
invariant-loop-k l = (x : ℕ) → l.i ≤ x → x < l.k → EdgeOk l.graph l.n x l.end
