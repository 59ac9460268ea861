use Prim.Native.Nat.{◌-◌}
use mathlib.Core.Path.{◌≡◌}
use Rattle.weight_theory.specs.Step.{parts_added}
use Rattle.weight_records.proofs.record.add_parts.Given as goal

abbrev pub invariant-loop-j : goal.invariant-loop-j
invariant-loop-j l =
    parts_added l.kind l.detail l.k l.at l.first l.row (l.n - l.j) l.j l.t
    ≡ parts_added l.kind l.detail l.k l.at l.first l.row l.n 0 l.initial.t
