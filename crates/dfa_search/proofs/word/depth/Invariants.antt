use Prim.Native.Nat.{ℕ, ◌≤◌, ◌+◌}
use mathlib.Core.List.{List}
use Rattle.dfa_search.specs.Spelled.{Spelled}
use Rattle.dfa_search.specs.Trace.{Counting}
use Rattle.dfa_search.proofs.word.depth.Given as goal

abbrev pub invariant-loop-e : goal.invariant-loop-e
invariant-loop-e l = (l.d + l.e ≤ l.k) × ((u : List ℕ) → Spelled l.n l.work l.k u → Counting l.n l.work u l.d l.e)

abbrev pub decreases-loop-e : goal.decreases-loop-e
decreases-loop-e l = l.e
