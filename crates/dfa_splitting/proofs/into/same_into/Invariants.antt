use mathlib.Core.List.{List}
use Prim.Native.Nat.{◌-◌, ◌<◌, ℕ}
use Rattle.std.specs.Option.{MatchOption, unwrap_or}
use Rattle.dfa_classes.specs.Places.{class_at}
use Rattle.dfa_splitting.specs.inner.Into.{Comparing, Into-loop}
use Rattle.dfa_splitting.proofs.into.same_into.Given as goal

abbrev pub invariant-loop-i : goal.invariant-loop-i
invariant-loop-i l = record {
  low : MatchOption l.i (Unit {0}) (λ a. a < l.ie);
  low_other : MatchOption l.j (Unit {0}) (λ b. b < l.je);
  looped : (G : List ℕ) (g : ℕ) → Comparing G g l.n l.s l.p l.q l.words
      → Into-loop G l.n l.p l.q (class_at l.words) l.s (unwrap_or l.i l.ie) l.ie (unwrap_or l.j l.je) l.je;
}

abbrev pub decreases-loop-i : goal.decreases-loop-i
decreases-loop-i l = l.ie - unwrap_or l.i l.ie
