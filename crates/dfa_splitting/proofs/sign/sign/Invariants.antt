use mathlib.Core.List.{List}
use Prim.Native.Nat.{◌<◌, ℕ}
use Rattle.dfa_splitting.specs.inner.Signs.{SignLoop, Signing}
use Rattle.dfa_splitting.proofs.sign.sign.Given as goal

abbrev pub invariant-loop-i : goal.invariant-loop-i
invariant-loop-i l = (l.v < 150994945) × ((G : List ℕ) (g : ℕ) (cls : ℕ → ℕ)
    → Signing G g l.n l.p cls l.words → SignLoop G l.n l.p cls l.s l.initial.i l.end l.initial.v → SignLoop G l.n l.p cls l.s l.i l.end l.v)
