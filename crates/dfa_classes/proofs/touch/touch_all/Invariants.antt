use mathlib.Core.List.{List}
use mathlib.Core.Path.{◌≡◌}
use Prim.Native.Nat.{◌<◌, ℕ}
use Rattle.dfa_classes.specs.Places.{from_at, to_at}
use Rattle.dfa_classes.specs.inner.Sources.{AllTouching, Copied}
use Rattle.dfa_classes.specs.inner.Touching.{Touching}
use Rattle.dfa_classes.proofs.touch.touch_all.Given as goal

abbrev pub invariant-loop-j : goal.invariant-loop-j
invariant-loop-j l = (G : List ℕ) (own : ℕ → ℕ) (count : ℕ) (ws : List ℕ)
    → Touching G l.n l.g l.s own count ws 0 → l.s < count → l.a ≡ from_at l.n ws l.s → l.b ≡ to_at l.n ws l.s → Copied l.n l.g l.a l.b ws l.initial.words
    → AllTouching G l.n l.g l.s own count l.initial.words l.words l.k l.j
