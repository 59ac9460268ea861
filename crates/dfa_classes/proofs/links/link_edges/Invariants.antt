use mathlib.Core.List.{List}
use mathlib.Core.Path.{◌≡◌}
use Prim.Native.Nat.{ℕ}
use lib.ListN.{get_or}
use Rattle.dfa_classes.specs.inner.Linking.{Linking}
use Rattle.dfa_classes.proofs.links.link_edges.Given as goal

abbrev pub invariant-loop-e : goal.invariant-loop-e
invariant-loop-e l = (G : List ℕ) → Linking G l.n l.g l.initial.words (get_or G 0 0) l.initial.words
    → l.initial.e ≡ get_or G 0 0 → Linking G l.n l.g l.initial.words l.e l.words
