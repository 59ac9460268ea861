-- The automaton read from the words, with its edges in lists. Assumes nothing.
use mathlib.Core.List.{List}
use mathlib.Core.Path.{◌∙◌, ◌≡◌, ap}
use Prim.Native.Nat.{◌%◌, ◌*◌, ◌+◌, ◌<◌, ◌≤◌, ℕ}
use native.Mathlib.Omega.{arith}
use lib.ListN.{get_or, length}
use Rattle.dfa.specs.Graph.{EdgeOf, target}
use Rattle.dfa_classes.specs.Packed.{Packed}

module _ (G : List ℕ) (n g : ℕ) (ws : List ℕ) (P : Packed G n g ws) where
  -- what reading a word of edge e asks
  pub edge-room : (e : ℕ) → e < get_or G n 0 → (n ≤ 8192) × ((e < 262144) × (6 * n + 2 + 2 * e < length ws))
  edge-room e h = let z = P.sized in (z.few, (omega arith, omega arith))

  pub target-low : (p e : ℕ) → EdgeOf G n p e → target G n e < n
  target-low p e h = ((P.graph.edges p h.below).small e h.from h.to).1

  -- what stays where the words from 5 n to g + n do
  pub packed_keep : (ws' : List ℕ) → length ws' ≡ length ws
      → ((i : ℕ) → 5 * n ≤ i → i < g + n → get_or ws' i 0 ≡ get_or ws i 0) → Packed G n g ws'
  packed_keep ws' len keep =
      let z = P.sized in
      record {
        graph = P.graph;
        sized = record { some = z.some; few = z.few; edges = z.edges; behind = z.behind; room = omega arith };
        firsts = λ i h. keep (5 * n + i) (omega arith) (omega arith) ∙ P.firsts i h;
        letters = λ e h. keep (6 * n + 1 + 2 * e) (omega arith) (omega arith) ∙ P.letters e h;
        targets = λ e l h. ap (λ v. v % 8192) (keep (6 * n + 2 + 2 * e) (omega arith) (omega arith)) ∙ P.targets e l h;
        heads = λ t h. rw (keep (g + t) (omega arith) (omega arith)) (P.heads t h);
        nexts = λ e a h. rw (keep (6 * n + 2 + 2 * e) (omega arith) (omega arith)) (P.nexts e a h);
      }
