-- The next letter of two lists of edges. Assumes nothing.
use mathlib.Core.List.{List}
use mathlib.Core.Logic.{inl, inr}
use mathlib.Core.Path.{◌≡◌}
use Prim.Native.Nat.{◌+◌, ◌<◌, ◌≤◌, ℕ}
use native.Mathlib.Decide.{dec_lt}
use native.Mathlib.Omega.{arith}
use Rattle.dfa.specs.Graph.{Edges, letter}
use Rattle.dfa.specs.Step.{Next}

-- it is the smaller of their first letters
pub next : (G : List ℕ) (n i ie j je a b m : ℕ) → Edges G n i ie → Edges G n j je → i + j < ie + je
    → (i < ie → a ≡ letter G n i) × (ie ≤ i → a ≡ 4294967295) → (j < je → b ≡ letter G n j) × (je ≤ j → b ≡ 4294967295)
    → (m ≤ a) × ((m ≤ b) × ((a < b → m ≡ a) × (b ≤ a → m ≡ b))) → Next G n i ie j je m
next G n i ie j je a b m e f h la lb lm = go (dec_lt i ie) (dec_lt j je) (dec_lt a b)
  where
    go : Dec (i < ie) → Dec (j < je) → Dec (a < b) → Next G n i ie j je m
    go (yes u) (yes v) (yes w) = record {
      lowi = λ x. omega (arith, la.0 u, lm.0);
      lowj = λ x. omega (arith, lb.0 v, lm.1.0);
      small = omega (arith, la.0 u, lm.0, (e.small i (omega arith) u).0);
      hit = inl (u, omega (arith, la.0 u, lm.1.1.0 w));
    }
    go (yes u) (yes v) (no w) = record {
      lowi = λ x. omega (arith, la.0 u, lm.0);
      lowj = λ x. omega (arith, lb.0 v, lm.1.0);
      small = omega (arith, la.0 u, lm.0, (e.small i (omega arith) u).0);
      hit = inr (v, omega (arith, lb.0 v, lm.1.1.1 (omega arith)));
    }
    go (yes u) (no v) w = let z = (e.small i (omega arith) u).0 in let y = la.0 u in let x = lb.1 (omega arith) in
        record {
          lowi = λ x. omega (arith, lm.0);
          lowj = λ x. absurd (omega arith);
          small = omega (arith, lm.0);
          hit = inl (u, omega (arith, lm.1.1.0 (omega arith)));
        }
    go (no u) (yes v) w = let z = (f.small j (omega arith) v).0 in let y = lb.0 v in let x = la.1 (omega arith) in
        record {
          lowi = λ x. absurd (omega arith);
          lowj = λ x. omega (arith, lm.1.0);
          small = omega (arith, lm.1.0);
          hit = inr (v, omega (arith, lm.1.1.1 (omega arith)));
        }
    go (no u) (no v) w = absurd (omega (arith, e.le, f.le))
