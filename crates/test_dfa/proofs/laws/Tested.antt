-- What the loops of the tests keep. Assumes nothing.
use mathlib.Core.List.{List}
use mathlib.Core.Path.{◌≡◌}
use Prim.Native.Nat.{◌*◌, ◌+◌, ◌<◌, ◌≤◌, ℕ}
use native.Mathlib.Decide.{ℕ_discrete}
use native.Mathlib.Omega.{arith}
use lib.ListN.{length}
use Rattle.dfa.specs.Graph.{Edges}
use Rattle.test_dfa.specs.Tested.{EdgeOk}

pub edges-ok : (G : List ℕ) (n i end k : ℕ) → i ≤ end → n + 1 + 2 * end ≤ length G → end ≤ k
    → ((x : ℕ) → i ≤ x → x < k → EdgeOk G n x end) → Edges G n i end
edges-ok G n i end k le room h ok = record {
  le = le;
  room = room;
  rising = λ x a b. (ok x a (omega arith)).rising b;
  small = λ x a b. (ok x a (omega arith)).small;
}

-- one more
pub all_more : (P : ℕ → Type 0) (k : ℕ) → ((x : ℕ) → x < k → P x) → P k → (x : ℕ) → x < k + 1 → P x
all_more P k ok e x b = go (ℕ_discrete x k)
  where
    go : Dec (x ≡ k) → P x
    go (yes q) = rw q e
    go (no q) = ok x (omega arith)
