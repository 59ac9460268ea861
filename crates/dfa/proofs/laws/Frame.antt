-- What a store leaves. Assumes nothing.
use mathlib.Core.List.{List}
use mathlib.Core.Logic.{◌≢◌}
use mathlib.Core.Path.{◌≡◌}
use Prim.Native.Nat.{◌<◌, ℕ}
use native.Mathlib.Decide.{ℕ_discrete}
use native.Mathlib.Omega.{arith}
use lib.ListN.{get_or, length, set}
use lib.Seq.{get_or-set_other, get_or-set_same}
use Rattle.dfa.specs.Frame.{SameFrom}

-- a store at place i leaves what is on its other side
pub set-from : (n i v : ℕ) (ws : List ℕ) → i < n → SameFrom n ws (set ws i v)
set-from n i v ws h j l = get_or-set_other ws i j v 0 (λ q. omega arith)

-- what holds at the stored place and at the others
pub set_all : (Φ : ℕ → ℕ → Type 0) (ws : List ℕ) (i v : ℕ) → i < length ws → Φ i v
    → ((x : ℕ) → x ≢ i → Φ x (get_or ws x 0)) → (x : ℕ) → Φ x (get_or (set ws i v) x 0)
set_all Φ ws i v l new old x = go (ℕ_discrete x i)
  where
    go : Dec (x ≡ i) → Φ x (get_or (set ws i v) x 0)
    go (yes q) = rw (q, get_or-set_same ws i v 0 l) new
    go (no q) = rw (get_or-set_other ws i x v 0 q) (old x q)
