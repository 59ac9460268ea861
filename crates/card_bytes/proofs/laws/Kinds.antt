-- The kind of a move by the width of its own record. Assumes nothing.
use mathlib.Core.Path.{◌≡◌}
use Prim.Native.Nat.{◌+◌, ◌-◌, ◌<◌, ◌≤◌, ℕ}
use native.Mathlib.Decide.{dec_lt}
use native.Mathlib.Omega.{arith}
use borrow.Author.Tests.{le-ltb, lt-ltb}
use Rattle.card_bytes.specs.Kinds.{MOVE, VALUED-MOVE, move_kind}

short-kind : (w : ℕ) → w < 4 → move_kind w ≡ MOVE
unfolding move_kind
short-kind w h = rw (lt-ltb w 4 h)

long-kind : (w : ℕ) → 4 ≤ w → move_kind w ≡ VALUED-MOVE
unfolding move_kind
long-kind w h = rw (le-ltb w 4 h)

-- a record has at most four bytes
pub kind-is : (w : ℕ) → w ≤ 4 → move_kind w ≡ MOVE + (w - 3)
kind-is w h = by (dec_lt w 4)
  where
    by : Dec (w < 4) → move_kind w ≡ MOVE + (w - 3)
    by (yes l) = omega (arith, short-kind w l)
    by (no l) = omega (arith, long-kind w (omega arith))

pub kind-least : (w : ℕ) → MOVE ≤ move_kind w
kind-least w = by (dec_lt w 4)
  where
    by : Dec (w < 4) → MOVE ≤ move_kind w
    by (yes l) = omega (arith, short-kind w l)
    by (no l) = omega (arith, long-kind w (omega arith))
