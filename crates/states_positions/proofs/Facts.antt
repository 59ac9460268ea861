-- A word past the end of the table.
use Prim.Native.Nat.{ℕ, ◌+◌, ◌*◌, ◌≤◌}
use mathlib.Core.Path.{◌≡◌, sym}
use mathlib.Core.List.{List}
use lib.ListN.{length, get_or-eq_default}
use Rattle.sheet_rows.specs.Row.{cell, word}

-- past the end of the table every word is 0
pub past : (t : List ℕ) (at i : ℕ) → length t ≤ 9 * at + i → 0 ≡ word t at i
unfolding word cell
past t at i h = sym (get_or-eq_default t 0 h)
