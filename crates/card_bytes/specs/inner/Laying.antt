-- The loops that write moves and positions: what is still to be written, and from where on. Assumes nothing.
use Rattle.std.specs.Prelude.{List, ◌≡◌, ◌+◌, ◌-◌, ◌≤◌, ℕ, length}
use Rattle.std.proofs.lemmas.List.Edits.{sets}
use Rattle.dfa_classes.specs.Places.{first_at}
use Rattle.card_bytes.specs.InWords.{edges_bytes, positions_bytes, state_bytes}

-- of the bytes `all`, to be written into the space from the place `from` on, `left` are still to be written, from i on
pub record Laying (all space : List ℕ) (from : ℕ) (left s : List ℕ) (i : ℕ) : Type 0 where
  pub place : i + length left ≡ from + length all
  pub same_length : length s ≡ length space
  pub same : sets s i left ≡ sets space from all

-- the loop over the edges of the state p: those from e on are still to be written
pub record Edging (ws : List ℕ) (n p : ℕ) (space : List ℕ) (place end : ℕ) (s : List ℕ) (e i : ℕ) : Type 0 where
  pub ends : end ≡ first_at n ws (p + 1)
  pub from : first_at n ws p ≤ e
  pub laying : Laying (state_bytes ws n p) space place (edges_bytes ws n (end - e) e) s i

-- the loop over the positions: those from k on are still to be written
pub record Placing (ws : List ℕ) (n f count : ℕ) (space : List ℕ) (place : ℕ) (s : List ℕ) (k i : ℕ) : Type 0 where
  pub laying : Laying (positions_bytes ws n f count 0) space place (positions_bytes ws n f (count - k) k) s i
