-- The loops over the edges of a state and over positions. Assumes nothing.
use mathlib.Core.Bool.{Bool, cond, false, true}
use mathlib.Core.List.{List, [], ◌++◌}
use mathlib.Core.Path.{◌∙◌, ◌≡◌, ap, ap₂, refl, sym}
use Prim.Native.Nat.{◌%◌, ◌+◌, ◌-◌, ◌<◌, ◌≤◌, suc, ℕ}
use native.Mathlib.Numerals.{add-one}
use native.Mathlib.Omega.{arith}
use lib.Dec.{eqb}
use lib.ListN.{length, length-append, set}
use lib.Seq.{sets}
use Rattle.dfa_classes.specs.Places.{state_at}
use Rattle.dfa_classes.specs.Places.{first_at}
use Rattle.card_bytes.specs.InWords.{edge_bytes, edges_bytes, position_bytes}
use Rattle.card_bytes.specs.InWords.{positions_bytes, state_bytes}
use Rattle.card_bytes.specs.inner.Laying.{Edging, Placing}
use Rattle.card_bytes.proofs.laws.Laying.{laying-again, laying-first, laying-last}

-- the first of the edges to the end, and the others
edges_step : (ws : List ℕ) (n e end : ℕ) → e < end
    → edges_bytes ws n (end - e) e ≡ edge_bytes ws n e ++ edges_bytes ws n (end - (e + 1)) (e + 1)
unfolding edges_bytes
edges_step ws n e end h =
    ap (λ k. edges_bytes ws n k e) {x = end - e} {y = suc (end - (e + 1))} (omega arith)
    ∙ ap (λ x. edge_bytes ws n e ++ edges_bytes ws n (end - (e + 1)) x) (sym (add-one e))

edges_none : (ws : List ℕ) (n e end : ℕ) → end ≤ e → edges_bytes ws n (end - e) e ≡ []
unfolding edges_bytes
edges_none ws n e end h = ap (λ k. edges_bytes ws n k e) {x = end - e} {y = 0} (omega arith)

-- the loop over the edges of the state p
pub edging-first : (ws : List ℕ) (n p : ℕ) (space : List ℕ) (place e end : ℕ) → e ≡ first_at n ws p
    → end ≡ first_at n ws (p + 1) → Edging ws n p space place end space e place
unfolding state_bytes
edging-first ws n p space place e end a b = record {
  ends = b;
  from = omega (arith, a);
  laying = rw (a, b) (laying-first (state_bytes ws n p) space place);
}

pub edging-again : (ws : List ℕ) (n p : ℕ) (space : List ℕ) (place end : ℕ) (s : List ℕ) (e i : ℕ)
    → Edging ws n p space place end s e i → e < end → (i' : ℕ) (s' : List ℕ) → i' ≡ i + length (edge_bytes ws n e)
    → s' ≡ sets s i (edge_bytes ws n e) → Edging ws n p space place end s' (e + 1) i'
edging-again ws n p space place end s e i E h i' s' a b = record {
  ends = E.ends;
  from = omega (arith, E.from);
  laying = laying-again (state_bytes ws n p) space place (edge_bytes ws n e) (edges_bytes ws n (end - (e + 1)) (e + 1)) s i
      (rw (edges_step ws n e end h) at E.laying) i' s' a b;
}

pub edging-last : (ws : List ℕ) (n p : ℕ) (space : List ℕ) (place end : ℕ) (s : List ℕ) (e i : ℕ)
    → Edging ws n p space place end s e i → end ≤ e
    → (i ≡ place + length (state_bytes ws n p)) × (s ≡ sets space place (state_bytes ws n p))
edging-last ws n p space place end s e i E h =
    laying-last (state_bytes ws n p) space place (edges_bytes ws n (end - e) e) s i E.laying (edges_none ws n e end h)

-- a position: its kind, its byte and its moves
byte_small : (b : Bool) → cond b 1 0 % 256 ≡ cond b 1 0
byte_small true = refl
byte_small false = refl

pub position-written : (ws : List ℕ) (n f p : ℕ) (s s₁ s₂ s₃ : List ℕ) (place v r : ℕ) → s₁ ≡ set s place (40 % 256)
    → v ≡ cond (eqb p f) 1 0 → s₂ ≡ set s₁ (place + 1) (v % 256) → r ≡ place + 2 + length (state_bytes ws n p)
    → s₃ ≡ sets s₂ (place + 2) (state_bytes ws n p)
    → (r ≡ place + length (position_bytes ws n f p)) × (s₃ ≡ sets s place (position_bytes ws n f p))
unfolding position_bytes
position-written ws n f p s s₁ s₂ s₃ place v r a b c d e =
    let x : place + 2 ≡ suc (suc place) = omega arith in
    let y : v % 256 ≡ cond (eqb p f) 1 0 = ap (λ k. k % 256) b ∙ byte_small (eqb p f) in
    let t : s₂ ≡ set (set s place 40) (suc place) (cond (eqb p f) 1 0) = rw (c, a, y, add-one place) in
    (omega (arith, d), e ∙ ap₂ (λ (z : List ℕ) i. sets z i (state_bytes ws n p)) t x)

-- its length is that of its moves and two more
pub position-length : (ws : List ℕ) (n f p place b : ℕ) → place + length (position_bytes ws n f p) ≤ b
    → place + 2 + length (state_bytes ws n p) ≤ b
unfolding position_bytes
position-length ws n f p place b h = omega arith

-- the first of the positions, and the others
positions-step : (ws : List ℕ) (n f count k : ℕ) → k < count
    → positions_bytes ws n f (count - k) k
    ≡ position_bytes ws n f (state_at n ws k) ++ positions_bytes ws n f (count - (k + 1)) (k + 1)
unfolding positions_bytes
positions-step ws n f count k h =
    ap (λ c. positions_bytes ws n f c k) {x = count - k} {y = suc (count - (k + 1))} (omega arith)
    ∙ ap (λ x. position_bytes ws n f (state_at n ws k) ++ positions_bytes ws n f (count - (k + 1)) x) (sym (add-one k))

positions-none : (ws : List ℕ) (n f count k : ℕ) → count ≤ k → positions_bytes ws n f (count - k) k ≡ []
unfolding positions_bytes
positions-none ws n f count k h = ap (λ c. positions_bytes ws n f c k) {x = count - k} {y = 0} (omega arith)

-- the loop over the positions
pub placing-again : (ws : List ℕ) (n f count : ℕ) (space : List ℕ) (place : ℕ) (s : List ℕ) (k i : ℕ)
    → Placing ws n f count space place s k i → k < count → (p : ℕ) → p ≡ state_at n ws k → (i' : ℕ) (s' : List ℕ)
    → i' ≡ i + length (position_bytes ws n f p) → s' ≡ sets s i (position_bytes ws n f p)
    → Placing ws n f count space place s' (k + 1) i'
placing-again ws n f count space place s k i L h p q i' s' a b = record {
  laying = laying-again (positions_bytes ws n f count 0) space place (position_bytes ws n f p)
      (positions_bytes ws n f (count - (k + 1)) (k + 1)) s i (rw (positions-step ws n f count k h, ← q) at L.laying)
      i' s' a b;
}

-- the place and what is still to be written are within the bound
pub placing-room : (ws : List ℕ) (n f count : ℕ) (space : List ℕ) (place : ℕ) (s : List ℕ) (k i : ℕ)
    → Placing ws n f count space place s k i → k < count → (p : ℕ) → p ≡ state_at n ws k → (b : ℕ)
    → place + length (positions_bytes ws n f count 0) ≤ b → i + length (position_bytes ws n f p) ≤ b
placing-room ws n f count space place s k i L h p q b room =
    let e = ap length (positions-step ws n f count k h) in
    omega (
      arith,
      L.laying.place,
      e,
      room,
      ap (λ x. length (position_bytes ws n f x)) q,
      length-append (position_bytes ws n f (state_at n ws k)) (positions_bytes ws n f (count - (k + 1)) (k + 1)),
    )

pub placing-last : (ws : List ℕ) (n f count : ℕ) (space : List ℕ) (place : ℕ) (s : List ℕ) (k i : ℕ)
    → Placing ws n f count space place s k i → count ≤ k
    → (i ≡ place + length (positions_bytes ws n f count 0)) × (s ≡ sets space place (positions_bytes ws n f count 0))
placing-last ws n f count space place s k i L h =
    laying-last (positions_bytes ws n f count 0) space place (positions_bytes ws n f (count - k) k) s i L.laying
    (positions-none ws n f count k h)
