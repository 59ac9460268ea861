-- The bytes of one move, as the code writes them. Assumes nothing.
use mathlib.Core.List.{List, [], ◌++◌, ◌∷◌}
use mathlib.Core.Path.{◌∙◌, ◌≡◌, ap, ap₂, refl, sym}
use Prim.Native.Nat.{◌%◌, ◌+◌, ◌-◌, ◌/◌, ◌≤◌, suc, ℕ}
use native.Mathlib.Numerals.{add-one}
use native.Mathlib.Omega.{arith}
use lib.ListN.{length, length-append, set}
use lib.Seq.{sets}
use Rattle.play_records.specs.Bytes.{record_by}
use Rattle.play_records.proofs.WritingPlays.{record-width, sets-append}
use Rattle.card_bytes.specs.Kinds.{filed, move_kind}
use Rattle.card_bytes.specs.Places.{move_bytes}
use Rattle.card_bytes.proofs.laws.Kinds.{kind-is}
use Rattle.card_bytes.proofs.laws.Laying.{set_first}

-- a move is its kind, its record and its position
move-bytes : (l to : ℕ) → move_bytes l to ≡ move_kind (length (record_by l)) ∷ (record_by l ++ (to % 256 ∷ to / 256 ∷ []))
unfolding move_bytes filed
move-bytes l to = refl

-- where a record ends
pub record-end : (place l end : ℕ) → end ≡ place + 1 + length (record_by l) → (place + 4 ≤ end) × (end ≤ place + 5)
record-end place l end a = let w = record-width l in (omega (arith, a, w.0), omega (arith, a, w.1))

-- two stores, one after the other
two_bytes : (s s₃ s₄ : List ℕ) (i x y a b : ℕ) → s₃ ≡ set s i x → s₄ ≡ set s₃ (i + 1) y → x ≡ a → y ≡ b
    → s₄ ≡ sets s i (a ∷ b ∷ [])
two_bytes s s₃ s₄ i x y a b d e f g = rw (e, d, f, g, add-one i)

module _ (s : List ℕ) (place l to end k : ℕ) (s₁ s₂ s₃ s₄ : List ℕ) (ends : end ≡ place + 1 + length (record_by l))
    (b : s₁ ≡ sets s (place + 1) (record_by l)) (a : k ≡ move_kind (end - place - 1)) (c : s₂ ≡ set s₁ place (k % 256))
    (d : s₃ ≡ set s₂ end (to % 256)) (e : s₄ ≡ set s₃ (end + 1) (to / 256 % 256)) where
  abbrev R : List ℕ
  R = record_by l

  abbrev Q : List ℕ
  Q = to % 65536 % 256 ∷ to % 65536 / 256 ∷ []

  kind : k % 256 ≡ move_kind (length R)
  kind =
      let w : end - place - 1 ≡ length R = omega (arith, ends) in
      omega (arith, a ∙ ap move_kind w, kind-is (length R) (record-width l).1, (record-width l).1)

  -- the place after the move
  move-after : end + 2 ≡ place + length (move_bytes l (to % 65536))
  move-after = omega (arith, ends, ap length (move-bytes l (to % 65536)), length-append R Q)

  -- its bytes
  move-written : s₄ ≡ sets s place (move_bytes l (to % 65536))
  move-written =
      let K = move_kind (length R) in
      let q : s₁ ≡ sets s (suc place) R =
      b ∙ ap (λ i. sets s i R) (add-one place) in
      let r : s₂ ≡ sets (set s place K) (suc place) R =
      c ∙ ap₂ (λ (x : List ℕ) v. set x place v) q kind ∙ set_first R s place (suc place) K (omega arith) in
      let f : end ≡ suc place + length R = omega (arith, ends) in
      let t : s₄ ≡ sets s₂ end Q =
      two_bytes s₂ s₃ s₄ end (to % 256) (to / 256 % 256) (to % 65536 % 256) (to % 65536 / 256) d e (omega arith)
      (omega arith) in
      t ∙ ap₂ (λ (x : List ℕ) i. sets x i Q) r f ∙ sym (sets-append R Q (set s place K) (suc place))
      ∙ ap (sets s place) (sym (move-bytes l (to % 65536)))

  -- both
  pub move-done : (end + 2 ≡ place + length (move_bytes l (to % 65536))) × (s₄ ≡ sets s place (move_bytes l (to % 65536)))
  move-done = (move-after, move-written)
