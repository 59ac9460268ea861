-- The bytes of the move by one edge. Assumes nothing.
use mathlib.Core.List.{List, []}
use mathlib.Core.Logic.{◌≢◌}
use mathlib.Core.Path.{◌∙◌, ◌≡◌, ap, refl, sym}
use Prim.Native.Nat.{◌%◌, ◌+◌, ◌-◌, ℕ}
use native.Mathlib.Omega.{arith}
use lib.ListN.{length}
use lib.Seq.{sets}
use borrow.Author.Tests.{eq-eqb, ne_eqb}
use Rattle.dfa_classes.specs.Places.{class_at, letter_at, number_at, target_at}
use Rattle.card_bytes.specs.Places.{move_bytes}
use Rattle.card_bytes.specs.InWords.{edge_bytes, towards}

-- an edge to the dead class has no bytes
pub none-bytes : (ws : List ℕ) (n e : ℕ) → class_at ws (target_at n ws e) ≡ class_at ws (n - 1) → edge_bytes ws n e ≡ []
unfolding edge_bytes towards
none-bytes ws n e h = rw (eq-eqb (class_at ws (target_at n ws e)) (class_at ws (n - 1)) h) refl

-- any other has those of its move
pub some_bytes : (ws : List ℕ) (n e : ℕ) → class_at ws (target_at n ws e) ≢ class_at ws (n - 1)
    → edge_bytes ws n e ≡ move_bytes (letter_at n ws e) ((number_at n ws (class_at ws (target_at n ws e)) - 1) % 65536)
unfolding edge_bytes towards
some_bytes ws n e h = rw (ne_eqb (class_at ws (target_at n ws e)) (class_at ws (n - 1)) h) refl

-- c is the class of the target, d that of the dead state
module _ (ws : List ℕ) (n e t c d : ℕ) (is : t ≡ target_at n ws e) (a : c ≡ class_at ws t) (b : d ≡ class_at ws (n - 1))
  where
    class-is : c ≡ class_at ws (target_at n ws e)
    class-is = a ∙ ap (class_at ws) is

    -- nothing is written for an edge to the dead class
    pub edge_none : c ≡ d → (s : List ℕ) (place : ℕ)
        → (place ≡ place + length (edge_bytes ws n e)) × (s ≡ sets s place (edge_bytes ws n e))
    edge_none h s place =
        let z = none-bytes ws n e (sym class-is ∙ h ∙ b) in
        (omega (arith, ap length z), ap (sets s place) (sym z))

    -- its move for any other
    pub edge-some : (c ≡ d → ⊥) → (l to : ℕ) → l ≡ letter_at n ws e → to ≡ number_at n ws c - 1 → (s s' : List ℕ)
        → (place r : ℕ) → r ≡ place + length (move_bytes l (to % 65536)) → s' ≡ sets s place (move_bytes l (to % 65536))
        → (r ≡ place + length (edge_bytes ws n e)) × (s' ≡ sets s place (edge_bytes ws n e))
    edge-some h l to el et s s' place r er es =
        let z = some_bytes ws n e (λ q. h (class-is ∙ q ∙ sym b)) in
        let m : move_bytes l (to % 65536) ≡ edge_bytes ws n e = rw (z, el, et, class-is) in
        (er ∙ ap (λ (x : List ℕ). place + length x) m, es ∙ ap (sets s place) m)
