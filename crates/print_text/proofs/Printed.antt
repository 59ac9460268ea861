-- The moves of a play, one record after the other.
use Prim.Native.Nat.{ℕ, zero, suc, ◌+◌, ◌-◌, ◌≤◌, ◌<◌}
use native.Mathlib.Omega.{arith}
use mathlib.Core.Path.{◌≡◌, refl, sym, ap, ◌∙◌}
use mathlib.Core.List.{List, [], ◌∷◌}
use lib.ListN.{length, get_or, take, drop, length-drop}
use lib.Seq.{take_all, drop-drop, get_or-drop}
use borrow.Author.Tests.{lt-ltb, le-ltb}
use Rattle.print_text.specs.Page.{Page, pushes}
use Rattle.language.specs.Number.{from_byte}
use Rattle.print_text.specs.Text.{ascii, signed_digits, value_text, first_move, first_width, moves_text}
use Rattle.print_text.proofs.Pages.{pushes-append, after}

-- the first byte of what follows a place
first_of : (s : List ℕ) (place : ℕ) → get_or (drop place s) 0 0 ≡ get_or s place 0
first_of s place = get_or-drop place s 0 0 ∙ ap (λ (n : ℕ). get_or s n 0) (omega arith)

-- the width of the record at a place
pub width-short : (s : List ℕ) (place b : ℕ) → b ≡ get_or s place 0 → b < 5 → first_width (drop place s) ≡ 3
unfolding first_width
width-short s place b e h = rw (first_of s place, ← e, lt-ltb b 5 h)

pub width-long : (s : List ℕ) (place b : ℕ) → b ≡ get_or s place 0 → 5 ≤ b → first_width (drop place s) ≡ 4
unfolding first_width
width-long s place b e h = rw (first_of s place, ← e, le-ltb b 5 h)

-- nothing follows the end
past_end : (n : ℕ) (s : List ℕ) → length s ≤ n → drop n s ≡ []
past_end zero [] h = refl
past_end (suc n) [] h = refl
past_end zero (x ∷ s) h = absurd (omega arith)
past_end (suc n) (x ∷ s) h = past_end n s (omega arith)

-- the place after a record, where there is room for it, and the end where there is none
module _ (s : List ℕ) (place w : ℕ) (d : first_width (drop place s) ≡ w) (h : place ≤ length s) where
  pub room : w ≤ length s - place →
      (place + w ≤ length s) × (drop (place + w) s ≡ drop (first_width (drop place s)) (drop place s))
  room l = (omega arith, rw d (sym (drop-drop w place s)))

  pub no_room : length s - place < w →
      (length s ≤ length s) × (drop (length s) s ≡ drop (first_width (drop place s)) (drop place s))
  no_room l = (
    omega arith,
    rw d (past_end (length s) s (omega arith)
        ∙ sym (drop-drop w place s ∙ past_end (place + w) s (omega arith))),
  )

-- what is lent from a place on
pub lent : (s : List ℕ) (place : ℕ) → take (length s - place) (drop place s) ≡ drop place s
lent s place = take_all (length s - place) (drop place s) (omega (arith, length-drop place s))

-- the loop over the moves: its start, a turn and its end
pub moves-start : (s : List ℕ) (count : ℕ) (p : Page) →
    pushes (moves_text (count - 0) (drop 0 s)) p ≡ pushes (moves_text count s) p
moves-start s count p = ap (λ (n : ℕ). pushes (moves_text n s) p) (omega arith)

module _ (s : List ℕ) (count i place : ℕ) (p₀ p : Page)
    (inv : pushes (moves_text (count - i) (drop place s)) p ≡ pushes (moves_text count s) p₀) where
  pub moves-again : (q : Page) (next : ℕ) → i < count →
      q ≡ pushes (first_move (take (length s - place) (drop place s))) p →
      drop next s ≡ drop (first_width (drop place s)) (drop place s) →
      pushes (moves_text (count - (i + 1)) (drop next s)) q ≡ pushes (moves_text count s) p₀
  unfolding moves_text
  moves-again q next h e d =
      let n : count - i ≡ suc (count - (i + 1)) = omega arith in
      let k = rw (n, pushes-append) at inv in
      rw (e, lent s place, d) k

  pub moves-end : i ≤ count → count ≤ i → p ≡ pushes (moves_text count s) p₀
  unfolding moves_text pushes
  moves-end h l = let n : count - i ≡ 0 = omega arith in rw n at inv

-- the value of a move
pub no_value : (p : Page) (kind b : ℕ) → kind < 5 → p ≡ pushes (value_text kind b) p
unfolding value_text pushes
no_value p kind b h = rw (lt-ltb kind 5 h)

pub some_value : {q r : Page} (p : Page) (kind b : ℕ) → 5 ≤ kind → q ≡ pushes (ascii " ") p →
    r ≡ pushes (signed_digits (from_byte b)) q → r ≡ pushes (value_text kind b) p
unfolding value_text
some_value p kind b h e d = rw (le-ltb kind 5 h) (after p (ascii " ") (signed_digits (from_byte b)) e d)
