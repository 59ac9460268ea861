-- Numbers in decimal.
use Prim.Native.Nat.{ℕ, zero, suc, ◌+◌, ◌-◌, ◌/◌, ◌%◌, ◌≤◌, ◌<◌}
use native.Mathlib.Omega.{arith}
use native.Mathlib.Nat.{div-lt_self}
use mathlib.Core.Path.{◌≡◌, ap}
use mathlib.Core.List.{[], ◌∷◌, ◌++◌}
use lib.Dec.{ltb}
use borrow.Author.Tests.{lt-ltb, le-ltb, ltb-false}
use Rattle.language.specs.Number.{from_byte}
use Rattle.language.proofs.NumberLaws.{by-test, minus-below}
use Rattle.print_text.specs.Page.{Page, pushed, pushes}
use Rattle.print_text.specs.Text.{ascii, digits_in, digits, signed_digits}
use Rattle.print_text.proofs.Pages.{one, after}

-- more digits than a number has make no difference
enough : (n m v : ℕ) → v < n → v < m → digits_in n v ≡ digits_in m v
unfolding digits_in
enough zero m v h l = absurd (omega arith)
enough (suc n) zero v h l = absurd (omega arith)
enough (suc n) (suc m) v h l =
    by-test (ltb v 10) (λ t. rw t) (λ t.
    let k : v / 10 < v = div-lt_self (omega (arith, ltb-false v 10 t)) (omega arith) in
    rw (t, enough n m (v / 10) (omega arith) (omega arith)))

-- one digit, and more
pub digits-one : (v : ℕ) → v < 10 → digits v ≡ (48 + v) ∷ []
unfolding digits digits_in
digits-one v h = rw (lt-ltb v 10 h)

pub digits_more : (v : ℕ) → 10 ≤ v → digits v ≡ digits (v / 10) ++ ((48 + v % 10) ∷ [])
unfolding digits digits_in
digits_more v h =
    let k : v / 10 < v = div-lt_self (omega arith) (omega arith) in
    rw (le-ltb v 10 h, enough v (suc (v / 10)) (v / 10) k (omega arith))

-- the number of a byte, in two's complement
pub signed_low : (b : ℕ) → b < 128 → signed_digits (from_byte b) ≡ digits b
unfolding signed_digits from_byte
signed_low b h = rw (lt-ltb b 128 h)

pub signed_high : (b : ℕ) → 128 ≤ b → b < 256 → signed_digits (from_byte b) ≡ ascii "-" ++ digits (256 - b)
unfolding signed_digits from_byte
signed_high b h l = rw (le-ltb b 128 h, minus-below b 256 l) (ap (λ (n : ℕ). ascii "-" ++ digits n) (omega arith))

-- a number, written: its last digit after the others
pub decimal-one : {q : Page} (p : Page) (v : ℕ) → v < 10 → q ≡ pushed (48 + v) p → q ≡ pushes (digits v) p
decimal-one {q} p v h e = rw (digits-one v h) (one p q (48 + v) e)

pub decimal-more : {q r : Page} (p : Page) (v : ℕ) → 10 ≤ v → q ≡ pushes (digits (v / 10)) p →
    r ≡ pushed (48 + v % 10) q → r ≡ pushes (digits v) p
decimal-more {q} {r} p v h e d =
    rw (digits_more v h) (after p (digits (v / 10)) ((48 + v % 10) ∷ []) e (one q r (48 + v % 10) d))

-- the number of a byte, written
pub from-0 : {q : Page} (p : Page) (b : ℕ) → b < 128 → q ≡ pushes (digits b) p →
    q ≡ pushes (signed_digits (from_byte b)) p
from-0 p b h e = rw (signed_low b h) e

pub below-0 : {q r : Page} (p : Page) (b : ℕ) → 128 ≤ b → b < 256 → q ≡ pushes (ascii "-") p →
    r ≡ pushes (digits (256 - b)) q → r ≡ pushes (signed_digits (from_byte b)) p
below-0 p b h l e d = rw (signed_high b h l) (after p (ascii "-") (digits (256 - b)) e d)
