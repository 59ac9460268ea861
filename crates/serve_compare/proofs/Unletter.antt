-- Which numbers are letters of moves, and the move of a letter.
use Prim.Native.Nat.{ℕ, ◌+◌, ◌*◌, ◌/◌, ◌%◌, ◌≤◌, ◌<◌, ◌^◌}
use native.Mathlib.Omega.{arith}
use native.Mathlib.Decide.{ℕ_discrete, dec_lt}
use mathlib.Core.Path.{◌≡◌, sym, ap, ◌∙◌}
use mathlib.Core.List.{List, [], ◌∷◌}
use Rattle.language.specs.declared.Numbers.{Numbers}
use Rattle.language.specs.Number.{numbers}
use Rattle.language.specs.Ty.{run, ask, read, write, done, ok, value}
use Rattle.language.specs.Move.{Event, question, answer, at, private, Move, move, kind, value_of}
use Rattle.states_words.specs.Letter.{ranked, letter, event_of}
use Rattle.states_words.specs.Letter.{Values, Small}
use Rattle.states_words.proofs.LetterLaws.{ranked-byte, event-again}

-- x is the letter of a move, or of none
pub data Unletter (N : Numbers) (x : ℕ) : Type 0 where
  of : (m : Move) → Small N m → letter N m ≡ x → Unletter N x
  none : ((m : Move) → Small N m → letter N m ≡ x → ⊥) → Unletter N x

-- the move whose parts are the bytes of x
unfoldable decoded : Numbers → ℕ → Move
decoded N x = move (at (x / 65536 % 256) (x / 256 % 256)) (event_of N (x / 16777216) (x % 256))

-- whether the parts of a move are in range
values? : (N : Numbers) (vs : List ℕ) → Dec (Values N vs)
unfolding Values
values? N [] = yes tt
values? N (v ∷ vs) = dec_lt v (numbers N)

small? : (N : Numbers) (m : Move) → Dec (Small N m)
unfolding Small
small? N (move (private i) e) = no (λ h. h)
small? N (move (at i j) e) = by (dec_lt i 256) (dec_lt j 256) (values? N (value_of e))
  where
    by : Dec (i < 256) → Dec (j < 256) → Dec (Values N (value_of e)) →
        Dec ((i < 256) × (j < 256) × Values N (value_of e))
    by (yes h) (yes k) (yes l) = yes (h, k, l)
    by (yes h) (yes k) (no l) = no (λ s. l s.2)
    by (yes h) (no k) d = no (λ s. k s.1)
    by (no h) c d = no (λ s. h s.0)

kind-below : (e : Event) → kind e < 7
unfolding kind
kind-below (question run) = omega arith
kind-below (question ask) = omega arith
kind-below (question read) = omega arith
kind-below (question (write v)) = omega arith
kind-below (answer done) = omega arith
kind-below (answer ok) = omega arith
kind-below (answer (value v)) = omega arith

-- the bytes of a number
second : (k i j r : ℕ) → i < 256 → j < 256 → r < 256 →
    (k * 16777216 + i * 65536 + j * 256 + r) / 65536 % 256 ≡ i
second k i j r hi hj hr = omega arith

third : (k i j r : ℕ) → i < 256 → j < 256 → r < 256 →
    (k * 16777216 + i * 65536 + j * 256 + r) / 256 % 256 ≡ j
third k i j r hi hj hr = omega arith

first : (k i j r : ℕ) → i < 256 → j < 256 → r < 256 →
    (k * 16777216 + i * 65536 + j * 256 + r) / 16777216 ≡ k
first k i j r hi hj hr = omega arith

last : (k i j r : ℕ) → i < 256 → j < 256 → r < 256 →
    (k * 16777216 + i * 65536 + j * 256 + r) % 256 ≡ r
last k i j r hi hj hr = omega arith

module _ (N : Numbers) (few : N.z ≤ 125) where
  -- a move is found again by its letter
  decoded-again : (m : Move) → Small N m → decoded N (letter N m) ≡ m
  unfolding decoded Small letter
  decoded-again (move (private i) e) h = absurd h
  decoded-again (move (at i j) e) (hi, hj, hv) =
      let r = ranked N (value_of e) in
      let hr = ranked-byte N few (value_of e) hv in
      rw (
        first (kind e) i j r hi hj hr,
        second (kind e) i j r hi hj hr,
        third (kind e) i j r hi hj hr,
        last (kind e) i j r hi hj hr,
        event-again N few e hv,
      )

  -- THEOREM: a number is the letter of a move, or of none
  pub unletter : (x : ℕ) → Unletter N x
  unletter x = by (small? N (decoded N x)) (ℕ_discrete (letter N (decoded N x)) x)
    where
      by : Dec (Small N (decoded N x)) → Dec (letter N (decoded N x) ≡ x) → Unletter N x
      by (yes s) (yes e) = of (decoded N x) s e
      by (yes s) (no e) = none (λ m h l. e (ap (letter N) (ap (decoded N) (sym l) ∙ decoded-again m h) ∙ l))
      by (no s) d = none (λ m h l. s (rw (← l, decoded-again m h) h))

  -- THEOREM: the letters of moves are below 2 ^ 27
  pub letter-below : (m : Move) → Small N m → letter N m < 2 ^ 27
  unfolding letter Small
  letter-below (move (private i) e) h = absurd h
  letter-below (move (at i j) e) (hi, hj, hv) =
      omega (arith, kind-below e, ranked-byte N few (value_of e) hv)
