-- The records of a play, one step at a time.
use Prim.Native.Nat.{ℕ, ◌+◌, ◌-◌, ◌≤◌, ◌<◌}
use native.Mathlib.Omega.{arith}
use native.Mathlib.Nat.{add-zero}
use mathlib.Core.Path.{◌≡◌, refl}
use mathlib.Core.Bool.{true, false}
use mathlib.Core.List.{List, [], ◌∷◌}
use lib.Dec.{ltb}
use lib.ListN.{length, get_or, take, drop, length-drop, drop_of_length-le}
use lib.Seq.{get_or-drop, drop-drop}
use borrow.Author.Tests.{lt-ltb, le-ltb}
use native.Mathlib.Decide.{dec_lt}
use Rattle.play_records.specs.Records.{moves, bad, preceded, parse}
use Rattle.play_records.specs.Bytes.{width_of, letter_from, first_letter}

-- the kinds of records: three bytes, four bytes, or no such kind
pub data Width (k w : ℕ) : Type 0 where
  three : w ≡ 3 → k < 5 → ltb k 5 ≡ true → Width k w
  four : w ≡ 4 → 5 ≤ k → k < 7 → ltb k 5 ≡ false → ltb k 7 ≡ true → Width k w
  unknown : w ≡ 0 → 7 ≤ k → ltb k 5 ≡ false → ltb k 7 ≡ false → Width k w

-- the width of a record by its kind
pub width : (k w : ℕ) → w ≡ width_of k → Width k w
unfolding width_of
width k w q = by (dec_lt k 5) (dec_lt k 7)
  where
    by : Dec (k < 5) → Dec (k < 7) → Width k w
    by (yes h) d = three (rw (lt-ltb k 7 (omega arith), lt-ltb k 5 h) at q) h (lt-ltb k 5 h)
    by (no h) (yes l) =
        let a : ltb k 5 ≡ false = le-ltb k 5 (omega arith) in
        let b : ltb k 7 ≡ true = lt-ltb k 7 l in
        four (rw (b, a) at q) (omega arith) l a b
    by (no h) (no l) =
        let a : ltb k 5 ≡ false = le-ltb k 5 (omega arith) in
        let b : ltb k 7 ≡ false = le-ltb k 7 (omega arith) in
        unknown (rw b at q) (omega arith) a b

-- a record of a kind that there is, not cut short
step_of : (at w : ℕ) (s : List ℕ) → Width (get_or s 0 0) w → 0 < w → w ≤ length s →
    parse at s ≡ preceded (take w s) (parse (at + w) (drop w s))
unfolding parse preceded
step_of at w [] (three e h a) p l = absurd (omega arith)
step_of at w [] (four e g h a b) p l = absurd (omega arith)
step_of at w s (unknown e g a b) p l = absurd (omega arith)
step_of at w (k ∷ []) (three e h a) p l = absurd (omega arith)
step_of at w (k ∷ []) (four e g h a b) p l = absurd (omega arith)
step_of at w (k ∷ i ∷ []) (three e h a) p l = absurd (omega arith)
step_of at w (k ∷ i ∷ []) (four e g h a b) p l = absurd (omega arith)
step_of at w (k ∷ i ∷ j ∷ []) (three e h a) p l = rw (a, e)
step_of at w (k ∷ i ∷ j ∷ []) (four e g h a b) p l = absurd (omega arith)
step_of at w (k ∷ i ∷ j ∷ v ∷ s) (three e h a) p l = rw (a, e)
step_of at w (k ∷ i ∷ j ∷ v ∷ s) (four e g h a b) p l = rw (a, b, e)

-- a record of a kind that there is not
unknown-of : (at : ℕ) (s : List ℕ) → Width (get_or s 0 0) 0 → 0 < length s → parse at s ≡ bad at
unfolding parse
unknown-of at s (three e h a) p = absurd (omega arith)
unknown-of at s (four e g h a b) p = absurd (omega arith)
unknown-of at [] (unknown e g a b) p = absurd (omega arith)
unknown-of at (k ∷ []) (unknown e g a b) p = refl
unknown-of at (k ∷ i ∷ []) (unknown e g a b) p = refl
unknown-of at (k ∷ i ∷ j ∷ []) (unknown e g a b) p = rw a
unknown-of at (k ∷ i ∷ j ∷ v ∷ s) (unknown e g a b) p = rw (a, b)

-- a record cut short
short-of : (at w : ℕ) (s : List ℕ) → Width (get_or s 0 0) w → 0 < length s → length s < w → parse at s ≡ bad at
unfolding parse
short-of at w s (unknown e g a b) p l = absurd (omega arith)
short-of at w [] (three e h a) p l = absurd (omega arith)
short-of at w [] (four e g h a b) p l = absurd (omega arith)
short-of at w (k ∷ []) (three e h a) p l = refl
short-of at w (k ∷ []) (four e g h a b) p l = refl
short-of at w (k ∷ i ∷ []) (three e h a) p l = refl
short-of at w (k ∷ i ∷ []) (four e g h a b) p l = refl
short-of at w (k ∷ i ∷ j ∷ []) (three e h a) p l = absurd (omega arith)
short-of at w (k ∷ i ∷ j ∷ []) (four e g h a b) p l = rw a
short-of at w (k ∷ i ∷ j ∷ v ∷ s) (three e h a) p l = absurd (omega arith)
short-of at w (k ∷ i ∷ j ∷ v ∷ s) (four e g h a b) p l = absurd (omega arith)

-- the letter of a record is that of the bytes that begin with it
letter-of : (w : ℕ) (s : List ℕ) → Width (get_or s 0 0) w → 0 < w → w ≤ length s →
    first_letter (take w s) ≡ first_letter s
unfolding first_letter letter_from
letter-of w [] (three e h a) p l = absurd (omega arith)
letter-of w [] (four e g h a b) p l = absurd (omega arith)
letter-of w s (unknown e g a b) p l = absurd (omega arith)
letter-of w (k ∷ []) (three e h a) p l = absurd (omega arith)
letter-of w (k ∷ []) (four e g h a b) p l = absurd (omega arith)
letter-of w (k ∷ i ∷ []) (three e h a) p l = absurd (omega arith)
letter-of w (k ∷ i ∷ []) (four e g h a b) p l = absurd (omega arith)
letter-of w (k ∷ i ∷ j ∷ []) (three e h a) p l = rw e
letter-of w (k ∷ i ∷ j ∷ []) (four e g h a b) p l = absurd (omega arith)
letter-of w (k ∷ i ∷ j ∷ v ∷ s) (three e h a) p l = rw (e, a)
letter-of w (k ∷ i ∷ j ∷ v ∷ s) (four e g h a b) p l = rw e

module _ (play : List ℕ) (at : ℕ) where
  -- the end of a play
  pub parse-end : length play ≤ at → parse at (drop at play) ≡ moves []
  unfolding parse
  parse-end h = rw (drop_of_length-le play h)

  module _ {w : ℕ} (q : w ≡ width_of (get_or play at 0)) where
    -- the width of the record at a place
    width-at : Width (get_or (drop at play) 0 0) w
    width-at = rw (get_or-drop at play 0 0, add-zero at) (width (get_or play at 0) w q)

    -- a record of no kind
    pub parse-unknown : at < length play → w ≡ 0 → parse at (drop at play) ≡ bad at
    parse-unknown h z = unknown-of at (drop at play) (rw z at width-at) (omega (arith, length-drop at play))

    -- a record cut short
    pub parse-short : at < length play → length play - at < w → parse at (drop at play) ≡ bad at
    parse-short h l =
        let n = length-drop at play in
        short-of at w (drop at play) width-at (omega arith) (omega arith)

    -- a good record, then those after it
    pub parse-step : 0 < w → at + w ≤ length play →
        parse at (drop at play) ≡ preceded (take w (drop at play)) (parse (at + w) (drop (at + w) play))
    parse-step p l =
        rw (← drop-drop w at play)
        (step_of at w (drop at play) width-at p (omega (arith, length-drop at play)))

    -- its letter
    pub first-letter-same : 0 < w → at + w ≤ length play →
        first_letter (take w (drop at play)) ≡ first_letter (drop at play)
    first-letter-same p l = letter-of w (drop at play) width-at p (omega (arith, length-drop at play))
