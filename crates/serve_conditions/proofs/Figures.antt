-- The words that are asked for, by Z, and that they suffice.
use Prim.Native.Nat.{ℕ, ◌+◌, ◌*◌, ◌≤◌, ◌<◌}
use native.Mathlib.Omega.{arith}
use native.Mathlib.Decide.{dec_lt}
use mathlib.Core.Path.{◌≡◌, refl, ap}
use borrow.Author.Tests.{lt-ltb, le-ltb}
use Rattle.language.specs.declared.Numbers.{Numbers}
use Rattle.language.specs.Number.{numbers}
use Rattle.language.proofs.NumberLaws.{numbers-within}
use Rattle.sheet_records.specs.Limits.{earlier_z}
use Rattle.serve_conditions.specs.Lent.{words_a_state, words_asked}
use Rattle.serve_conditions.specs.Figure.{OldFigure, NewFigure}
use Rattle.serve_conditions.specs.inner.Enough.{Enough}

-- the words for each state
few_words : (N : Numbers) → N.z ≤ earlier_z → words_a_state N ≡ 32
unfolding words_a_state
few_words N h = rw (le-ltb earlier_z N.z h) refl

more-words : (N : Numbers) → earlier_z < N.z → words_a_state N ≡ 128
unfolding words_a_state
more-words N h = rw (lt-ltb earlier_z N.z h) refl

-- THEOREM: up to 7 the old figure stands
pub old-figure : OldFigure
unfolding words_asked
old-figure N n h = ap (λ (w : ℕ). w * (n + 1)) (few_words N h)

-- THEOREM: above 7 the new one does
pub new-figure : NewFigure
unfolding words_asked
new-figure N n h = ap (λ (w : ℕ). w * (n + 1)) (more-words N h)

-- THEOREM: the words for each state suffice for K numbers
pub enough : Enough
enough N z = by (dec_lt earlier_z N.z)
  where
    by : Dec (earlier_z < N.z) → (8 + numbers N ≤ words_a_state N) × (10 + 3 * numbers N ≤ 2 * words_a_state N)
    by (yes l) = (omega (arith, numbers-within N, more-words N l), omega (arith, numbers-within N, more-words N l))
    by (no l) =
        let e = few_words N (omega arith) in
        (omega (arith, numbers-within N, e), omega (arith, numbers-within N, e))

-- at least 32 are asked for each state
pub asked_low : (N : Numbers) (n : ℕ) {k : ℕ} → words_asked N n ≤ k → 32 * (n + 1) ≤ k
asked_low N n {k} h = by (dec_lt earlier_z N.z)
  where
    by : Dec (earlier_z < N.z) → 32 * (n + 1) ≤ k
    by (yes l) = omega (arith, h, new-figure N n l)
    by (no l) = omega (arith, h, old-figure N n (omega arith))
