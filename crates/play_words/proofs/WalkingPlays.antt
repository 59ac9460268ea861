-- What the loop that walks a play's records through an automaton keeps.
use mathlib.Core.Path.{◌≡◌, refl, sym, ap, ◌∙◌}
use mathlib.Core.List.{List, [], ◌∷◌, map}
use Prim.Native.Nat.{ℕ, suc, ◌+◌, ◌-◌, ◌≤◌, ◌<◌}
use native.Mathlib.Omega.{arith}
use lib.ListN.{length, get_or, take, drop, length-drop}
use lib.Seq.{take_all}
use Rattle.dfa.specs.Graph.{δ, Graph}
use Rattle.dfa.specs.Reading.{walk}
use Rattle.dfa.proofs.laws.Look.{δ-lt}
use Rattle.play_records.specs.Records.{moves, parse}
use Rattle.play_records.specs.Bytes.{width_of, first_letter}
use Rattle.play_words.specs.Walk.{AtLeast, state_after}
use Rattle.play_records.proofs.ParsingSteps.{first-record}

-- after i records, of k at least, the state is p, and the records that are left stand from `at` on
pub record Walked (G : List ℕ) (n : ℕ) (play : List ℕ) (k p at i : ℕ) : Type 0 where
  pub all : List (List ℕ)
  pub whole : parse 0 play ≡ moves all
  pub left : List (List ℕ)
  pub parsed : parse at (drop at play) ≡ moves left
  pub within : at ≤ length play
  pub below : p < n
  pub enough : k ≤ i + length left
  pub later : (j : ℕ) → i ≤ j → walk (δ G n) p (take (j - i) (map first_letter left)) ≡ state_after G n all j

-- before the first record
pub walked-first : (G : List ℕ) (n : ℕ) (play : List ℕ) (k : ℕ) → Graph G n → AtLeast play k → Walked G n play k 0 0 0
walked-first G n play k g h = record {
  all = h.records;
  whole = h.parsed;
  left = h.records;
  parsed = h.parsed;
  within = omega arith;
  below = g.some;
  enough = omega (arith, h.enough);
  later = λ j l. let all : j - 0 ≡ j = omega arith in rw all refl;
}

-- the bytes from a place on, as they are lent
abbrev lent : ℕ → List ℕ → List ℕ
lent at play = take (length play - at) (drop at play)

-- they are the rest of the play
lent_is : (at : ℕ) (play : List ℕ) → lent at play ≡ drop at play
lent_is at play = take_all (length play - at) (drop at play) (omega (arith, length-drop at play))

-- one record more
pub walked-again : (G : List ℕ) (n : ℕ) (play : List ℕ) (k p at i m q b w : ℕ) → Graph G n →
    Walked G n play k p at i → i < k → m ≡ first_letter (lent at play) → q ≡ δ G n p m → b ≡ get_or play at 0 →
    w ≡ width_of b → Walked G n play k q (at + w) (i + 1)
walked-again G n play k p at i m q b w g h l em eq eb ew = by h.left h.parsed h.enough h.later
  where
    by : (left : List (List ℕ)) → parse at (drop at play) ≡ moves left → k ≤ i + length left →
        ((j : ℕ) → i ≤ j → walk (δ G n) p (take (j - i) (map first_letter left)) ≡ state_after G n h.all j) →
        Walked G n play k q (at + w) (i + 1)
    by [] e f s = absurd (omega arith)
    by (r ∷ rs) e f s =
        let R = first-record play at w r rs (ew ∙ ap width_of eb) e in
        let letter : m ≡ first_letter r = em ∙ ap first_letter (lent_is at play) ∙ sym R.letter in
        record {
          all = h.all;
          whole = h.whole;
          left = rs;
          parsed = R.after;
          within = R.fits;
          below = rw eq (δ-lt G n p m g h.below);
          enough = omega arith;
          later = λ j o.
              let count : j - i ≡ suc (j - (i + 1)) = omega arith in
              rw (eq, letter) (rw count at (s j (omega arith)));
        }

-- the state after them
pub walked-state : (G : List ℕ) (n : ℕ) (play : List ℕ) (k p at i : ℕ) (W : Walked G n play k p at i) →
    p ≡ state_after G n W.all i
walked-state G n play k p at i W =
    let none : i - i ≡ 0 = omega arith in
    rw none at (W.later i (omega arith))
