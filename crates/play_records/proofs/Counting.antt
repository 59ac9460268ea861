-- The loop over the records of a play.
use Prim.Native.Nat.{ℕ, ◌+◌, ◌-◌, ◌≤◌, ◌<◌}
use native.Mathlib.Omega.{arith}
use native.Mathlib.Nat.{add-zero}
use mathlib.Core.Path.{◌≡◌, refl, sym, ap, ◌∙◌}
use mathlib.Core.List.{List}
use lib.ListN.{length, get_or, drop}
use Rattle.play_records.specs.Records.{Given, moves, bad, preceded, parse}
use Rattle.play_records.specs.Bytes.{width_of, counted}
use Rattle.std.specs.Prelude.{Ok, Err}
use Rattle.play_records.proofs.Parsing.{parse-end, parse-unknown, parse-short, parse-step}

-- so many records come before a place, and those of the whole play are counted where the rest is
pub record Count (play : List ℕ) (at count : ℕ) : Type 0 where
  pub within : at ≤ length play
  pub few : count ≤ at
  pub same : counted 0 (parse 0 play) ≡ counted count (parse at (drop at play))

-- one record more
counted_step : (c : ℕ) (r : List ℕ) (g : Given) → counted c (preceded r g) ≡ counted (c + 1) g
unfolding counted preceded
counted_step c r (moves rs) = ap Ok (omega arith)
counted_step c r (bad place) = refl

-- before the first record
pub count-first : (play : List ℕ) → Count play 0 0
count-first play = record { within = omega arith; few = omega arith; same = refl }

module _ {play : List ℕ} {at count : ℕ} (C : Count play at count) where
  -- the end of the play
  pub count-last : length play ≤ at → Ok count ≡ counted 0 (parse 0 play)
  unfolding counted
  count-last h = sym (C.same ∙ ap (counted count) (parse-end play at h) ∙ ap Ok (add-zero count))

  module _ (b w : ℕ) (e : b ≡ get_or play at 0) (q : w ≡ width_of b) where
    -- the width of the record at a place
    width-here : w ≡ width_of (get_or play at 0)
    width-here = q ∙ ap width_of e

    -- a record of no kind
    pub count-unknown : at < length play → w ≡ 0 → Err at ≡ counted 0 (parse 0 play)
    unfolding counted
    count-unknown h z = sym (C.same ∙ ap (counted count) (parse-unknown play at width-here h z))

    -- a record cut short
    pub count-short : at < length play → length play - at < w → Err at ≡ counted 0 (parse 0 play)
    unfolding counted
    count-short h l = sym (C.same ∙ ap (counted count) (parse-short play at width-here h l))

    -- a good record
    pub count-again : at < length play → (w ≡ 0 → ⊥) → w ≤ length play - at → Count play (at + w) (count + 1)
    count-again h n l =
        let p : 0 < w = omega arith in
        record {
          within = omega arith;
          few = omega (arith, C.few);
          same =
              C.same ∙ ap (counted count) (parse-step play at width-here p (omega arith)) ∙ counted_step count _ _;
        }
