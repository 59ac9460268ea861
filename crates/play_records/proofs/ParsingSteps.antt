-- The first record of a play with records left, and what follows it.
use mathlib.Core.Path.{◌≡◌, sym, ◌∙◌}
use mathlib.Core.List.{List, ◌∷◌}
use Prim.Native.Nat.{ℕ, ◌+◌, ◌-◌, ◌≤◌, ◌<◌}
use native.Mathlib.Omega.{arith}
use native.Mathlib.Decide.{dec_lt}
use lib.ListN.{length, get_or, drop}
use Rattle.play_records.specs.Records.{Given, moves, bad, preceded, parse}
use Rattle.play_records.specs.Bytes.{width_of, first_letter}
use Rattle.play_records.proofs.Parsing.{parse-end, parse-unknown, parse-short, parse-step, first-letter-same}

-- at a place of the play stands the record r, of w bytes, and the records rs follow
pub record FirstRecord (play : List ℕ) (at w : ℕ) (r : List ℕ) (rs : List (List ℕ)) : Type 0 where
  pub fits : at + w ≤ length play
  pub after : parse (at + w) (drop (at + w) play) ≡ moves rs
  pub letter : first_letter r ≡ first_letter (drop at play)

-- a play with a bad record is not one of records
good-or-bad : (g : Given) (p : ℕ) (rs : List (List ℕ)) → g ≡ moves rs → g ≡ bad p → ⊥
good-or-bad g p rs e f = cc

-- what follows the first of several records
preceded-moves : (q : List ℕ) (g : Given) (r : List ℕ) (rs : List (List ℕ)) → preceded q g ≡ moves (r ∷ rs) →
    (q ≡ r) × (g ≡ moves rs)
unfolding preceded
preceded-moves q (moves qs) r rs e = (cc, cc)
preceded-moves q (bad p) r rs e = absurd (cc)

-- THEOREM: where records are left, the bytes of the first one are the next
pub first-record : (play : List ℕ) (at w : ℕ) (r : List ℕ) (rs : List (List ℕ)) → w ≡ width_of (get_or play at 0) →
    parse at (drop at play) ≡ moves (r ∷ rs) → FirstRecord play at w r rs
first-record play at w r rs q e = by (dec_lt at (length play)) (dec_lt 0 w) (dec_lt (length play - at) w)
  where
    by : Dec (at < length play) → Dec (0 < w) → Dec (length play - at < w) → FirstRecord play at w r rs
    by (no h) p l =
        absurd (cc (e, parse-end play at (omega arith)))
    by (yes h) (no p) l = absurd (good-or-bad _ _ _ e (parse-unknown play at q h (omega arith)))
    by (yes h) (yes p) (yes l) = absurd (good-or-bad _ _ _ e (parse-short play at q h l))
    by (yes h) (yes p) (no l) =
        let fits : at + w ≤ length play = omega arith in
        let f = preceded-moves _ _ r rs (sym (parse-step play at q p fits) ∙ e) in
        record
        { fits = fits; after = f.1; letter = rw f.0 at (first-letter-same play at q p fits) }
