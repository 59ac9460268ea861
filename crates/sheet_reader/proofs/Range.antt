-- No sheet with a Z of document 01 is read otherwise with 31 for the greatest Z (02 [11]).
use Prim.Native.Nat.{ℕ, ◌≤◌}
use native.Mathlib.Omega.{arith}
use mathlib.Core.Path.{◌≡◌, refl, ap, ◌∙◌}
use mathlib.Core.List.{List}
use lib.ListN.{length, get_or}
use lib.Dec.{eqb, leb, ltb}
use borrow.Author.Tests.{ltb-false, le-ltb}
use Rattle.sheet_records.specs.Limits.{earlier_z, greatest_z, most_bytes}
use Rattle.sheet_records.specs.declared.edition.Edition.{Edition}
use Rattle.sheet_reader.specs.Reader.{Answer, got, refused, Whole, whole_by, whole_of, accepted, checks, read_under}
use Rattle.sheet_reader.specs.Agreement.{EarlierRange, StillAccepted}
use Rattle.sheet_reader.proofs.Answers.{All, one, none', pick_all}

-- Z passes the test of either range
whole-alike : (ed : Edition) (s : List ℕ) → get_or s 0 0 ≤ earlier_z → whole_of ed s ≡ whole_by earlier_z ed s
unfolding whole_by
whole-alike ed s h = rw (le-ltb earlier_z (get_or s 0 0) h, le-ltb greatest_z (get_or s 0 0) (omega arith)) refl

-- THEOREM: where Z is within document 01's range, the answer is the one with that range
earlier-range : EarlierRange
unfolding read_under
earlier-range ed s h = ap (checks s) (whole-alike ed s h)

-- what is read has a Z within the range
Within : ℕ → List ℕ → Answer Whole → Type 0
Within most s = All (λ x ty end. get_or s 0 0 ≤ most)

read-within : (most : ℕ) (ed : Edition) (s : List ℕ) → Within most s (whole_by most ed s)
unfolding whole_by Within
read-within most ed s =
    pick_all (Within most s) (ltb most_bytes (length s)) (λ e. none') (λ e.
    pick_all (Within most s) (leb (length s) 0) (λ e. none') (λ e.
    pick_all (Within most s) (eqb (get_or s 0 0) 0) (λ e. none') (λ e.
    pick_all (Within most s) (ltb most (get_or s 0 0)) (λ e. none') (λ e.
    every _ (ltb-false most (get_or s 0 0) e)))))
  where
    every : (A : Answer Whole) → get_or s 0 0 ≤ most → Within most s A
    every (got x ty end) h = one h
    every (refused k p) h = none'

-- THEOREM: what was accepted with document 01's range is accepted, as the same sheet
pub still-accepted : StillAccepted
unfolding checks Within
still-accepted ed s S ty n e =
    earlier-range ed s (go (whole_by earlier_z ed s) (read-within earlier_z ed s) e) ∙ e
  where
    go : (A : Answer Whole) → Within earlier_z s A → checks s A ≡ accepted S ty n → get_or s 0 0 ≤ earlier_z
    go A (one h) f = h
    go A none' f = let z : ◌≡◌ {A = ℕ} 0 1 = cc in absurd (omega arith)
