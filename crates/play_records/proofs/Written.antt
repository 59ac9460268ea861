-- What each turn of the loop over a play's letters writes.
use Prim.Native.Nat.{ℕ, suc, ◌+◌, ◌*◌, ◌/◌, ◌%◌, ◌≤◌, ◌<◌}
use native.Mathlib.Omega.{arith}
use native.Mathlib.Numerals.{add-one}
use mathlib.Core.Path.{◌≡◌, refl, sym, ap, ap₂, ◌∙◌}
use mathlib.Core.List.{List, [], ◌∷◌}
use lib.ListN.{length, get_or, drop, set, drop_of_length-le}
use lib.Seq.{sets, drop-cons, length-sets}
use borrow.Author.Tests.{lt-ltb, le-ltb}
use Rattle.play_records.specs.Bytes.{record_by, records_by}
use Rattle.play_records.proofs.WritingPlays.{record-width, sets-append}

-- a record, byte by byte
module _ (s s₁ s₂ s₃ : List ℕ) (from l : ℕ) (a : s₁ ≡ set s from (l / 16777216 % 256))
    (b : s₂ ≡ set s₁ (from + 1) (l / 65536 % 256)) (c : s₃ ≡ set s₂ (from + 2) (l / 256 % 256)) where
  -- as a run of stores
  three-stores :
      s₃ ≡ sets s from ((l / 16777216 % 256) ∷ (l / 65536 % 256) ∷ (l / 256 % 256) ∷ [])
  three-stores =
      let e : from + 1 ≡ suc from = omega arith in
      let f : from + 2 ≡ suc (suc from) = omega arith in
      rw (c, b, a, e, f)

  -- three bytes are put
  pub put_three : l / 16777216 < 5 → (from + 3 ≡ from + length (record_by l)) × (s₃ ≡ sets s from (record_by l))
  unfolding record_by
  put_three h = rw (lt-ltb (l / 16777216) 5 h) (refl, three-stores)

  -- four bytes are put
  pub put_four : (s₄ : List ℕ) → 5 ≤ l / 16777216 → s₄ ≡ set s₃ (from + 3) ((l % 256 + 128) % 256) →
      (from + 4 ≡ from + length (record_by l)) × (s₄ ≡ sets s from (record_by l))
  unfolding record_by
  put_four s₄ h d =
      let e : from + 3 ≡ suc (suc (suc from)) = omega arith in
      rw (le-ltb (l / 16777216) 5 h) (refl, d ∙ ap₂ (λ (x : List ℕ) i. set x i ((l % 256 + 128) % 256)) three-stores e)

-- i letters are written, and those after them are still to be written from a place on
pub record Writing (letters space : List ℕ) (from i : ℕ) (s : List ℕ) : Type 0 where
  pub few : from ≤ 4 * i
  pub same_length : length s ≡ length space
  pub same : sets space 0 (records_by letters) ≡ sets s from (records_by (drop i letters))

-- before the first letter
pub writing-first : (letters space : List ℕ) → Writing letters space 0 0 space
writing-first letters space = record { few = omega arith; same_length = refl; same = refl }

-- one letter's record, then the rest
rest-same : (s s' xs : List ℕ) (from from' l x : ℕ) → l ≡ x → from' ≡ from + length (record_by l) →
    s' ≡ sets s from (record_by l) → sets s from (records_by (x ∷ xs)) ≡ sets s' from' (records_by xs)
unfolding records_by
rest-same s s' xs from from' l x e f g = rw (g, f, e) (sets-append (record_by x) (records_by xs) s from)

module _ {letters space : List ℕ} {from i : ℕ} {s : List ℕ} (W : Writing letters space from i s) where
  -- one letter more
  pub writing-again : (from' l : ℕ) (s' : List ℕ) → i < length letters → l ≡ get_or letters i 0 →
      from' ≡ from + length (record_by l) → s' ≡ sets s from (record_by l) → Writing letters space from' (i + 1) s'
  writing-again from' l s' h e f g = record {
    few = omega (arith, f, (record-width l).1, W.few);
    same_length = ap length g ∙ length-sets s from (record_by l) ∙ W.same_length;
    same = W.same ∙ ap (λ x. sets s from (records_by x)) (rw (add-one i) (drop-cons letters i 0 h)) ∙
        rest-same s s' _ from from' l _ e f g;
  }

  -- all letters are written
  pub writing-last : length letters ≤ i → s ≡ sets space 0 (records_by letters)
  unfolding records_by
  writing-last h = sym (W.same ∙ ap (λ x. sets s from (records_by x)) (drop_of_length-le letters h))
