-- Bytes written one after the other, as a run of stores. Assumes nothing.
use mathlib.Core.List.{List, [], ◌++◌, ◌∷◌}
use mathlib.Core.Path.{◌∙◌, ◌≡◌, ap, ap₂, refl, sym}
use Prim.Native.Nat.{◌+◌, ◌<◌, suc, ℕ}
use native.Mathlib.Omega.{arith}
use lib.ListN.{length, length-append, set}
use lib.Seq.{length-sets, set_comm, sets}
use Rattle.play_records.proofs.WritingPlays.{sets-append}
use Rattle.card_bytes.specs.inner.Laying.{Laying}

-- a store before a run of stores
pub set_first : (xs s : List ℕ) (i j v : ℕ) → i < j → set (sets s j xs) i v ≡ sets (set s i v) j xs
set_first [] s i j v h = refl
set_first (x ∷ xs) s i j v h =
    set_first xs (set s j x) i (suc j) v (omega arith)
    ∙ ap (λ (t : List ℕ). sets t (suc j) xs) (set_comm s j i x v (λ e. omega (arith, h, e)))

-- nothing is written
pub laying-first : (all space : List ℕ) (from : ℕ) → Laying all space from all space from
laying-first all space from = record { place = refl; same_length = refl; same = refl }

-- some bytes more
pub laying-again : (all space : List ℕ) (from : ℕ) (xs left s : List ℕ) (i : ℕ) → Laying all space from (xs ++ left) s i
    → (i' : ℕ) (s' : List ℕ) → i' ≡ i + length xs → s' ≡ sets s i xs → Laying all space from left s' i'
laying-again all space from xs left s i L i' s' e f = record {
  place = omega (arith, e, L.place, length-append xs left);
  same_length = ap length f ∙ length-sets s i xs ∙ L.same_length;
  same = ap₂ (λ (t : List ℕ) j. sets t j left) f e ∙ sym (sets-append xs left s i) ∙ L.same;
}

-- all is written
pub laying-last : (all space : List ℕ) (from : ℕ) (left s : List ℕ) (i : ℕ) → Laying all space from left s i → left ≡ []
    → (i ≡ from + length all) × (s ≡ sets space from all)
laying-last all space from left s i L e =
    (omega (arith, L.place, ap length e), ap (sets s i) (sym e) ∙ L.same)
