-- The words of classes follow the places. Assumes nothing.
use mathlib.Core.List.{List}
use mathlib.Core.Path.{◌∙◌, ◌≡◌, sym}
use Prim.Native.Nat.{◌*◌, ◌+◌, ◌<◌, ◌≤◌, ℕ}
use native.Mathlib.Decide.{dec_lt, ℕ_discrete}
use native.Mathlib.Omega.{arith}
use lib.ListN.{length}
use Rattle.dfa_classes.specs.Parted.{Parted}
use Rattle.dfa_classes.specs.Places.{class_at, from_at, member_at, to_at}
use Rattle.dfa_splitting.specs.inner.Renaming.{RenamedOne, RenamedTo, RenamedUpTo, ToRename}
use Rattle.dfa_classes.proofs.laws.Touching.{few-classes, parted-keep}

pub rename-asks : (n c : ℕ) (ws : List ℕ) → ToRename n c ws → (c < n) × ((n ≤ 8192) × (5 * n ≤ length ws))
rename-asks n c ws R = (omega (arith, R.low, few-classes n ws R.own R.count R.parted), (R.few, R.room))

module _ (n : ℕ) (ws : List ℕ) (own : ℕ → ℕ) (count c : ℕ) (P : Parted n ws own count) (low : c < count) where
  module _ (i end : ℕ) (v : List ℕ) (R : RenamedTo n own c i ws v) (from : from_at n ws c ≤ i) (h : i < end)
      (ee : end ≡ to_at n ws c) (p : ℕ) (ep : p ≡ member_at n v i) where
    p-is : p ≡ member_at n ws i
    p-is = ep ∙ R.keeps (n + i) (omega arith)

    pub p-low : p < n
    p-low = rw p-is (P.member_low i (omega (arith, P.top c low)))

-- class after class
module _ (n : ℕ) (ws : List ℕ) (own : ℕ → ℕ) (k : ℕ) (P : Parted n ws own k) (count : ℕ) where
  module _ (c : ℕ) (v : List ℕ) (R : RenamedUpTo n own count c ws v) where
    pub still-parted : Parted n v own k
    still-parted = parted-keep n ws v own k P (λ x a b. R.keeps x a)

    pub upto-again : count ≤ c → (w : List ℕ) → RenamedOne n own c v w → RenamedUpTo n own count (c + 1) ws w
    upto-again ge w O = record {
      len = O.len ∙ R.len;
      keeps = λ x h. O.keeps x h ∙ R.keeps x h;
      here = λ p h a b. here p h a b (ℕ_discrete (own p) c);
      there = λ p h a. O.there p h (λ q. omega arith) ∙ R.there p h a;
    }
      where
        here : (p : ℕ) → p < n → count ≤ own p → own p < c + 1 → Dec (own p ≡ c) → class_at w p ≡ own p
        here p h a b (yes q) = O.here p h q ∙ sym q
        here p h a b (no q) = O.there p h q ∙ R.here p h a (less (dec_lt (own p) c))
          where
            less : Dec (own p < c) → own p < c
            less (yes y) = y
            less (no y) = absurd (q (omega arith))
