-- What an expanded entry leaves of the levels. Assumes nothing.
use mathlib.Core.List.{List}
use mathlib.Core.Path.{◌∙◌, ◌≡◌, ap, subst}
use Prim.Native.Nat.{◌*◌, ◌+◌, ◌<◌, ◌≤◌, suc, ℕ}
use native.Mathlib.Decide.{dec_lt}
use native.Mathlib.Omega.{arith}
use lib.ListN.{get_or, length}
use Rattle.dfa_search.specs.Spelled.{Spelled, more, none}
use Rattle.dfa_difference.specs.inner.Level.{Deep, Layer}
use Rattle.dfa_difference.specs.inner.Queue.{Grown}
use Rattle.dfa_search.proofs.Trace.{longer}

-- the words of the entries that stay
pub spelled_stays : (n tail : ℕ) (ws ws' : List ℕ)
    → ((i : ℕ) → n ≤ i → i < n + 4 * tail → get_or ws' i 0 ≡ get_or ws i 0) → (k : ℕ) (u : List ℕ) → k < tail
    → Spelled n ws' k u → Spelled n ws k u
spelled_stays n tail ws ws' s _ _ h none = none
spelled_stays n tail ws ws' s _ _ h (more {u = v} k l f w) =
    let e₂ : get_or ws' (n + 4 * k + 2) 0 ≡ get_or ws (n + 4 * k + 2) 0 = s (n + 4 * k + 2) (omega arith) (omega arith) in
    let r : Spelled n ws (get_or ws' (n + 4 * k + 2) 0) v = spelled_stays n tail ws ws' s (get_or ws' (n + 4 * k + 2) 0) v
    (omega arith) w in
    rw (s (n + 4 * k + 3) (omega arith) (omega arith))
    (more k l (omega (arith, e₂, f)) (subst (λ j. Spelled n ws j v) e₂ r))

-- an entry of the level is expanded
pub layer-again : (n from end head tail tail' : ℕ) (ws ws₁ ws₂ : List ℕ) → Layer n from end tail ws ws₁ → from ≤ head
    → head < end → Grown n head tail tail' ws₁ ws₂ → Layer n from end tail' ws ws₂
layer-again n from end head tail tail' ws ws₁ ws₂ a f h g = record {
  more = omega (arith, a.more, g.more);
  stays = λ i b l. g.stays i b (omega (arith, a.more)) ∙ a.stays i b l;
  least = λ k b l. least k b l (dec_lt k tail);
  below = λ k b l. below k b l (dec_lt k tail);
}
  where
    least : (k : ℕ) → end ≤ k → k < tail' → Dec (k < tail) → from ≤ get_or ws₂ (n + 4 * k + 2) 0
    least k b l (yes q) = rw (g.stays (n + 4 * k + 2) (omega arith) (omega arith)) (a.least k b q)
    least k b l (no q) = rw (g.fresh k (omega arith) l) f

    below : (k : ℕ) → end ≤ k → k < tail' → Dec (k < tail) → get_or ws₂ (n + 4 * k + 2) 0 < end
    below k b l (yes q) = rw (g.stays (n + 4 * k + 2) (omega arith) (omega arith)) (a.below k b q)
    below k b l (no q) = rw (g.fresh k (omega arith) l) h

-- the words of the next level have one letter more
pub deep-next : (n from end tail depth : ℕ) (ws ws' : List ℕ) → Layer n from end tail ws ws'
    → Deep n ws from end depth → Deep n ws' end tail (suc depth)
deep-next n from end tail depth ws ws' a d k h l u s =
    let b = a.below k h l in
    let w = longer n ws' k u (omega arith) s in
    ap length w.whole ∙ ap suc (d (get_or ws' (n + 4 * k + 2) 0) (a.least k h l) b w.rest
    (spelled_stays n end ws ws' a.stays _ w.rest b w.spelled))
