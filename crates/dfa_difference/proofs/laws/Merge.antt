-- Two classes become one, and there is a class less; the queue with an entry more. Assumes nothing.
use mathlib.Core.Bool.{false, true}
use mathlib.Core.Logic.{◌≢◌}
use mathlib.Core.Path.{◌∙◌, ◌≡◌, ap, refl, subst, sym}
use Prim.Native.Nat.{◌+◌, ◌<◌, ◌≤◌, suc, zero, ℕ}
use native.Mathlib.Decide.{ℕ_discrete}
use native.Mathlib.Omega.{arith}
use lib.Dec.{eqb}
use borrow.Author.Tests.{eq-eqb, ne_eqb}
use Rattle.dfa_difference.specs.inner.Comparison.{Entry, one_if, roots, snoc}
use Rattle.dfa_search.specs.Classes.{merge}
use Rattle.dfa_search.proofs.Merging.{merge_in, merge-out}

pub roots-pos : (rep : ℕ → ℕ) (x m : ℕ) → rep x ≡ x → x < m → 0 < roots rep m
unfolding roots
roots-pos rep x zero e h = absurd (omega arith)
roots-pos rep x (suc m) e h = go (ℕ_discrete x m) (roots-pos rep x m e)
  where
    go : Dec (x ≡ m) → (x < m → 0 < roots rep m) → 0 < one_if (eqb (rep m) m) + roots rep m
    go (yes k) ih = rw (eq-eqb (rep m) m (ap rep (sym k) ∙ e ∙ k)) (omega arith)
    go (no k) ih = let p = ih (omega arith) in omega arith

pub roots-all : (m : ℕ) → roots (λ x. x) m ≡ m
unfolding roots
roots-all zero = refl
roots-all (suc m) = rw (eq-eqb m m refl, roots-all m) (omega arith)

pub snoc_old : (E : ℕ → Entry) (tail : ℕ) (e : Entry) (k : ℕ) → k < tail → snoc E tail e k ≡ E k
snoc_old E tail e k h = rw (ne_eqb k tail (λ q. omega arith))

pub snoc_new : (E : ℕ → Entry) (tail : ℕ) (e : Entry) → snoc E tail e tail ≡ e
snoc_new E tail e = rw (eq-eqb tail tail refl)

-- what holds of the old entries and of the new one
pub snoc-all : (E : ℕ → Entry) (tail : ℕ) (e : Entry) (Φ : ℕ → Entry → Type 0) → ((k : ℕ) → k < tail → Φ k (E k))
    → Φ tail e → (k : ℕ) → k < suc tail → Φ k (snoc E tail e k)
snoc-all E tail e Φ old new k h = go (ℕ_discrete k tail)
  where
    go : Dec (k ≡ tail) → Φ k (snoc E tail e k)
    go (yes q) = rw (eq-eqb k tail q) (subst (λ j. Φ j e) (sym q) new)
    go (no q) = rw (ne_eqb k tail q) (old k (omega arith))

module _ (rep : ℕ → ℕ) (idem : (x : ℕ) → rep (rep x) ≡ rep x) (a b : ℕ) (apart' : rep a ≢ rep b) where
  pub merge-idem : (x : ℕ) → merge rep a b (merge rep a b x) ≡ merge rep a b x
  merge-idem x = go (ℕ_discrete (rep x) (rep a))
    where
      go : Dec (rep x ≡ rep a) → merge rep a b (merge rep a b x) ≡ merge rep a b x
      go (yes e) = ap (merge rep a b) (merge_in rep a b x e) ∙ merge-out rep a b (rep b) (λ h. apart' (sym h ∙ idem b))
          ∙ idem b ∙ sym (merge_in rep a b x e)
      go (no e) = ap (merge rep a b) (merge-out rep a b x e) ∙ merge-out rep a b (rep x) (λ h. e (sym (idem x) ∙ h))
          ∙ idem x ∙ sym (merge-out rep a b x e)

  -- a state other than the root of a stands for its class as before
  merge-root : (x : ℕ) → x ≢ rep a → eqb (merge rep a b x) x ≡ eqb (rep x) x
  merge-root x ne = go (ℕ_discrete (rep x) (rep a))
    where
      go : Dec (rep x ≡ rep a) → eqb (merge rep a b x) x ≡ eqb (rep x) x
      go (yes e) = ne_eqb (merge rep a b x) x (λ h. apart' (sym e ∙ ap rep (sym h ∙ merge_in rep a b x e) ∙ idem b))
          ∙ sym (ne_eqb (rep x) x (λ h. ne (sym h ∙ e)))
      go (no e) = ap (λ y. eqb y x) (merge-out rep a b x e)

  roots-below : (m : ℕ) → m ≤ rep a → roots (merge rep a b) m ≡ roots rep m
  unfolding roots
  roots-below zero h = refl
  roots-below (suc m) h = rw (merge-root m (omega arith), roots-below m (omega arith))

  pub roots-merge : (m : ℕ) → rep a < m → suc (roots (merge rep a b) m) ≡ roots rep m
  unfolding roots
  roots-merge zero h = absurd (omega arith)
  roots-merge (suc m) h = go (ℕ_discrete m (rep a)) (roots-merge m)
    where
      go : Dec (m ≡ rep a) → (rep a < m → suc (roots (merge rep a b) m) ≡ roots rep m)
          → suc (one_if (eqb (merge rep a b m) m) + roots (merge rep a b) m) ≡ one_if (eqb (rep m) m) + roots rep m
      go (yes e) ih =
          let h₁ : eqb (merge rep a b m) m ≡ false = ne_eqb _ _
          (λ k. apart' (sym e ∙ sym k ∙ merge_in rep a b m (ap rep e ∙ idem a))) in
          let h₂ : eqb (rep m) m ≡ true = eq-eqb _ _ (ap rep e ∙ idem a ∙ sym e) in
          rw (h₁, h₂, roots-below m (omega arith)) (omega arith)
      go (no e) ih =
          let h₁ = ih (omega arith) in
          rw (merge-root m e, ← h₁) (omega arith)
