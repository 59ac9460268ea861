-- The dead state accepts no word, and what tells a state from it is accepted. Assumes nothing.
use mathlib.Core.Bool.{Bool, false, true}
use mathlib.Core.List.{List, [], ◌∷◌}
use mathlib.Core.Logic.{◌≢◌}
use mathlib.Core.Path.{◌∙◌, ◌≡◌, ap, refl, sym}
use Prim.Native.Nat.{◌+◌, ◌-◌, zero, ℕ}
use native.Mathlib.Omega.{arith}
use lib.ListN.{get_or}
use borrow.Author.Tests.{ne_eqb}
use Rattle.dfa.specs.Graph.{look, δ}
use Rattle.dfa.specs.Live.{Accepts, Single}
use Rattle.dfa.specs.Word.{accepting, after}

pub no_true : {A : Type 0} → false ≡ true → A
no_true e = let z : ◌≡◌ {A = ℕ} 0 1 = cc in absurd (omega arith)

not-no : (b : Bool) → b ≢ false → b ≡ true
not-no true h = refl
not-no false h = absurd (h refl)

module _ (G : List ℕ) (n f : ℕ) (s : Single G n f) where
  -- no letter leads out of the dead state
  dead-step : (m : ℕ) → δ G n (n - 1) m ≡ n - 1
  unfolding look
  dead-step m = ap (λ k. look G n m k (get_or G (n - 1) 0)) {x = get_or G (n - 1 + 1) 0 - get_or G (n - 1) 0} {y = zero}
      (omega (arith, ap (λ k. get_or G k 0) {x = n - 1 + 1} {y = n} (omega (arith, s.graph.some)), s.empty))

  dead_stays : (u : List ℕ) → after (δ G n) (n - 1) u ≡ n - 1
  dead_stays [] = refl
  dead_stays (m ∷ u) = ap (λ x. δ G n x m) (dead_stays u) ∙ dead-step m

  pub dead-refuses : (u : List ℕ) → accepting f f (after (δ G n) (n - 1) u) ≡ false
  dead-refuses u = ap (accepting f f) (dead_stays u)
      ∙ rw (ne_eqb (n - 1) f (λ e. s.other (sym e)))

  -- what tells p from the dead state, p accepts
  pub told-live : (p : ℕ) (u : List ℕ) → accepting f f (after (δ G n) p u) ≢ accepting f f (after (δ G n) (n - 1) u)
      → Accepts G n f p u
  told-live p u ne = not-no (accepting f f (after (δ G n) p u)) (λ e. ne (e ∙ sym (dead-refuses u)))
