-- The settled graph is a graph, and each of its steps is a step of the old one, settled. Assumes nothing.
use mathlib.Core.Bool.{cond}
use mathlib.Core.List.{List}
use mathlib.Core.Path.{◌∙◌, ◌≡◌, ap, subst, sym}
use Prim.Native.Nat.{◌+◌, ◌-◌, ◌<◌, ◌≤◌, suc, zero, ℕ}
use native.Mathlib.Decide.{ℕ_discrete}
use native.Mathlib.Omega.{arith}
use lib.Dec.{eqb}
use lib.ListN.{get_or}
use borrow.Author.Tests.{eq-eqb, ne_eqb}
use Rattle.dfa.specs.Graph.{Graph, target}
use Rattle.dfa_silent.specs.Silent.{Settled, Settling, Silent, moved}
use Rattle.dfa_silent.proofs.laws.Settle.{rising}
use Rattle.dfa_silent.proofs.laws.Silent.{moved-lt, stays}

settled-lt : (S : List ℕ) (n x y : ℕ) → Silent n S → x < n → Settled S n x y → y < n
settled-lt S n x y s h t = rw t.ends (go (ℕ_discrete (get_or S (moved S t.steps x) 0) 0))
  where
    go : Dec (get_or S (moved S t.steps x) 0 ≡ 0) → cond (eqb (get_or S (moved S t.steps x) 0) 0)
        (moved S t.steps x) (n - 1) < n
    go (yes e) = rw (eq-eqb _ _ e) (moved-lt n S t.steps x s h)
    go (no e) = rw (ne_eqb _ _ e) (omega arith)

-- a state that is not silent settles where it is
pub settled_here : (S : List ℕ) (n x : ℕ) → get_or S x 0 ≡ 0 → Settled S n x x
settled_here S n x e = record {
  steps = n;
  enough = omega arith;
  ends = sym (ap (λ z. cond (eqb (get_or S z 0) 0) z (n - 1)) (stays S x n e) ∙ rw (eq-eqb (get_or S x 0) 0 e));
}

module _ (S G G' : List ℕ) (n : ℕ) (g : Graph G n) (s : Silent n S) (t : Settling n S G G') where
  -- the edges of a state are among those that are settled
  within : (p i : ℕ) → p < n → get_or G p 0 ≤ i → i < get_or G (p + 1) 0 → Settled S n (target G n i) (target G' n i)
  within p i h a b = t.targets i (omega (arith, rising G n g p (omega arith)))
      (omega (
        arith,
        upto (n - (p + 1)) (omega arith),
        ap (λ j. get_or G j 0) {x = p + 1 + (n - (p + 1))}
            {y = n} (omega arith),
      ))
    where
      upto : (k : ℕ) → p + 1 + k ≤ n → get_or G (p + 1) 0 ≤ get_or G (p + 1 + k) 0
      upto zero l = subst (λ j. get_or G (p + 1) 0 ≤ get_or G j 0) {x = p + 1} {y = p + 1 + zero}
          (omega arith) (omega arith)
      upto (suc k) l =
          let r = upto k (omega arith) in
          let e = (g.edges (p + 1 + k) (omega arith)).le in
          subst (λ j. get_or G (p + 1) 0 ≤ get_or G j 0) {x = p + 1 + k + 1} {y = p + 1 + suc k} (omega arith) (omega arith)

  pub settled-graph : Graph G' n
  settled-graph = record {
    some = g.some;
    few = g.few;
    room = omega (arith, g.room, t.size);
    edges = λ p h. let e = g.edges p h in rw (t.first p (omega arith), t.first (p + 1) (omega arith)) (record {
      le = e.le;
      room = omega (arith, e.room, t.size);
      rising = λ k a b. rw (t.letters k, t.letters (k + 1)) (e.rising k a b);
      small = λ k a b. (
        rw (t.letters k) (e.small k a b).0,
        settled-lt S n _ _ s (e.small k a b).1
            (within p k h a b),
      );
    });
  }
