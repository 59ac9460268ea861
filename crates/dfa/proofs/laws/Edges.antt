-- The edges of a graph: each has one source, and where there is an edge there is a step. Assumes nothing.
use mathlib.Core.Bool.{Bool, cond, false, true}
use mathlib.Core.List.{List, ◌∷◌}
use mathlib.Core.Logic.{◌↔◌, ◌⊎◌, inl, inr}
use mathlib.Core.Path.{◌∙◌, ◌≡◌, refl, subst, sym}
use Prim.Native.Nat.{◌+◌, ◌-◌, ◌<◌, ◌≤◌, suc, zero, ℕ}
use native.Mathlib.Decide.{dec_lt}
use native.Mathlib.Omega.{arith}
use lib.Dec.{eqb}
use lib.ListN.{get_or}
use borrow.Author.Tests.{eq-eqb, eqb-true}
use Rattle.dfa.specs.Graph.{EdgeOf, Edges, Graph, letter, look, target, δ}
use Rattle.dfa.specs.Live.{Live}
use Rattle.dfa.specs.Reading.{reversed, walk}
use Rattle.dfa.specs.Word.{accepting}
use Rattle.dfa.proofs.laws.Look.{edges-tail, look_at, look-past, rise}
use Rattle.dfa.proofs.laws.Reading.{reversed-reversed, walk-reversed}

-- one state accepts
alone : (f x : ℕ) → (accepting f f x ≡ true) ↔ (x ≡ f)
alone f x = ((λ e. eqb-true x f (by (eqb x f) e)), (λ e. rw (eq-eqb x f e)))
  where
    by : (b : Bool) → cond b true b ≡ true → b ≡ true
    by true e = refl
    by false e = e

-- f is in reach from p exactly if a word of letters, first letter first, leads there
pub live-walk : (G : List ℕ) (n f p : ℕ) → Live G n f p ↔ ((x : List ℕ) × (walk (δ G n) p x ≡ f))
live-walk G n f p = (
  (λ l. (reversed l.0, walk-reversed (δ G n) p l.0 ∙ (alone f _).0 l.1)),
  (λ h. (
    reversed h.0,
    (alone f _).1
        (sym (walk-reversed (δ G n) p (reversed h.0)) ∙ rw (reversed-reversed h.0) h.1),
  )),
)

-- a letter that leads to a live state leaves a live state
live-before : (G : List ℕ) (n f p m : ℕ) → Live G n f (δ G n p m) → Live G n f p
live-before G n f p m l =
    let w = (live-walk G n f (δ G n p m)).0 l in (live-walk G n f p).1 (m ∷ w.0, w.1)

-- edge i + d of the edges from i is the one with its letter
look-edge : (G : List ℕ) (n i end d : ℕ) → Edges G n i end → i + d < end
    → look G n (letter G n (i + d)) (end - i) i ≡ target G n (i + d)
look-edge G n i end zero e h = subst (λ j. look G n (letter G n j) (end - i) i ≡ target G n j) {x = i} {y = i + zero}
    (omega arith) (look_at G n (letter G n i) i end (omega arith) refl)
look-edge G n i end (suc d) e h =
    let left = edges-tail G n i end e (omega arith) in
    let same : i + 1 + d ≡ i + suc d = omega arith in
    let less = e.rising i (omega arith) (omega arith) in
    let rises : letter G n (i + 1) ≤ letter G n (i + suc d) = rw same at (rise G n (i + 1) end left d (omega arith)) in
    look-past G n (letter G n (i + suc d)) i end (omega arith) (λ q. omega arith)
    ∙ (rw same at (look-edge G n (i + 1) end d left (omega arith)))

-- a letter leads along an edge, or to the dead state
look-found : (G : List ℕ) (n m k i : ℕ)
    → (look G n m k i ≡ n - 1) ⊎ ((e : ℕ) × ((i ≤ e) × ((e < i + k) × (look G n m k i ≡ target G n e))))
unfolding look
look-found G n m zero i = inl refl
look-found G n m (suc k) i = go (look-found G n m k (suc i)) (eqb (letter G n i) m)
  where
    go : (look G n m k (suc i) ≡ n - 1)
        ⊎ ((e : ℕ) × ((suc i ≤ e) × ((e < suc i + k) × (look G n m k (suc i) ≡ target G n e))))
        → (b : Bool) → (cond b (target G n i) (look G n m k (suc i)) ≡ n - 1)
        ⊎ ((e : ℕ) × ((i ≤ e) × ((e < i + suc k) × (cond b (target G n i) (look G n m k (suc i)) ≡ target G n e))))
    go r true = inr (i, (omega arith, (omega arith, refl)))
    go (inl r) false = inl r
    go (inr (e, (a, (b, r)))) false = inr (e, (omega arith, (omega arith, r)))

module _ (G : List ℕ) (n : ℕ) (g : Graph G n) where
  -- the first edges rise with the states
  first-edges : (d p : ℕ) → p + d ≤ n → get_or G p 0 ≤ get_or G (p + d) 0
  first-edges zero p h = subst (λ k. get_or G p 0 ≤ get_or G k 0) {x = p} {y = p + zero} (omega arith) (omega arith)
  first-edges (suc d) p h =
      let r = first-edges d p (omega arith) in
      let e = (g.edges (p + d) (omega arith)).le in
      subst (λ k. get_or G p 0 ≤ get_or G k 0) {x = p + d + 1} {y = p + suc d} (omega arith) (omega arith)

  pub first_edge : (p q : ℕ) → p ≤ q → q ≤ n → get_or G p 0 ≤ get_or G q 0
  first_edge p q l h = subst (λ k. get_or G p 0 ≤ get_or G k 0) {x = p + (q - p)} {y = q} (omega arith)
      (first-edges (q - p) p (omega arith))

  -- an edge is between the first and the end
  pub edge-from : (p e : ℕ) → EdgeOf G n p e → get_or G 0 0 ≤ e
  edge-from p e h = omega (arith, first_edge 0 p (omega arith) (omega (arith, h.below)))

  pub edge_to : (p e : ℕ) → EdgeOf G n p e → e < get_or G n 0
  edge_to p e h = omega (arith, first_edge (p + 1) n (omega (arith, h.below)) (omega arith))

  -- an edge has one source
  pub one-source : (p q e : ℕ) → EdgeOf G n p e → EdgeOf G n q e → p ≡ q
  one-source p q e a b = go (dec_lt p q) (dec_lt q p)
    where
      go : Dec (p < q) → Dec (q < p) → p ≡ q
      go (yes l) d = absurd (omega (arith, first_edge (p + 1) q (omega arith) (omega (arith, b.below))))
      go (no l) (yes d) = absurd (omega (arith, first_edge (q + 1) p (omega arith) (omega (arith, a.below))))
      go (no l) (no d) = omega arith

  -- an edge is a step
  pub edge-step : (p e : ℕ) → EdgeOf G n p e → δ G n p (letter G n e) ≡ target G n e
  edge-step p e h =
      let at : get_or G p 0 + (e - get_or G p 0) ≡ e = omega (arith, h.from) in
      rw at at (look-edge G n (get_or G p 0) (get_or G (p + 1) 0) (e - get_or G p 0) (g.edges p h.below)
      (omega (arith, h.to)))

  -- and leaves a live state where it leads to one
  pub edge-live : (f p e : ℕ) → EdgeOf G n p e → Live G n f (target G n e) → Live G n f p
  edge-live f p e h l = live-before G n f p (letter G n e) (rw (edge-step p e h) l)

  -- a step is along an edge, or to the dead state
  pub step-edge : (p m : ℕ) → p < n
      → (δ G n p m ≡ n - 1) ⊎ ((e : ℕ) × (EdgeOf G n p e × (δ G n p m ≡ target G n e)))
  step-edge p m h = go (look-found G n m (get_or G (p + 1) 0 - get_or G p 0) (get_or G p 0))
    where
      go : (δ G n p m ≡ n - 1) ⊎ ((e : ℕ) × ((get_or G p 0 ≤ e)
          × ((e < get_or G p 0 + (get_or G (p + 1) 0 - get_or G p 0)) × (δ G n p m ≡ target G n e))))
          → (δ G n p m ≡ n - 1) ⊎ ((e : ℕ) × (EdgeOf G n p e × (δ G n p m ≡ target G n e)))
      go (inl r) = inl r
      go (inr (e, (a, (b, r)))) = inr (e, (record { below = h; from = a; to = omega (arith, (g.edges p h).le) }, r))
