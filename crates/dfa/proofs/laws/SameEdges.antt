-- Graphs with the same edges have the same steps. Assumes nothing.
use mathlib.Core.List.{List, [], ◌∷◌}
use mathlib.Core.Path.{◌∙◌, ◌≡◌, ap, refl}
use Prim.Native.Nat.{◌*◌, ◌+◌, ◌-◌, ◌<◌, ◌≤◌, suc, zero, ℕ}
use native.Mathlib.Omega.{arith}
use lib.ListN.{get_or}
use Rattle.dfa.specs.Graph.{Edges, Graph, SameEdges, letter, look, target, δ}
use Rattle.dfa.specs.Reading.{walk}
use Rattle.dfa.proofs.laws.Edges.{first_edge}
use Rattle.dfa.proofs.laws.Look.{δ-lt}

-- edges with the same letters and targets lead alike
same-look : (G G' : List ℕ) (n m k i : ℕ) → ((j : ℕ) → i ≤ j → j < i + k → letter G' n j ≡ letter G n j)
    → ((j : ℕ) → i ≤ j → j < i + k → target G' n j ≡ target G n j) → look G' n m k i ≡ look G n m k i
unfolding look
same-look G G' n m zero i l t = refl
same-look G G' n m (suc k) i l t = rw (
  l i (omega arith) (omega arith),
  t i (omega arith) (omega arith),
  same-look G G' n m k (suc i) (λ j a b. l j (omega arith) (omega arith)) (λ j a b. t j (omega arith) (omega arith)),
)

module _ (G G' : List ℕ) (n : ℕ) (g : Graph G n) (s : SameEdges n G G') where
  same_first : (p : ℕ) → p ≤ n → get_or G' p 0 ≡ get_or G p 0
  same_first p h = s.words p (omega arith)

  same-letter : (e : ℕ) → e < get_or G n 0 → letter G' n e ≡ letter G n e
  same-letter e h = s.words (n + 1 + 2 * e) (omega arith)

  same_target : (e : ℕ) → e < get_or G n 0 → target G' n e ≡ target G n e
  same_target e h = s.words (n + 2 + 2 * e) (omega arith)

  -- a state's edges end before the end of all
  ends : (p : ℕ) → p < n → get_or G (p + 1) 0 ≤ get_or G n 0
  ends p h = first_edge G n g (p + 1) n (omega arith) (omega arith)

  same_edges : (p : ℕ) → p < n → Edges G n (get_or G p 0) (get_or G (p + 1) 0)
      → Edges G' n (get_or G p 0) (get_or G (p + 1) 0)
  same_edges p h e = let l = ends p h in record {
    le = e.le;
    room = omega (arith, e.room, s.size);
    rising = λ k a b. rw (same-letter k (omega arith), same-letter (k + 1) (omega arith)) (e.rising k a b);
    small = λ k a b. rw (same-letter k (omega arith), same_target k (omega arith)) (e.small k a b);
  }

  -- it is a graph too
  pub same_graph : Graph G' n
  same_graph = record {
    some = g.some;
    few = g.few;
    room = omega (arith, g.room, s.size);
    edges = λ p h. rw (same_first p (omega arith), same_first (p + 1) (omega arith))
        (same_edges p h (g.edges p h));
  }

  -- with the same steps
  same_step : (p m : ℕ) → p < n → δ G' n p m ≡ δ G n p m
  same_step p m h =
      let l = ends p h in
      let e = g.edges p h in
      rw (same_first p (omega arith), same_first (p + 1) (omega arith))
      (same-look G G' n m (get_or G (p + 1) 0 - get_or G p 0) (get_or G p 0)
      (λ j a b. same-letter j (omega (arith, e.le))) (λ j a b. same_target j (omega (arith, e.le))))

  -- THEOREM: a word leads to the same state
  pub same-walk : (p : ℕ) (w : List ℕ) → p < n → walk (δ G' n) p w ≡ walk (δ G n) p w
  same-walk p [] h = refl
  same-walk p (m ∷ w) h =
      ap (λ q. walk (δ G' n) q w) (same_step p m h) ∙ same-walk (δ G n p m) w (δ-lt G n p m g h)
