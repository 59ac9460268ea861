-- The sources of edges touched, list by list. Assumes nothing.
use mathlib.Core.List.{List}
use mathlib.Core.Logic.{◌⊎◌, inl, inr}
use mathlib.Core.Path.{◌∙◌, ◌≡◌, ap, refl, subst, sym}
use Prim.Native.Nat.{◌*◌, ◌+◌, ◌-◌, ◌/◌, ◌<◌, ◌≤◌, ℕ}
use native.Mathlib.Decide.{dec_lt, ℕ_discrete}
use native.Mathlib.Omega.{arith}
use lib.ListN.{get_or, length}
use Rattle.dfa.specs.Graph.{EdgeOf, letter, target, δ}
use Rattle.dfa.proofs.laws.Edges.{edge-from, edge-step, edge_to, one-source, step-edge}
use Rattle.dfa_smallest.specs.Classes.{Into}
use Rattle.dfa_classes.specs.Packed.{Latest}
use Rattle.dfa_classes.specs.Places.{copy_at, from_at, head_at, member_at, place_at, to_at, touched_at}
use Rattle.dfa_classes.specs.inner.Sources.{AllTouched, AllTouching, Copied, Sourced, Sourcing}
use Rattle.dfa_classes.specs.inner.Touching.{IsTouched, TouchKeeps, Touches, Touching}
use Rattle.dfa_classes.proofs.laws.Packed.{edge-room, packed_keep, target-low}
use Rattle.dfa_classes.proofs.laws.Touching.{few-own, parted-keep}

keeps-refl : (n g : ℕ) (ws : List ℕ) → TouchKeeps n g ws ws
keeps-refl n g ws = record { len = refl; classes = λ x l. refl; graph = λ x a b. refl; copy = λ x l. refl }

keeps-trans : (n g : ℕ) (u v w : List ℕ) → TouchKeeps n g u v → TouchKeeps n g v w → TouchKeeps n g u w
keeps-trans n g u v w a b = record {
  len = b.len ∙ a.len;
  classes = λ x l. b.classes x l ∙ a.classes x l;
  graph = λ x h k. b.graph x h k ∙ a.graph x h k;
  copy = λ x l. b.copy x l ∙ a.copy x l;
}

-- the sources of the edges to t
module _ (G : List ℕ) (n g s : ℕ) (own : ℕ → ℕ) (count t : ℕ) where
  pub sources-first : (ws : List ℕ) (k next : ℕ) → Touching G n g s own count ws k → t < n → next ≡ head_at g ws t
      → Sourcing G n g s own count t ws ws k next
  sources-first ws k next T low e =
      let L : Latest G n t (get_or G n 0) next = rw e (T.packed.heads t low) in
      record {
        touching = T;
        keeps = keeps-refl n g ws;
        grows = λ q l h. h;
        below = L.within;
        above = L.above;
        leads = L.leads;
        done = λ p f h q l. absurd (L.later f (edge-from G n T.packed.graph p f h) l
            (edge_to G n T.packed.graph p f h) q);
      }

  module _ (ws₀ ws : List ℕ) (k next : ℕ) (S : Sourcing G n g s own count t ws₀ ws k next) (some : 0 < next)
      (e : ℕ) (ee : e ≡ next - 1) where
    -- edge e is an edge, and there are words for it
    e-low : e < get_or G n 0
    e-low = omega (arith, S.below)

    pub edge-asks : (n ≤ 8192) × ((e < 262144) × (6 * n + 2 + 2 * e < length ws))
    edge-asks = edge-room G n g ws S.touching.packed e e-low

    pub source-asks : (0 < n) × ((n ≤ 8192) × ((6 * n < length ws) × ((get_or ws (5 * n + 0) 0 ≤ e)
        × (e < get_or ws (5 * n + n) 0))))
    source-asks =
        let P = S.touching.packed in let z = P.sized in
        let a = P.firsts 0 (omega arith) in let b = P.firsts n (omega arith) in
        (z.some, (z.few, (omega arith, (omega (arith, S.above some), omega (arith, e-low)))))

    module _ (p : ℕ) (found : (p < n) × ((get_or ws (5 * n + p) 0 ≤ e) × (e < get_or ws (5 * n + (p + 1)) 0))) where
      edge : EdgeOf G n p e
      edge =
          let P = S.touching.packed in
          let a = P.firsts p (omega (arith, found.0)) in let b = P.firsts (p + 1) (omega (arith, found.0)) in
          record { below = found.0; from = omega (arith, found.1.0); to = omega (arith, found.1.1) }

      leads-e : target G n e ≡ t
      leads-e = ap (target G n) ee ∙ S.leads some

      pub source_goes : own t ≡ s → Into (δ G n) own s p
      source_goes q = (letter G n e, ap own (edge-step G n S.touching.packed.graph p e edge ∙ leads-e) ∙ q)

      pub sources-again : (k' next' : ℕ) (ws' : List ℕ) → Touches G n g s own count p ws k' ws'
          → next' ≡ get_or ws' (6 * n + 2 + 2 * e) 0 / 8192 → Sourcing G n g s own count t ws₀ ws' k' next'
      sources-again k' next' ws' D en =
          let P = D.touching.packed in
          let L : Latest G n t e next' = subst (λ u. Latest G n u e next') {x = target G n e} {y = t} leads-e
          (rw en (P.nexts e (omega (arith, S.above some)) e-low)) in
          record {
            touching = D.touching;
            keeps = keeps-trans n g ws₀ ws ws' S.keeps D.keeps;
            grows = λ q l h. D.grows q l (S.grows q l h);
            below = omega (arith, L.within, e-low);
            above = L.above;
            leads = L.leads;
            done = λ q f h u l. go q f h u l L (dec_lt f e) (ℕ_discrete f e);
          }
        where
          go : (q f : ℕ) → EdgeOf G n q f → target G n f ≡ t → next' ≤ f → Latest G n t e next' → Dec (f < e)
              → Dec (f ≡ e) → IsTouched n g own ws' q
          go q f h u l L (yes a) d =
              absurd (L.later f (edge-from G n S.touching.packed.graph q f h) l a u)
          go q f h u l L (no a) (yes d) =
              subst (IsTouched n g own ws') {x = p} {y = q}
              (one-source G n S.touching.packed.graph p q e edge
              (subst (EdgeOf G n q) {x = f} {y = e} d h)) D.done
          go q f h u l L (no a) (no d) = D.grows q h.below (S.done q f h u (omega arith))

      pub sources-less : (k' next' : ℕ) (ws' : List ℕ) → Touches G n g s own count p ws k' ws'
          → next' ≡ get_or ws' (6 * n + 2 + 2 * e) 0 / 8192 → next' < next
      sources-less k' next' ws' D en =
          let L : Latest G n (target G n e) e next' = rw en (D.touching.packed.nexts e (omega (arith, S.above some))
          e-low) in
          omega (arith, L.within)

  pub sources-last : (ws₀ ws : List ℕ) (k next : ℕ) → Sourcing G n g s own count t ws₀ ws k next → next ≤ 0
      → Sourced G n g s own count t ws₀ k ws
  sources-last ws₀ ws k next S z = record {
    touching = S.touching;
    keeps = S.keeps;
    grows = S.grows;
    done = λ p e h q. S.done p e h q (omega arith);
  }

-- all states that go into the class s
module _ (G : List ℕ) (n g s : ℕ) (own : ℕ → ℕ) (count : ℕ) (ws : List ℕ) (T : Touching G n g s own count ws 0)
    (low : s < count) where
  pub class-asks : (s < n) × ((n ≤ 8192) × (5 * n ≤ length ws))
  class-asks = let z = T.packed.sized in (omega (arith, few-own G n g s own count ws 0 T), (z.few, omega arith))

  module _ (a b : ℕ) (ea : a ≡ from_at n ws s) (eb : b ≡ to_at n ws s) where
    module _ (ws₁ : List ℕ) (D : Copied n g a b ws ws₁) where
      -- the copy touches nothing
      copied-touching : Touching G n g s own count ws₁ 0
      copied-touching =
          let z = T.packed.sized in let few = few-own G n g s own count ws 0 T in
          record {
            packed = packed_keep G n g ws T.packed ws₁ D.len (λ i u v. D.keeps i (omega arith));
            parted = parted-keep n ws ws₁ own count T.parted (λ i u v. D.keeps i (omega arith));
            class = λ p l. D.keeps p (omega arith) ∙ T.class p l;
            within = λ c l. rw (
              D.keeps (3 * n + c) (omega arith),
              D.keeps (4 * n + c) (omega arith),
              D.keeps (g + n + c) (omega arith),
            ) (T.within c l);
            fresh = λ c u v. D.keeps (g + n + c) (omega arith) ∙ T.fresh c u v;
            into = λ p l t. T.into p l
                (let o = T.parted.own_low p l in
                omega (
                  arith,
                  t,
                  D.keeps (2 * n + p) (omega arith),
                  D.keeps (3 * n + own p) (omega arith),
                  D.keeps (g + n + own p) (omega arith),
                ));
            listed = λ c l t. absurd (none c l (omega (arith, D.keeps (g + n + c) (omega arith))));
            list_low = λ x l. absurd (omega arith);
            list_some = λ x l. absurd (omega arith);
            list_one = λ x y l m e. absurd (omega arith);
          }
        where
          none : (c : ℕ) → c < count → 0 < touched_at n g ws c → ⊥
          none c l t = let f = T.listed c l t in omega (arith, f.1.0)

      pub all_first : AllTouching G n g s own count ws₁ ws₁ 0 0
      all_first = record { touching = copied-touching; keeps = keeps-refl n g ws₁; done = λ x l. absurd (omega arith) }

      module _ (ws₂ : List ℕ) (k j : ℕ) (A : AllTouching G n g s own count ws₁ ws₂ k j) (h : j < b - a) where
        module _ (t : ℕ) (et : t ≡ copy_at n g ws₂ j) where
          t-is : t ≡ member_at n ws (a + j)
          t-is = et ∙ A.keeps.copy (g + 3 * n + j) (omega arith) ∙ D.copy j (omega arith)

          pub t-low : t < n
          t-low = rw t-is (T.parted.member_low (a + j) (omega (arith, eb, T.parted.top s low)))

          pub t-inside : own t ≡ s
          t-inside = ap own t-is ∙ T.parted.whole s low (a + j) (omega (arith, ea)) (omega (arith, eb))

          pub all-again : (k' : ℕ) (ws₃ : List ℕ) → Sourced G n g s own count t ws₂ k' ws₃
              → AllTouching G n g s own count ws₁ ws₃ k' (j + 1)
          all-again k' ws₃ S = record {
            touching = S.touching;
            keeps = keeps-trans n g ws₁ ws₂ ws₃ A.keeps S.keeps;
            done = λ x l p e u v. go x l p e u v (ℕ_discrete x j);
          }
            where
              go : (x : ℕ) → x < j + 1 → (p e : ℕ) → EdgeOf G n p e → target G n e ≡ copy_at n g ws₁ x → Dec (x ≡ j)
                  → IsTouched n g own ws₃ p
              go x l p e u v (yes q) = S.done p e u (v ∙ ap (copy_at n g ws₁) q
                  ∙ sym (A.keeps.copy (g + 3 * n + j) (omega arith)) ∙ sym et)
              go x l p e u v (no q) = S.grows p u.below (A.done x (omega arith) p e u v)

      pub all-last : (ws₂ : List ℕ) (k j : ℕ) → AllTouching G n g s own count ws₁ ws₂ k j → b - a ≤ j
          → AllTouched G n g s own count ws k ws₂
      all-last ws₂ k j A h = record { touching = A.touching; len = A.keeps.len ∙ D.len; all = all }
        where
          all : (p : ℕ) → p < n → Into (δ G n) own s p → own (n - 1) ≡ 0 → 0 < s → IsTouched n g own ws₂ p
          all p l i dead some = go (step-edge G n T.packed.graph p i.0 l)
            where
              go : (δ G n p i.0 ≡ n - 1) ⊎ ((e : ℕ) × (EdgeOf G n p e × (δ G n p i.0 ≡ target G n e)))
                  → IsTouched n g own ws₂ p
              go (inl d) = absurd (omega (arith, i.1, ap own d))
              go (inr (e, (u, v))) =
                  let t = target G n e in
                  let tl : t < n = target-low G n g ws T.packed p e u in
                  let o : own t ≡ s = ap own (sym v) ∙ i.1 in
                  let from : from_at n ws s ≤ place_at n ws t = subst (λ x. from_at n ws x ≤ place_at n ws t) {x = own t}
                  {y = s} o (T.parted.own_from t tl) in
                  let to : place_at n ws t < to_at n ws s = subst (λ x. place_at n ws t < to_at n ws x) {x = own t} {y = s}
                  o
                  (T.parted.own_to t tl) in
                  A.done (place_at n ws t - a) (omega arith) p e u
                  (sym (D.copy (place_at n ws t - a) (omega arith)
                  ∙ ap (member_at n ws) {x = a + (place_at n ws t - a)} {y = place_at n ws t} (omega arith)
                  ∙ T.parted.member_place t tl))
