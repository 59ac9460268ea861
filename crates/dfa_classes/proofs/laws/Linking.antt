-- The edges put in lists by their targets. Assumes nothing.
use mathlib.Core.List.{List}
use mathlib.Core.Logic.{◌≢◌, ◌⊎◌, inl, inr}
use mathlib.Core.Path.{◌∙◌, ◌≡◌, ap, refl, subst, sym}
use Prim.Native.Nat.{◌%◌, ◌*◌, ◌+◌, ◌-◌, ◌/◌, ◌<◌, ◌≤◌, suc, zero, ℕ}
use native.Mathlib.Decide.{dec_lt, ℕ_discrete}
use native.Mathlib.Omega.{arith}
use lib.ListN.{get_or, length, length-set, set}
use lib.Seq.{get_or-set_other, get_or-set_same}
use Rattle.dfa.specs.Graph.{Graph, target}
use Rattle.dfa_classes.specs.Packed.{Latest, Packed}
use Rattle.dfa_classes.specs.Places.{head_at}
use Rattle.dfa_classes.specs.inner.Linking.{Linking, Zeroed}

-- words that become 0
pub zeroed_first : (from : ℕ) (ws : List ℕ) → Zeroed from 0 ws ws
zeroed_first from ws = record { len = refl; zero = λ i h. absurd (omega arith); keeps = λ x h. refl }

-- an edge between the first and the end is an edge of some state
pub has-source : (G : List ℕ) (n : ℕ) → Graph G n → (k : ℕ) → k ≤ n → (e : ℕ) → get_or G 0 0 ≤ e → e < get_or G k 0
    → (p : ℕ) × ((p < n) × ((get_or G p 0 ≤ e) × (e < get_or G (p + 1) 0)))
has-source G n g zero h e a b = absurd (omega arith)
has-source G n g (suc k) h e a b = go (dec_lt e (get_or G k 0)) (λ l. has-source G n g k (omega arith) e a l)
  where
    go : Dec (e < get_or G k 0) → (e < get_or G k 0 → (p : ℕ) × ((p < n) × ((get_or G p 0 ≤ e) × (e < get_or G (p + 1) 0))))
        → (p : ℕ) × ((p < n) × ((get_or G p 0 ≤ e) × (e < get_or G (p + 1) 0)))
    go (yes l) r = r l
    go (no l) r = (k, (omega arith, (omega arith, subst (λ x. e < get_or G x 0) {x = suc k} {y = k + 1} (omega arith) b)))

latest-this : (G : List ℕ) (n e : ℕ) → get_or G 0 0 ≤ e → Latest G n (target G n e) (e + 1) (e + 1)
latest-this G n e l = record {
  within = omega arith;
  above = λ h. omega arith;
  leads = λ h. ap (target G n) {x = e + 1 - 1} {y = e} (omega arith);
  later = λ i a b c. absurd (omega arith);
}

latest-other : (G : List ℕ) (n t b h : ℕ) → target G n b ≢ t → Latest G n t b h → Latest G n t (b + 1) h
latest-other G n t b h ne l = record {
  within = omega (arith, l.within);
  above = l.above;
  leads = l.leads;
  later = λ e x y z. go e x y z (ℕ_discrete e b);
}
  where
    go : (e : ℕ) → get_or G 0 0 ≤ e → h ≤ e → e < b + 1 → Dec (e ≡ b) → target G n e ≢ t
    go e x y z (yes q) = rw q ne
    go e x y z (no q) = l.later e x y (omega arith)

-- the first edge and the end
module _ (G : List ℕ) (n g : ℕ) (ws : List ℕ) (L : Linking G n g ws (get_or G 0 0) ws) where
  pub first-is : (e : ℕ) → e ≡ get_or ws (5 * n + 0) 0 → e ≡ get_or G 0 0
  first-is e q = q ∙ L.firsts 0 (omega arith)

  pub end_is : (e : ℕ) → e ≡ get_or ws (5 * n + n) 0 → e ≡ get_or G n 0
  end_is e q = q ∙ L.firsts n (omega arith)

module _ (G : List ℕ) (n g : ℕ) (ws₀ : List ℕ) (e : ℕ) (ws : List ℕ) (L : Linking G n g ws₀ e ws)
    (h : e < get_or G n 0) where
  pub edge-asks : (n ≤ 8192) × ((e < 262144) × (6 * n + 2 + 2 * e < length ws))
  edge-asks = let z = L.sized in (z.few, (omega arith, omega arith))

  module _ (t : ℕ) (et : t ≡ get_or ws (6 * n + 2 + 2 * e) 0 % 8192) where
    t-is : t ≡ target G n e
    t-is = et ∙ L.targets e L.low h

    t-low : t < n
    t-low =
        let s = has-source G n L.graph n (omega arith) e L.low h in
        let l = ((L.graph.edges s.0 s.1.0).small e s.1.1.0 s.1.1.1).1 in
        omega (arith, t-is)

    pub head-asks : (t < n) × ((n ≤ 8192) × ((g ≤ 600000) × (g + 4 * n ≤ length ws)))
    head-asks = let z = L.sized in (t-low, (z.few, (omega arith, z.room)))

    module _ (next : ℕ) (en : next ≡ head_at g ws t) where
      next_le : next ≤ e
      next_le = omega (arith, (L.heads t t-low).within)

      pub link-asks : (n ≤ 8192) × ((e < 262144) × ((t < n) × ((next ≤ e) × ((g ≤ 600000) × ((g + t < length ws)
          × (6 * n + 2 + 2 * e < length ws))))))
      link-asks = let z = L.sized in
          (z.few, (omega arith, (t-low, (next_le, (omega arith, (omega (arith, t-low), omega arith))))))

      abbrev w₁ : List ℕ
      w₁ = set ws (6 * n + 2 + 2 * e) (t + 8192 * next)

      abbrev w₂ : List ℕ
      w₂ = set w₁ (g + t) (e + 1)

      w₂-other : (x : ℕ) → x ≢ 6 * n + 2 + 2 * e → x ≢ g + t → get_or w₂ x 0 ≡ get_or ws x 0
      w₂-other x a b = get_or-set_other w₁ (g + t) x (e + 1) 0 b
          ∙ get_or-set_other ws (6 * n + 2 + 2 * e) x (t + 8192 * next) 0 a

      w₂-edge : get_or w₂ (6 * n + 2 + 2 * e) 0 ≡ t + 8192 * next
      w₂-edge = let z = L.sized in
          get_or-set_other w₁ (g + t) (6 * n + 2 + 2 * e) (e + 1) 0 (λ q. omega arith)
          ∙ get_or-set_same ws (6 * n + 2 + 2 * e) (t + 8192 * next) 0 (omega arith)

      w₂-head : head_at g w₂ t ≡ e + 1
      w₂-head = let z = L.sized in
          get_or-set_same w₁ (g + t) (e + 1) 0 (rw length-set (omega (arith, t-low)))

      link-more : Linking G n g ws₀ (e + 1) w₂
      link-more = let z = L.sized in record {
        graph = L.graph;
        sized = record {
          some = z.some;
          few = z.few;
          edges = z.edges;
          behind = z.behind;
          room = rw (length-set, length-set) z.room;
        };
        len = length-set w₁ (g + t) (e + 1) ∙ length-set ws (6 * n + 2 + 2 * e) (t + 8192 * next) ∙ L.len;
        firsts = λ i l. w₂-other (5 * n + i) (λ q. omega arith) (λ q. omega arith) ∙ L.firsts i l;
        letters = λ f l. w₂-other (6 * n + 1 + 2 * f) (λ q. omega arith) (λ q. omega arith) ∙ L.letters f l;
        targets = λ f a b. targets f a b (ℕ_discrete f e);
        heads = λ u l. heads u l (ℕ_discrete u t);
        nexts = λ f a b. nexts f a b (ℕ_discrete f e);
        low = omega (arith, L.low);
        high = omega arith;
        rest = λ x o. rest x o;
      }
        where
          small : t < 8192
          small = let z = L.sized in omega (arith, t-low)

          targets : (f : ℕ) → get_or G 0 0 ≤ f → f < get_or G n 0 → Dec (f ≡ e)
              → get_or w₂ (6 * n + 2 + 2 * f) 0 % 8192 ≡ target G n f
          targets f a b (yes q) = ap (λ x. get_or w₂ (6 * n + 2 + 2 * x) 0 % 8192) q ∙ ap (λ v. v % 8192) w₂-edge
              ∙ rem t next small ∙ t-is ∙ ap (target G n) (sym q)
            where
              rem : (t x : ℕ) → t < 8192 → (t + 8192 * x) % 8192 ≡ t
              rem t x l = omega arith
          targets f a b (no q) = ap (λ v. v % 8192) (let z = L.sized in
              w₂-other (6 * n + 2 + 2 * f) (λ y. q (omega arith)) (λ y. omega arith)) ∙ L.targets f a b

          heads : (u : ℕ) → u < n → Dec (u ≡ t) → Latest G n u (e + 1) (head_at g w₂ u)
          heads u l (yes q) = subst (λ x. Latest G n x (e + 1) (head_at g w₂ x)) {x = t} {y = u} (sym q)
              (rw w₂-head (subst (λ x. Latest G n x (e + 1) (e + 1)) {x = target G n e} {y = t} (sym t-is)
              (latest-this G n e L.low)))
          heads u l (no q) = rw (let z = L.sized in w₂-other (g + u) (λ y. omega arith) (λ y. q (omega arith)))
              (latest-other G n u e (head_at g ws u) (λ y. q (sym (t-is ∙ y))) (L.heads u l))

          nexts : (f : ℕ) → get_or G 0 0 ≤ f → f < e + 1 → Dec (f ≡ e)
              → Latest G n (target G n f) f (get_or w₂ (6 * n + 2 + 2 * f) 0 / 8192)
          nexts f a b (yes q) = subst (λ x. Latest G n (target G n x) x (get_or w₂ (6 * n + 2 + 2 * x) 0 / 8192)) {x = e}
              {y = f} (sym q) (rw (w₂-edge, quot t next small) (subst (λ x. Latest G n x e next) {x = t}
              {y = target G n e} t-is (rw en (L.heads t t-low))))
            where
              quot : (t x : ℕ) → t < 8192 → (t + 8192 * x) / 8192 ≡ x
              quot t x l = omega arith
          nexts f a b (no q) = rw (let z = L.sized in
              w₂-other (6 * n + 2 + 2 * f) (λ y. q (omega arith)) (λ y. omega arith)) (L.nexts f a (less (dec_lt f e)))
            where
              less : Dec (f < e) → f < e
              less (yes y) = y
              less (no y) = absurd (q (omega arith))

          rest : (x : ℕ) → (x < 5 * n) ⊎ (g + n ≤ x) → get_or w₂ x 0 ≡ get_or ws₀ x 0
          rest x o = let z = L.sized in
              w₂-other x (λ q. away x o (omega arith) (omega arith)) (λ q. away x o (omega arith) (omega (
                arith,
                t-low,
              )))
              ∙ L.rest x o
            where
              away : (x : ℕ) → (x < 5 * n) ⊎ (g + n ≤ x) → 5 * n ≤ x → x < g + n → ⊥
              away x (inl l) u v = omega arith
              away x (inr l) u v = omega arith

      pub link-again : (w : List ℕ) → w ≡ set (set ws (6 * n + 2 + 2 * e) (t + 8192 * next)) (g + t) (e + 1)
          → Linking G n g ws₀ (e + 1) w
      link-again w q = rw q link-more

-- all edges are linked
pub linked-packed : (G : List ℕ) (n g : ℕ) (ws₀ ws : List ℕ) → Linking G n g ws₀ (get_or G n 0) ws → Packed G n g ws
linked-packed G n g ws₀ ws L = record {
  graph = L.graph;
  sized = L.sized;
  firsts = L.firsts;
  letters = L.letters;
  targets = L.targets;
  heads = L.heads;
  nexts = L.nexts;
}
