-- What linking the edges keeps. Assumes nothing.
use mathlib.Core.List.{List}
use mathlib.Core.Logic.{◌≢◌, inl, inr}
use mathlib.Core.Path.{◌∙◌, ◌≡◌, ap, refl, subst, sym}
use Prim.Native.Nat.{◌%◌, ◌*◌, ◌+◌, ◌-◌, ◌/◌, ◌<◌, ◌≤◌, ℕ}
use native.Mathlib.Decide.{dec_lt, ℕ_discrete}
use native.Mathlib.Omega.{arith}
use lib.ListN.{get_or, length, length-set, set}
use lib.Seq.{get_or-set_other, get_or-set_same}
use Rattle.dfa.specs.Graph.{EdgeOf, Graph, target}
use borrow.Author.Tests.{le-ltb, lt-ltb}
use Rattle.dfa.specs.Frame.{SameFrom}
use Rattle.dfa_live.specs.inner.Links.{Held, Latest, Left, Linked, Linking, Links, head_at}
use Rattle.dfa_live.specs.inner.Links.{link_of, link_place, linked_to}
use Rattle.dfa.proofs.laws.Edges.{first_edge}

-- a word holds an edge and a state
pub packed-next : (h p : ℕ) → p < 16384 → (h * 16384 + p) / 16384 ≡ h
packed-next h p l = omega arith

pub packed-source : (h p : ℕ) → p < 16384 → (h * 16384 + p) % 16384 ≡ p
packed-source h p l = omega arith

-- edge e leads to t
latest-this : (G : List ℕ) (n e : ℕ) → get_or G 0 0 ≤ e → Latest G n (target G n e) (e + 1) (e + 1)
latest-this G n e l = record {
  within = omega arith;
  above = λ h. omega arith;
  leads = λ h. ap (target G n) {x = e + 1 - 1} {y = e} (omega arith);
  later = λ i a b c. absurd (omega arith);
}

-- edge b does not
latest-other : (G : List ℕ) (n t b h : ℕ) → target G n b ≢ t → Latest G n t b h → Latest G n t (b + 1) h
latest-other G n t b h ne l = record {
  within = omega (arith, l.within);
  above = l.above;
  leads = l.leads;
  later = λ e x y z. go e x y z (ℕ_discrete e b);
}
  where
    go : (e : ℕ) → get_or G 0 0 ≤ e → h ≤ e → e < b + 1 → Dec (e ≡ b) → target G n e ≢ t
    go e x y z (yes q) = rw q ne
    go e x y z (no q) = l.later e x y (omega arith)

-- the places of the words of edges: above the marks, beside the graph, each its own
module _ (n end : ℕ) where
  place_low : (e : ℕ) → e < 3 * n → link_place n end e ≡ 2 * n + e
  unfolding link_place
  place_low e h = rw (lt-ltb e (3 * n) h) refl

  place-high : (e : ℕ) → 3 * n ≤ e → link_place n end e ≡ 3 * n + 1 + 2 * end + e
  unfolding link_place
  place-high e h = rw (le-ltb e (3 * n) h) refl

  -- before the graph or behind it
  data Side (e : ℕ) : Type 0 where
    before : e < 3 * n → link_place n end e ≡ 2 * n + e → Side e
    behind : 3 * n ≤ e → link_place n end e ≡ 3 * n + 1 + 2 * end + e → Side e

  side : (e : ℕ) → Side e
  side e = go (dec_lt e (3 * n))
    where
      go : Dec (e < 3 * n) → Side e
      go (yes h) = before h (place_low e h)
      go (no h) = let l : 3 * n ≤ e = omega arith in behind l (place-high e l)

  place-above : (e : ℕ) → 2 * n ≤ link_place n end e
  place-above e = go (side e)
    where
      go : Side e → 2 * n ≤ link_place n end e
      go (before h q) = omega arith
      go (behind h q) = omega arith

  pub place-room : (e k : ℕ) → e < end → 6 * n + 1 + 2 * end ≤ k → 3 * n + 1 + 3 * end ≤ k → link_place n end e < k
  place-room e k l a b = go (side e)
    where
      go : Side e → link_place n end e < k
      go (before h q) = omega arith
      go (behind h q) = omega arith

  place-apart : (i e : ℕ) → i ≢ e → link_place n end i ≢ link_place n end e
  place-apart i e ne w = go (side i) (side e)
    where
      go : Side i → Side e → ⊥
      go (before h q) (before k r) = ne (omega arith)
      go (before h q) (behind k r) = omega arith
      go (behind h q) (before k r) = omega arith
      go (behind h q) (behind k r) = ne (omega arith)

  place-left : (i e : ℕ) → Left n end i → i ≢ link_place n end e
  place-left i e l w = go l (side e)
    where
      go : Left n end i → Side e → ⊥
      go (inl (a, b)) (before h q) = omega arith
      go (inl (a, b)) (behind h q) = omega arith
      go (inr (a, b)) (before h q) = omega arith
      go (inr (a, b)) (behind h q) = omega arith

-- the words of the graph and those that hold the lists
held-keep : (G : List ℕ) (n : ℕ) (ws ws' : List ℕ) → Held G n ws → length ws' ≡ length ws
    → ((i : ℕ) → Left n (get_or G n 0) i → get_or ws' i 0 ≡ get_or ws i 0) → Held G n ws'
held-keep G n ws ws' h len keep = record {
  graph = h.graph;
  few = h.few;
  room = omega (arith, h.room);
  link_room = omega (arith, h.link_room);
  same = λ i l. keep (5 * n + i) (inr (omega arith, omega arith)) ∙ h.same i l;
}

-- what stays where the words from 2 n on do
pub held-above : (G : List ℕ) (n : ℕ) (ws ws' : List ℕ) → Held G n ws → length ws' ≡ length ws → SameFrom (2 * n) ws ws'
    → Held G n ws'
held-above G n ws ws' h len keep = record {
  graph = h.graph;
  few = h.few;
  room = omega (arith, h.room);
  link_room = omega (arith, h.link_room);
  same = λ i l. keep (5 * n + i) (omega arith) ∙ h.same i l;
}

pub linked-keep : (G : List ℕ) (n b : ℕ) (ws ws' : List ℕ) → Linked G n ws b
    → ((t : ℕ) → t < n → head_at ws' t ≡ head_at ws t) → SameFrom (2 * n) ws ws' → Linked G n ws' b
linked-keep G n b ws ws' l low high = record {
  heads = λ t h. rw (low t h) (l.heads t h);
  nexts = λ e x y. rw (high (link_place n (get_or G n 0) e) (place-above n (get_or G n 0) e)) (l.nexts e x y);
  sources = λ e x y. rw (high (link_place n (get_or G n 0) e) (place-above n (get_or G n 0) e)) (l.sources e x y);
}

-- the edges and the targets, read from the words
module _ (G : List ℕ) (n : ℕ) (ws : List ℕ) (h : Held G n ws) where
  end_is : get_or ws (6 * n) 0 ≡ get_or G n 0
  end_is = ap (λ k. get_or ws k 0) {x = 6 * n} {y = 5 * n + n} (omega arith) ∙ h.same n (omega arith)

  edges-is : (p : ℕ) → p < n → get_or ws (5 * n + p + 1) 0 ≡ get_or G (p + 1) 0
  edges-is p l = ap (λ k. get_or ws k 0) {x = 5 * n + p + 1} {y = 5 * n + (p + 1)} (omega arith)
      ∙ h.same (p + 1) (omega arith)

  target_is : (e : ℕ) → e < get_or G n 0 → get_or ws (6 * n + 2 + 2 * e) 0 ≡ target G n e
  target_is e l = ap (λ k. get_or ws k 0) {x = 6 * n + 2 + 2 * e} {y = 5 * n + (n + 2 + 2 * e)} (omega arith)
      ∙ h.same (n + 2 + 2 * e) (omega arith)

-- how many states, edges and words there are
pub record Bounds (n end : ℕ) (ws : List ℕ) : Type 0 where
  pub some : 0 < n
  pub few : n ≤ 8193
  pub edges : end ≤ 200000
  pub room : 6 * n + 1 + 2 * end ≤ length ws
  pub link_room : 3 * n + 1 + 3 * end ≤ length ws
  pub is : get_or ws (6 * n) 0 ≡ end

pub bounds : (G : List ℕ) (n : ℕ) (ws : List ℕ) → Held G n ws → Bounds n (get_or G n 0) ws
bounds G n ws h = record {
  some = h.graph.some;
  few = h.graph.few;
  edges = h.few;
  room = h.room;
  link_room = h.link_room;
  is = end_is G n ws h;
}

-- an edge leads to a state
edge-target : (G : List ℕ) (n p e : ℕ) → Graph G n → EdgeOf G n p e → target G n e < n
edge-target G n p e g h = ((g.edges p h.below).small e h.from h.to).1

-- the loop over the edges of the state p, from edge i on and before edge k
module _ (G : List ℕ) (n : ℕ) (ws₀ ws : List ℕ) (p i k : ℕ) (K : Links G n ws₀ ws (get_or G p 0)) (h : p < n)
    (ei : i ≡ get_or ws (5 * n + p) 0) (ek : k ≡ get_or ws (5 * n + p + 1) 0) where
  first-of : i ≡ get_or G p 0
  first-of = ei ∙ K.held.same p (omega arith)

  end-of : k ≡ get_or G (p + 1) 0
  end-of = ek ∙ edges-is G n ws K.held p h

  pub link-begun : Linking G n ws₀ ws p i
  link-begun = rw first-of (record {
    links = K;
    below = h;
    from = omega arith;
    to = first_edge G n K.held.graph p n (omega arith) (omega arith);
  })

  pub link-within : (ws₁ : List ℕ) (e : ℕ) → Linking G n ws₀ ws₁ p e → e < k
      → (e < get_or G n 0) × (e < get_or ws₁ (5 * n + p + 1) 0)
  link-within ws₁ e L l = (
    omega (arith, end-of, first_edge G n K.held.graph (p + 1) n (omega arith) (omega arith)),
    omega (arith, end-of, edges-is G n ws₁ L.links.held p h),
  )

  pub link-done : (ws₁ : List ℕ) (e : ℕ) → Linking G n ws₀ ws₁ p e → k ≤ e → (i ≤ k → e ≤ k)
      → Links G n ws₀ ws₁ (get_or G (p + 1) 0)
  link-done ws₁ e L l f =
      let z : e ≤ k = f (omega (arith, first-of, end-of, (K.held.graph.edges p h).le)) in
      subst (λ b. Links G n ws₀ ws₁ b) {x = e} {y = get_or G (p + 1) 0} (omega (arith, end-of)) L.links

-- the words with one more edge linked
module _ (ws : List ℕ) (place t p e : ℕ) (low : t < length ws) (room : place < length ws) (apart : t ≢ place) where
  abbrev stored : ℕ
  stored = head_at ws t * 16384 + p

  at_head : head_at (linked_to ws place t p e) t ≡ e + 1
  at_head =
      ap (λ v. v / 16384) (get_or-set_same (set ws place stored) t ((e + 1) * 16384) 0 (rw length-set low))
      ∙ omega arith

  at_other : (i : ℕ) → i ≢ t → i ≢ place → get_or (linked_to ws place t p e) i 0 ≡ get_or ws i 0
  at_other i a b = get_or-set_other (set ws place stored) t i ((e + 1) * 16384) 0 a ∙ get_or-set_other ws place i stored 0 b

  at_edge : get_or (linked_to ws place t p e) place 0 ≡ head_at ws t * 16384 + p
  at_edge = get_or-set_other (set ws place stored) t place ((e + 1) * 16384) 0 (λ q. apart (sym q))
      ∙ get_or-set_same ws place stored 0 room

  same_size : length (linked_to ws place t p e) ≡ length ws
  same_size = length-set (set ws place stored) t ((e + 1) * 16384) ∙ length-set ws place stored

module _ (G : List ℕ) (n : ℕ) (ws₀ ws : List ℕ) (p e : ℕ) (L : Linking G n ws₀ ws p e) (l : e < get_or G n 0) where
  -- e is an edge of p
  link-edge : e < get_or ws (5 * n + p + 1) 0 → EdgeOf G n p e
  link-edge h = record
      { below = L.below; from = L.from; to = omega (arith, edges-is G n ws L.links.held p L.below) }

  module _ (t : ℕ) (h : e < get_or ws (5 * n + p + 1) 0) (q : t ≡ get_or ws (6 * n + 2 + 2 * e) 0) where
    t-is : t ≡ target G n e
    t-is = q ∙ target_is G n ws L.links.held e l

    -- the target is a state, and its list has edges before e only
    pub link-low : t < n
    link-low = rw t-is (edge-target G n p e L.links.held.graph (link-edge h))

    pub link-less : head_at ws t ≤ e
    link-less = (L.links.linked.heads t link-low).within

    abbrev place : ℕ
    place = link_place n (get_or G n 0) e

    room : place < length ws
    room = place-room n (get_or G n 0) e (length ws) l L.links.held.room L.links.held.link_room

    low : t < length ws
    low = omega (arith, link-low, L.links.held.room)

    apart : t ≢ place
    apart w = omega (arith, link-low, place-above n (get_or G n 0) e)

    abbrev next : List ℕ
    next = linked_to ws place t p e

    source-small : p < 16384
    source-small = omega (arith, L.below, L.links.held.graph.few)

    begins : get_or G 0 0 ≤ e
    begins = omega (arith, first_edge G n L.links.held.graph 0 p (omega arith) (omega (arith, L.below)), L.from)

    heads-next : (x : ℕ) → x < n → Latest G n x (e + 1) (head_at next x)
    heads-next x u = go (ℕ_discrete x t)
      where
        go : Dec (x ≡ t) → Latest G n x (e + 1) (head_at next x)
        go (yes z) = rw (z, at_head ws place t p e low room apart, t-is) (latest-this G n e begins)
        go (no z) =
            rw (at_other ws place t p e low room apart x z (λ w. omega (arith, place-above n (get_or G n 0) e)))
            (latest-other G n x e (head_at ws x) (λ w. z (sym (t-is ∙ w))) (L.links.linked.heads x u))

    -- what holds of the words of the edges below e + 1
    words-next : (P : ℕ → ℕ → Type 0) → P e (head_at ws t * 16384 + p)
        → ((i : ℕ) → get_or G 0 0 ≤ i → i < e → P i (link_of G n ws i))
        → (i : ℕ) → get_or G 0 0 ≤ i → i < e + 1 → P i (link_of G n next i)
    words-next P new old i a b = go (ℕ_discrete i e)
      where
        go : Dec (i ≡ e) → P i (link_of G n next i)
        go (yes z) = rw (z, at_edge ws place t p e low room apart) new
        go (no z) = rw (at_other ws place t p e low room apart (link_place n (get_or G n 0) i)
            (λ w. omega (arith, link-low, place-above n (get_or G n 0) i)) (place-apart n (get_or G n 0) i e z))
            (old i a (omega arith))

    keep-next : (i : ℕ) → Left n (get_or G n 0) i → get_or next i 0 ≡ get_or ws i 0
    keep-next i a = at_other ws place t p e low room apart i (above a) (place-left n (get_or G n 0) i e a)
      where
        above : Left n (get_or G n 0) i → i ≢ t
        above (inl (x, y)) w = omega (arith, link-low)
        above (inr (x, y)) w = omega (arith, link-low)

    linked-next : Linked G n next (e + 1)
    linked-next = record {
      heads = heads-next;
      nexts = words-next (λ i v. Latest G n (target G n i) i (v / 16384))
          (rw (packed-next (head_at ws t) p source-small, ← t-is) (L.links.linked.heads t link-low))
          L.links.linked.nexts;
      sources = words-next (λ i v. EdgeOf G n (v % 16384) i)
          (rw (packed-source (head_at ws t) p source-small) (link-edge h)) L.links.linked.sources;
    }

    -- its place, where the end of the edges is read from the words
    pub link_at : (at end : ℕ) → end ≡ get_or G n 0 → at ≡ link_place n end e → at ≡ link_place n (get_or G n 0) e
    link_at at end d q = q ∙ ap (λ x. link_place n x e) d

    pub link_fits : (at end : ℕ) → end ≡ get_or G n 0 → at ≡ link_place n end e → at < length ws
    link_fits at end d q = rw (link_at at end d q) room

    -- edge e is linked
    pub link-again : (at : ℕ) (ws' : List ℕ) → at ≡ link_place n (get_or G n 0) e → ws' ≡ linked_to ws at t p e
        → Linking G n ws₀ ws' p (e + 1)
    link-again at ws' el ew =
        let size = same_size ws place t p e low room apart in
        rw (ew, el) (record {
          links = record {
            held = held-keep G n ws next L.links.held size keep-next;
            linked = linked-next;
            len = size ∙ L.links.len;
            keep = λ i a. keep-next i a ∙ L.links.keep i a;
          };
          below = L.below;
          from = omega (arith, L.from);
          to = omega arith;
        })
