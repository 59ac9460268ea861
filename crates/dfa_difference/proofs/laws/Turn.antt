-- What a turn of expand keeps. Assumes nothing.
use mathlib.Core.List.{List}
use mathlib.Core.Logic.{◌⊎◌, inl, inr}
use mathlib.Core.Path.{◌∙◌, ◌≡◌, ap, refl, subst, sym}
use Prim.Native.Nat.{◌*◌, ◌+◌, ◌-◌, ◌<◌, ◌^◌, ◌≤◌, suc, ℕ}
use native.Mathlib.Numerals.{add-one}
use native.Mathlib.Omega.{arith}
use lib.ListN.{get_or, length}
use Rattle.dfa.specs.Graph.{letter, look, δ}
use Rattle.dfa_difference.specs.Outcome.{Setting}
use Rattle.dfa_difference.specs.declared.Task.{Task}
use Rattle.dfa_search.specs.Classes.{Low}
use Rattle.dfa_difference.specs.inner.Comparison.{Entry, snoc}
use Rattle.dfa_search.specs.Classes.{merge}
use Rattle.dfa_difference.specs.inner.Queue.{Joined, Kept, Visited, entry_of}
use Rattle.dfa_difference.specs.inner.State.{Half, State, Turn}
use Rattle.dfa.specs.Step.{Next, Past}
use Rattle.dfa_difference.proofs.laws.Comparison.{finish, push, roots-1, skip}
use Rattle.dfa.proofs.laws.Look.{after-lt, look-before, δ-lt}
use Rattle.dfa_difference.proofs.laws.Merge.{snoc-all, snoc_old}

-- the states of an entry are states
module _ (G : List ℕ) (t : Task) (s : Setting G t) (ws : List ℕ) (head last lo : ℕ) (h : Half G t ws head last lo)
  where
    p-low : (h.E head).left < t.n
    p-low =
        rw (h.mid.inv.reach head h.mid.here).0 (after-lt G t.n t.p s.graph s.p_lt (h.E head).word)

    q-low : (h.E head).right < t.n
    q-low =
        rw (h.mid.inv.reach head h.mid.here).1 (after-lt G t.n t.q s.graph s.q_lt (h.E head).word)

    last-low : last < t.n
    last-low = omega (
      arith,
      h.mid.inv.count,
      roots-1 _ _ _ _ _ h.E (suc head) last h.rep
          h.mid.inv s.p_lt,
    )

    first-is : get_or ws (t.n + 4 * head) 0 ≡ (h.E head).left
    first-is = h.queue.first head h.mid.here

    second_is : get_or ws (t.n + 4 * head + 1) 0 ≡ (h.E head).right
    second_is = h.queue.second head h.mid.here

pub record Ranges (n head tail : ℕ) (G ws : List ℕ) : Type 0 where
  pub head-lt : head < n
  pub tail-lt : tail < n
  pub few : n ≤ 8193
  pub room : 5 * n ≤ length ws
  pub graph : n < length G

pub bounds : (G : List ℕ) (t : Task) (s : Setting G t) (ws : List ℕ) (head last lo : ℕ) → Half G t ws head last lo
    → Ranges t.n head last G ws
bounds G t s ws head last lo h = record {
  head-lt =
      omega (arith, h.mid.here, last-low G t s ws head last lo h);
  tail-lt = last-low G t s ws head last lo h;
  few = s.graph.few;
  room = h.low.room;
  graph = s.graph.room;
}

pub p-at : (G : List ℕ) (t : Task) (s : Setting G t) (ws : List ℕ) (head last lo : ℕ) → Half G t ws head last lo
    → (p : ℕ) → p ≡ get_or ws (t.n + 4 * head) 0 → p < t.n
p-at G t s ws head last lo h p e = rw (e ∙ first-is G t s ws head last lo h) (p-low G t s ws head last lo h)

pub q-at : (G : List ℕ) (t : Task) (s : Setting G t) (ws : List ℕ) (head last lo : ℕ) → Half G t ws head last lo
    → (q : ℕ) → q ≡ get_or ws (t.n + 4 * head + 1) 0 → q < t.n
q-at G t s ws head last lo h q e = rw (e ∙ second_is G t s ws head last lo h) (q-low G t s ws head last lo h)

pub turn-first : (G : List ℕ) (t : Task) (s : Setting G t) (ws : List ℕ) (head tail p q i ie j je : ℕ)
    → (h : Half G t ws head tail 0)
    → p ≡ get_or ws (t.n + 4 * head) 0 → q ≡ get_or ws (t.n + 4 * head + 1) 0 → i ≡ get_or G p 0 → ie ≡ get_or G (p + 1) 0
    → j ≡ get_or G q 0 → je ≡ get_or G (q + 1) 0
    → Turn G t head ws i ie j je tail
turn-first G t s ws head tail p q i ie j je h ep eq ei eie ej eje =
    let hp : p ≡ (h.E head).left = ep ∙ first-is G t s ws head tail 0 h in
    let hq : q ≡ (h.E head).right = eq ∙ second_is G t s ws head tail 0 h in
    rw (ei, eie, ej, eje, hp, hq) (record {
      lo = 0;
      half = h;
      ei = s.graph.edges (h.E head).left (p-low G t s ws head tail 0 h);
      ej = s.graph.edges (h.E head).right (q-low G t s ws head tail 0 h);
      li = λ u. omega arith;
      lj = λ u. omega arith;
      ti = λ m u. refl;
      tj = λ m u. refl;
    })

module _ (G : List ℕ) (t : Task) (s : Setting G t) (head : ℕ) (ws : List ℕ) (i ie j je last : ℕ)
    (u : Turn G t head ws i ie j je last) (m : ℕ) (x : Next G t.n i ie j je m) where
  abbrev E : ℕ → Entry
  E = u.half.E

  abbrev D : ℕ → ℕ → ℕ
  D = δ G t.n

  lo-m : u.lo ≤ m
  lo-m = go x.hit
    where
      go : ((i < ie) × (letter G t.n i ≡ m)) ⊎ ((j < je) × (letter G t.n j ≡ m)) → u.lo ≤ m
      go (inl h) = omega (arith, u.li h.0, h.1)
      go (inr h) = omega (arith, u.lj h.0, h.1)

  gap : (o : ℕ) → u.lo ≤ o → o < m → D (E head).left o ≡ D (E head).right o
  gap o h l = u.ti o h ∙ look-before G t.n o i ie u.ei (λ v. omega (arith, x.lowi v))
      ∙ sym (u.tj o h ∙ look-before G t.n o j je u.ej (λ v. omega (arith, x.lowj v)))

  a_is : (a : ℕ) → a ≡ look G t.n m (ie - i) i → a ≡ D (E head).left m
  a_is a e = e ∙ sym (u.ti m lo-m)

  b_is : (b : ℕ) → b ≡ look G t.n m (je - j) j → b ≡ D (E head).right m
  b_is b e = e ∙ sym (u.tj m lo-m)

  a_lt : D (E head).left m < t.n
  a_lt = δ-lt G t.n (E head).left m s.graph (p-low G t s ws head last u.lo u.half)

  b_lt : D (E head).right m < t.n
  b_lt = δ-lt G t.n (E head).right m s.graph (q-low G t s ws head last u.lo u.half)

  pub visit-pre : (a b : ℕ) → a ≡ look G t.n m (ie - i) i → b ≡ look G t.n m (je - j) j
      → Low t.n ws × ((last < t.n) × ((head < last) × ((m < 2 ^ 32) × ((a < t.n) × (b < t.n)))))
  visit-pre a b ea eb = (
    u.half.low,
    (
      last-low G t s ws head last u.lo u.half,
      (
        u.half.mid.here,
        (
          omega (arith, x.small),
          (rw (a_is a ea) a_lt, rw (b_is b eb) b_lt),
        ),
      ),
    ),
  )

  module _ (ws' : List ℕ) (i' j' : ℕ) (pi : Past G t.n i ie m i') (pj : Past G t.n j je m j') where
    -- the next turn's state, from its Half and from the head's entry, which stays
    on : (last' : ℕ) (h : Half G t ws' head last' (suc m)) → h.E head ≡ E head → Turn G t head ws' i' ie j' je last'
    on last' h e = record {
      lo = suc m;
      half = h;
      ei = pi.edges;
      ej = pj.edges;
      li = pi.above;
      lj = pj.above;
      ti = λ o l. ap (λ (c : Entry). D c.left o) e ∙ u.ti o (omega (arith, lo-m)) ∙ pi.rest o l;
      tj = λ o l. ap (λ (c : Entry). D c.right o) e ∙ u.tj o (omega (arith, lo-m)) ∙ pj.rest o l;
    }

    abbrev new : Entry
    new = entry_of (D (E head).left m) (D (E head).right m) head m E

    brief' : (k : ℕ) → k < suc last → length (snoc E last new k).word ≤ t.most
    brief' = snoc-all E last new (λ k e. length e.word ≤ t.most) u.half.brief (omega (arith, u.half.shallow))

    shallow' : length (snoc E last new head).word < t.most
    shallow' = rw (snoc_old E last new head u.half.mid.here) u.half.shallow

    on-visit : (last' : ℕ) → Visited t.n last head m (D (E head).left m) (D (E head).right m) last' ws ws'
        → Turn G t head ws' i' ie j' je last'
    on-visit last' v = go (v.cases E u.half.rep u.half.mid.inv.idem u.half.queue u.half.reps)
      where
        go : Kept t.n last (D (E head).left m) (D (E head).right m) last' ws' E u.half.rep
            ⊎ (Joined t.n last last' new (D (E head).left m) (D (E head).right m) ws' E u.half.rep
            ⊎ Joined t.n last last' new (D (E head).right m) (D (E head).left m) ws' E u.half.rep)
            → Turn G t head ws' i' ie j' je last'
        go (inl k) = subst (λ l. Turn G t head ws' i' ie j' je l) (sym k.stays) (on last
            (record {
              E = E;
              rep = u.half.rep;
              low = v.low;
              queue = k.queue;
              reps = k.reps;
              brief = u.half.brief;
              shallow = u.half.shallow;
              mid = skip _ _ _ _ _ E head last u.lo u.half.rep u.half.mid m lo-m gap k.one;
            }) refl)
        go (inr (inl k)) = subst (λ l. Turn G t head ws' i' ie j' je l) (sym k.grows) (on (suc last)
            (record {
              E = snoc E last new;
              rep = merge u.half.rep (D (E head).left m) (D (E head).right m);
              low = v.low;
              queue = k.queue;
              reps = k.reps;
              brief = brief';
              shallow = shallow';
              mid = push _ _ _ _ _ E head last u.lo u.half.rep u.half.mid m lo-m gap (D (E head).left m)
                  (D (E head).right m) (inl (refl, refl)) a_lt b_lt k.two;
            })
            (snoc_old E last new head u.half.mid.here))
        go (inr (inr k)) = subst (λ l. Turn G t head ws' i' ie j' je l) (sym k.grows) (on (suc last)
            (record {
              E = snoc E last new;
              rep = merge u.half.rep (D (E head).right m) (D (E head).left m);
              low = v.low;
              queue = k.queue;
              reps = k.reps;
              brief = brief';
              shallow = shallow';
              mid = push _ _ _ _ _ E head last u.lo u.half.rep u.half.mid m lo-m gap (D (E head).right m)
                  (D (E head).left m) (inr (refl, refl)) b_lt a_lt k.two;
            })
            (snoc_old E last new head u.half.mid.here))

    pub turn-again : (a b last' : ℕ) → a ≡ look G t.n m (ie - i) i → b ≡ look G t.n m (je - j) j
        → Visited t.n last head m a b last' ws ws' → Turn G t head ws' i' ie j' je last'
    turn-again a b last' ea eb v = on-visit last'
        (subst (λ z. Visited t.n last head m (D (E head).left m) z last' ws ws') (b_is b eb)
        (subst (λ z. Visited t.n last head m z b last' ws ws') (a_is a ea) v))

pub turn_last : (G : List ℕ) (t : Task) (head : ℕ) (ws : List ℕ) (i ie j je last : ℕ) → Turn G t head ws i ie j je
    last → ie + je ≤ i + j → State G t ws (head + 1) last
turn_last G t head ws i ie j je last u h = rw add-one (record {
  E = u.half.E;
  rep = u.half.rep;
  low = u.half.low;
  queue = u.half.queue;
  reps = u.half.reps;
  brief = u.half.brief;
  top = finish _ _ _ _ _ u.half.E head last u.lo u.half.rep u.half.mid
      (λ m l. u.ti m l ∙ look-before G t.n m i ie u.ei (λ v. absurd (omega (arith, u.ei.le, u.ej.le)))
      ∙ sym (u.tj m l ∙ look-before G t.n m j je u.ej (λ v. absurd (omega (arith, u.ei.le, u.ej.le)))));
})
