-- Classes numbered breadth first. Assumes nothing.
use mathlib.Core.Bool.{Bool, cond, false, true}
use mathlib.Core.List.{List}
use mathlib.Core.Logic.{◌≢◌, ◌⊎◌, inl, inr}
use mathlib.Core.Path.{◌∙◌, ◌≡◌, ap, refl, subst, sym}
use Prim.Native.Nat.{◌%◌, ◌*◌, ◌+◌, ◌-◌, ◌<◌, ◌≤◌, suc, zero, ℕ}
use native.Mathlib.Decide.{dec_lt, ℕ_discrete}
use native.Mathlib.Omega.{arith}
use lib.Dec.{eqb}
use lib.ListN.{get_or, length, length-set, set}
use lib.Seq.{get_or-set_other, get_or-set_same}
use borrow.Author.Tests.{eq-eqb, eqb-true, ne_eqb}
use Rattle.dfa.specs.Graph.{EdgeOf, Edges, Graph, letter, look, target, δ}
use Rattle.dfa.proofs.laws.Edges.{edge-from, edge-step, edge_to}
use Rattle.dfa.proofs.laws.Look.{rise}
use Rattle.dfa_smallest.specs.Numbered.{Met, Numbered}
use Rattle.dfa_smallest.proofs.Pigeons.{pigeons}
use Rattle.dfa_classes.specs.Places.{class_at, number_at, state_at}
use Rattle.dfa_numbering.specs.Positions.{Countable, NumberedIn}
use Rattle.dfa_classes.specs.inner.Linking.{Zeroed}
use Rattle.dfa_numbering.specs.inner.Counting.{ByEdge, Counted, Counting, Meeting, Noted, fresh, known, lost}
use Rattle.dfa_classes.proofs.laws.Packed.{edge-room, packed_keep}

-- a letter leads along the edge that has it, or to the dead state
look-letter : (G : List ℕ) (n m k i : ℕ)
    → (look G n m k i ≡ n - 1) ⊎ ((e : ℕ) × ((i ≤ e) × ((e < i + k) × ((letter G n e ≡ m) × (look G n m k i ≡ target G n
    e)))))
unfolding look
look-letter G n m zero i = inl refl
look-letter G n m (suc k) i = go (look-letter G n m k (suc i)) (eqb (letter G n i) m) refl
  where
    go : (look G n m k (suc i) ≡ n - 1)
        ⊎ ((e : ℕ) × ((suc i ≤ e) × ((e < suc i + k) × ((letter G n e ≡ m) × (look G n m k (suc i) ≡ target G n e)))))
        → (b : Bool) → eqb (letter G n i) m ≡ b → (cond b (target G n i) (look G n m k (suc i)) ≡ n - 1)
        ⊎ ((e : ℕ) × ((i ≤ e) × ((e < i + suc k)
        × ((letter G n e ≡ m) × (cond b (target G n i) (look G n m k (suc i)) ≡ target G n e)))))
    go r true q = inr (i, (omega arith, (omega arith, (eqb-true (letter G n i) m q, refl))))
    go (inl r) false q = inl r
    go (inr (e, (a, (b, (c, r))))) false q = inr (e, (omega arith, (omega arith, (c, r))))

pub step-letter : (G : List ℕ) (n p m : ℕ) → Graph G n → p < n
    → (δ G n p m ≡ n - 1) ⊎ ((e : ℕ) × (EdgeOf G n p e × ((letter G n e ≡ m) × (δ G n p m ≡ target G n e))))
step-letter G n p m g h = go (look-letter G n m (get_or G (p + 1) 0 - get_or G p 0) (get_or G p 0))
  where
    go : (δ G n p m ≡ n - 1) ⊎ ((e : ℕ) × ((get_or G p 0 ≤ e) × ((e < get_or G p 0 + (get_or G (p + 1) 0 - get_or G p 0))
        × ((letter G n e ≡ m) × (δ G n p m ≡ target G n e)))))
        → (δ G n p m ≡ n - 1) ⊎ ((e : ℕ) × (EdgeOf G n p e × ((letter G n e ≡ m) × (δ G n p m ≡ target G n e))))
    go (inl r) = inl r
    go (inr (e, (a, (b, (c, r))))) = inr (
      e,
      (
        record { below = h; from = a; to = omega (arith, (g.edges p h).le) },
        (
          c,
          r,
        ),
      ),
    )

-- the letters of two edges of a state rise
edges-rise : (G : List ℕ) (n p f e : ℕ) → Graph G n → EdgeOf G n p f → EdgeOf G n p e → f < e
    → letter G n f < letter G n e
edges-rise G n p f e g a b h =
    let E = g.edges p a.below in
    let next = E.rising f a.from (omega (arith, b.to)) in
    let tail : Edges G n (f + 1) (get_or G (p + 1) 0) = record {
      le = omega (arith, b.to);
      room = E.room;
      rising = λ k u v. E.rising k (omega (arith, a.from)) v;
      small = λ k u v. E.small k (omega (arith, a.from)) v;
    } in
    let more = rise G n (f + 1) (get_or G (p + 1) 0) tail (e - (f + 1)) (omega (arith, b.to)) in
    omega (arith, next, ap (letter G n) {x = f + 1 + (e - (f + 1))} {y = e} (omega arith))

module _ (G : List ℕ) (n g : ℕ) (own : ℕ → ℕ) (ws : List ℕ) (head e tail : ℕ) (C : Counting G n g own ws head e tail)
  where
    -- no more classes than states
    few-numbered : tail ≤ n
    few-numbered = pigeons n tail (λ k. own (state_at n ws k)) (λ k h. C.own_low (state_at n ws k) (C.low k h))
        (λ j k a b q. omega (arith, C.numbers j a, C.numbers k b, ap (number_at n ws) q))

    -- and one more where a class has no number
    few-more : (c : ℕ) → c < n → number_at n ws c ≡ 0 → tail < n
    few-more c h z = let r = pigeons n (tail + 1) f low one in omega arith
      where
        f : ℕ → ℕ
        f k = cond (eqb k tail) c (own (state_at n ws k))

        at_tail : (k : ℕ) → k ≡ tail → f k ≡ c
        at_tail k q = rw (eq-eqb k tail q)

        at_other : (k : ℕ) → k ≢ tail → f k ≡ own (state_at n ws k)
        at_other k q = rw (ne_eqb k tail q)

        less : (k : ℕ) → k < tail + 1 → k ≢ tail → k < tail
        less k l ne = go (dec_lt k tail)
          where
            go : Dec (k < tail) → k < tail
            go (yes y) = y
            go (no y) = absurd (ne (omega arith))

        low : (k : ℕ) → k < tail + 1 → f k < n
        low k l = go (ℕ_discrete k tail)
          where
            go : Dec (k ≡ tail) → f k < n
            go (yes q) = rw (at_tail k q) h
            go (no q) = rw (at_other k q) (C.own_low (state_at n ws k) (C.low k (less k l q)))

        none : (k : ℕ) → k < tail → own (state_at n ws k) ≢ c
        none k l q = omega (arith, C.numbers k l, ap (number_at n ws) q)

        one : (j k : ℕ) → j < tail + 1 → k < tail + 1 → f j ≡ f k → j ≡ k
        one j k a b q = go (ℕ_discrete j tail) (ℕ_discrete k tail)
          where
            go : Dec (j ≡ tail) → Dec (k ≡ tail) → j ≡ k
            go (yes x) (yes y) = x ∙ sym y
            go (yes x) (no y) = absurd (none k (less k b y) (sym (at_other k y) ∙ sym q ∙ at_tail j x))
            go (no x) (yes y) = absurd (none j (less j a x) (sym (at_other j x) ∙ q ∙ at_tail k y))
            go (no x) (no y) =
                let r = sym (at_other j x) ∙ q ∙ at_other k y in
                omega (arith, C.numbers j (less j a x), C.numbers k (less k b y), ap (number_at n ws) r)

    -- edge e of the next class is looked at
    module _ (h : head < tail) (edge : EdgeOf G n (state_at n ws head) e) where
      -- a class that is numbered was met before
      met : (k : ℕ) → k < tail → Met C.parent C.by k head (letter G n e)
      met k l = go (ℕ_discrete k 0)
        where
          go : Dec (k ≡ 0) → Met C.parent C.by k head (letter G n e)
          go (yes z) = inl z
          go (no z) = at (C.recent k (omega arith) l)
            where
              at : (C.parent k < head) ⊎ ByEdge G n C.parent C.by (state_at n ws head) head e k
                  → Met C.parent C.by k head (letter G n e)
              at (inl q) = inr (inl q)
              at (inr (q, (f, (ef, (lt, b))))) = inr (inr (
                q,
                omega (
                  arith,
                  b,
                  edges-rise G n (state_at n ws head) f e C.packed.graph ef edge lt,
                ),
              ))

      -- it leads to the dead class, or to one that has a number
      keep-on : (own (target G n e) ≡ own (n - 1)) ⊎ ((k : ℕ) × ((k < tail) × (own (state_at n ws k) ≡ own (target G n
          e))))
          → Counting G n g own ws head (e + 1) tail
      keep-on o = record {
        packed = C.packed;
        class = C.class;
        own_low = C.own_low;
        parent = C.parent;
        by = C.by;
        some = C.some;
        zero = C.zero;
        low = C.low;
        live = C.live;
        earlier = C.earlier;
        leads = C.leads;
        order = C.order;
        numbers = C.numbers;
        only = C.only;
        within = C.within;
        closed = C.closed;
        recent = λ k a b. recent (C.recent k a b);
        done = λ f x l ne. done f x l ne (ℕ_discrete f e) o;
      }
        where
          recent : {k : ℕ} → (C.parent k < head) ⊎ ByEdge G n C.parent C.by (state_at n ws head) head e k
              → (C.parent k < head) ⊎ ByEdge G n C.parent C.by (state_at n ws head) head (e + 1) k
          recent (inl q) = inl q
          recent (inr (q, (f, (ef, (lt, b))))) = inr (q, (f, (ef, (omega arith, b))))

          done : (f : ℕ) → EdgeOf G n (state_at n ws head) f → f < e + 1 → own (target G n f) ≢ own (n - 1) → Dec (f ≡ e)
              → (own (target G n e) ≡ own (n - 1)) ⊎ ((k : ℕ) × ((k < tail) × (own (state_at n ws k) ≡ own (target G n
              e))))
              → (k : ℕ) × ((k < tail) × ((own (state_at n ws k) ≡ own (target G n f)) × Met C.parent C.by k head
              (letter G n f)))
          done f x l ne (no q) o = C.done f x (less (dec_lt f e)) ne
            where
              less : Dec (f < e) → f < e
              less (yes y) = y
              less (no y) = absurd (q (omega arith))
          done f x l ne (yes q) (inl d) = absurd (ne (ap (λ y. own (target G n y)) q ∙ d))
          done f x l ne (yes q) (inr (k, (a, b))) = (
            k,
            (
              a,
              (
                b ∙ ap (λ y. own (target G n y)) (sym q),
                subst (λ y. Met C.parent C.by k head (letter G n y)) {x = e} {y = f} (sym q) (met k a),
              ),
            ),
          )

      -- it leads to a class without a number
      module _ (t : ℕ) (et : t ≡ target G n e) (t-low : t < n) (alive : own t ≢ own (n - 1)) (none : number_at n ws (own t)
          ≡ 0)
        where
          c-low : own t < n
          c-low = C.own_low t t-low

          tail-low : tail < n
          tail-low = few-more (own t) c-low none

          abbrev w₁ : List ℕ
          w₁ = set ws (n + own t) (tail + 1)

          abbrev w₂ : List ℕ
          w₂ = set w₁ (2 * n + tail) t

          room : 6 * n < length ws
          room = let z = C.packed.sized in omega arith

          w₂-other : (x : ℕ) → x ≢ n + own t → x ≢ 2 * n + tail → get_or w₂ x 0 ≡ get_or ws x 0
          w₂-other x a b = get_or-set_other w₁ (2 * n + tail) x t 0 b ∙ get_or-set_other ws (n + own t) x (tail + 1) 0 a

          w₂-number : number_at n w₂ (own t) ≡ tail + 1
          w₂-number = get_or-set_other w₁ (2 * n + tail) (n + own t) t 0 (λ q. omega (arith, c-low))
              ∙ get_or-set_same ws (n + own t) (tail + 1) 0 (omega (arith, room, c-low))

          w₂-number-other : (c : ℕ) → c < n → c ≢ own t → number_at n w₂ c ≡ number_at n ws c
          w₂-number-other c l ne = w₂-other (n + c) (λ q. ne (omega arith)) (λ q. omega arith)

          w₂-last : state_at n w₂ tail ≡ t
          w₂-last = get_or-set_same w₁ (2 * n + tail) t 0 (rw length-set (omega (arith, room, tail-low)))

          w₂-state : (k : ℕ) → k < tail → state_at n w₂ k ≡ state_at n ws k
          w₂-state k l = w₂-other (2 * n + k) (λ q. omega (arith, c-low)) (λ q. omega arith)

          unfoldable up : ℕ → ℕ
          up k = cond (eqb k tail) head (C.parent k)

          unfoldable via : ℕ → ℕ
          via k = cond (eqb k tail) (letter G n e) (C.by k)

          up-new : (k : ℕ) → k ≡ tail → up k ≡ head
          unfolding up
          up-new k q = rw (eq-eqb k tail q)

          up-old : (k : ℕ) → k < tail → up k ≡ C.parent k
          unfolding up
          up-old k l = rw (ne_eqb k tail (λ q. omega arith))

          via-new : (k : ℕ) → k ≡ tail → via k ≡ letter G n e
          unfolding via
          via-new k q = rw (eq-eqb k tail q)

          via-old : (k : ℕ) → k < tail → via k ≡ C.by k
          unfolding via
          via-old k l = rw (ne_eqb k tail (λ q. omega arith))

          old-or-new : (k : ℕ) → k < tail + 1 → (k < tail) ⊎ (k ≡ tail)
          old-or-new k l = go (dec_lt k tail)
            where
              go : Dec (k < tail) → (k < tail) ⊎ (k ≡ tail)
              go (yes y) = inl y
              go (no y) = inr (omega arith)

          -- an old class was met as before
          met-old : (k j m : ℕ) → k < tail → Met C.parent C.by k j m → Met up via k j m
          met-old k j m l (inl q) = inl q
          met-old k j m l (inr (inl q)) = inr (inl (rw (up-old k l) q))
          met-old k j m l (inr (inr q)) = inr (inr (up-old k l ∙ q.0, rw (via-old k l) q.1))

          state-of : (k : ℕ) → k < tail + 1 → (X : ℕ → Type 0) → ((l : k < tail) → X (state_at n ws k)) → (k ≡ tail → X t)
              → X (state_at n w₂ k)
          state-of k l X old new = go (old-or-new k l)
            where
              go : (k < tail) ⊎ (k ≡ tail) → X (state_at n w₂ k)
              go (inl q) = subst X (sym (w₂-state k q)) (old q)
              go (inr q) = subst X (sym (ap (state_at n w₂) q ∙ w₂-last)) (new q)

          note-new : Counting G n g own w₂ head (e + 1) (tail + 1)
          note-new = let z = C.packed.sized in record {
            packed = packed_keep G n g ws C.packed w₂
                (length-set w₁ (2 * n + tail) t ∙ length-set ws (n + own t) (tail + 1))
                (λ x a b. w₂-other x (λ q. omega (arith, c-low)) (λ q. omega (arith, tail-low)));
            class = λ p l. w₂-other p (λ q. omega arith) (λ q. omega arith) ∙ C.class p l;
            own_low = C.own_low;
            parent = up;
            by = via;
            some = omega arith;
            zero = w₂-state 0 C.some ∙ C.zero;
            low = λ k l. state-of k l (λ x. x < n) (λ q. C.low k q) (λ q. t-low);
            live = λ k l. state-of k l (λ x. own x ≢ own (n - 1)) (λ q. C.live k q) (λ q. alive);
            earlier = λ k a l. earlier k a (old-or-new k l);
            leads = λ k a l. leads k a (old-or-new k l);
            order = λ j k a b l. order j k a b (old-or-new k l);
            numbers = λ k l. numbers k (old-or-new k l);
            only = λ c l p. only c l p (ℕ_discrete c (own t));
            recent = λ k a l. recent k a (old-or-new k l);
            within = omega arith;
            closed = λ j l m ne. closed j l m ne;
            done = λ f x l ne. done f x l ne (ℕ_discrete f e);
          }
            where
              earlier : (k : ℕ) → 0 < k → (k < tail) ⊎ (k ≡ tail) → up k < k
              earlier k a (inl q) = rw (up-old k q) (C.earlier k a q)
              earlier k a (inr q) = omega (arith, up-new k q)

              leads : (k : ℕ) → 0 < k → (k < tail) ⊎ (k ≡ tail) → δ G n (state_at n w₂ (up k)) (via k) ≡ state_at n w₂ k
              leads k a (inl q) =
                  let p = C.earlier k a q in
                  ap (λ x. δ G n (state_at n w₂ x) (via k)) (up-old k q) ∙ ap (δ G n (state_at n w₂ (C.parent k))) (via-old
                  k q)
                  ∙ ap (λ x. δ G n x (C.by k)) (w₂-state (C.parent k) (omega arith)) ∙ C.leads k a q ∙ sym (w₂-state k
                  q)
              leads k a (inr q) =
                  ap (λ x. δ G n (state_at n w₂ x) (via k)) (up-new k q) ∙ ap (δ G n (state_at n w₂ head)) (via-new k q)
                  ∙ ap (λ x. δ G n x (letter G n e)) (w₂-state head h)
                  ∙ edge-step G n C.packed.graph (state_at n ws head) e edge ∙ sym et ∙ sym w₂-last ∙ ap (state_at n w₂)
                  (sym q)

              order : (j k : ℕ) → 0 < j → j < k → (k < tail) ⊎ (k ≡ tail) → (up j < up k) ⊎ ((up j ≡ up k) × (via j < via
                  k))
              order j k a b (inl q) = go (C.order j k a b q)
                where
                  go : (C.parent j < C.parent k) ⊎ ((C.parent j ≡ C.parent k) × (C.by j < C.by k))
                      → (up j < up k) ⊎ ((up j ≡ up k) × (via j < via k))
                  go (inl x) = inl (omega (arith, up-old j (omega arith), up-old k q))
                  go (inr x) = inr (
                    up-old j (omega arith) ∙ x.0 ∙ sym (up-old k q),
                    omega (arith, x.1, via-old j (omega arith), via-old k q),
                  )
              order j k a b (inr q) = go (C.recent j a (omega arith))
                where
                  jl : j < tail
                  jl = omega arith

                  go : (C.parent j < head) ⊎ ByEdge G n C.parent C.by (state_at n ws head) head e j
                      → (up j < up k) ⊎ ((up j ≡ up k) × (via j < via k))
                  go (inl x) = inl (omega (arith, up-old j jl, up-new k q))
                  go (inr (x, (f, (ef, (lt, b'))))) = inr (
                    up-old j jl ∙ x ∙ sym (up-new k q),
                    omega (
                      arith,
                      via-old j jl,
                      via-new k q,
                      b',
                      edges-rise G n (state_at n ws head) f e C.packed.graph
                          ef edge lt,
                    ),
                  )

              numbers : (k : ℕ) → (k < tail) ⊎ (k ≡ tail) → number_at n w₂ (own (state_at n w₂ k)) ≡ k + 1
              numbers k (inl q) =
                  ap (λ x. number_at n w₂ (own x)) (w₂-state k q)
                  ∙ w₂-number-other (own (state_at n ws k)) (C.own_low (state_at n ws k) (C.low k q))
                  (λ y. omega (arith, C.numbers k q, ap (number_at n ws) y))
                  ∙ C.numbers k q
              numbers k (inr q) = ap (λ x. number_at n w₂ (own x)) (ap (state_at n w₂) q ∙ w₂-last) ∙ w₂-number ∙ ap (λ x. x
                  + 1) (sym q)

              only : (c : ℕ) → c < n → 0 < number_at n w₂ c → Dec (c ≡ own t)
                  → (k : ℕ) × ((k < tail + 1) × ((number_at n w₂ c ≡ k + 1) × (own (state_at n w₂ k) ≡ c)))
              only c l p (yes q) = (tail, (omega arith, (ap (number_at n w₂) q ∙ w₂-number, ap own w₂-last ∙ sym q)))
              only c l p (no q) =
                  let is = w₂-number-other c l q in
                  let f = C.only c l (omega (arith, p, is)) in
                  (f.0, (omega (arith, f.1.0), (is ∙ f.1.1.0, ap own (w₂-state f.0 f.1.0) ∙ f.1.1.1)))

              recent : (k : ℕ) → 0 < k → (k < tail) ⊎ (k ≡ tail)
                  → (up k < head) ⊎ ByEdge G n up via (state_at n w₂ head) head (e + 1) k
              recent k a (inr q) = inr (
                up-new k q,
                (
                  e,
                  (
                    subst (λ x. EdgeOf G n x e) (sym (w₂-state head h)) edge,
                    (omega arith, via-new k q),
                  ),
                ),
              )
              recent k a (inl q) = go (C.recent k a q)
                where
                  go : (C.parent k < head) ⊎ ByEdge G n C.parent C.by (state_at n ws head) head e k
                      → (up k < head) ⊎ ByEdge G n up via (state_at n w₂ head) head (e + 1) k
                  go (inl x) = inl (rw (up-old k q) x)
                  go (inr (x, (f, (ef, (lt, b))))) = inr (
                    up-old k q ∙ x,
                    (
                      f,
                      (
                        subst (λ y. EdgeOf G n y f)
                            (sym (w₂-state head h)) ef,
                        (omega arith, via-old k q ∙ b),
                      ),
                    ),
                  )

              closed : (j : ℕ) → j < head → (m : ℕ) → own (δ G n (state_at n w₂ j) m) ≢ own (n - 1)
                  → (k : ℕ) × ((k < tail + 1) × ((own (state_at n w₂ k) ≡ own (δ G n (state_at n w₂ j) m)) × Met up via k j
                  m))
              closed j l m ne =
                  let s = w₂-state j (omega arith) in
                  let f = C.closed j l m (λ q. ne (ap (λ x. own (δ G n x m)) s ∙ q)) in (
                    f.0,
                    (
                      omega (arith, f.1.0),
                      (
                        ap own (w₂-state f.0 f.1.0) ∙ f.1.1.0
                            ∙ sym (ap (λ x. own (δ G n x m)) s),
                        met-old f.0 j m f.1.0 f.1.1.1,
                      ),
                    ),
                  )

              done : (f : ℕ) → EdgeOf G n (state_at n w₂ head) f → f < e + 1 → own (target G n f) ≢ own (n - 1) → Dec (f ≡
                  e)
                  → (k : ℕ) × ((k < tail + 1) × ((own (state_at n w₂ k) ≡ own (target G n f)) × Met up via k head (letter G
                  n f)))
              done f x l ne (yes q) = (
                tail,
                (
                  omega arith,
                  (
                    ap own (w₂-last ∙ et ∙ ap (target G n) (sym q)),
                    inr (inr (up-new tail refl, omega (arith, via-new tail refl, ap (letter G n) q))),
                  ),
                ),
              )
              done f x l ne (no q) =
                  let d = C.done f (subst (λ y. EdgeOf G n y f) (w₂-state head h) x) (less (dec_lt f e)) ne in (
                    d.0,
                    (
                      omega (arith, d.1.0),
                      (
                        ap own (w₂-state d.0 d.1.0) ∙ d.1.1.0,
                        met-old d.0 head (letter G n f) d.1.0 d.1.1.1,
                      ),
                    ),
                  )
                where
                  less : Dec (f < e) → f < e
                  less (yes y) = y
                  less (no y) = absurd (q (omega arith))

      -- what note leaves
      count-again : (t dead r : ℕ) (w : List ℕ) → t ≡ target G n e → t < n → dead ≡ own (n - 1)
          → Noted n dead t tail ws r w → Counting G n g own w head (e + 1) r
      count-again t dead r w et l ed (lost q er ew) =
          rw (er, ew) (keep-on (inl (ap own (sym et) ∙ sym (C.class t l) ∙ q ∙ ed)))
      count-again t dead r w et l ed (known q p er ew) =
          let is = C.class t l in
          let f = C.only (own t) (C.own_low t l) (rw is at p) in
          rw (er, ew) (keep-on (inr (f.0, (f.1.0, f.1.1.1 ∙ ap own et))))
      count-again t dead r w et l ed (fresh q p er ew) =
          let is = C.class t l in
          rw (er, ew, is) (note-new t et l (λ y. q (is ∙ y ∙ sym ed)) (sym (ap (number_at n ws) is) ∙ p))

    -- the edges of the next class are done
    count_next : head < tail → e ≡ get_or G (state_at n ws head + 1) 0
        → Counting G n g own ws (head + 1) 0 tail
    count_next h q = record {
      packed = C.packed;
      class = C.class;
      own_low = C.own_low;
      parent = C.parent;
      by = C.by;
      some = C.some;
      zero = C.zero;
      low = C.low;
      live = C.live;
      earlier = C.earlier;
      leads = C.leads;
      order = C.order;
      numbers = C.numbers;
      only = C.only;
      within = omega arith;
      recent = λ k a b. recent (C.recent k a b);
      closed = λ j l m ne. closed j l m ne (dec_lt j head);
      done = λ f x l ne. absurd (omega arith);
    }
      where
        recent : {k : ℕ} → (C.parent k < head) ⊎ ByEdge G n C.parent C.by (state_at n ws head) head e k
            → (C.parent k < head + 1) ⊎ ByEdge G n C.parent C.by (state_at n ws (head + 1)) (head + 1) 0 k
        recent (inl x) = inl (omega arith)
        recent (inr x) = inl (omega (arith, x.0))

        closed : (j : ℕ) → j < head + 1 → (m : ℕ) → own (δ G n (state_at n ws j) m) ≢ own (n - 1) → Dec (j < head)
            → (k : ℕ) × ((k < tail) × ((own (state_at n ws k) ≡ own (δ G n (state_at n ws j) m)) × Met C.parent C.by k
            j m))
        closed j l m ne (yes y) = C.closed j y m ne
        closed j l m ne (no y) =
            let is : j ≡ head = omega arith in
            subst (λ i. (k : ℕ) × ((k < tail) × ((own (state_at n ws k) ≡ own (δ G n (state_at n ws i) m)) × Met C.parent
            C.by k i m)))
            (sym is) (go (step-letter G n (state_at n ws head) m C.packed.graph (C.low head h))
            (λ z. ne (ap (λ i. own (δ G n (state_at n ws i) m)) is ∙ z)))
          where
            go : (δ G n (state_at n ws head) m ≡ n - 1)
                ⊎ ((f : ℕ) × (EdgeOf G n (state_at n ws head) f × ((letter G n f ≡ m) × (δ G n (state_at n ws head) m ≡
                target G n f))))
                → own (δ G n (state_at n ws head) m) ≢ own (n - 1)
                → (k : ℕ) × ((k < tail) × ((own (state_at n ws k) ≡ own (δ G n (state_at n ws head) m)) × Met C.parent
                C.by k head m))
            go (inl d) w = absurd (w (ap own d))
            go (inr (f, (ef, (lm, d)))) w =
                let r = C.done f ef (omega (arith, q, ef.to)) (λ z. w (ap own d ∙ z)) in (
                  r.0,
                  (
                    r.1.0,
                    (
                      r.1.1.0 ∙ ap own (sym d),
                      subst (λ x. Met C.parent C.by r.0 head x) lm r.1.1.1,
                    ),
                  ),
                )

-- the edges of the next class are begun
count-from : (G : List ℕ) (n g : ℕ) (own : ℕ → ℕ) (ws : List ℕ) (head tail e : ℕ) → Counting G n g own ws head 0
    tail
    → e ≡ get_or G (state_at n ws head) 0 → Counting G n g own ws head e tail
count-from G n g own ws head tail e C q = record {
  packed = C.packed;
  class = C.class;
  own_low = C.own_low;
  parent = C.parent;
  by = C.by;
  some = C.some;
  zero = C.zero;
  low = C.low;
  live = C.live;
  earlier = C.earlier;
  leads = C.leads;
  order = C.order;
  numbers = C.numbers;
  only = C.only;
  within = C.within;
  closed = C.closed;
  recent = λ k a b. recent (C.recent k a b);
  done = λ f x l ne. absurd (omega (arith, x.from));
}
  where
    recent : {k : ℕ} → (C.parent k < head) ⊎ ByEdge G n C.parent C.by (state_at n ws head) head 0 k
        → (C.parent k < head) ⊎ ByEdge G n C.parent C.by (state_at n ws head) head e k
    recent (inl x) = inl x
    recent (inr (x, (f, (ef, (lt, b))))) = absurd (omega arith)

-- the state whose edges are gone through stays
noted-state : (n dead t k r i : ℕ) (ws w : List ℕ) → class_at ws t < n → Noted n dead t k ws r w → i < k
    → state_at n w i ≡ state_at n ws i
noted-state n dead t k r i ws w c (lost q er ew) l = ap (λ x. state_at n x i) ew
noted-state n dead t k r i ws w c (known q p er ew) l = ap (λ x. state_at n x i) ew
noted-state n dead t k r i ws w c (fresh q p er ew) l = ap (λ x. state_at n x i) ew
    ∙ get_or-set_other (set ws (n + class_at ws t) (k + 1)) (2 * n + k) (2 * n + i) t 0 (λ y. omega arith)
    ∙ get_or-set_other ws (n + class_at ws t) (2 * n + i) (k + 1) 0 (λ y. omega arith)

noted_more : (n dead t k r : ℕ) (ws w : List ℕ) → Noted n dead t k ws r w → k ≤ r
noted_more n dead t k r ws w (lost q er ew) = omega arith
noted_more n dead t k r ws w (known q p er ew) = omega arith
noted_more n dead t k r ws w (fresh q p er ew) = omega arith

pub noted-length : (n dead t k r : ℕ) (ws w : List ℕ) → Noted n dead t k ws r w → length w ≡ length ws
noted-length n dead t k r ws w (lost q er ew) = ap length ew
noted-length n dead t k r ws w (known q p er ew) = ap length ew
noted-length n dead t k r ws w (fresh q p er ew) = rw ew (simp length-set)

-- the loop of meet
module _ (G : List ℕ) (n g : ℕ) (own : ℕ → ℕ) (head p dead : ℕ) (ed : dead ≡ own (n - 1)) where
  pub meet-first : (ws : List ℕ) (tail e end : ℕ) → Counting G n g own ws head 0 tail → head < tail
      → p ≡ state_at n ws head → e ≡ get_or ws (5 * n + p) 0 → end ≡ get_or ws (5 * n + (p + 1)) 0
      → Meeting G n g own head p ws e end tail ws
  meet-first ws tail e end C h ep ee ef =
      let low : p < n = rw ep (C.low head h) in
      let is : e ≡ get_or G p 0 = ee ∙ C.packed.firsts p (omega arith) in
      let to : end ≡ get_or G (p + 1) 0 = ef ∙ C.packed.firsts (p + 1) (omega arith) in
      record {
        counting = count-from G n g own ws head tail e C (is ∙ ap (λ x. get_or G x 0) ep);
        more = h;
        state = ep;
        first = omega arith;
        last = to;
        within = omega (arith, (C.packed.graph.edges p low).le);
        len = refl;
      }

  module _ (ws₀ ws : List ℕ) (e end tail : ℕ) (M : Meeting G n g own head p ws₀ e end tail ws) (h : e < end) where
    p-low : p < n
    p-low = rw M.state (M.counting.low head M.more)

    edge-p : EdgeOf G n p e
    edge-p = record { below = p-low; from = M.first; to = omega (arith, M.last) }

    pub target-asks : (n ≤ 8192) × ((e < 262144) × (6 * n + 2 + 2 * e < length ws))
    target-asks = edge-room G n g ws M.counting.packed e (edge_to G n M.counting.packed.graph p e edge-p)

    module _ (t : ℕ) (et : t ≡ get_or ws (6 * n + 2 + 2 * e) 0 % 8192) where
      target_is : t ≡ target G n e
      target_is = et ∙ M.counting.packed.targets e (edge-from G n M.counting.packed.graph p e edge-p)
          (edge_to G n M.counting.packed.graph p e edge-p)

      target-low : t < n
      target-low = rw target_is ((M.counting.packed.graph.edges p p-low).small e edge-p.from edge-p.to).1

      class_low : class_at ws t < n
      class_low = rw (M.counting.class t target-low) (M.counting.own_low t target-low)

      pub note-asks : (n ≤ 8192) × ((t < n) × ((tail ≤ n) × ((class_at ws t < n) × ((5 * n ≤ length ws)
          × (number_at n ws (class_at ws t) ≡ 0 → tail < n)))))
      note-asks = let z = M.counting.packed.sized in (
        z.few,
        (
          target-low,
          (
            few-numbered G n g own ws head e tail M.counting,
            (
              class_low,
              (
                omega arith,
                (λ q. few-more G n g own ws head e tail M.counting (class_at ws t) class_low q),
              ),
            ),
          ),
        ),
      )

      pub meet-again : (r : ℕ) (w : List ℕ) → Noted n dead t tail ws r w → Meeting G n g own head p ws₀ (e + 1) end r w
      meet-again r w N = record {
        counting = count-again G n g own ws head e tail M.counting M.more
            (subst (λ x. EdgeOf G n x e) M.state edge-p) t dead r w target_is target-low ed N;
        more = omega (arith, M.more, noted_more n dead t tail r ws w N);
        state = M.state ∙ sym (noted-state n dead t tail r head ws w class_low N M.more);
        first = omega (arith, M.first);
        last = M.last;
        within = omega arith;
        len = noted-length n dead t tail r ws w N ∙ M.len;
      }

  pub meet-last : (ws₀ ws : List ℕ) (e end tail : ℕ) → Meeting G n g own head p ws₀ e end tail ws → end ≤ e
      → Counting G n g own ws (head + 1) 0 tail
  meet-last ws₀ ws e end tail M h = count_next G n g own ws head e tail M.counting M.more
      (let q : e ≡ end = omega (arith, M.within) in q ∙ M.last ∙ ap (λ x. get_or G (x + 1) 0) M.state)

-- what meet asks
module _ (G : List ℕ) (n g : ℕ) (own : ℕ → ℕ) (ws : List ℕ) (head tail p : ℕ) (C : Counting G n g own ws head 0 tail)
    (h : head < tail) (ep : p ≡ state_at n ws head) where
  pub meet_low : p < n
  meet_low = rw ep (C.low head h)

-- before the loop of number_states
module _ (G : List ℕ) (n g : ℕ) (own : ℕ → ℕ) (ws : List ℕ) (B : Countable G n g own ws) where
  pub count_room : (0 < n) × ((n ≤ 8192) × (6 * n < length ws))
  count_room = let z = B.packed.sized in (z.some, (z.few, omega arith))

  module _ (v : List ℕ) (Z : Zeroed n n ws v) where
    same_low : (x : ℕ) → x < n → get_or v x 0 ≡ get_or ws x 0
    same_low x h = Z.keeps x (inl h)

    cleared : Countable G n g own v
    cleared = let z = B.packed.sized in record {
      packed = packed_keep G n g ws B.packed v Z.len (λ x a b. Z.keeps x (inr (omega arith)));
      class = λ p h. same_low p h ∙ B.class p h;
      own_low = B.own_low;
    }

    first-low : class_at v 0 < n
    first-low = let z = B.packed.sized in rw (cleared.class 0 z.some) (B.own_low 0 z.some)

    pub count-first : (dead r : ℕ) (w : List ℕ) → dead ≡ get_or ws (n - 1) 0 → Noted n dead 0 0 v r w
        → Counted G n g own w 0 r
    count-first dead r w ed (lost q er ew) = let z = B.packed.sized in
        rw ew (record {
          countable = cleared;
          state = inl (
            er,
            sym (cleared.class 0 z.some) ∙ q ∙ ed
                ∙ B.class (n - 1) (omega arith),
          );
        })
    count-first dead r w ed (known q p er ew) = absurd (omega (arith, p, Z.zero (class_at v 0) first-low))
    count-first dead r w ed (fresh q p er ew) =
        let z = B.packed.sized in
        let C = numbered-one (λ y. q (cleared.class 0 z.some ∙ y ∙ sym (B.class (n - 1) (omega arith)) ∙ sym ed))
        in
        rw (er, ew, cleared.class 0 z.some) (record {
          countable = record { packed = C.packed; class = C.class; own_low = C.own_low };
          state = inr C;
        })
      where
        numbered-one : own 0 ≢ own (n - 1) → Counting G n g own (set (set v (n + own 0) (0 + 1)) (2 * n + 0) 0) 0 0 (0 +
            1)
        numbered-one alive =
            let z = B.packed.sized in
            record {
              packed = packed_keep G n g v cleared.packed w₂
                  (length-set w₁ (2 * n + 0) 0 ∙ length-set v (n + own 0) 1)
                  (λ x a b. other x (λ y. omega (arith, c-low)) (λ y. omega arith));
              class = λ p h. other p (λ y. omega arith) (λ y. omega arith) ∙ cleared.class p h;
              own_low = B.own_low;
              parent = λ k. 0;
              by = λ k. 0;
              some = omega arith;
              zero = get_or-set_same w₁ (2 * n + 0) 0 0 (rw length-set (omega (arith, Z.len)));
              low = λ k h. subst (λ x. state_at n w₂ x < n) {x = 0} {y = k} (omega arith) (rw state-0 z.some);
              live = λ k h. subst (λ x. own (state_at n w₂ x) ≢ own (n - 1)) {x = 0} {y = k} (omega arith) (rw state-0
                  alive);
              earlier = λ k a b. absurd (omega arith);
              leads = λ k a b. absurd (omega arith);
              order = λ j k a b c. absurd (omega arith);
              numbers = λ k h. subst (λ x. number_at n w₂ (own (state_at n w₂ x)) ≡ x + 1) {x = 0} {y = k} (omega arith)
                  (ap (λ x. number_at n w₂ (own x)) state-0 ∙ number-0);
              only = λ c h p. only c h p (ℕ_discrete c (own 0));
              recent = λ k a b. absurd (omega arith);
              within = omega arith;
              closed = λ j h. absurd (omega arith);
              done = λ f x h. absurd (omega arith);
            }
          where
            w₁ : List ℕ
            w₁ = set v (n + own 0) (0 + 1)

            w₂ : List ℕ
            w₂ = set (set v (n + own 0) (0 + 1)) (2 * n + 0) 0

            c-low : own 0 < n
            c-low = let z = B.packed.sized in B.own_low 0 z.some

            other : (x : ℕ) → x ≢ n + own 0 → x ≢ 2 * n + 0 → get_or w₂ x 0 ≡ get_or v x 0
            other x a b = get_or-set_other w₁ (2 * n + 0) x 0 0 b ∙ get_or-set_other v (n + own 0) x 1 0 a

            state-0 : state_at n w₂ 0 ≡ 0
            state-0 = let z = B.packed.sized in get_or-set_same w₁ (2 * n + 0) 0 0 (rw length-set (omega (
              arith,
              Z.len,
            )))

            number-0 : number_at n w₂ (own 0) ≡ 0 + 1
            number-0 = let z = B.packed.sized in get_or-set_other w₁ (2 * n + 0) (n + own 0) 0 0 (λ q. omega (
              arith,
              c-low,
            ))
                ∙ get_or-set_same v (n + own 0) 1 0 (omega (arith, Z.len, c-low))

            only : (c : ℕ) → c < n → 0 < number_at n w₂ c → Dec (c ≡ own 0)
                → (k : ℕ) × ((k < 0 + 1) × ((number_at n w₂ c ≡ k + 1) × (own (state_at n w₂ k) ≡ c)))
            only c h p (yes q) = (0, (omega arith, (ap (number_at n w₂) q ∙ number-0, ap own state-0 ∙ sym q)))
            only c h p (no q) = absurd (omega (
              arith,
              p,
              other (n + c) (λ y. q (omega arith)) (λ y. omega arith),
              Z.zero c h,
            ))

-- a turn
module _ (G : List ℕ) (n g : ℕ) (own : ℕ → ℕ) (ws : List ℕ) (head tail : ℕ) (S : Counted G n g own ws head tail)
    (h : head < tail) where
  pub turn-counting : Counting G n g own ws head 0 tail
  turn-counting = go S.state
    where
      go : ((tail ≡ 0) × (own 0 ≡ own (n - 1))) ⊎ Counting G n g own ws head 0 tail → Counting G n g own ws head 0 tail
      go (inl q) = absurd (omega (arith, q.0))
      go (inr C) = C

  pub turn-asks : 2 * n + head < length ws
  turn-asks = let z = S.countable.packed.sized in
      omega (arith, few-numbered G n g own ws head 0 tail turn-counting)

  pub turn_small : head < 8192
  turn_small = let z = S.countable.packed.sized in
      omega (arith, few-numbered G n g own ws head 0 tail turn-counting)

  pub turn-few : head < n
  turn-few = omega (arith, few-numbered G n g own ws head 0 tail turn-counting)

pub turn-again : (G : List ℕ) (n g : ℕ) (own : ℕ → ℕ) (w : List ℕ) (head r : ℕ) → Counting G n g own w (head + 1) 0 r
    → Counted G n g own w (head + 1) r
turn-again G n g own w head r C = record
    { countable = record { packed = C.packed; class = C.class; own_low = C.own_low }; state = inr C }

pub count-last : (G : List ℕ) (n g : ℕ) (own : ℕ → ℕ) (ws : List ℕ) (head tail : ℕ) → Counted G n g own ws head tail
    → tail ≤ head → NumberedIn G n g own tail ws
count-last G n g own ws head tail S h = record { countable = S.countable; numbered = go S.state }
  where
    go : ((tail ≡ 0) × (own 0 ≡ own (n - 1))) ⊎ Counting G n g own ws head 0 tail
        → Numbered (δ G n) n (n - 1) own 0 tail (state_at n ws) (number_at n ws)
    go (inl q) = record {
      parent = λ k. 0;
      by = λ k. 0;
      some = λ ne. absurd (ne q.1);
      zero = λ l. absurd (omega (arith, q.0));
      low = λ k l. absurd (omega (arith, q.0));
      live = λ k l. absurd (omega (arith, q.0));
      earlier = λ k a l. absurd (omega (arith, q.0));
      leads = λ k a l. absurd (omega (arith, q.0));
      order = λ j k a b l. absurd (omega (arith, q.0));
      numbers = λ k l. absurd (omega (arith, q.0));
      closed = λ j l. absurd (omega (arith, q.0));
    }
    go (inr C) = record {
      parent = C.parent;
      by = C.by;
      some = λ ne. C.some;
      zero = λ l. C.zero;
      low = C.low;
      live = C.live;
      earlier = C.earlier;
      leads = C.leads;
      order = C.order;
      numbers = C.numbers;
      closed = λ j l m ne. C.closed j (omega arith) m ne;
    }
