-- The table of the numbered classes is the smallest one of the words that the automaton accepts. Assumes nothing.
use mathlib.Core.Bool.{Bool, cond, false, true}
use mathlib.Core.List.{List, [], ◌∷◌}
use mathlib.Core.Logic.{◌≢◌, ◌⊎◌, inl, inr}
use mathlib.Core.Path.{◌∙◌, ◌≡◌, ap, refl, subst, sym}
use Prim.Native.Nat.{◌+◌, ◌-◌, ◌<◌, ◌≤◌, suc, zero, ℕ}
use native.Mathlib.Decide.{ℕ_discrete}
use native.Mathlib.Omega.{arith}
use lib.Dec.{eqb}
use lib.ListN.{get_or, length}
use borrow.Author.Tests.{eq-eqb, ne_eqb}
use Rattle.dfa.specs.Graph.{EdgeOf, Edges, letter, target, δ}
use Rattle.dfa.specs.Live.{Single}
use Rattle.dfa.specs.Word.{accepting}
use Rattle.dfa.proofs.laws.Edges.{edge-step}
use Rattle.dfa.proofs.laws.Look.{edges-tail}
use Rattle.dfa_smallest.specs.Classes.{Classes}
use Rattle.dfa_smallest.specs.Numbered.{Numbered}
use Rattle.dfa_smallest.specs.Table.{Arc, Has, Rising, Smallest, nowhere}
use Rattle.dfa_smallest.proofs.Numbered.{AcceptedWord, numbered-smallest}
use Rattle.dfa_numbering.specs.Tables.{arcs_of, place_of, places_of}
use Rattle.dfa_numbering.proofs.laws.Counting.{step-letter}
use Rattle.dfa_splitting.proofs.laws.Refining.{finite}

module _ (G : List ℕ) (n f : ℕ) (own number : ℕ → ℕ) where
  -- the letters of the moves rise
  rising-more : (b c : ℕ) (xs : List Arc) → b ≤ c → Rising c xs → Rising b xs
  unfolding Rising
  rising-more b c [] h r = tt
  rising-more b c (a ∷ xs) h r = (omega (arith, r.0), r.1)

  rising-cons : (b : ℕ) (a : Arc) (xs : List Arc) → b ≤ a.letter → Rising (a.letter + 1) xs → Rising b (a ∷ xs)
  unfolding Rising
  rising-cons b a xs h r = (h, r)

  rising_none : (b : ℕ) → Rising b []
  unfolding Rising
  rising_none b = tt

  arcs-rising : (k i b end : ℕ) → i + k ≡ end → Edges G n i end → (0 < k → b ≤ letter G n i)
      → Rising b (arcs_of G n own number k i)
  unfolding arcs_of
  arcs-rising zero i b end q E h = rising_none b
  arcs-rising (suc k) i b end q E h =
      let low : b ≤ letter G n i = h (omega arith) in
      let tail : Edges G n (suc i) end = subst (λ x. Edges G n x end) {x = i + 1} {y = suc i} (omega arith)
      (edges-tail G n i end E (omega arith)) in
      go (eqb (own (target G n i)) (own (n - 1))) low
      (arcs-rising k (suc i) (letter G n i + 1) end (omega arith) tail
      (λ l. let r = E.rising i (omega arith) (omega arith) in
      omega (arith, r, ap (letter G n) {x = i + 1} {y = suc i} (omega arith))))
    where
      go : (t : Bool) → b ≤ letter G n i → Rising (letter G n i + 1) (arcs_of G n own number k (suc i))
          → Rising b (cond t (arcs_of G n own number k (suc i))
          (record { letter = letter G n i; to = number (own (target G n i)) - 1 } ∷ arcs_of G n own number k (suc i)))
      go true l r = rising-more b (letter G n i + 1) (arcs_of G n own number k (suc i)) (omega arith) r
      go false l r = rising-cons b (record { letter = letter G n i; to = number (own (target G n i)) - 1 })
          (arcs_of G n own number k (suc i)) l r

  -- what is among the moves is an edge to a live class
  abbrev pub Along : ℕ → ℕ → ℕ → ℕ → Type 0
  Along i k m j = (e : ℕ) × ((i ≤ e) × ((e < i + k) × ((letter G n e ≡ m) × ((own (target G n e) ≢ own (n - 1))
      × (number (own (target G n e)) - 1 ≡ j)))))

  arcs-along : (k i m j : ℕ) → Has (arcs_of G n own number k i) m j → Along i k m j
  unfolding arcs_of Has
  arcs-along zero i m j h = absurd h
  arcs-along (suc k) i m j h = go (ℕ_discrete (own (target G n i)) (own (n - 1))) h (λ x. arcs-along k (suc i) m j x)
    where
      later : Along (suc i) k m j → Along i (suc k) m j
      later (e, (a, (b, c))) = (e, (omega arith, (omega arith, c)))

      go : Dec (own (target G n i) ≡ own (n - 1))
          → Has (cond (eqb (own (target G n i)) (own (n - 1))) (arcs_of G n own number k (suc i))
          (record { letter = letter G n i; to = number (own (target G n i)) - 1 } ∷ arcs_of G n own number k (suc i))) m
          j
          → (Has (arcs_of G n own number k (suc i)) m j → Along (suc i) k m j) → Along i (suc k) m j
      go (yes q) h r = later (r (rw (eq-eqb (own (target G n i)) (own (n - 1)) q) at h))
      go (no q) h r = at (rw (ne_eqb (own (target G n i)) (own (n - 1)) q) at h)
        where
          at : ((letter G n i ≡ m) × (number (own (target G n i)) - 1 ≡ j)) ⊎ Has (arcs_of G n own number k (suc i)) m j
              → Along i (suc k) m j
          at (inl x) = (i, (omega arith, (omega arith, (x.0, (q, x.1)))))
          at (inr x) = later (r x)

  along-arcs : (k i m j : ℕ) → Along i k m j → Has (arcs_of G n own number k i) m j
  unfolding arcs_of Has
  along-arcs zero i m j (e, (a, (b, c))) = absurd (omega arith)
  along-arcs (suc k) i m j (e, (a, (b, c))) =
      go (ℕ_discrete (own (target G n i)) (own (n - 1))) (ℕ_discrete e i) (λ x. along-arcs k (suc i) m j x)
    where
      go : Dec (own (target G n i) ≡ own (n - 1)) → Dec (e ≡ i)
          → (Along (suc i) k m j → Has (arcs_of G n own number k (suc i)) m j)
          → Has (cond (eqb (own (target G n i)) (own (n - 1))) (arcs_of G n own number k (suc i))
          (record { letter = letter G n i; to = number (own (target G n i)) - 1 } ∷ arcs_of G n own number k (suc i))) m
          j
      go (yes q) (yes z) r = absurd (c.1.0 (ap (λ x. own (target G n x)) z ∙ q))
      go (yes q) (no z) r = rw (eq-eqb (own (target G n i)) (own (n - 1)) q)
          (r (e, (next z, (omega arith, c))))
        where
          next : e ≢ i → suc i ≤ e
          next ne = at (ℕ_discrete e i)
            where
              at : Dec (e ≡ i) → suc i ≤ e
              at (yes y) = absurd (ne y)
              at (no y) = omega arith
      go (no q) (yes z) r = rw (ne_eqb (own (target G n i)) (own (n - 1)) q)
          (inl (ap (letter G n) (sym z) ∙ c.0, ap (λ x. number (own (target G n x)) - 1) (sym z) ∙ c.1.1))
      go (no q) (no z) r = rw (ne_eqb (own (target G n i)) (own (n - 1)) q) (inr (r (
        e,
        (
          next (ℕ_discrete e i),
          (
            omega
                arith,
            c,
          ),
        ),
      )))
        where
          next : Dec (e ≡ i) → suc i ≤ e
          next (yes y) = absurd (z y)
          next (no y) = omega arith

  -- the places
  places-length : (state : ℕ → ℕ) (c k : ℕ) → length (places_of G n f own number state c k) ≡ c
  unfolding places_of
  places-length state zero k = refl
  places-length state (suc c) k = ap suc (places-length state c (suc k))

  places-at : (state : ℕ → ℕ) (c k i : ℕ) → i < c
      → get_or (places_of G n f own number state c k) i nowhere ≡ place_of G n f own number (state (k + i))
  unfolding places_of
  places-at state zero k i h = absurd (omega arith)
  places-at state (suc c) k zero h = ap (λ x. place_of G n f own number (state x)) {x = k} {y = k + zero} (omega arith)
  places-at state (suc c) k (suc i) h = places-at state c (suc k) i (omega arith)
      ∙ ap (λ x. place_of G n f own number (state x)) {x = suc k + i} {y = k + suc i} (omega arith)

-- the table of the numbered classes is the smallest one
pub table-smallest : (G : List ℕ) (n f : ℕ) → Single G n f → f < n → (own : ℕ → ℕ)
    → Classes (δ G n) (accepting f f) n (n - 1) own → (count : ℕ) (state number : ℕ → ℕ)
    → Numbered (δ G n) n (n - 1) own 0 count state number
    → Smallest (AcceptedWord (δ G n) (accepting f f) 0) (places_of G n f own number state count 0)
table-smallest G n f S low own C count state number N =
    numbered-smallest (δ G n) (accepting f f) n (n - 1) (finite G n f S low) own C 0 S.graph.some count state number
    N
    (places_of G n f own number state count 0) (places-length G n f own number state count 0)
    (λ k h. ap (λ x. x.final) (at k h))
    (λ k h. subst (λ x. Rising 0 x.arcs) (sym (at k h))
    (arcs-rising G n f own number (get_or G (state k + 1) 0 - get_or G (state k) 0) (get_or G (state k) 0) 0
    (get_or G (state k + 1) 0) (omega (arith, (edges k h).le)) (edges k h) (λ l. omega arith)))
    (λ k h m j. (
      (λ x. to k h m j (arcs-along G n f own number (get_or G (state k + 1) 0 - get_or G (state k) 0) (get_or G (state k) 0) m
          j
          (subst (λ y. Has y.arcs m j) (at k h) x))),
      (λ x. subst (λ y. Has y.arcs m j) (sym (at k h))
          (along-arcs G n f own number (get_or G (state k + 1) 0 - get_or G (state k) 0) (get_or G (state k) 0) m j (back k h
          m j x))),
    ))
  where
    at : (k : ℕ) → k < count → get_or (places_of G n f own number state count 0) k nowhere ≡ place_of G n f own number
        (state k)
    at k h = places-at G n f own number state count 0 k h
        ∙ ap (λ x. place_of G n f own number (state x)) {x = 0 + k} {y = k} (omega arith)

    edges : (k : ℕ) → k < count → Edges G n (get_or G (state k) 0) (get_or G (state k + 1) 0)
    edges k h = S.graph.edges (state k) (N.low k h)

    to : (k : ℕ) → k < count → (m j : ℕ) → Along G n f own number (get_or G (state k) 0) (get_or G (state k + 1) 0 - get_or G
        (state k) 0) m j
        → (own (δ G n (state k) m) ≢ own (n - 1)) × (number (own (δ G n (state k) m)) ≡ j + 1)
    to k h m j (e, (a, (b, (lm, (ne, nj))))) =
        let ed : EdgeOf G n (state k) e = record { below = N.low k h; from = a; to = omega (arith, (edges k h).le) } in
        let step : δ G n (state k) m ≡ target G n e = ap (δ G n (state k)) (sym lm)
        ∙ edge-step G n S.graph (state k) e ed in
        let alive : own (δ G n (state k) m) ≢ own (n - 1) = λ q. ne (ap own (sym step) ∙ q) in
        let c = N.closed k h m alive in
        (alive, omega (arith, nj, ap (λ x. number (own x)) step, N.numbers c.0 c.1.0, ap number c.1.1.0))

    back : (k : ℕ) → k < count → (m j : ℕ) → (own (δ G n (state k) m) ≢ own (n - 1)) × (number (own (δ G n (state k) m))
        ≡ j + 1)
        → Along G n f own number (get_or G (state k) 0) (get_or G (state k + 1) 0 - get_or G (state k) 0) m j
    back k h m j x = go (step-letter G n (state k) m S.graph (N.low k h))
      where
        go : (δ G n (state k) m ≡ n - 1) ⊎ ((e : ℕ) × (EdgeOf G n (state k) e × ((letter G n e ≡ m) × (δ G n (state k) m
            ≡ target G n e))))
            → Along G n f own number (get_or G (state k) 0) (get_or G (state k + 1) 0 - get_or G (state k) 0) m j
        go (inl d) = absurd (x.0 (ap own d))
        go (inr (e, (ed, (lm, d)))) = (
          e,
          (
            ed.from,
            (
              omega (arith, ed.to, (edges k h).le),
              (
                lm,
                ((λ q. x.0 (ap own d ∙ q)), omega (arith, x.1, ap (λ y. number (own y)) d)),
              ),
            ),
          ),
        )
