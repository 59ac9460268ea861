-- Looking for a letter among edges in order. Assumes nothing.
use mathlib.Core.Bool.{Bool, cond, false, true}
use mathlib.Core.List.{List, [], ◌∷◌}
use mathlib.Core.Logic.{◌≢◌}
use mathlib.Core.Path.{◌∙◌, ◌≡◌, ap, refl, subst, sym}
use Prim.Native.Nat.{◌+◌, ◌-◌, ◌<◌, ◌≤◌, suc, zero, ℕ}
use native.Mathlib.Numerals.{add-one}
use native.Mathlib.Omega.{arith}
use lib.Dec.{eqb}
use lib.ListN.{get_or}
use borrow.Author.Tests.{eq-eqb, ne_eqb}
use Rattle.dfa.specs.Graph.{Edges, Graph, letter, look, target, δ}
use Rattle.dfa.specs.Word.{after}
use Rattle.dfa.specs.Step.{Past}

-- the letters rise
pub rise : (G : List ℕ) (n i end : ℕ) → Edges G n i end → (d : ℕ) → i + d < end → letter G n i ≤ letter G n (i + d)
rise G n i end e zero h = subst (λ j. letter G n i ≤ letter G n j) {x = i} {y = i + zero} (omega arith) (omega arith)
rise G n i end e (suc d) h =
    let a = rise G n i end e d (omega arith) in
    let b = e.rising (i + d) (omega arith) (omega arith) in
    subst (λ j. letter G n i ≤ letter G n j) {x = i + d + 1} {y = i + suc d} (omega arith) (omega arith)

look-low : (G : List ℕ) (n m k i : ℕ) → ((j : ℕ) → i ≤ j → j < i + k → m < letter G n j) → look G n m k i ≡ n - 1
unfolding look
look-low G n m zero i h = refl
look-low G n m (suc k) i h = rw (ne_eqb (letter G n i) m (λ q. let z = h i (omega arith) (omega arith) in
    omega arith)) (look-low G n m k (suc i) (λ j a b. h j (omega arith) (omega arith)))

-- a letter below the next edge's leads to the dead state
pub look-before : (G : List ℕ) (n m i end : ℕ) → Edges G n i end → (i < end → m < letter G n i)
    → look G n m (end - i) i ≡ n - 1
look-before G n m i end e h =
    look-low G n m (end - i) i (λ j a b. let r = rise G n i end e (j - i) (omega (arith, e.le)) in
    let w = h (omega (arith, e.le)) in
    subst (λ k. m < letter G n k) {x = i + (j - i)} (omega arith) (omega arith))

hit : (G : List ℕ) (n m k i : ℕ) → letter G n i ≡ m → look G n m (suc k) i ≡ target G n i
unfolding look
hit G n m k i e = rw (eq-eqb (letter G n i) m e)

miss : (G : List ℕ) (n m k i : ℕ) → letter G n i ≢ m → look G n m (suc k) i ≡ look G n m k (i + 1)
unfolding look
miss G n m k i ne = rw (ne_eqb (letter G n i) m ne) (ap (λ j. look G n m k j) (sym (add-one i)))

pub look_at : (G : List ℕ) (n m i end : ℕ) → i < end → letter G n i ≡ m → look G n m (end - i) i ≡ target G n i
look_at G n m i end h e = ap (λ k. look G n m k i) {x = end - i} {y = suc (end - i - 1)} (omega arith)
    ∙ hit G n m (end - i - 1) i e

pub look-past : (G : List ℕ) (n m i end : ℕ) → i < end → letter G n i ≢ m → look G n m (end - i) i ≡ look G n m
    (end - (i + 1)) (i + 1)
look-past G n m i end h ne = ap (λ k. look G n m k i) {x = end - i} {y = suc (end - (i + 1))} (omega arith)
    ∙ miss G n m (end - (i + 1)) i ne

look-lt : (G : List ℕ) (n m k i : ℕ) → 0 < n → ((j : ℕ) → i ≤ j → j < i + k → target G n j < n) → look G n m k i < n
unfolding look
look-lt G n m zero i p h = omega arith
look-lt G n m (suc k) i p h = go (look-lt G n m k (suc i) p (λ j a b. h j (omega arith) (omega arith)))
    (eqb (letter G n i) m)
  where
    go : look G n m k (suc i) < n → (b : Bool) → cond b (target G n i) (look G n m k (suc i)) < n
    go w true = h i (omega arith) (omega arith)
    go w false = w

pub δ-lt : (G : List ℕ) (n p m : ℕ) → Graph G n → p < n → δ G n p m < n
δ-lt G n p m g h =
    let e = g.edges p h in
    look-lt G n m (get_or G (p + 1) 0 - get_or G p 0) (get_or G p 0) g.some
    (λ j a b. (e.small j a (omega (arith, e.le))).1)

-- the edges after the first
pub edges-tail : (G : List ℕ) (n i end : ℕ) → Edges G n i end → i < end → Edges G n (i + 1) end
edges-tail G n i end e h = record {
  le = omega arith;
  room = e.room;
  rising = λ k a b. e.rising k (omega arith) b;
  small = λ k a b. e.small k (omega arith) b;
}

pub past-hit : (G : List ℕ) (n i end m : ℕ) → Edges G n i end → i < end → letter G n i ≡ m → Past G n i end m (i + 1)
past-hit G n i end m e h q = record {
  ge = omega arith;
  edges = edges-tail G n i end e h;
  step = λ u v. refl;
  above = λ u. omega (arith, q, e.rising i (omega arith) u);
  rest = λ o l. look-past G n o i end h (λ z. omega (arith, q));
}

pub past-stay : (G : List ℕ) (n i end m : ℕ) → Edges G n i end → (i < end → m < letter G n i) → Past G n i end m i
past-stay G n i end m e h = record {
  ge = omega arith;
  edges = e;
  step = λ u v. let z = h u in absurd (omega arith);
  above = h;
  rest = λ o l. refl;
}

pub after-lt : (G : List ℕ) (n p : ℕ) → Graph G n → p < n → (x : List ℕ) → after (δ G n) p x < n
after-lt G n p g h [] = h
after-lt G n p g h (m ∷ x) = δ-lt G n (after (δ G n) p x) m g (after-lt G n p g h x)

-- a letter that no edge has leads to the dead state
pub look_none : (G : List ℕ) (n m k i : ℕ) → ((j : ℕ) → i ≤ j → j < i + k → letter G n j ≢ m) → look G n m k i ≡ n - 1
unfolding look
look_none G n m zero i h = refl
look_none G n m (suc k) i h = rw (ne_eqb (letter G n i) m (h i (omega arith) (omega arith)))
    (look_none G n m k (suc i) (λ j a b. h j (omega arith) (omega arith)))
