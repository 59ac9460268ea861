-- The plays of a table of positions are the complete plays, and no table with these plays has fewer positions.
use mathlib.Core.Bool.{true}
use mathlib.Core.List.{List, [], ◌++◌, ◌∷◌, append_assoc}
use mathlib.Core.Logic.{◌↔◌, inl, inr}
use mathlib.Core.Path.{◌≡◌, refl, subst, sym}
use Prim.Native.Nat.{◌<◌, ◌≤◌, ℕ}
use native.Mathlib.Decide.{dec_lt, ℕ_discrete}
use native.Mathlib.Omega.{arith}
use lib.ListN.{get_or, length}
use Rattle.language.specs.declared.Numbers.{Numbers}
use Rattle.language.specs.Move.{Before, Word}
use Rattle.sheet_written.specs.Written.{Sheet}
use Rattle.sheet_reader.specs.Fine.{Accepted}
use Rattle.serve_compare.specs.Plays.{Alike, CompletePlay}
use Rattle.dfa_smallest.proofs.Pigeons.{pigeons}
use Rattle.serve_card.specs.Positions.{Beginning, OnePosition, Position, Table, no_position}
use Rattle.serve_card.specs.Smallest.{Goes, HasPlays, IsTable, NoSmaller, PlayIn, here, on}
use Rattle.serve_card.proofs.Order.{among_one}
use Rattle.serve_card.proofs.Tables.{append-nothing, few, first_one, leading-one, table-small}

-- nothing is before the empty word
nothing-before : (N : Numbers) (c : Word) → Before N c [] → ⊥
nothing-before N c (inl h) = omega arith
nothing-before N [] (inr h) = h.1
nothing-before N (m ∷ c) (inr h) = h.1

module _ (S : Sheet) (T : List Position) (B : Table S T) where
  -- the position of the empty beginning is the first
  first-empty : (k : ℕ) → k < length T → OnePosition S [] (B.leading k) → (k ≡ 0) × (B.leading k ≡ [])
  first-empty k h a = go (B.leading k) refl
    where
      go : (x : Word) → B.leading k ≡ x → (k ≡ 0) × (B.leading k ≡ [])
      go (m ∷ x) e = absurd ((B.first k h).least [] (rw e (inl (omega arith))) a)
      go [] e = (zero (ℕ_discrete k 0), e)
        where
          zero : Dec (k ≡ 0) → k ≡ 0
          zero (yes z) = z
          zero (no z) = absurd (nothing-before S.numbers (B.leading 0) (rw e at (B.rising 0 k (omega arith) h)))

  empty-begins : (b : Word) → Beginning S b → Beginning S []
  empty-begins b h = (b ++ h.0, h.1)

  -- a table with positions begins with the empty beginning
  pub leading-first : 0 < length T → B.leading 0 ≡ []
  leading-first h =
      let f = B.all [] (empty-begins (B.leading 0) (B.first 0 h).begins) in
      let g = first-empty f.0 f.1.0 f.1.1 in
      rw g.0 at g.1

  -- there are positions where there is a play
  some-position : (u : Word) → CompletePlay S u → 0 < length T
  some-position u c = let f = B.all [] (u, c) in omega (arith, f.1.0)

  -- what completes the first beginning of a position leads from it to the end
  goes_of : (u : Word) (k : ℕ) → k < length T → CompletePlay S (B.leading k ++ u)
      → (j : ℕ) × (Goes T k u j × ((get_or T j no_position).end ≡ true))
  goes_of [] k h c = (k, (here, (B.ends k h).1 (subst (CompletePlay S) (append-nothing (B.leading k)) c)))
  goes_of (m ∷ u) k h c =
      let d : CompletePlay S ((B.leading k ++ (m ∷ [])) ++ u) =
      subst (CompletePlay S) (sym (append_assoc (B.leading k) (m ∷ []) u)) c in
      let b : Beginning S (B.leading k ++ (m ∷ [])) = (u, d) in
      let f = B.all (B.leading k ++ (m ∷ [])) b in
      let r = goes_of u f.0 f.1.0 ((f.1.1 u).0 d) in
      (r.0, (on f.1.0 ((B.moves k h m f.0).1 (f.1.0, (b, f.1.1))) r.1.0, r.1.1))

  -- and what leads to the end completes it
  goes_back : {k j : ℕ} {u : Word} → k < length T → Goes T k u j → (get_or T j no_position).end ≡ true
      → CompletePlay S (B.leading k ++ u)
  goes_back {k} h here t = subst (CompletePlay S) (sym (append-nothing (B.leading k))) ((B.ends k h).0 t)
  goes_back {k} h (on {i = i} {m = m} {u = u} l a g) t =
      let c = goes_back l g t in
      let q = ((B.moves k h m i).0 a).1.1 in
      subst (CompletePlay S) (append_assoc (B.leading k) (m ∷ []) u) ((q u).1 c)

  -- THEOREM: a table has exactly the complete plays
  plays-in : (u : Word) → CompletePlay S u ↔ PlayIn T u
  plays-in u = (
    (λ c.
        let h = some-position u c in
        let e = leading-first h in
        let r = goes_of u 0 h (subst (λ x. CompletePlay S (x ++ u)) (sym e) c) in
        (r.0, (h, (r.1.0, r.1.1)))),
    (λ p. subst (λ x. CompletePlay S (x ++ u)) (leading-first p.1.0)
        (goes_back p.1.0 p.1.1.0 p.1.1.1)),
  )

-- THEOREM: the table of positions is a table without the same move twice that has exactly the complete plays
pub is-table : IsTable
is-table S A T B = record {
  once = λ k h m i j. among_one S.numbers (few S A) (get_or T k no_position).arcs (B.ordered k h)
      (table-small S A T B k h) m i j;
  plays = plays-in S T B;
}

-- THEOREM: a table is that of one set of plays
pub plays-one : (S S' : Sheet) (T : List Position) → Table S T → Table S' T → (u : Word) → Alike S S' u
plays-one S S' T B C u = (
  (λ c. (plays-in S' T C u).1 ((plays-in S T B u).0 c)),
  (λ c. (plays-in S T B u).1 ((plays-in S' T C u).0 c)),
)

module _ (S : Sheet) (U : List Position) (H : HasPlays S U) where
  -- moves lead to one position
  goes_one : {k i j : ℕ} {u : Word} → k < length U → Goes U k u i → Goes U k u j → i ≡ j
  goes_one h here here = refl
  goes_one {k} {i} {j} h (on {i = a} {m = m} {u = u} l x g) (on {i = b} r y f) =
      let e : a ≡ b = H.once k h m a b x y in
      goes_one l g (subst (λ c. Goes U c u j) (sym e) f)

  goes-inside : {k j : ℕ} {u : Word} → k < length U → Goes U k u j → j < length U
  goes-inside h here = h
  goes-inside h (on l a g) = goes-inside l g

  -- first these moves, then those
  goes-split : (b u : Word) {k j : ℕ} → Goes U k (b ++ u) j → (i : ℕ) × (Goes U k b i × Goes U i u j)
  goes-split [] u {k} g = (k, (here, g))
  goes-split (m ∷ b) u (on l a g) =
      let r = goes-split b u g in
      (r.0, (on l a r.1.0, r.1.1))

  goes-join : {b u : Word} {k i j : ℕ} → Goes U k b i → Goes U i u j → Goes U k (b ++ u) j
  goes-join here g = g
  goes-join (on l a f) g = on l a (goes-join f g)

  -- beginnings that lead to one position go on alike
  meet : (b c : Word) (i : ℕ) → 0 < length U → Goes U 0 b i → Goes U 0 c i → (u : Word) → CompletePlay S (b ++ u)
      → CompletePlay S (c ++ u)
  meet b c i h f g u p =
      let q = (H.plays (b ++ u)).0 p in
      let s = goes-split b u q.1.1.0 in
      let e : s.0 ≡ i = goes_one h s.1.0 f in
      (H.plays (c ++ u)).1
      (q.0, (h, (goes-join g (subst (λ x. Goes U x u q.0) e s.1.1), q.1.1.1)))

  module _ (A : Accepted S) (T : List Position) (B : Table S T) where
    -- the position of U to which the first beginning of position k leads
    spot : (k : ℕ) → k < length T → (i : ℕ) × ((0 < length U) × Goes U 0 (B.leading k) i)
    spot k h =
        let b = (B.first k h).begins in
        let q = (H.plays (B.leading k ++ b.0)).0 b.1 in
        let s = goes-split (B.leading k) b.0 q.1.1.0 in
        (s.0, (q.1.0, s.1.0))

    at : (k : ℕ) → Dec (k < length T) → ℕ
    at k (yes h) = (spot k h).0
    at k (no h) = 0

    at_low : (k : ℕ) → k < length T → (d : Dec (k < length T)) → at k d < length U
    unfolding at
    at_low k h (yes l) = goes-inside (spot k l).1.0 (spot k l).1.1
    at_low k h (no l) = absurd (l h)

    at_one : (j k : ℕ) → j < length T → k < length T → (d : Dec (j < length T)) (e : Dec (k < length T))
        → at j d ≡ at k e → j ≡ k
    unfolding at
    at_one j k h l (no a) e q = absurd (a h)
    at_one j k h l (yes a) (no b) q = absurd (b l)
    at_one j k h l (yes a) (yes b) q =
        let i = (spot k b).0 in
        let z = (spot k b).1.0 in
        let f : Goes U 0 (B.leading j) i = subst (Goes U 0 (B.leading j)) q (spot j a).1.1 in
        let g = (spot k b).1.1 in
        leading-one S A T B j k h l (first_one S A (B.leading j) (B.leading k) (B.first j h) (B.first k l)
        (λ u. (meet (B.leading j) (B.leading k) i z f g u, meet (B.leading k) (B.leading j) i z g f u)))

    fewest : length T ≤ length U
    fewest = pigeons (length U) (length T) (λ k. at k (dec_lt k (length T))) (λ k h. at_low k h (dec_lt k (length T)))
        (λ j k h l q. at_one j k h l (dec_lt j (length T)) (dec_lt k (length T)) q)

-- THEOREM: no table with these plays has fewer positions
pub no-smaller : NoSmaller
no-smaller S A T U B H = fewest S U H A T B
