-- No table with fewer positions has the words, and the smallest table has them. Assumes nothing.
use mathlib.Core.List.{List, [], ◌++◌, ◌∷◌}
use mathlib.Core.Path.{◌≡◌, refl, subst}
use Prim.Native.Nat.{◌<◌, ◌≤◌, ℕ}
use native.Mathlib.Decide.{dec_lt}
use lib.ListN.{get_or, length}
use Rattle.dfa_smallest.specs.Table.{Alike, Path, Place, Recognises, Smallest, nowhere, start, step}
use Rattle.dfa_smallest.proofs.Arcs.{has_one}
use Rattle.dfa_smallest.proofs.Pigeons.{pigeons}
use Rattle.dfa_smallest.proofs.Unique.{foremost-one, path-alike, path-of, word-one}

module _ (L : List ℕ → Type 0) (U : List Place) (R : Recognises L U) where
  -- a word leads to one position
  path-one : (x : List ℕ) (j i : ℕ) → Path U x j → Path U x i → j ≡ i
  path-one x j i start start = refl
  path-one x j i (step {m = m} {j = a} {x = y} p l h) (step {j = b} q r k) =
      let e = path-one y a b p q in
      has_one 0 (get_or U b nowhere).arcs m j i (R.order b r) (rw e at h) k

  -- where a word leads, its beginning leads
  path-before : (u x : List ℕ) (k : ℕ) → k < length U → Path U (u ++ x) k → (i : ℕ) × ((i < length U) × Path U x i)
  path-before [] x k l p = (k, (l, p))
  path-before (m ∷ u) x k l (step {j = j} p h a) = path-before u x j h p

  -- two words that lead to one position go on alike
  path-on : (u x y : List ℕ) (i k : ℕ) → Path U x i → Path U y i → Path U (u ++ x) k → Path U (u ++ y) k
  path-on [] x y i k p q r = subst (Path U y) (path-one x i k p r) q
  path-on (m ∷ u) x y i k p q (step {j = j} r h a) = step (path-on u x y i j p q r) h a

  meet-alike : (x y : List ℕ) (i : ℕ) → Path U x i → Path U y i → Alike L x y
  meet-alike x y i p q u = (
    (λ h. let w = (R.words (u ++ x)).0 h in
        (R.words (u ++ y)).1 (w.0, (w.1.0, (path-on u x y i w.0 p q w.1.1.0, w.1.1.1)))),
    (λ h. let w = (R.words (u ++ y)).0 h in
        (R.words (u ++ x)).1 (w.0, (w.1.0, (path-on u y x i w.0 q p w.1.1.0, w.1.1.1)))),
  )

  module _ (T : List Place) (S : Smallest L T) where
    -- the position of U to which the word of position k leads
    spot : (k : ℕ) → k < length T → (i : ℕ) × ((i < length U) × Path U (S.word k) i)
    spot k h =
        let b = (S.first k h).begins in
        let w = (R.words (b.0 ++ S.word k)).0 b.1 in
        path-before b.0 (S.word k) w.0 w.1.0 w.1.1.0

    at : (k : ℕ) → Dec (k < length T) → ℕ
    at k (yes h) = (spot k h).0
    at k (no h) = 0

    at_low : (k : ℕ) → k < length T → (d : Dec (k < length T)) → at k d < length U
    unfolding at
    at_low k h (yes l) = (spot k l).1.0
    at_low k h (no l) = absurd (l h)

    at_one : (j k : ℕ) → j < length T → k < length T → (d : Dec (j < length T)) (e : Dec (k < length T)) → at j d ≡ at k
        e
        → j ≡ k
    unfolding at
    at_one j k h l (no a) e q = absurd (a h)
    at_one j k h l (yes a) (no b) q = absurd (b l)
    at_one j k h l (yes a) (yes b) q =
        word-one L T S j k h l (foremost-one L (S.word j) (S.word k) (S.first j h) (S.first k l)
        (meet-alike (S.word j) (S.word k) (spot k b).0
        (subst (Path U (S.word j)) q (spot j a).1.1) (spot k b).1.1))

    -- "the smallest table"
    pub least : length T ≤ length U
    least = pigeons (length U) (length T) (λ k. at k (dec_lt k (length T))) (λ k h. at_low k h (dec_lt k (length T)))
        (λ j k h l q. at_one j k h l (dec_lt j (length T)) (dec_lt k (length T)) q)

-- the smallest table has the words
pub smallest-has : (L : List ℕ → Type 0) (T : List Place) → Smallest L T → Recognises L T
smallest-has L T S = record {
  order = S.order;
  words = λ x. (
    (λ h. let p = path-of L T S x ([], h) in
        (p.0, (p.1.0, (p.1.1.0, (S.final p.0 p.1.0).1 ((p.1.1.1 []).0 h))))),
    (λ h. (path-alike L T S x h.0 h.1.0 h.1.1.0 []).1 ((S.final h.0 h.1.0).0 h.1.1.1)),
  );
}
