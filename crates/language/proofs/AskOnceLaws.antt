-- Names that ask freely and once: weights and plays by computation, and that the plays of a term are those with every
-- name asking freely in which each call keeps to its kind.
use Rattle.std.specs.Prelude.{Some}
use Prim.Native.Nat.{ℕ, zero, suc, ◌<◌}
use native.Mathlib.Omega.{arith}
use mathlib.Core.Path.{◌≡◌, refl, sym, ◌∙◌, subst}
use mathlib.Core.Logic.{◌⊎◌, inl, inr}
use mathlib.Core.List.{List, [], ◌∷◌, ◌++◌, append_assoc, append-nil}
use Rattle.language.specs.Ty.{Question, run, ask, read, write, Answer, done, ok, value, Answers}
use Rattle.language.specs.Move.{question, answer, at, private, move, Word}
use Rattle.language.specs.Term as t
use Rattle.language.specs.Term.{Term, skip, diverge, const, name, fetch, operate, assign, seq, while, cond, new}
use Rattle.language.specs.Term.{Often, freely, once, onces, Args, no_args, arg, apply}
use Rattle.language.specs.Play.{Val, Cat, Star, end, more, AtMostOne, none, one, AsOften, kept, hide, Stable}
use Rattle.language.specs.Play.{VarPair, Use, Plays, PlaysArg, whole}
use Rattle.language.specs.Weight.{weight}
use Rattle.language.specs.AskOnce.{FreelyPlays, FreelyWeighs, OnceWeighs, BareAlike, OnceWithin, put, around}
use Rattle.language.specs.AskOnce.{Sparing, asking, asking_args, all_freely, SparingPlays}

-- 1 or 0
pub onces-below : (o : Often) → onces o < 2
unfolding onces
onces-below freely = omega arith
onces-below once = omega arith

-- THEOREM: plays and weight of a name that asks freely are those of document 01
pub freely-plays : FreelyPlays
unfolding Plays AsOften
freely-plays i T args q a u = (λ x. x, λ x. x)

pub freely-weighs : FreelyWeighs
unfolding weight onces
freely-weighs i T args = refl

-- THEOREM: one that asks once weighs one more
pub once-weighs : OnceWeighs
unfolding weight onces
once-weighs i T args = refl

-- at most one word is some number of words
one-star : {L : Word → Type 0} {u : Word} → AtMostOne L u → Star L u
one-star none = end
one-star {L} (one {u = u} x) = subst (λ w. Star L w) (append-nil u) (more x end)

-- THEOREM: every play of a use by a name that asks once is one by a name that asks freely
once-within : OnceWithin
unfolding Plays AsOften
once-within i T args q a u (h, v, x, e) = (h, v, one-star x, e)

-- of no words there is none
star-of-none : {L : Word → Type 0} → ((u : Word) → L u → ⊥) → {u : Word} → Star L u → AtMostOne L u
star-of-none f end = none
star-of-none f (more {u = u} x s) = absurd (f u x)

-- THEOREM: without arguments there is no difference
pub bare_alike : BareAlike
unfolding Plays PlaysArg AsOften
bare_alike i T q a u = (
  once-within i T no_args q a u,
  λ (h, v, x, e). (h, v, star-of-none (λ w (j, p, b, y, n, d). n) x, e),
)

-- What follows speaks of a heading that says of each id how often its name asks.
module _ (κ : ℕ → Often) where
  -- a word whose calls are all answered in it: it is judged by itself
  record Closed (u : Word) : Type 0 where
    pub split : (calls : List ℕ) (w : Word) → Sparing κ calls (u ++ w) → Sparing κ [] u × Sparing κ calls w
    pub join : (calls : List ℕ) (w : Word) → Sparing κ [] u → Sparing κ calls w → Sparing κ calls (u ++ w)

  closed-empty : Closed []
  unfolding Sparing
  closed-empty = record { split = λ calls w s. (tt, s); join = λ calls w x s. s }

  closed-append : (u v : Word) → Closed u → Closed v → Closed (u ++ v)
  closed-append u v C D = record {
    split = λ calls w s.
        let (x, r) = C.split calls (v ++ w) (rw (append_assoc u v w) at s) in
        let (y, z) = D.split calls w r in
        (C.join [] v x y, z);
    join = λ calls w s z.
        let (x, y) = C.split [] v s in
        rw (append_assoc u v w) (C.join calls (v ++ w) x (D.join calls w y z));
  }

  -- the words L, with kinds, of those of F, where every name asks freely
  record Spares (L F : Word → Type 0) : Type 0 where
    pub closed : (u : Word) → F u → Closed u
    pub forth : (u : Word) → L u → F u × Sparing κ [] u
    pub back : (u : Word) → F u → Sparing κ [] u → L u

  empty-spares : (A : Type 0) → Spares (λ u. A × (u ≡ [])) (λ u. A × (u ≡ []))
  unfolding Sparing
  empty-spares A = record {
    closed = λ u (a, e). rw e closed-empty;
    forth = λ u (a, e). ((a, e), rw e tt);
    back = λ u x s. x;
  }

  cat-spares : {L F R G : Word → Type 0} → Spares L F → Spares R G → Spares (Cat L R) (Cat F G)
  cat-spares S T = record {
    closed = λ u (l, r, e, x, y). rw e (closed-append l r (S.closed l x) (T.closed r y));
    forth = λ u (l, r, e, x, y).
        let (x', s) = S.forth l x in
        let (y', z) = T.forth r y in
        ((l, r, e, x', y'), rw e ((S.closed l x').join [] r s z));
    back = λ u (l, r, e, x, y) s.
        let (a, b) = (S.closed l x).split [] r (rw e at s) in
        (l, r, e, S.back l x a, T.back r y b);
  }

  star-spares : {L F : Word → Type 0} → Spares L F → Spares (Star L) (Star F)
  star-spares {L} {F} S = record { closed = closed; forth = forth; back = back }
    where
      closed : (u : Word) → Star F u → Closed u
      closed u end = closed-empty
      closed u' (more {u = u} {v = v} x s) = closed-append u v (S.closed u x) (closed v s)

      forth : (u : Word) → Star L u → Star F u × Sparing κ [] u
      forth u end = unfold Sparing in (end, tt)
      forth u' (more {u = u} {v = v} x s) =
          let (x', y) = S.forth u x in
          let (s', z) = forth v s in
          (more x' s', (S.closed u x').join [] v y z)

      back : (u : Word) → Star F u → Sparing κ [] u → Star L u
      back u end s = end
      back u' (more {u = u} {v = v} x s) y =
          let (a, b) = (S.closed u x).split [] v y in
          more (S.back u x a) (back v s b)

  -- an argument's question, its play and its answer, in a call that has put n questions before
  abbrev use-of : ℕ → ℕ → Question → Answer → Word → Word
  use-of i j p b y = move (at i (suc j)) (question p) ∷ (y ++ (move (at i (suc j)) (answer b) ∷ []))

  use-split : (i j : ℕ) (p : Question) (b : Answer) (y : Word) → Closed y → (n : ℕ) (calls : List ℕ) (w : Word) →
      Sparing κ (n ∷ calls) (use-of i j p b y ++ w) →
      (κ i ≡ once → n ≡ 0) × Sparing κ [] y × Sparing κ (suc n ∷ calls) w
  unfolding Sparing put around
  use-split i j p b y C n calls w (f, s) =
      let r : Word = move (at i (suc j)) (answer b) ∷ [] in
      let (x, z) = C.split (suc n ∷ calls) (r ++ w) (rw (append_assoc y r w) at s) in
      (f, x, z)

  use-join : (i j : ℕ) (p : Question) (b : Answer) (y : Word) → Closed y → (n : ℕ) (calls : List ℕ) (w : Word) →
      (κ i ≡ once → n ≡ 0) → Sparing κ [] y → Sparing κ (suc n ∷ calls) w →
      Sparing κ (n ∷ calls) (use-of i j p b y ++ w)
  unfolding Sparing put around
  use-join i j p b y C n calls w f x z =
      let r : Word = move (at i (suc j)) (answer b) ∷ [] in
      (f, rw (append_assoc y r w) (C.join (suc n ∷ calls) (r ++ w) x z))

  -- the uses in such a call, up to its answer
  module _ (i : ℕ) (F : ℕ → Question → Answer → Word → Type 0)
      (closed : (j : ℕ) (p : Question) (b : Answer) (u : Word) → F j p b u → Closed u) (a : Answer) where
    uses-split : (v : Word) → Star (Use i F) v → (n : ℕ) (calls : List ℕ) (w : Word) →
        Sparing κ (n ∷ calls) (v ++ (move (at i 0) (answer a) ∷ w)) → Sparing κ (n ∷ []) v × Sparing κ calls w
    unfolding Sparing around
    uses-split u end n calls w s = (tt, s)
    uses-split u (more {u = x} {v = v} (j, p, b, y, h, e) r) n calls w s =
        let m : Word = move (at i 0) (answer a) ∷ w in
        let C = closed j p b y h in
        let s' : Sparing κ (n ∷ calls) (use-of i j p b y ++ (v ++ m)) = rw (append_assoc x v m, e) at s in
        let (f, z, q) = use-split i j p b y C n calls (v ++ m) s' in
        let (g, k) = uses-split v r (suc n) calls w q in
        (rw e (use-join i j p b y C n [] v f z g), k)

    uses-join : (v : Word) → Star (Use i F) v → (n : ℕ) (calls : List ℕ) (w : Word) →
        Sparing κ (n ∷ []) v → Sparing κ calls w → Sparing κ (n ∷ calls) (v ++ (move (at i 0) (answer a) ∷ w))
    unfolding Sparing around
    uses-join u end n calls w s k = k
    uses-join u (more {u = x} {v = v} (j, p, b, y, h, e) r) n calls w s k =
        let m : Word = move (at i 0) (answer a) ∷ w in
        let C = closed j p b y h in
        let (f, z, g) = use-split i j p b y C n [] v (rw e at s) in
        rw (append_assoc x v m, e) (use-join i j p b y C n calls (v ++ m) f z (uses-join v r (suc n) calls w g k))

    -- the whole call
    abbrev call-of : Question → Word → Word
    call-of q v = move (at i 0) (question q) ∷ (v ++ (move (at i 0) (answer a) ∷ []))

    call-closed : (q : Question) (v : Word) → Star (Use i F) v → Closed (call-of q v)
    unfolding Sparing
    call-closed q v r =
        let m : Word = move (at i 0) (answer a) ∷ [] in
        record {
          split = λ calls w s.
              let (x, z) = uses-split v r 0 calls w (rw (append_assoc v m w) at s) in
              (uses-join v r 0 [] [] x tt, z);
          join = λ calls w s z.
              let (x, y) = uses-split v r 0 [] [] s in
              rw (append_assoc v m w) (uses-join v r 0 calls w x z);
        }

  -- the uses of a name's arguments, as often as it asks
  module _ (i : ℕ) (L F : ℕ → Question → Answer → Word → Type 0)
      (S : (j : ℕ) (p : Question) (b : Answer) → Spares (L j p b) (F j p b)) where
    use-forth : (u : Word) (n : ℕ) (v : Word) → (κ i ≡ once → n ≡ 0) → Use i L u → Sparing κ (suc n ∷ []) v →
        Use i F u × Sparing κ (n ∷ []) (u ++ v)
    use-forth u n v f (j, p, b, y, x, e) s =
        let (x', z) = (S j p b).forth y x in
        ((j, p, b, y, x', e), rw e (use-join i j p b y ((S j p b).closed y x') n [] v f z s))

    use-back : (u : Word) (n : ℕ) (v : Word) → Use i F u → Sparing κ (n ∷ []) (u ++ v) →
        (κ i ≡ once → n ≡ 0) × Use i L u × Sparing κ (suc n ∷ []) v
    use-back u n v (j, p, b, y, x, e) s =
        let (f, z, r) = use-split i j p b y ((S j p b).closed y x) n [] v (rw e at s) in
        (f, (j, p, b, y, (S j p b).back y x z, e), r)

    star-forth : κ i ≡ freely → (v : Word) (n : ℕ) → Star (Use i L) v → Star (Use i F) v × Sparing κ (n ∷ []) v
    unfolding Sparing
    star-forth e u n end = (end, tt)
    star-forth e u n (more {u = x} {v = v} h s) =
        let (s', z) = star-forth e v (suc n) s in
        let (h', y) = use-forth x n v (λ d. absurd (apart (sym e ∙ d))) h z in
        (more h' s', y)
      where
        apart : freely ≡ once → ⊥
        apart d = let z : ◌≡◌ {A = ℕ} 0 1 = cc in absurd (omega arith)

    star-back : (v : Word) (n : ℕ) → Star (Use i F) v → Sparing κ (n ∷ []) v → Star (Use i L) v
    star-back u n end s = end
    star-back u n (more {u = x} {v = v} h s) z =
        let (f, h', y) = use-back x n v h z in
        more h' (star-back v (suc n) s y)

    one-forth : (v : Word) → AtMostOne (Use i L) v → Star (Use i F) v × Sparing κ (0 ∷ []) v
    unfolding Sparing
    one-forth u none = (end, tt)
    one-forth u' (one {u = u} h) =
        let (h', y) = use-forth u 0 [] (λ d. refl) h tt in
        (one-star (one h'), rw (append-nil u) at y)

    one-back : κ i ≡ once → (v : Word) → Star (Use i F) v → Sparing κ (0 ∷ []) v → AtMostOne (Use i L) v
    one-back e u end s = none
    one-back e u (more {u = x} h end) z =
        let (f, h', y) = use-back x 0 [] h z in
        rw (append-nil x) (one h')
    one-back e u (more {u = x} h (more {u = y} {v = v} k s)) z =
        let (f, h', r) = use-back x 0 (y ++ v) h z in
        let (g, k', r') = use-back y 1 v k r in
        absurd (omega (arith, g e))

    uses-forth : (o : Often) → κ i ≡ o → (v : Word) → AsOften o (Use i L) v →
        Star (Use i F) v × Sparing κ (0 ∷ []) v
    unfolding AsOften
    uses-forth freely e v x = star-forth e v 0 x
    uses-forth once e v x = one-forth v x

    uses-back : (o : Often) → κ i ≡ o → (v : Word) → Star (Use i F) v → Sparing κ (0 ∷ []) v → AsOften o (Use i L) v
    unfolding AsOften
    uses-back freely e v x s = star-back v 0 x s
    uses-back once e v x s = one-back e v x s

    name-spares : (A : Type 0) (q : Question) (a : Answer) →
        Spares (λ u. A × (v : Word) × AsOften (κ i) (Use i L) v
        × (u ≡ move (at i 0) (question q) ∷ (v ++ (move (at i 0) (answer a) ∷ []))))
        (λ u. A × (v : Word) × AsOften freely (Use i F) v
        × (u ≡ move (at i 0) (question q) ∷ (v ++ (move (at i 0) (answer a) ∷ []))))
    unfolding AsOften Sparing
    name-spares A q a =
        let C : (j : ℕ) (p : Question) (b : Answer) (u : Word) → F j p b u → Closed u = λ j p b. (S j p b).closed in
        record {
          closed = λ u (h, v, x, e). rw e (call-closed i F C a q v x);
          forth = λ u (h, v, x, e).
              let (x', s) = uses-forth (κ i) refl v x in
              ((h, v, x', e), rw e (uses-join i F C a v x' 0 [] [] s tt));
          back = λ u (h, v, x, e) s.
              let (z, y) = uses-split i F C a v x 0 [] [] (rw e at s) in
              (h, v, uses-back (κ i) refl v x z, e);
        }

  -- moves at private variables are nobody's calls
  private-spares : (A : Type 0) (i : ℕ) (q : Question) (a : Answer) →
      Spares (λ u. A × (u ≡ move (private i) (question q) ∷ move (private i) (answer a) ∷ []))
      (λ u. A × (u ≡ move (private i) (question q) ∷ move (private i) (answer a) ∷ []))
  unfolding Sparing
  private-spares A i q a = record {
    closed = λ u (h, e). rw e (record { split = λ calls w s. (tt, s); join = λ calls w x s. s });
    forth = λ u (h, e). ((h, e), rw e tt);
    back = λ u x s. x;
  }

  -- hidden moves are not missed
  hide-split : (v : Word) (calls : List ℕ) (w : Word) → Sparing κ calls (hide v ++ w) → Sparing κ calls (v ++ w)
  unfolding Sparing hide
  hide-split [] calls w s = s
  hide-split (move (at i zero) (question q) ∷ v) calls w s = hide-split v (0 ∷ calls) w s
  hide-split (move (at i zero) (answer a) ∷ v) calls w s = hide-split v (around calls) w s
  hide-split (move (at i (suc j)) (question q) ∷ v) calls w (f, s) =
      (f, hide-split v (suc (put calls) ∷ around calls) w s)
  hide-split (move (at i (suc j)) (answer a) ∷ v) calls w s = hide-split v calls w s
  hide-split (move (private zero) e ∷ v) calls w s = hide-split v calls w s
  hide-split (move (private (suc i)) e ∷ v) calls w s = hide-split v calls w s

  hide-join : (v : Word) (calls : List ℕ) (w : Word) → Sparing κ calls (v ++ w) → Sparing κ calls (hide v ++ w)
  unfolding Sparing hide
  hide-join [] calls w s = s
  hide-join (move (at i zero) (question q) ∷ v) calls w s = hide-join v (0 ∷ calls) w s
  hide-join (move (at i zero) (answer a) ∷ v) calls w s = hide-join v (around calls) w s
  hide-join (move (at i (suc j)) (question q) ∷ v) calls w (f, s) =
      (f, hide-join v (suc (put calls) ∷ around calls) w s)
  hide-join (move (at i (suc j)) (answer a) ∷ v) calls w s = hide-join v calls w s
  hide-join (move (private zero) e ∷ v) calls w s = hide-join v calls w s
  hide-join (move (private (suc i)) e ∷ v) calls w s = hide-join v calls w s

  hide-some : (v : Word) → Sparing κ [] (hide v) → Sparing κ [] v
  hide-some v s = rw (append-nil v) at (hide-split v [] [] (rw (append-nil (hide v)) s))

  hide-none : (v : Word) → Sparing κ [] v → Sparing κ [] (hide v)
  hide-none v s = rw (append-nil (hide v)) at (hide-join v [] [] (rw (append-nil v) s))

  new-spares : (m : ℕ) {L F : Word → Type 0} → Spares L F →
      Spares (λ u. (v : Word) × L v × Stable m 0 (kept v) × (u ≡ hide v))
      (λ u. (v : Word) × F v × Stable m 0 (kept v) × (u ≡ hide v))
  new-spares m S = record {
    closed = λ u (v, x, k, e). rw e (record {
      split = λ calls w s. let (y, z) = (S.closed v x).split calls w (hide-split v calls w s) in (hide-none v y, z);
      join = λ calls w s z. hide-join v calls w ((S.closed v x).join calls w (hide-some v s) z);
    });
    forth = λ u (v, x, k, e). let (x', s) = S.forth v x in ((v, x', k, e), rw e (hide-none v s));
    back = λ u (v, x, k, e) s. (v, S.back v x (hide-some v (rw e at s)), k, e);
  }

  -- one word after another for some values, with a condition, or by either of two ways
  operate-spares : (m : ℕ) (P : ℕ → ℕ → ℕ → Type 0) (Q : ℕ → Type 0) {L F R G : ℕ → Word → Type 0} →
      ((x : ℕ) → Spares (L x) (F x)) → ((y : ℕ) → Spares (R y) (G y)) →
      Spares (λ u. (x : Val m) × (y : Val m) × (z : ℕ) × P x.0 y.0 z × Q z × Cat (L x.0) (R y.0) u)
      (λ u. (x : Val m) × (y : Val m) × (z : ℕ) × P x.0 y.0 z × Q z × Cat (F x.0) (G y.0) u)
  operate-spares m P Q S T = record {
    closed = λ u (x, y, z, p, e, c). (cat-spares (S x.0) (T y.0)).closed u c;
    forth = λ u (x, y, z, p, e, c).
        let (d, s) = (cat-spares (S x.0) (T y.0)).forth u c in ((x, y, z, p, e, d), s);
    back = λ u (x, y, z, p, e, c) s. (x, y, z, p, e, (cat-spares (S x.0) (T y.0)).back u c s);
  }

  assign-spares : (m : ℕ) (A : Type 0) {L F R G : ℕ → Word → Type 0} →
      ((x : ℕ) → Spares (L x) (F x)) → ((x : ℕ) → Spares (R x) (G x)) →
      Spares (λ u. A × (x : Val m) × Cat (L x.0) (R x.0) u) (λ u. A × (x : Val m) × Cat (F x.0) (G x.0) u)
  assign-spares m A S T = record {
    closed = λ u (h, x, c). (cat-spares (S x.0) (T x.0)).closed u c;
    forth = λ u (h, x, c). let (d, s) = (cat-spares (S x.0) (T x.0)).forth u c in ((h, x, d), s);
    back = λ u (h, x, c) s. (h, x, (cat-spares (S x.0) (T x.0)).back u c s);
  }

  with-spares : (A : Type 0) {L F : Word → Type 0} → Spares L F → Spares (λ u. A × L u) (λ u. A × F u)
  with-spares A S = record {
    closed = λ u (h, x). S.closed u x;
    forth = λ u (h, x). let (y, s) = S.forth u x in ((h, y), s);
    back = λ u (h, x) s. (h, S.back u x s);
  }

  either-spares : {L F R G : Word → Type 0} → Spares L F → Spares R G → Spares (λ u. L u ⊎ R u) (λ u. F u ⊎ G u)
  either-spares {L} {F} {R} {G} S T = record { closed = closed; forth = forth; back = back }
    where
      closed : (u : Word) → F u ⊎ G u → Closed u
      closed u (inl x) = S.closed u x
      closed u (inr x) = T.closed u x

      forth : (u : Word) → L u ⊎ R u → (F u ⊎ G u) × Sparing κ [] u
      forth u (inl x) = let (y, s) = S.forth u x in (inl y, s)
      forth u (inr x) = let (y, s) = T.forth u x in (inr y, s)

      back : (u : Word) → F u ⊎ G u → Sparing κ [] u → L u ⊎ R u
      back u (inl x) s = inl (S.back u x s)
      back u (inr x) s = inr (T.back u x s)

  none-spares : Spares (λ u. ⊥) (λ u. ⊥)
  none-spares = record { closed = λ u x. absurd x; forth = λ u x. absurd x; back = λ u x s. absurd x }

  -- the plays of a term are those with every name asking freely in which each call keeps to its kind
  mutual
    unfolding Plays PlaysArg asking asking_args

    spares : (M : Term) (q : Question) (a : Answer) →
        Spares (Plays (asking κ M) q a) (Plays (asking all_freely M) q a)
    spares (const x) q a = empty-spares (a ≡ value x)
    spares (operate m o L R) q a =
        operate-spares m (λ x y z. apply o x y ≡ Some z) (λ z. a ≡ value z)
        (λ x. spares L ask (value x)) (λ y. spares R ask (value y))
    spares skip q a = empty-spares (a ≡ done)
    spares diverge q a = none-spares
    spares (seq C M) q a = cat-spares (spares C run done) (spares M q a)
    spares (while B C) q a =
        with-spares (a ≡ done) (cat-spares (star-spares (cat-spares (spares B ask (value 1)) (spares C run done)))
        (spares B ask (value 0)))
    spares (cond B M N) q a =
        either-spares (cat-spares (spares B ask (value 1)) (spares M q a))
        (cat-spares (spares B ask (value 0)) (spares N q a))
    spares (name i o T args) q a =
        name-spares i (λ j p b u. PlaysArg (asking_args κ args) j p b u)
        (λ j p b u. PlaysArg (asking_args all_freely args) j p b u) (λ j p b. spares_arg args j p b) (Answers T q a) q a
    spares (t.private i) q a = private-spares (VarPair q a) i q a
    spares (fetch X) q a = spares X read a
    spares (assign m X E) q a =
        assign-spares m (a ≡ done) (λ x. spares E ask (value x)) (λ x. spares X (write x) ok)
    spares (new m h C) q a = new-spares m (spares C q a)

    spares_arg : (args : Args) (j : ℕ) (p : Question) (b : Answer) →
        Spares (PlaysArg (asking_args κ args) j p b) (PlaysArg (asking_args all_freely args) j p b)
    spares_arg no_args j p b = none-spares
    spares_arg (arg T M args) zero p b = with-spares (Answers T p b) (spares M p b)
    spares_arg (arg T M args) (suc j) p b = spares_arg args j p b

-- THEOREM: the same of complete plays
pub sparing-plays : SparingPlays
unfolding Sparing
sparing-plays κ T M u = (
  λ (q, a, w, h, x, e).
      let S = spares κ M q a in
      let (x', s) = S.forth w x in
      ((q, a, w, h, x', e), rw e ((S.closed w x').join (0 ∷ []) (move whole (answer a) ∷ []) s tt)),
  λ ((q, a, w, h, x, e), s).
      let S = spares κ M q a in
      let (y, z) = (S.closed w x).split (0 ∷ []) (move whole (answer a) ∷ []) (rw e at s) in
      (q, a, w, h, S.back w x y, e),
)
