-- Every move of a complete play has a letter, where the ids, the arguments and the data of the term are in range.
use mathlib.Core.Path.{◌≡◌, refl}
use mathlib.Core.Logic.{inl, inr}
use mathlib.Core.List.{[], ◌∷◌, ◌++◌}
use Prim.Native.Nat.{ℕ, zero, suc, ◌+◌, ◌<◌}
use native.Mathlib.Omega.{arith}
use Rattle.language.specs.declared.Numbers.{Numbers}
use Rattle.language.specs.Ty.{Ty, Question, run, ask, read, write, Answer, done, ok, value}
use Rattle.language.specs.Ty.{Answers, to_run, to_ask, to_read, to_write}
use Rattle.language.specs.Move.{question, answer, at, private, move, Word, value_of}
use Rattle.language.specs.Term as t
use Rattle.language.specs.Term.{Term, skip, diverge, const, name, fetch, operate, assign, seq, while, cond, new}
use Rattle.language.specs.Term.{Often, freely, once, Args, no_args, arg}
use Rattle.language.specs.Play.{Cat, Star, end, more, none, one, hide, AsOften, Use, Plays, PlaysArg, Complete}
use Rattle.states_words.specs.Letter.{Values, Small, AllSmall}
use Rattle.states_machine.specs.Range.{TyIn, InRange, InRangeArgs}
use Rattle.states_machine.proofs.Block.{Tidy, clear, seen, used}
use Rattle.states_machine.proofs.Scope.{Scoped, tidy}

module _ (N : Numbers) where
  -- every move is private or has a letter
  unfoldable Loose : Word → Type 0
  Loose [] = Unit
  Loose (move (private i) e ∷ u) = Loose u
  Loose (move (at i j) e ∷ u) = Small N (move (at i j) e) × Loose u

  loose-append : (u v : Word) → Loose u → Loose v → Loose (u ++ v)
  unfolding Loose
  loose-append [] v h k = k
  loose-append (move (private i) e ∷ u) v h k = loose-append u v h k
  loose-append (move (at i j) e ∷ u) v h k = (h.0, loose-append u v h.1 k)

  loose-hide : (u : Word) → Loose u → Loose (hide u)
  unfolding Loose hide
  loose-hide [] h = tt
  loose-hide (move (private zero) e ∷ u) h = loose-hide u h
  loose-hide (move (private (suc i)) e ∷ u) h = loose-hide u h
  loose-hide (move (at i j) e ∷ u) h = (h.0, loose-hide u h.1)

  -- a question of a type and its answer
  asked : {T : Ty} {q : Question} {a : Answer} → TyIn N T → Answers T q a → (i j : ℕ) → i < 256 → j < 256 →
      Small N (move (at i j) (question q)) × Small N (move (at i j) (answer a))
  unfolding TyIn Small Values value_of
  asked b to_run i j h k = ((h, k, tt), (h, k, tt))
  asked b (to_ask l) i j h k = ((h, k, tt), (h, k, omega (arith, b.1)))
  asked b (to_read l) i j h k = ((h, k, tt), (h, k, omega (arith, b.1)))
  asked b (to_write l) i j h k = ((h, k, omega (arith, b.1)), (h, k, tt))

  star-loose : {L : Word → Type 0} → ((u : Word) → L u → Loose u) → {u : Word} → Star L u → Loose u
  unfolding Loose
  star-loose h end = tt
  star-loose h (more {u} {v} p s) = loose-append u v (h u p) (star-loose h s)

  uses-loose : (o : Often) {L : Word → Type 0} → ((u : Word) → L u → Loose u) → (u : Word) → AsOften o L u → Loose u
  unfolding AsOften Loose
  uses-loose freely h u x = star-loose h x
  uses-loose once h u none = tt
  uses-loose once h u (one x) = h u x

  cat-loose : {L R : Word → Type 0} → ((u : Word) → L u → Loose u) → ((u : Word) → R u → Loose u) →
      (u : Word) → Cat L R u → Loose u
  cat-loose h k u (l, r, e, p, s) = rw e (loose-append l r (h l p) (k r s))

  -- a question, a word, the answer at the same place
  between : (q : Question) (a : Answer) (i j : ℕ) (v : Word) →
      Small N (move (at i j) (question q)) × Small N (move (at i j) (answer a)) → Loose v →
      Loose (move (at i j) (question q) ∷ (v ++ (move (at i j) (answer a) ∷ [])))
  unfolding Loose
  between q a i j v s h = (s.0, loose-append v _ h (s.1, tt))

  -- arguments: range and plays
  Played : Args → ℕ → Type 0
  Played args k = (j : ℕ) (q : Question) (a : Answer) (u : Word) → PlaysArg args j q a u →
      Loose u × ((i : ℕ) → i < 256 → Small N (move (at i (suc (k + j))) (question q)) ×
      Small N (move (at i (suc (k + j))) (answer a)))

  use-loose : (i : ℕ) → i < 256 → (args : Args) → Played args 0 → (u : Word) →
      Use i (λ j q a v. PlaysArg args j q a v) u → Loose u
  unfolding Played
  use-loose i h args f u (j, q, a, v, p, e) =
      let r = f j q a v p in
      let z : 0 + j ≡ j = omega arith in
      rw e (between q a i (suc j) v (rw z at (r.1 i h)) r.0)

  -- the moves of plays
  mutual
    unfolding Plays InRange Loose Played

    loose : (M : Term) → InRange N M → (q : Question) (a : Answer) (u : Word) → Plays M q a u → Loose u
    loose skip s q a u p = rw p.1 tt
    loose diverge s q a u p = absurd p
    loose (const x) s q a u p = rw p.1 tt
    loose (t.private i) s q a u p = rw p.1 tt
    loose (name i o T args) s q a u (h, v, st, e) =
        let f : Played args 0 = λ j p b x y. loose_args args 0 s.2 j p b x y in
        rw e (between q a i 0 v (asked s.1 h i 0 s.0 (omega arith))
        (uses-loose o (use-loose i s.0 args f) v st))
    loose (fetch X) s q a u p = loose X s read a u p
    loose (operate m o L R) s q a u (x, y, z, eo, ea, p) =
        cat-loose (loose L s.0 ask (value x.0)) (loose R s.1 ask (value y.0)) u p
    loose (assign m X E) s q a u (ea, x, p) =
        cat-loose (loose E s.2 ask (value x.0)) (loose X s.1 (write x.0) ok) u p
    loose (seq C M) s q a u p = cat-loose (loose C s.0 run done) (loose M s.1 q a) u p
    loose (while B C) s q a u (ea, p) =
        let round = cat-loose (loose B s.0 ask (value 1)) (loose C s.1 run done) in
        cat-loose (λ v. star-loose round) (loose B s.0 ask (value 0)) u p
    loose (cond B C M) s q a u (inl p) = cat-loose (loose B s.0 ask (value 1)) (loose C s.1 q a) u p
    loose (cond B C M) s q a u (inr p) = cat-loose (loose B s.0 ask (value 0)) (loose M s.2 q a) u p
    loose (new m h C) s q a u (v, p, x, e) = rw e (loose-hide v (loose C s q a v p))

    loose_args : (args : Args) (k : ℕ) → InRangeArgs N args k → Played args k
    loose_args no_args k s j q a u p = absurd p
    loose_args (arg T M args) k s zero q a u p = (
      loose M s.2 q a u p.1,
      λ i h. asked s.1 p.0 i (suc (k + 0)) h (omega (arith, s.0)),
    )
    loose_args (arg T M args) k s (suc j) q a u p =
        let r = loose_args args (suc k) s.3 j q a u p in (
          r.0,
          λ i h.
              let e : suc k + j ≡ k + suc j = omega arith in
              rw e at (r.1 i h),
        )

  -- without private moves every move has a letter
  all_small : (d : ℕ) (u : Word) → Tidy d u → d ≡ 0 → Loose u → AllSmall N u
  unfolding Loose AllSmall
  all_small d u clear z h = tt
  all_small d u (seen {u = v} r) z h = (h.0, all_small d v r z h.1)
  all_small d u (used l p r) z h = absurd (omega arith)

  all_append : (u v : Word) → AllSmall N u → AllSmall N v → AllSmall N (u ++ v)
  unfolding AllSmall
  all_append [] v h k = k
  all_append (m ∷ u) v h k = (h.0, all_append u v h.1 k)

  -- THEOREM: every move of a complete play has a letter
  pub complete-small : (T : Ty) (M : Term) → TyIn N T → InRange N M → Scoped M 0 → (u : Word) → Complete T M u →
      AllSmall N u
  unfolding AllSmall
  complete-small T M b r s u (q, a, w, h, p, e) =
      let k = asked b h 255 0 (omega arith) (omega arith) in
      let l = all_small 0 w (tidy M 0 s q a w p) refl (loose M r q a w p) in
      rw e (k.0, all_append w _ l (k.1, tt))
