-- The plays of a let-free term in which nothing runs or writes.
use Prim.Native.Nat.{ℕ, zero, suc}
use mathlib.Core.Logic.{inl, inr}
use mathlib.Core.List.{[], ◌∷◌, ◌++◌}
use Rattle.language.specs.Ty.{Ty, expression, Question, ask, read, Answer}
use Rattle.language.specs.Ty.{Answers, to_ask, to_read}
use Rattle.language.specs.Move.{question, answer, at, move, Word}
use Rattle.language.specs.Term as t
use Rattle.language.specs.Term.{Term, skip, diverge, const, name, fetch, operate, assign, seq, while, cond, new}
use Rattle.language.specs.Term.{Args, no_args, arg, Often, freely, once}
use Rattle.language.specs.Play.{Plays, PlaysArg, Star, end, more, AtMostOne, none, one, AsOften, Use, VarPair, reading}
use Rattle.language.specs.Play.{Complete}
use Rattle.serve_profile.specs.Quiet.{Calm, asks, reads, gives, AllCalm}

-- an argument that is an expression
pub data IsExpression : Ty → Type 0 where
  an-expression : {m : ℕ} → IsExpression (expression m)

-- no sequence, loop, assignment or block, and arguments that are expressions
unfoldable mutual
  pub Still : Term → Type 0
  Still (const v) = Unit
  Still (operate m o L R) = Still L × Still R
  Still skip = Unit
  Still diverge = Unit
  Still (seq C M) = ⊥
  Still (while B C) = ⊥
  Still (cond B M N) = Still B × Still M × Still N
  Still (name i o T args) = StillArgs args
  Still (t.private i) = Unit
  Still (fetch X) = Still X
  Still (assign m X E) = ⊥
  Still (new m h C) = ⊥

  pub StillArgs : Args → Type 0
  StillArgs no_args = Unit
  StillArgs (arg T M args) = IsExpression T × Still M × StillArgs args

-- the questions that such a term is asked
pub data Asked : Question → Type 0 where
  asked : Asked ask
  fetched : Asked read

calm-append : (u v : Word) → AllCalm u → AllCalm v → AllCalm (u ++ v)
unfolding AllCalm
calm-append [] v a b = b
calm-append (move p e ∷ u) v a b = (a.0, calm-append u v a.1 b)

calm-question : {q : Question} → Asked q → Calm (question q)
calm-question asked = asks
calm-question fetched = reads

calm-answer : {T : Ty} {q : Question} {a : Answer} → Asked q → Answers T q a → Calm (answer a)
calm-answer asked (to_ask h) = gives
calm-answer fetched (to_read h) = gives

calm-private : {q : Question} {a : Answer} → Asked q → VarPair q a → Calm (answer a)
calm-private {a = a} asked x3 = elim x3 [ ]
calm-private fetched reading = gives

-- an expression is only asked
asked-only : {T : Ty} {q : Question} {a : Answer} → IsExpression T → Answers T q a → Asked q
asked-only an-expression (to_ask h) = asked

calm-around : (p : ℕ) (j : ℕ) {q : Question} {a : Answer} (v : Word) → Calm (question q) → Calm (answer a) → AllCalm v →
    AllCalm (move (at p j) (question q) ∷ (v ++ (move (at p j) (answer a) ∷ [])))
unfolding AllCalm
calm-around p j {a = a} v c d h = (c, calm-append v (move (at p j) (answer a) ∷ []) h (d, tt))

calm-star : {L : Word → Type 0} {u : Word} → ((v : Word) → L v → AllCalm v) → Star L u → AllCalm u
unfolding AllCalm
calm-star f end = tt
calm-star f (more {u} {v} x xs) = calm-append u v (f u x) (calm-star f xs)

calm-one : {L : Word → Type 0} {u : Word} → ((v : Word) → L v → AllCalm v) → AtMostOne L u → AllCalm u
unfolding AllCalm
calm-one f none = tt
calm-one f (one {u} x) = f u x

-- so many uses of an argument as the name asks
calm-uses : (o : Often) (L : Word → Type 0) (u : Word) → ((v : Word) → L v → AllCalm v) → AsOften o L u → AllCalm u
unfolding AsOften
calm-uses freely L u f x = calm-star f x
calm-uses once L u f x = calm-one f x

-- each use of an argument, where its plays are calm
abbrev ArgumentCalm : (ℕ → Question → Answer → Word → Type 0) → Type 0
ArgumentCalm L =
    (j : ℕ) (q : Question) (a : Answer) (u : Word) → L j q a u → Calm (question q) × Calm (answer a) × AllCalm u

calm-use : (i : ℕ) (L : ℕ → Question → Answer → Word → Type 0) → ArgumentCalm L → (v : Word) → Use i L v → AllCalm v
calm-use i L f v p =
    let r = f p.0 p.1 p.2 p.3 p.4 in
    rw p.5 (calm-around i (suc p.0) p.3 r.0 r.1 r.2)

-- THEOREM: a still term that is asked or read plays *ask*, *read* and value moves only
mutual
  unfolding Still StillArgs Plays PlaysArg AllCalm

  pub still-plays : (M : Term) → Still M → (q : Question) (a : Answer) → Asked q → (u : Word) → Plays M q a u →
      AllCalm u
  still-plays (const v) S q a k u p = rw p.1 tt
  still-plays (operate m o L R) S q a k u p =
      let c = p.5 in
      rw c.2 (calm-append c.0 c.1 (still-plays L S.0 ask _ asked c.0 c.3)
      (still-plays R S.1 ask _ asked c.1 c.4))
  still-plays skip S q a k u p = rw p.1 tt
  still-plays diverge S q a k u p = absurd p
  still-plays (seq C M) S q a k u p = absurd S
  still-plays (while B C) S q a k u p = absurd S
  still-plays (cond B M N) S q a k u (inl p) =
      rw p.2 (calm-append p.0 p.1 (still-plays B S.0 ask _ asked p.0 p.3)
      (still-plays M S.1 q a k p.1 p.4))
  still-plays (cond B M N) S q a k u (inr p) =
      rw p.2 (calm-append p.0 p.1 (still-plays B S.0 ask _ asked p.0 p.3)
      (still-plays N S.2 q a k p.1 p.4))
  still-plays (name i o T args) S q a k u p =
      rw p.3 (calm-around i 0 p.1 (calm-question k) (calm-answer k p.0)
      (calm-uses o (Use i (λ j p b x. PlaysArg args j p b x)) p.1 (calm-use i (λ j p b x. PlaysArg args j p b x)
      (λ j r b x y. still-argument args S j r b x y)) p.2))
  still-plays (t.private i) S q a k u p = rw p.1 (calm-question k, (calm-private k p.0, tt))
  still-plays (fetch X) S q a k u p = still-plays X S read a fetched u p
  still-plays (assign m X E) S q a k u p = absurd S
  still-plays (new m h C) S q a k u p = absurd S

  still-argument : (args : Args) → StillArgs args → (j : ℕ) (q : Question) (a : Answer) (u : Word) →
      PlaysArg args j q a u → Calm (question q) × Calm (answer a) × AllCalm u
  still-argument no_args S j q a u p = absurd p
  still-argument (arg T M args) S zero q a u p =
      let k = asked-only S.0 p.0 in
      (calm-question k, calm-answer k p.0, still-plays M S.1 q a k u p.1)
  still-argument (arg T M args) S (suc j) q a u p = still-argument args S.2 j q a u p

-- THEOREM: so does each of its complete plays
pub still-complete : (T : Ty) (M : Term) → IsExpression T → Still M → (u : Word) → Complete T M u → AllCalm u
still-complete T M E S u p =
    let k = asked-only E p.3 in
    rw p.5 (calm-around 255 0 p.2 (calm-question k) (calm-answer k p.3)
    (still-plays M S p.0 p.1 k p.2 p.4))
