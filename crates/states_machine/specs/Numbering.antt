-- The positions of a term are the numbers below its weight: the numbering itself, whose fields say so.
use Rattle.std.specs.Prelude.{◌≡◌, refl, ◌⊎◌, List, [], ◌∷◌, ℕ, zero, suc, ◌+◌, ◌*◌}
use Rattle.std.proofs.Common.{subst, inl, inr, arith}
use Rattle.language.specs.Ty.{Ty, command, expression, variable, run, ask, read, write}
use Rattle.language.specs.Ty.{done, ok, value, fits_run, fits_ask, fits_read, fits_write}
use Rattle.language.specs.Ty.{to_run, to_ask, to_read, to_write, questions, answers}
use Rattle.language.specs.Term.{Term, skip, diverge, const, private, name, fetch, operate, assign, seq}
use Rattle.language.specs.Term.{while, cond, new, Often, freely, once, onces, Args, no_args, arg}
use Rattle.language.specs.Play.{Val}
use Rattle.language.specs.Weight.{use_weight, weight, weight_args}
use Rattle.states_machine.specs.Action.{AnswersAt}
use Rattle.states_machine.specs.Position.{QuestionOf, AnswerOf, Reply, types, Spent, AtName, start, wait, spent}
use Rattle.states_machine.specs.Position.{within, reply, Position, PositionArgs}
use Rattle.states_machine.specs.Numbered.{Numbered, empty, single, values, iso, sum, product}

-- a type with the one element x
unfoldable pub alone : {X : Type 0} (x : X) → ((y : X) → x ≡ y) → Numbered X 1
alone x h = iso (λ u. x) (λ y. tt) (λ u. refl) h single

-- the questions of a type: read, then the writes in order of their values
unfoldable pub numbered_questions : (T : Ty) → Numbered (QuestionOf T) (questions T)
unfolding questions
numbered_questions command = alone (run, fits_run) only
  where
    only : (y : QuestionOf command) → ◌≡◌ {A = QuestionOf command} (run, fits_run) y
    only (q, fits_run) = refl
numbered_questions (expression m) = alone (ask, fits_ask) only
  where
    only : (y : QuestionOf (expression m)) → ◌≡◌ {A = QuestionOf (expression m)} (ask, fits_ask) y
    only (q, fits_ask) = refl
numbered_questions (variable m) = iso f g gf fg (sum single (values m))
  where
    f : Unit {0} ⊎ Val m → QuestionOf (variable m)
    f (inl x) = (read, fits_read)
    f (inr v) = (write v.0, fits_write v.1)

    g : QuestionOf (variable m) → Unit {0} ⊎ Val m
    g (q, fits_read) = inl tt
    g (q, fits_write {v = v} h) = inr (v, h)

    gf : (x : Unit {0} ⊎ Val m) → g (f x) ≡ x
    gf (inl x) = refl
    gf (inr v) = refl

    fg : (y : QuestionOf (variable m)) → f (g y) ≡ y
    fg (q, fits_read) = refl
    fg (q, fits_write h) = refl

-- the answers of a type, with their questions: those to read, then those to the writes
unfoldable pub numbered_answers : (T : Ty) → Numbered (AnswerOf T) (answers T)
unfolding answers
numbered_answers command = alone (run, done, to_run) only
  where
    only : (y : AnswerOf command) → ◌≡◌ {A = AnswerOf command} (run, done, to_run) y
    only (q, a, to_run) = refl
numbered_answers (expression m) = iso f g (λ x. refl) fg (values m)
  where
    f : Val m → AnswerOf (expression m)
    f v = (ask, value v.0, to_ask v.1)

    g : AnswerOf (expression m) → Val m
    g (q, a, to_ask {v = v} h) = (v, h)

    fg : (y : AnswerOf (expression m)) → f (g y) ≡ y
    fg (q, a, to_ask h) = refl
numbered_answers (variable m) = iso f g gf fg (sum (values m) (values m))
  where
    f : Val m ⊎ Val m → AnswerOf (variable m)
    f (inl v) = (read, value v.0, to_read v.1)
    f (inr v) = (write v.0, ok, to_write v.1)

    g : AnswerOf (variable m) → Val m ⊎ Val m
    g (q, a, to_read {v = v} h) = inl (v, h)
    g (q, a, to_write {v = v} h) = inr (v, h)

    gf : (x : Val m ⊎ Val m) → g (f x) ≡ x
    gf (inl v) = refl
    gf (inr v) = refl

    fg : (y : AnswerOf (variable m)) → f (g y) ≡ y
    fg (q, a, to_read h) = refl
    fg (q, a, to_write h) = refl

-- how many replies a name's arguments have
unfoldable pub replies : List Ty → ℕ
replies [] = 0
replies (T ∷ Ts) = answers T + replies Ts

-- the replies: those of the first argument, then the others
unfoldable pub numbered_replies : (Ts : List Ty) → Numbered (Reply Ts) (replies Ts)
unfolding replies AnswersAt
numbered_replies [] = iso (λ x. absurd x) g (λ x. absurd x) fg empty
  where
    g : Reply [] → ⊥
    g y = y.3

    fg : (y : Reply []) → absurd (g y) ≡ y
    fg y = absurd y.3
numbered_replies (T ∷ Ts) = iso f g gf fg (sum (numbered_answers T) (numbered_replies Ts))
  where
    f : AnswerOf T ⊎ Reply Ts → Reply (T ∷ Ts)
    f (inl s) = (0, s.0, s.1, s.2)
    f (inr s) = (suc s.0, s.1, s.2, s.3)

    g : Reply (T ∷ Ts) → AnswerOf T ⊎ Reply Ts
    g (zero, q, a, h) = inl (q, a, h)
    g (suc j, q, a, h) = inr (j, q, a, h)

    gf : (x : AnswerOf T ⊎ Reply Ts) → g (f x) ≡ x
    gf (inl s) = refl
    gf (inr s) = refl

    fg : (y : Reply (T ∷ Ts)) → f (g y) ≡ y
    fg (zero, q, a, h) = refl
    fg (suc j, q, a, h) = refl

-- the second wait of a name that asks once
unfoldable pub numbered_spent : (o : Often) → Numbered (Spent o) (onces o)
unfolding onces
numbered_spent freely = empty
numbered_spent once = single

-- the positions at a name: start, wait, the second wait, those in the arguments, the replies
unfoldable pub numbered_name : {S X Y : Type 0} {s a b : ℕ} → Numbered S s → Numbered X a → Numbered Y b →
    Numbered (AtName S X Y) (1 + (1 + (s + (a + b))))
numbered_name {S} {X} {Y} O M N = iso f g gf fg (sum single (sum single (sum O (sum M N))))
  where
    f : Unit {0} ⊎ (Unit {0} ⊎ (S ⊎ (X ⊎ Y))) → AtName S X Y
    f (inl x) = start
    f (inr (inl x)) = wait
    f (inr (inr (inl s))) = spent s
    f (inr (inr (inr (inl x)))) = within x
    f (inr (inr (inr (inr y)))) = reply y

    g : AtName S X Y → Unit {0} ⊎ (Unit {0} ⊎ (S ⊎ (X ⊎ Y)))
    g start = inl tt
    g wait = inr (inl tt)
    g (spent s) = inr (inr (inl s))
    g (within x) = inr (inr (inr (inl x)))
    g (reply y) = inr (inr (inr (inr y)))

    gf : (x : Unit {0} ⊎ (Unit {0} ⊎ (S ⊎ (X ⊎ Y)))) → g (f x) ≡ x
    gf (inl x) = refl
    gf (inr (inl x)) = refl
    gf (inr (inr (inl s))) = refl
    gf (inr (inr (inr (inl x)))) = refl
    gf (inr (inr (inr (inr y)))) = refl

    fg : (y : AtName S X Y) → f (g y) ≡ y
    fg start = refl
    fg wait = refl
    fg (spent s) = refl
    fg (within x) = refl
    fg (reply y) = refl

-- how many positions are in a name's arguments
unfoldable pub positions : Args → ℕ
positions no_args = 0
positions (arg T M args) = questions T * weight M + positions args

-- with the replies they are the arguments' weight
pub weight-args : (args : Args) → positions args + replies (types args) ≡ weight_args args
unfolding positions replies types weight_args
weight-args no_args = refl
weight-args (arg T M args) = omega (arith, weight-args args)

-- the positions at a name, as many as it weighs: those of its own are 2 or 3
unfoldable pub numbered_use : (o : Often) (args : Args) → Numbered (PositionArgs args) (positions args) →
    Numbered (AtName (Spent o) (PositionArgs args) (Reply (types args))) (use_weight o + weight_args args)
numbered_use o args N =
    subst (λ k. Numbered (AtName (Spent o) (PositionArgs args) (Reply (types args))) k)
    (omega (arith, weight-args args))
    (numbered_name (numbered_spent o) N (numbered_replies (types args)))

-- the positions of a term, as many as it weighs
unfoldable mutual
  unfolding weight positions

  pub numbered : (M : Term) → Numbered (Position M) (weight M)
  numbered skip = single
  numbered diverge = single
  numbered (const x) = single
  numbered (private i) = sum single single
  numbered (name i o T args) = numbered_use o args (numbered_args args)
  numbered (fetch X) = numbered X
  numbered (operate m o L R) = sum (numbered L) (product (values m) (numbered R))
  numbered (assign m X E) = sum (numbered E) (product (values m) (numbered X))
  numbered (seq C M) = sum (numbered C) (numbered M)
  numbered (while B C) = sum (numbered B) (numbered C)
  numbered (cond B M N) = sum (numbered B) (sum (numbered M) (numbered N))
  numbered (new m h C) = product (values m) (numbered C)

  -- the positions in its arguments: those of the first for each of its questions, then the others
  pub numbered_args : (args : Args) → Numbered (PositionArgs args) (positions args)
  numbered_args no_args = empty
  numbered_args (arg T M args) = sum (product (numbered_questions T) (numbered M)) (numbered_args args)
