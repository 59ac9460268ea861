-- The questions and answers of a type, by number.
use mathlib.Core.Path.{◌≡◌, refl}
use mathlib.Core.Bool.{Bool, true, false}
use mathlib.Core.List.{List}
use Prim.Native.Nat.{ℕ, suc, ◌+◌, ◌<◌}
use native.Mathlib.Omega.{arith}
use native.Mathlib.Decide.{dec_lt}
use lib.Dec.{eqb, ltb}
use borrow.Author.Tests.{lt-ltb, le-ltb, ne_eqb}
use Rattle.language.specs.Choice.{pick}
use Rattle.language.specs.Ty.{Ty, command, expression, variable, Question, run, ask, read, write}
use Rattle.language.specs.Ty.{Answer, done, ok, value, Fits, fits_run, fits_ask, fits_read, fits_write}
use Rattle.language.specs.Ty.{Answers, to_run, to_ask, to_read, to_write, questions, answers}
use Rattle.states_machine.specs.Decide.{fits?, fits_of}
use Rattle.states_machine.specs.Position.{QuestionOf}
use Rattle.states_machine.specs.Numbered.{single, values, iso, sum, sum_code}
use Rattle.states_machine.specs.Numbering.{alone, numbered_questions, numbered_answers}
use Rattle.sheet_rows.specs.Row.{word}
use Rattle.sheet_rows.specs.Rep.{TyRow}
use Rattle.states_positions.specs.Row.{sum_of}
use Rattle.states_positions.specs.Types.{questions_of, answers_of, question_kind, question_value, question_number}
use Rattle.states_positions.specs.Types.{question_limit, value_answer, answer_number}
use Rattle.states_step.specs.walk.Shows.{kind_q, value_q, kind_a, value_a}
use Rattle.states_step.proofs.Sums.{sum-small}

-- a type as its class and the number of values of its data
unfoldable pub HasType : ℕ → ℕ → Ty → Type 0
HasType c m command = c ≡ 0
HasType c m (expression k) = (c ≡ 1) × (m ≡ k)
HasType c m (variable k) = (c ≡ 2) × (m ≡ k)

pub has_type : (t : List ℕ) (at : ℕ) (T : Ty) → TyRow t at T → HasType (word t at 2) (word t at 3) T
unfolding HasType TyRow
has_type t at command h = h
has_type t at (expression m) h = h
has_type t at (variable m) h = h

-- how many they are
pub questions-of : (c m : ℕ) (T : Ty) → HasType c m T → questions T < 65536 → questions_of c m ≡ questions T
unfolding HasType questions questions_of
questions-of c m command e b = rw e refl
questions-of c m (expression k) e b = rw e.0 refl
questions-of c m (variable k) e b = rw (e.0, e.1) (sum-small 1 k (omega arith))

pub answers_of_lem : (c m : ℕ) (T : Ty) → HasType c m T → answers T < 65536 → answers_of c m ≡ answers T
unfolding HasType answers answers_of
answers_of_lem c m command e b = rw e refl
answers_of_lem c m (expression k) e b = rw (e.0, e.1) refl
answers_of_lem c m (variable k) e b = rw (e.0, e.1) (sum-small k k (omega arith))

-- the kind and the value of a question
pub question-kind : (c m : ℕ) (T : Ty) → HasType c m T → (q : QuestionOf T) →
    question_kind c ((numbered_questions T).code q) ≡ kind_q q.0
unfolding HasType numbered_questions alone iso single sum sum_code values question_kind kind_q
question-kind c m command e (q, fits_run) = rw e refl
question-kind c m (expression k) e (q, fits_ask) = rw e.0 refl
question-kind c m (variable k) e (q, fits_read) = rw e.0 refl
question-kind c m (variable k) e (q, fits_write {v = v} h) = rw (e.0, ne_eqb (1 + v) 0 (omega arith)) refl

pub question-value : (c m : ℕ) (T : Ty) → HasType c m T → (q : QuestionOf T) →
    question_value c ((numbered_questions T).code q) ≡ value_q q.0
unfolding HasType numbered_questions alone iso single sum sum_code values question_value value_q
question-value c m command e (q, fits_run) = rw e refl
question-value c m (expression k) e (q, fits_ask) = rw e.0 refl
question-value c m (variable k) e (q, fits_read) = rw e.0 refl
question-value c m (variable k) e (q, fits_write {v = v} h) = rw (e.0, lt-ltb 0 (1 + v) (omega arith)) (omega arith)

-- whether an answer fits, and its number
pub data Answered (c m : ℕ) (T : Ty) (q : Question) (a : Answer) : Type 0 where
  fitting : (h : Answers T q a) →
      answer_number c m (kind_q q) (value_q q) (kind_a a) (value_a a) ≡ suc ((numbered_answers T).code (q, a, h)) →
      Answered c m T q a
  unfitting : (Answers T q a → ⊥) → answer_number c m (kind_q q) (value_q q) (kind_a a) (value_a a) ≡ 0 →
      Answered c m T q a

value-number : (k v : ℕ) → k < 1048576 → v < k → pick (ltb v k) (sum_of v 1) 0 ≡ suc v
value-number k v b h = rw (lt-ltb v k h, sum-small v 1 (omega arith)) (omega arith)

-- an answer to a question of the type
answered : {T : Ty} (c m : ℕ) → HasType c m T → answers T < 1048576 → (q : Question) (f : Fits T q) (a : Answer) →
    Answered c m T q a
unfolding HasType numbered_answers alone iso single sum sum_code values answer_number value_answer answers kind_q value_q
    kind_a value_a
answered c m e b _ fits_run done = fitting to_run (rw e refl)
answered c m e b _ fits_run ok = unfitting (elim [ ]) (rw e refl)
answered c m e b _ fits_run (value v) = unfitting (elim [ ]) (rw e refl)
answered c m e b _ fits_ask done = unfitting (elim [ ]) (rw e.0 refl)
answered c m e b _ fits_ask ok = unfitting (elim [ ]) (rw e.0 refl)
answered c m e b _ (fits_ask {m = k}) (value v) = cases (dec_lt v k)
  where
    cases : Dec (v < k) → Answered c m (expression k) ask (value v)
    cases (yes h) = fitting (to_ask h) (rw (e.0, e.1) (value-number k v (omega arith) h))
    cases (no h) = unfitting (elim [ to_ask x ↦ h x ]) (rw (e.0, e.1, le-ltb v k (omega arith)) refl)
answered c m e b _ fits_read done = unfitting (elim [ ]) (rw e.0 refl)
answered c m e b _ fits_read ok = unfitting (elim [ ]) (rw e.0 refl)
answered c m e b _ (fits_read {m = k}) (value v) = cases (dec_lt v k)
  where
    cases : Dec (v < k) → Answered c m (variable k) read (value v)
    cases (yes h) = fitting (to_read h) (rw (e.0, e.1) (value-number k v (omega arith) h))
    cases (no h) = unfitting (elim [ to_read x ↦ h x ]) (rw (e.0, e.1, le-ltb v k (omega arith)) refl)
answered c m e b _ (fits_write {m = k} {v = v} h) done = unfitting (elim [ ]) (rw (e.0, e.1, lt-ltb v k h) refl)
answered c m e b _ (fits_write {m = k} {v = v} h) ok =
    fitting (to_write h)
    (rw (e.0, e.1, lt-ltb v k h, sum-small k v (omega arith), sum-small (k + v) 1 (omega arith)) (omega arith))
answered c m e b _ (fits_write {m = k} {v = y} h) (value v) =
    unfitting (elim [ ]) (rw (e.0, e.1, lt-ltb y k h) refl)

-- no answer has a number where the question is none of the type
unanswered : (c m : ℕ) (T : Ty) → HasType c m T → (q : Question) → (Fits T q → ⊥) → (k v : ℕ) →
    answer_number c m (kind_q q) (value_q q) k v ≡ 0
unfolding HasType answer_number kind_q value_q
unanswered c m command e run n k v = absurd (n fits_run)
unanswered c m command e ask n k v = rw e refl
unanswered c m command e read n k v = rw e refl
unanswered c m command e (write x) n k v = rw e refl
unanswered c m (expression i) e run n k v = rw e.0 refl
unanswered c m (expression i) e ask n k v = absurd (n fits_ask)
unanswered c m (expression i) e read n k v = rw e.0 refl
unanswered c m (expression i) e (write x) n k v = rw e.0 refl
unanswered c m (variable i) e run n k v = rw e.0 refl
unanswered c m (variable i) e ask n k v = rw e.0 refl
unanswered c m (variable i) e read n k v = absurd (n fits_read)
unanswered c m (variable i) e (write x) n k v = cases (dec_lt x i)
  where
    cases : Dec (x < i) → answer_number c m 6 x k v ≡ 0
    cases (yes h) = absurd (n (fits_write h))
    cases (no h) = rw (e.0, e.1, le-ltb x i (omega arith)) refl

pub answer-of : (c m : ℕ) (T : Ty) → HasType c m T → answers T < 1048576 → (q : Question) (a : Answer) →
    Answered c m T q a
answer-of c m T e b q a = cases (fits? T q)
  where
    cases : Dec (Fits T q) → Answered c m T q a
    cases (yes f) = answered c m e b q f a
    cases (no n) = unfitting (λ h. n (fits_of h)) (unanswered c m T e q n (kind_a a) (value_a a))

-- whether a question fits, and its number
pub data Asked (c m : ℕ) (T : Ty) (q : Question) : Type 0 where
  asking : (f : Fits T q) → question_number c m (kind_q q) (value_q q) ≡ suc ((numbered_questions T).code (q, f)) →
      Asked c m T q
  not-asking : (Fits T q → ⊥) → question_number c m (kind_q q) (value_q q) ≡ 0 → Asked c m T q

pub question-of : (c m : ℕ) (T : Ty) → HasType c m T → questions T < 65536 → (q : Question) → Asked c m T q
unfolding HasType questions question_limit question_number numbered_questions alone iso single sum sum_code values kind_q
    value_q
question-of c m command e b run = asking fits_run (rw e refl)
question-of c m command e b ask = not-asking (elim [ ]) (rw e refl)
question-of c m command e b read = not-asking (elim [ ]) (rw e refl)
question-of c m command e b (write x) = not-asking (elim [ ]) (rw (e, le-ltb x 0 (omega arith)) refl)
question-of c m (expression k) e b run = not-asking (elim [ ]) (rw e.0 refl)
question-of c m (expression k) e b ask = asking fits_ask (rw e.0 refl)
question-of c m (expression k) e b read = not-asking (elim [ ]) (rw e.0 refl)
question-of c m (expression k) e b (write x) = not-asking (elim [ ]) (rw (e.0, le-ltb x 0 (omega arith)) refl)
question-of c m (variable k) e b run = not-asking (elim [ ]) (rw e.0 refl)
question-of c m (variable k) e b ask = not-asking (elim [ ]) (rw e.0 refl)
question-of c m (variable k) e b read = asking fits_read (rw e.0 refl)
question-of c m (variable k) e b (write x) = cases (dec_lt x k)
  where
    cases : Dec (x < k) → Asked c m (variable k) (write x)
    cases (yes h) = asking (fits_write h) (rw (e.0, e.1, lt-ltb x k h, sum-small x 2 (omega arith)) (omega arith))
    cases (no h) = not-asking (elim [ fits_write y ↦ h y ]) (rw (e.0, e.1, le-ltb x k (omega arith)) refl)

-- a question is no answer, and an answer no question
zeros : (b : Bool) → ◌≡◌ {A = ℕ} (pick b 0 0) 0
zeros true = refl
zeros false = refl

none_of : (a b c d e f g : Bool) →
    ◌≡◌ {A = ℕ} (pick a (pick b 0 0) (pick c (pick d 0 0) (pick e 0 (pick f (pick g 0 0) 0)))) 0
none_of a b c d e f g = rw (zeros b, zeros d, zeros g, zeros f, zeros e, zeros c) (zeros a)

pub no_answer : (c m q x : ℕ) (p : Question) → answer_number c m q x (kind_q p) (value_q p) ≡ 0
unfolding answer_number value_answer kind_q value_q
no_answer c m q x run = none_of (eqb c 0) (eqb q 0) (eqb c 1) (eqb q 2) (eqb q 3) (eqb q 6) (ltb x m)
no_answer c m q x ask = none_of (eqb c 0) (eqb q 0) (eqb c 1) (eqb q 2) (eqb q 3) (eqb q 6) (ltb x m)
no_answer c m q x read = none_of (eqb c 0) (eqb q 0) (eqb c 1) (eqb q 2) (eqb q 3) (eqb q 6) (ltb x m)
no_answer c m q x (write v) = none_of (eqb c 0) (eqb q 0) (eqb c 1) (eqb q 2) (eqb q 3) (eqb q 6) (ltb x m)

pub no-question : (c m : ℕ) (a : Answer) → question_number c m (kind_a a) (value_a a) ≡ 0
unfolding question_limit question_number kind_a value_a
no-question c m done = rw (zeros (eqb c 1)) (zeros (eqb c 0))
no-question c m ok = rw (zeros (eqb c 1)) (zeros (eqb c 0))
no-question c m (value v) = rw (zeros (eqb c 1)) (zeros (eqb c 0))
