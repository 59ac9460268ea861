-- The moves that are heard are those whose values are below the limits, and the limits add up to their number.
use mathlib.Core.Path.{◌≡◌, refl, sym}
use mathlib.Core.Bool.{Bool, true, false}
use mathlib.Core.List.{List, [], ◌∷◌}
use Prim.Native.Nat.{ℕ, zero, suc, ◌+◌, ◌-◌, ◌≤◌, ◌<◌}
use native.Mathlib.Omega.{arith}
use native.Mathlib.Decide.{dec_lt}
use lib.Dec.{eqb, ltb}
use borrow.Author.Tests.{lt-ltb, le-ltb, ne_eqb}
use Rattle.language.specs.declared.Numbers.{Numbers}
use Rattle.language.specs.Choice.{pick}
use Rattle.language.specs.Ty.{Ty, command, expression, variable, Question, run, ask, read, write}
use Rattle.language.specs.Ty.{Answer, Fits, fits_run, fits_ask, fits_read, fits_write}
use Rattle.language.specs.Ty.{Answers, to_run, to_ask, to_read, to_write, questions}
use Rattle.language.specs.Term.{Often, Args, name}
use Rattle.states_machine.specs.Action.{Heard, asked, answered, opened, Listen, calling, opening, who, heard, FitsAt, Hears}
use Rattle.states_machine.specs.Position.{types}
use Rattle.states_machine.specs.Degree.{answers_to, asks, hearings}
use Rattle.sheet_rows.specs.Row.{word}
use Rattle.sheet_rows.specs.Rep.{count, Rep, RepArgs, r_none, r_arg, r_name, TyRow}
use Rattle.states_positions.specs.Row.{part_class, part_values, name_id}
use Rattle.states_step.specs.walk.Shows.{kind_q, value_q, kind_a, value_a, move_of, Takes, takes_all, takes_none}
use Rattle.states_step.proofs.TypeNumbers.{HasType, has_type}
use Rattle.states_step.proofs.Parts.{part_type}
use Rattle.states_words.specs.declared.Wait.{Wait}
use Rattle.states_positions.specs.Types.{question_limit}
use Rattle.states_words.specs.inner.Moves.{answer_limit, limit_of, wait_of}
use Rattle.states_words.specs.inner.Acts.{Waits, calls, opens}

-- a kind that carries no value has a limit of at most 1
pick-most : (b : Bool) (x y k : ℕ) → x ≤ k → y ≤ k → pick b x y ≤ k
pick-most true x y k h l = h
pick-most false x y k h l = l

one-question : (c m k : ℕ) → k < 5 → question_limit c m k ≤ 1
unfolding question_limit
one-question c m k h =
    rw (ne_eqb k 6 (omega arith))
    (pick-most (eqb c 0) _ _ 1 (pick-most (eqb k 0) 1 0 1 (omega arith) (omega arith))
    (pick-most (eqb c 1) _ _ 1 (pick-most (eqb k 2) 1 0 1 (omega arith) (omega arith))
    (pick-most (eqb k 3) 1 0 1 (omega arith) (omega arith))))

one_answer : (c m q x k : ℕ) → k < 5 → answer_limit c m q x k ≤ 1
unfolding answer_limit
one_answer c m q x k h =
    rw (ne_eqb k 5 (omega arith))
    (pick-most (eqb c 0) _ _ 1
    (pick-most (eqb q 0) _ 0 1 (pick-most (eqb k 1) 1 0 1 (omega arith) (omega arith)) (omega arith))
    (pick-most (eqb c 1) _ _ 1 (pick-most (eqb q 2) 0 0 1 (omega arith) (omega arith))
    (pick-most (eqb q 3) 0 _ 1 (omega arith)
    (pick-most (eqb q 6) _ 0 1
    (pick-most (ltb x m) _ 0 1 (pick-most (eqb k 4) 1 0 1 (omega arith) (omega arith)) (omega arith))
    (omega arith)))))

pub limit-one : (t : List ℕ) (wait : Wait) (k j : ℕ) → k < 5 → limit_of t wait k j ≤ 1
unfolding limit_of
limit-one t wait k j h =
    pick-most (eqb wait.kind 7) _ _ 1
    (pick-most (eqb j 0) _ 0 1 (one-question (word t wait.at 2) (word t wait.at 3) k h) (omega arith))
    (pick-most (eqb j 0) _ _ 1
    (one_answer (word t wait.at 2) (word t wait.at 3) wait.kind wait.value k h)
    (pick-most (ltb wait.count j) 0 _ 1 (omega arith)
    (one-question (part_class t wait.at (j - 1)) (part_values t wait.at (j - 1)) k h)))

-- a question of a type, and an answer to one, is below its limit
question-limit : (c m : ℕ) {T : Ty} → HasType c m T → {q : Question} → Fits T q →
    value_q q < question_limit c m (kind_q q)
unfolding HasType question_limit kind_q value_q
question-limit c m e fits_run = rw e (omega arith)
question-limit c m e fits_ask = rw e.0 (omega arith)
question-limit c m e fits_read = rw e.0 (omega arith)
question-limit c m e (fits_write h) = rw (e.0, e.1) h

answer-limit : (c m : ℕ) {T : Ty} → HasType c m T → {q : Question} {a : Answer} → Answers T q a →
    value_a a < answer_limit c m (kind_q q) (value_q q) (kind_a a)
unfolding HasType answer_limit kind_q value_q kind_a value_a
answer-limit c m e to_run = rw e (omega arith)
answer-limit c m e (to_ask h) = rw (e.0, e.1) h
answer-limit c m e (to_read h) = rw (e.0, e.1) h
answer-limit c m e (to_write {m = k} {v = v} h) = rw (e.0, e.1, lt-ltb v k h) (omega arith)

-- the sum over the kinds
abbrev pub kinds : (ℕ → ℕ) → ℕ
kinds f = f 0 + f 1 + f 2 + f 3 + f 4 + f 5 + f 6

question-sum : (c m : ℕ) (T : Ty) → HasType c m T → kinds (question_limit c m) ≤ questions T
unfolding HasType question_limit questions
question-sum c m command e = rw e (omega arith)
question-sum c m (expression k) e = rw e.0 (omega arith)
question-sum c m (variable k) e = rw (e.0, e.1) (omega arith)

answer-sum : (c m : ℕ) (T : Ty) → HasType c m T → (q : Question) →
    kinds (answer_limit c m (kind_q q) (value_q q)) ≤ answers_to T q
unfolding HasType answer_limit answers_to kind_q value_q
answer-sum c m command e run = rw e (omega arith)
answer-sum c m command e ask = rw e (omega arith)
answer-sum c m command e read = rw e (omega arith)
answer-sum c m command e (write v) = rw e (omega arith)
answer-sum c m (expression k) e run = rw e.0 (omega arith)
answer-sum c m (expression k) e ask = rw (e.0, e.1) (omega arith)
answer-sum c m (expression k) e read = rw e.0 (omega arith)
answer-sum c m (expression k) e (write v) = rw e.0 (omega arith)
answer-sum c m (variable k) e run = rw e.0 (omega arith)
answer-sum c m (variable k) e ask = rw e.0 (omega arith)
answer-sum c m (variable k) e read = rw (e.0, e.1) (omega arith)
answer-sum c m (variable k) e (write v) = cases (dec_lt v k)
  where
    cases : Dec (v < k) → kinds (answer_limit c m 6 v) ≤ 1
    cases (yes h) = rw (e.0, e.1, lt-ltb v k h) (omega arith)
    cases (no h) = rw (e.0, e.1, le-ltb v k (omega arith)) (omega arith)

-- how many questions argument i has
unfoldable share : List Ty → ℕ → ℕ
share [] i = 0
share (T ∷ Ts) zero = questions T
share (T ∷ Ts) (suc i) = share Ts i

share-sum : (Ts : List Ty) → share Ts 0 + share Ts 1 + share Ts 2 + share Ts 3 ≤ asks Ts
unfolding share asks
share-sum [] = omega arith
share-sum (A ∷ []) = omega arith
share-sum (A ∷ (B ∷ [])) = omega arith
share-sum (A ∷ (B ∷ (C ∷ []))) = omega arith
share-sum (A ∷ (B ∷ (C ∷ (D ∷ Ts)))) = omega arith

-- argument i of the arguments from j on, which is argument a of the name
asked-limit : {K : Numbers} {t rs n : List ℕ} {left node j : ℕ} {args : Args} → RepArgs K t left node j rs n args →
    (i a : ℕ) → a ≡ j + i → (q : Question) → FitsAt (types args) i q →
    (i < count args) × (value_q q < question_limit (part_class t node a) (part_values t node a) (kind_q q))
unfolding types FitsAt count
asked-limit r_none i a e q f = absurd f
asked-limit {t = t} (r_arg {at = node} {j} {T = T} r rs) zero a e q f =
    let same : a ≡ j = omega arith in
    (omega arith, rw same (question-limit (part_class t node j) (part_values t node j) (part_type node j r) f))
asked-limit (r_arg {j = j} r rs) (suc i) a e q f =
    let rec = asked-limit rs i a (omega arith) q f in
    (omega (arith, rec.0), rec.1)

asked-sum : {K : Numbers} {t rs n : List ℕ} {left node j : ℕ} {args : Args} → RepArgs K t left node j rs n args →
    (i a : ℕ) → a ≡ j + i → i < count args →
    kinds (question_limit (part_class t node a) (part_values t node a)) ≤ share (types args) i
unfolding types count share
asked-sum r_none i a e l = absurd (omega arith)
asked-sum {t = t} (r_arg {at = node} {j} {T = T} r rs) zero a e l =
    let same : a ≡ j = omega arith in
    rw same (question-sum (part_class t node j) (part_values t node j) T (part_type node j r))
asked-sum (r_arg {j = j} r rs) (suc i) a e l = asked-sum rs i a (omega arith) (omega arith)

-- the same where a name may ask all its arguments or none
taken-limit : {K : Numbers} {t rs n : List ℕ} {left node : ℕ} {args : Args} {c : ℕ} {Ts : List Ty} →
    RepArgs K t left node 0 rs n args → Takes args Ts c → (j : ℕ) (q : Question) → FitsAt Ts j q →
    (j < c) × (value_q q < question_limit (part_class t node j) (part_values t node j) (kind_q q))
unfolding FitsAt
taken-limit ra takes_all j q f = asked-limit ra j j (omega arith) q f
taken-limit ra takes_none j q f = absurd f

taken-few : {args : Args} {c : ℕ} {Ts : List Ty} → Takes args Ts c → c ≤ count args
taken-few takes_all = omega arith
taken-few takes_none = omega arith

taken-sum : {K : Numbers} {t rs n : List ℕ} {left node : ℕ} {args : Args} {c : ℕ} {Ts : List Ty} →
    RepArgs K t left node 0 rs n args → Takes args Ts c → (j : ℕ) → j < c →
    kinds (question_limit (part_class t node j) (part_values t node j)) ≤ share Ts j
taken-sum ra takes_all j l = asked-sum ra j j (omega arith) l
taken-sum ra takes_none j l = absurd (omega arith)

-- the one a state waits for, by the code
pub record Heeds (t : List ℕ) (l : Listen) (wait : Wait) : Type 0 where
  pub same : who l ≡ wait.id
  pub byte : wait.id < 256
  pub near : (r : Heard) → Hears l r → (move_of (heard (who l) r)).arg < 5
  pub below : (r : Heard) → Hears l r → (move_of (heard (who l) r)).value <
      limit_of t wait (move_of (heard (who l) r)).kind (move_of (heard (who l) r)).arg
  pub few : kinds (λ k. limit_of t wait k 0) + (kinds (λ k. limit_of t wait k 1) + kinds (λ k. limit_of t wait k 2)
      + kinds (λ k. limit_of t wait k 3) + kinds (λ k. limit_of t wait k 4)) ≤ hearings l

-- a question has no kind 7
not-seven : (q : Question) → eqb (kind_q q) 7 ≡ false
unfolding kind_q
not-seven run = refl
not-seven ask = refl
not-seven read = refl
not-seven (write v) = refl

-- a name that waits for an answer to the question q, and may ask c arguments
abbrev name_wait : List ℕ → ℕ → ℕ → Question → ℕ → Wait
name_wait t s node q c =
    record { state = s; id = name_id t node; at = node; kind = kind_q q; value = value_q q; count = c }

module _ (t : List ℕ) (s node : ℕ) (q : Question) (c : ℕ) where
  wait-at : wait_of t s node (kind_q q) (value_q q) c ≡ name_wait t s node q c
  unfolding wait_of
  wait-at = rw (not-seven q) refl

  limit-own : (k : ℕ) → limit_of t (name_wait t s node q c) k 0 ≡
      answer_limit (word t node 2) (word t node 3) (kind_q q) (value_q q) k
  unfolding limit_of
  limit-own k = rw (not-seven q) refl

  limit-arg : (j : ℕ) → j < c → (k : ℕ) → limit_of t (name_wait t s node q c) k (suc j) ≡
      question_limit (part_class t node j) (part_values t node j) k
  unfolding limit_of
  limit-arg j h k =
      let less : suc j - 1 ≡ j = omega arith in
      rw (not-seven q, ne_eqb (suc j) 0 (omega arith), le-ltb c (suc j) h, less) refl

  limit-past : (j : ℕ) → c ≤ j → (k : ℕ) → limit_of t (name_wait t s node q c) k (suc j) ≡ 0
  unfolding limit_of
  limit-past j h k =
      rw (not-seven q, ne_eqb (suc j) 0 (omega arith), lt-ltb c (suc j) (omega arith)) refl

  -- the moves at a name that may ask the first c of its arguments, which have the types Ts
  module _ {K : Numbers} {rs n : List ℕ} {left i : ℕ} (T : Ty) {args : Args} (Ts : List Ty)
      (ra : RepArgs K t left node 0 rs n args) (h : Takes args Ts c)
      (pi : name_id t node ≡ i) (few : count args ≤ 4) (ty : HasType (word t node 2) (word t node 3) T) where
    arg-near : (r : Heard) → Hears (calling i Ts T q) r → (move_of (heard (who (calling i Ts T q)) r)).arg < 5
    unfolding Hears heard move_of
    arg-near (asked j p) f = omega (arith, (taken-limit ra h j p f).0, taken-few h)
    arg-near (answered a) f = omega arith
    arg-near (opened p) f = absurd f

    value-below : (r : Heard) → Hears (calling i Ts T q) r →
        (move_of (heard (who (calling i Ts T q)) r)).value <
        limit_of t (name_wait t s node q c) (move_of (heard (who (calling i Ts T q)) r)).kind
        (move_of (heard (who (calling i Ts T q)) r)).arg
    unfolding Hears heard move_of
    value-below (asked j p) f =
        let g = taken-limit ra h j p f in
        rw (limit-arg j g.0 (kind_q p)) g.1
    value-below (answered a) f = rw (limit-own (kind_a a)) (answer-limit (word t node 2) (word t node 3) ty f)
    value-below (opened p) f = absurd f

    column : (j : ℕ) → kinds (λ k. limit_of t (name_wait t s node q c) k (suc j)) ≤ share Ts j
    column j = cases (dec_lt j c)
      where
        cases : Dec (j < c) → kinds (λ k. limit_of t (name_wait t s node q c) k (suc j)) ≤ share Ts j
        cases (yes l) = simp (limit-arg j l) (taken-sum ra h j l)
        cases (no l) = simp (limit-past j (omega arith)) (omega arith)

    own : kinds (λ k. limit_of t (name_wait t s node q c) k 0) ≤ answers_to T q
    own = simp limit-own (answer-sum (word t node 2) (word t node 3) T ty q)

    heeds-name : Heeds t (calling i Ts T q) (name_wait t s node q c)
    unfolding who hearings name_id
    heeds-name = record {
      same = sym pi;
      byte = omega arith;
      near = arg-near;
      below = value-below;
      few = omega (arith, own, column 0, column 1, column 2, column 3, share-sum Ts);
    }

  name-heeds : {K : Numbers} {rs n : List ℕ} {left i : ℕ} {o : Often} {T S : Ty} {args : Args} (Ts : List Ty) →
      Takes args Ts c → Rep K t left node rs n (name i o T args) S →
      Heeds t (calling i Ts T q) (name_wait t s node q c)
  unfolding name_id
  name-heeds {T = T} Ts h (r_name row i-byte e few ra) =
      heeds-name T Ts ra h (omega arith) few (has_type t node T row.typed)

-- the state of an wait
pub wait-state : (t : List ℕ) (s node q x c : ℕ) → (wait_of t s node q x c).state ≡ s
unfolding wait_of
wait-state t s node q x c = cases (eqb q 7)
  where
    cases : (b : Bool) → (pick {A = Wait} b (record { state = s; id = 255; at = node; kind = q; value = x; count = c })
        (record { state = s; id = name_id t node; at = node; kind = q; value = x; count = c })).state ≡ s
    cases true = refl
    cases false = refl

-- the asker of the whole term
asker-heeds : (t : List ℕ) (s root : ℕ) (T : Ty) → TyRow t root T → Heeds t (opening 255 T) (wait_of t s root 7 0 0)
unfolding wait_of who hearings
asker-heeds t s root T h = record {
  same = refl;
  byte = omega arith;
  near = arg-near;
  below = value-below;
  few = sum;
}
  where
    ty : HasType (word t root 2) (word t root 3) T
    ty = has_type t root T h

    wait : Wait
    wait = record { state = s; id = 255; at = root; kind = 7; value = 0; count = 0 }

    arg-near : (r : Heard) → Hears (opening 255 T) r → (move_of (heard 255 r)).arg < 5
    arg-near (asked j p) f = unfold Hears in absurd f
    arg-near (answered a) f = unfold Hears in absurd f
    arg-near (opened p) f = unfold heard move_of in omega arith

    value-below : (r : Heard) → Hears (opening 255 T) r → (move_of (heard 255 r)).value <
        limit_of t wait (move_of (heard 255 r)).kind (move_of (heard 255 r)).arg
    value-below (asked j p) f = unfold Hears in absurd f
    value-below (answered a) f = unfold Hears in absurd f
    value-below (opened p) f =
        unfold Hears heard move_of limit_of in question-limit (word t root 2) (word t root 3) ty f

    sum : kinds (λ k. limit_of t wait k 0) + (kinds (λ k. limit_of t wait k 1) + kinds (λ k. limit_of t wait k 2)
        + kinds (λ k. limit_of t wait k 3) + kinds (λ k. limit_of t wait k 4)) ≤ questions T
    sum = unfold limit_of in omega (arith, question-sum (word t root 2) (word t root 3) T ty)

-- THEOREM: a state's wait is that of the one it waits for
pub heeds : {N : Numbers} (t : List ℕ) (s : ℕ) {l : Listen} {node q x c : ℕ} → Waits N t l node q x c →
    Heeds t l (wait_of t s node q x c)
heeds t s (calls {node = node} {c = c} a) =
    rw (a.listens, a.kinded, a.valued, wait-at t s node a.asked c)
    (name-heeds t s node a.asked c a.asks a.takes a.part)
heeds t s (opens {T = T} {root = root} h) = asker-heeds t s root T h
