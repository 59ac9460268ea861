-- The explicit automaton of a sheet has few edges: twice their number is at most 1 + K for each state, where K is
-- how many numbers there are.
use mathlib.Core.Path.{◌≡◌, refl, ◌∙◌, ap₂, subst}
use mathlib.Core.Logic.{◌⊎◌, inl, inr}
use mathlib.Core.List.{[], ◌∷◌}
use Prim.Native.Nat.{ℕ, zero, suc, ◌+◌, ◌*◌, ◌-◌, ◌≤◌, ◌<◌, zero-le}
use native.Mathlib.Nat.{mul-le-mul_right}
use native.Mathlib.Omega.{arith}
use Rattle.language.specs.declared.Numbers.{Numbers}
use Rattle.language.specs.Number.{numbers}
use Rattle.language.specs.Ty.{Ty, command, expression, variable, Question, run, ask, read, write, fits_run}
use Rattle.language.specs.Ty.{questions, answers}
use Rattle.language.specs.Term.{Term, skip, diverge, const, private, name, fetch, operate, assign, seq}
use Rattle.language.specs.Term.{while, cond, new, Often, freely, once, onces, Args, no_args, arg}
use Rattle.language.specs.Typing.{Typed, a_name, a_fetch, an_operate, an_assign, a_seq, a_while, a_cond}
use Rattle.language.specs.Typing.{a_new, TypedArgs, one_more}
use Rattle.language.specs.Weight.{weight, weight_args}
use Rattle.states_machine.specs.Action.{Next, Action, go, say, hear, map_action, AnswersAt}
use Rattle.states_machine.specs.Position.{Context, Store, Reply, types, Spent, AtName, start, wait, spent, within}
use Rattle.states_machine.specs.Position.{reply, QuestionOf, Position, PositionArgs}
use Rattle.states_machine.specs.Step.{closes, step, step_args}
use Rattle.states_machine.specs.Numbered.{Numbered, single, sum, product}
use Rattle.states_machine.specs.Numbering.{replies, numbered_replies, numbered_questions, numbered_answers}
use Rattle.states_machine.specs.Numbering.{numbered_spent, numbered_name, positions, numbered_use, numbered}
use Rattle.states_machine.specs.Numbering.{numbered_args}
use Rattle.states_machine.specs.Sheet as s
use Rattle.states_machine.specs.Sheet.{sheet, spots, numbered_sheet, numbered_spots, numbered_step, steps}
use Rattle.states_machine.specs.Range.{TyIn, InRange, InRangeArgs}
use Rattle.states_machine.specs.Degree.{answers_to, asks, hearings, degree, total, degree_at}
use Rattle.states_machine.proofs.Totals.{value_at, total_of, totalOf-same, totalOf-most, totalOf-empty}
use Rattle.states_machine.proofs.Totals.{totalOf-single, totalOf-iso, totalOf-subst, totalOf-sum, totalOf-product}

-- a part's action has as many edges in the whole
degree-map : {T B S A : Type 0} (f : T → S) (h : B → Next S A) (a : Action T B) → degree (map_action f h a) ≡ degree a
unfolding degree map_action
degree-map f h (go n) = refl
degree-map f h (say m n) = refl
degree-map f h (hear l k) = refl

-- twice the sum of f is at most B for each element
unfoldable Few : ℕ → {X : Type 0} {n : ℕ} → Numbered X n → (X → ℕ) → Type 0
Few B {n = n} P f = 2 * total_of P f ≤ B * n

-- states that act as a part's do
few-map : (B : ℕ) {X T D S A : Type 0} {n : ℕ} (P : Numbered X n) (f : X → T → S) (h : X → D → Next S A)
    (a : X → Action T D) → Few B P (λ x. degree (a x)) → Few B P (λ x. degree (map_action (f x) (h x) (a x)))
unfolding Few
few-map B P f h a l = rw (totalOf-same P _ _ (λ x. degree-map (f x) (h x) (a x))) l

-- sums, products, one element
few-sum : (B : ℕ) {X Y : Type 0} {a b : ℕ} (P : Numbered X a) (Q : Numbered Y b) (f : X ⊎ Y → ℕ) →
    Few B P (λ x. f (inl x)) → Few B Q (λ y. f (inr y)) → Few B (sum P Q) f
unfolding Few
few-sum B P Q f h k = rw (totalOf-sum P Q f) (omega arith)

few-product : (B : ℕ) {X Y : Type 0} {a b : ℕ} (P : Numbered X a) (Q : Numbered Y b) (f : X × Y → ℕ) →
    ((x : X) → Few B Q (λ y. f (x, y))) → Few B (product P Q) f
unfolding Few
few-product B {a = a} {b = b} P Q f h = rw (totalOf-product P Q f) (omega (arith, totalOf-most P _ (B * b) h))

few-single : (B : ℕ) (f : Unit {0} → ℕ) → 2 * f tt ≤ B → Few B single f
unfolding Few
few-single B f h = rw (totalOf-single f) (omega arith)

-- the same with room for one edge more
unfoldable Spare : ℕ → {X : Type 0} {n : ℕ} → Numbered X n → (X → ℕ) → Type 0
Spare B {n = n} P f = 2 * total_of P f + 2 ≤ B * n

spare-map : (B : ℕ) {X T D S A : Type 0} {n : ℕ} (P : Numbered X n) (f : X → T → S) (h : X → D → Next S A)
    (a : X → Action T D) → Spare B P (λ x. degree (a x)) → Spare B P (λ x. degree (map_action (f x) (h x) (a x)))
unfolding Spare
spare-map B P f h a l = rw (totalOf-same P _ _ (λ x. degree-map (f x) (h x) (a x))) l

-- in one part of a sum, in the copies of a product, in one element
spare-left : (B : ℕ) {X Y : Type 0} {a b : ℕ} (P : Numbered X a) (Q : Numbered Y b) (f : X ⊎ Y → ℕ) →
    Spare B P (λ x. f (inl x)) → Few B Q (λ y. f (inr y)) → Spare B (sum P Q) f
unfolding Few Spare
spare-left B P Q f h k = rw (totalOf-sum P Q f) (omega arith)

spare-right : (B : ℕ) {X Y : Type 0} {a b : ℕ} (P : Numbered X a) (Q : Numbered Y b) (f : X ⊎ Y → ℕ) →
    Few B P (λ x. f (inl x)) → Spare B Q (λ y. f (inr y)) → Spare B (sum P Q) f
unfolding Few Spare
spare-right B P Q f h k = rw (totalOf-sum P Q f) (omega arith)

copies-spare : (B a b c t : ℕ) → 0 < a → c + 2 ≤ B * b → 2 * t ≤ c * a → 2 * t + 2 ≤ B * (a * b)
copies-spare B a b c t h k l = omega (arith, mul-le-mul_right a k)

spare-product : (B : ℕ) {X Y : Type 0} {a b : ℕ} (P : Numbered X a) (Q : Numbered Y b) (f : X × Y → ℕ) → 0 < a →
    ((x : X) → Spare B Q (λ y. f (x, y))) → Spare B (product P Q) f
unfolding Spare
spare-product B {a = a} {b = b} P Q f h k =
    let some = k (P.decode 0 h) in
    rw (totalOf-product P Q f)
    (copies-spare B a b (B * b - 2) _ h (omega (arith, some))
    (totalOf-most P _ (B * b - 2) (λ x. omega (arith, k x))))

spare_single : (B : ℕ) (f : Unit {0} → ℕ) → 2 * f tt + 2 ≤ B → Spare B single f
unfolding Spare
spare_single B f h = rw (totalOf-single f) (omega arith)

-- questions with one answer
data Brief : Ty → Question → Type 0 where
  brief-run : Brief command run
  brief-write : {m v : ℕ} → Brief (variable m) (write v)

as-command : {s : Context} {M : Term} {T : Ty} → T ≡ command → Typed s M T → Typed s M command
as-command {s} {M} e t = subst (λ T. Typed s M T) e t

not-brief : (m : ℕ) (q : Question) → Brief (expression m) q → ⊥
not-brief m q = elim [ ]

-- how much the questions and answers of an argument lack of the room for a second wait
unfoldable spare : Ty → ℕ
spare command = 3
spare (expression m) = 1
spare (variable m) = 1

spare-values : (K m : ℕ) → 3 ≤ K → 1 < m → 2 * 1 + 2 * m + K ≤ (1 + K) * m + 1
spare-values (suc (suc (suc K))) (suc (suc m)) h l = omega arith
spare-values (suc (suc (suc K))) (suc zero) h l = absurd (omega arith)
spare-values (suc (suc zero)) m h l = absurd (omega arith)
spare-values (suc zero) m h l = absurd (omega arith)
spare-values zero m h l = absurd (omega arith)
spare-values (suc (suc (suc K))) zero h l = absurd (omega arith)

spare-variable : (K m : ℕ) → 3 ≤ K → 1 < m → 2 * (1 + m) + 2 * (m + m) + K ≤ (1 + K) * (m + m) + 1
spare-variable (suc (suc (suc K))) (suc (suc m)) h l = omega arith
spare-variable (suc (suc (suc K))) (suc zero) h l = absurd (omega arith)
spare-variable (suc (suc zero)) m h l = absurd (omega arith)
spare-variable (suc zero) m h l = absurd (omega arith)
spare-variable zero m h l = absurd (omega arith)
spare-variable (suc (suc (suc K))) zero h l = absurd (omega arith)

-- the edges of a second wait: as many as the question has answers, and none where the name has no arguments
unfoldable closings : Ty → Args → Question → ℕ
closings T no_args q = 0
closings T (arg A M args) q = answers_to T q

closes-degree : (S : Type 0) (i : ℕ) (T : Ty) (args : Args) (n : Context) (q : Question) (σ : Store n) →
    degree (closes {S = S} i T args n q σ) ≡ closings T args q
unfolding degree closes closings hearings asks
closes-degree S i T no_args n q σ = refl
closes-degree S i T (arg A M args) n q σ = omega arith

-- the sum at a name
name-total : {S X Y : Type 0} {s a b : ℕ} (O : Numbered S s) (P : Numbered X a) (Q : Numbered Y b)
    (f : AtName S X Y → ℕ) →
    total_of (numbered_name O P Q) f ≡
    f start + (f wait + (total_of O (λ x. f (spent x)) +
    (total_of P (λ x. f (within x)) + total_of Q (λ y. f (reply y)))))
unfolding numbered_name
name-total O P Q f =
    totalOf-iso _ _ _ _ (sum single (sum single (sum O (sum P Q)))) f ∙
    totalOf-sum single (sum single (sum O (sum P Q))) _ ∙
    ap₂ (λ x y. x + y) (totalOf-single _) (totalOf-sum single (sum O (sum P Q)) _ ∙
    ap₂ (λ x y. x + y) (totalOf-single _) (totalOf-sum O (sum P Q) _ ∙
    ap₂ (λ x y. x + y) refl (totalOf-sum P Q _)))

use-total : (o : Often) (args : Args) (P : Numbered (PositionArgs args) (positions args))
    (f : AtName (Spent o) (PositionArgs args) (Reply (types args)) → ℕ) →
    total_of (numbered_use o args P) f ≡
    f start + (f wait + (total_of (numbered_spent o) (λ x. f (spent x)) +
    (total_of P (λ x. f (within x)) + total_of (numbered_replies (types args)) (λ y. f (reply y)))))
unfolding numbered_use
use-total o args P f =
    totalOf-subst _ _ _ _ f ∙ name-total (numbered_spent o) P (numbered_replies (types args)) f

-- the sum at a sheet
sheet-total : {X Y : Type 0} {a b : ℕ} (P : Numbered X a) (Q : Numbered Y b) (f : s.AtSheet X Y → ℕ) →
    total_of (numbered_sheet P Q) f ≡
    f s.start + (total_of P (λ x. f (s.within x)) + total_of Q (λ y. f (s.reply y)))
unfolding numbered_sheet
sheet-total P Q f =
    totalOf-iso _ _ _ _ (sum single (sum P Q)) f ∙ totalOf-sum single (sum P Q) _ ∙
    ap₂ (λ x y. x + y) (totalOf-single _) (totalOf-sum P Q _)

module _ (N : Numbers) (three : 3 ≤ numbers N) where
  -- a question has at most as many answers as there are numbers
  answers-most : (T : Ty) → TyIn N T → (q : Question) → answers_to T q ≤ numbers N
  unfolding answers_to TyIn
  answers-most command h run = omega arith
  answers-most command h ask = zero-le
  answers-most command h read = zero-le
  answers-most command h (write v) = zero-le
  answers-most (expression m) h run = zero-le
  answers-most (expression m) h ask = h.1
  answers-most (expression m) h read = zero-le
  answers-most (expression m) h (write v) = zero-le
  answers-most (variable m) h run = zero-le
  answers-most (variable m) h ask = zero-le
  answers-most (variable m) h read = h.1
  answers-most (variable m) h (write v) = omega arith

  -- the questions and answers of a type
  type-few : (T : Ty) → TyIn N T → 2 * questions T + 2 * answers T ≤ (1 + numbers N) * answers T
  unfolding questions answers TyIn
  type-few command h = omega arith
  type-few (expression m) h = omega (arith, h.0, mul-le-mul_right m three)
  type-few (variable m) h = omega (arith, h.0, mul-le-mul_right m three)

  -- the states of a term, whatever the store at each
  TermFew : Term → Type 0
  TermFew M = (n : Context) (q : Question) (σ : Position M → Store n) →
      Few (1 + numbers N) (numbered M) (λ p. degree (step M n q (σ p) p))

  -- the states in a name's arguments with their questions and answers
  ArgsFew : Args → Type 0
  ArgsFew args = (n : Context) (σ : PositionArgs args → Store n) →
      2 * total_of (numbered_args args) (λ p. degree (step_args args n (σ p) p)) +
      (2 * asks (types args) + 2 * replies (types args)) ≤ (1 + numbers N) * weight_args args

  -- the room that the questions and answers of an argument leave for a second wait; a command leaves less by two
  type-spare : (T : Ty) → TyIn N T → 2 * questions T + 2 * answers T + numbers N ≤ (1 + numbers N) * answers T + spare T
  unfolding questions answers TyIn spare
  type-spare command h = omega arith
  type-spare (expression m) h = spare-values (numbers N) m three h.0
  type-spare (variable m) h = spare-variable (numbers N) m three h.0

  -- the states at a name, by those in its arguments with their questions and answers
  use-sum : (i : ℕ) (o : Often) (T : Ty) (args : Args) (n : Context) (q : Question)
      (σ : Position (name i o T args) → Store n) (x y : ℕ) →
      2 * total_of (numbered_args args) (λ p. degree (step_args args n (σ (within p)) p)) +
      (2 * asks (types args) + 2 * replies (types args)) + x ≤ y →
      2 * total_of (numbered (name i o T args)) (λ p. degree (step (name i o T args) n q (σ p) p)) + x ≤
      2 + 2 * answers_to T q + 2 * total_of (numbered_spent o) (λ s. closings T args q) + y
  unfolding step numbered types AnswersAt degree hearings
  use-sum i o T args n q σ x y h =
      let f : Position (name i o T args) → ℕ = λ p. degree (step (name i o T args) n q (σ p) p) in
      let e = use-total o args (numbered_args args) f in
      let inner = totalOf-same (numbered_args args) (λ x. f (within x)) _ (λ p. degree-map _ _ _) in
      let each = totalOf-most (numbered_replies (types args)) (λ y. f (reply y)) 2 (λ y. omega arith) in
      let last = totalOf-same (numbered_spent o) (λ s. f (spent s)) _
      (λ s. closes-degree _ i T args n q (σ (spent s))) in
      rw (e, inner, last) (omega (arith, each, h))

  -- the edges of the second wait
  spent-edges : (T : Ty) (args : Args) (q : Question) →
      total_of (numbered_spent once) (λ s. closings T args q) ≤ answers_to T q
  unfolding numbered_spent closings
  spent-edges T no_args q = rw (totalOf-single (λ s. closings T no_args q)) zero-le
  spent-edges T (arg A M args) q = rw (totalOf-single (λ s. closings T (arg A M args) q)) (omega arith)

  -- a name with arguments that asks once leaves room for its second wait
  ArgsSpare : Args → Type 0
  ArgsSpare args = (n : Context) (σ : PositionArgs args → Store n) →
      2 * total_of (numbered_args args) (λ p. degree (step_args args n (σ p) p)) +
      (2 * asks (types args) + 2 * replies (types args)) + numbers N ≤ (1 + numbers N) * weight_args args + 1

  -- a name that asks freely
  freely-few : (i : ℕ) (T : Ty) (args : Args) → TyIn N T → ArgsFew args → TermFew (name i freely T args)
  unfolding TermFew Few ArgsFew weight onces numbered_spent
  freely-few i T args b h n q σ =
      let ours = use-sum i freely T args n q σ 0 ((1 + numbers N) * weight_args args)
      (omega (arith, h n (λ p. σ (within p)))) in
      let none = totalOf-empty (λ s. closings T args q) in
      omega (arith, ours, none, answers-most T b q)

  -- a name that asks once: it has no arguments, or room for its second wait
  bare-few : (i : ℕ) (T : Ty) → TyIn N T → TermFew (name i once T no_args)
  unfolding TermFew Few weight onces weight_args numbered_spent closings numbered_args types asks replies
  bare-few i T b n q σ =
      let none = totalOf-empty (λ p. degree (step_args no_args n (σ (within p)) p)) in
      let ours = use-sum i once T no_args n q σ 0 0 (omega (arith, none)) in
      let last = totalOf-single (λ s. closings T no_args q) in
      omega (arith, ours, last, answers-most T b q)

  once-few : (i : ℕ) (T : Ty) (args : Args) → TyIn N T → ArgsSpare args → TermFew (name i once T args)
  unfolding TermFew Few ArgsSpare weight onces
  once-few i T args b h n q σ =
      let ours = use-sum i once T args n q σ (numbers N) _ (h n (λ p. σ (within p))) in
      let last = spent-edges T args q in
      omega (arith, ours, last, answers-most T b q)

  -- a first argument and the others
  arg-few : (T : Ty) (M : Term) (args : Args) → TyIn N T → TermFew M → ArgsFew args → ArgsFew (arg T M args)
  unfolding Few TermFew ArgsFew step_args numbered_args weight_args types AnswersAt asks replies
  arg-few T M args b h k n σ =
      let P = product (numbered_questions T) (numbered M) in
      let f : PositionArgs (arg T M args) → ℕ = λ p. degree (step_args (arg T M args) n (σ p) p) in
      let e = totalOf-sum P (numbered_args args) f in
      let first : Few (1 + numbers N) P (λ x. f (inl x)) =
      few-product _ _ _ _ (λ x. few-map _ _ _ _ _ (h n x.0 (λ p. σ (inl (x, p))))) in
      let others = totalOf-same (numbered_args args) (λ x. f (inr x)) _ (λ p. degree-map _ _ _) in
      rw (e, others) (omega (arith, first, k n (λ p. σ (inr p)), type-few T b))

  -- a term that is asked a question with one answer leaves room for an edge
  TermSpare : Term → Question → Type 0
  TermSpare M q = (n : Context) (σ : Position M → Store n) →
      Spare (1 + numbers N) (numbered M) (λ p. degree (step M n q (σ p) p))

  use-spare : (i : ℕ) (o : Often) (T : Ty) (args : Args) (q : Question) → answers_to T q ≤ 1 → ArgsFew args →
      TermSpare (name i o T args) q
  unfolding TermSpare Spare ArgsFew weight onces numbered_spent
  use-spare i freely T args q b h n σ =
      let ours = use-sum i freely T args n q σ 0 ((1 + numbers N) * weight_args args)
      (omega (arith, h n (λ p. σ (within p)))) in
      let none = totalOf-empty (λ s. closings T args q) in
      omega (arith, ours, none, b)
  use-spare i once T args q b h n σ =
      let ours = use-sum i once T args n q σ 0 ((1 + numbers N) * weight_args args)
      (omega (arith, h n (λ p. σ (within p)))) in
      let last = spent-edges T args q in
      omega (arith, ours, last, b)

  -- a first argument leaves room for a second wait: by its type, or as a command
  FirstSpare : Ty → Term → Type 0
  FirstSpare T M = (n : Context) (σ : QuestionOf T × Position M → Store n) →
      2 * total_of (product (numbered_questions T) (numbered M)) (λ p. degree (step M n p.0.0 (σ p) p.1)) +
      spare T ≤ (1 + numbers N) * (questions T * weight M) + 1

  first-spare : (T : Ty) (M : Term) → TermFew M → (T ≡ command → TermSpare M run) → FirstSpare T M
  unfolding FirstSpare TermFew TermSpare Few Spare questions spare
  first-spare command M h k n σ =
      let first = spare-product (1 + numbers N) (numbered_questions command) (numbered M)
      (λ p. degree (step M n p.0.0 (σ p) p.1)) (omega arith)
      (λ x. asked x) in
      omega (arith, first)
    where
      asked : (x : QuestionOf command) →
          Spare (1 + numbers N) (numbered M) (λ p. degree (step M n x.0 (σ (x, p)) p))
      asked (q, fits_run) = k refl n (λ p. σ ((run, fits_run), p))
  first-spare (expression m) M h k n σ =
      let first = few-product (1 + numbers N) (numbered_questions (expression m)) (numbered M)
      (λ p. degree (step M n p.0.0 (σ p) p.1)) (λ x. h n x.0 (λ p. σ (x, p))) in
      omega (arith, first)
  first-spare (variable m) M h k n σ =
      let first = few-product (1 + numbers N) (numbered_questions (variable m)) (numbered M)
      (λ p. degree (step M n p.0.0 (σ p) p.1)) (λ x. h n x.0 (λ p. σ (x, p))) in
      omega (arith, first)

  arg-spare : (T : Ty) (M : Term) (args : Args) → TyIn N T → FirstSpare T M → ArgsFew args →
      ArgsSpare (arg T M args)
  unfolding ArgsSpare ArgsFew FirstSpare step_args numbered_args weight_args types AnswersAt asks replies
  arg-spare T M args b h k n σ =
      let P = product (numbered_questions T) (numbered M) in
      let f : PositionArgs (arg T M args) → ℕ = λ p. degree (step_args (arg T M args) n (σ p) p) in
      let e = totalOf-sum P (numbered_args args) f in
      let ours = totalOf-same P (λ x. f (inl x)) (λ p. degree (step M n p.0.0 (σ (inl p)) p.1))
      (λ p. degree-map _ _ _) in
      let others = totalOf-same (numbered_args args) (λ x. f (inr x)) _ (λ p. degree-map _ _ _) in
      rw (e, ours, others) (omega (arith, h n (λ p. σ (inl p)), k n (λ p. σ (inr p)), type-spare T b))

  -- a name, by its arguments
  use-few : (i : ℕ) (o : Often) (T : Ty) (args : Args) → TyIn N T → ArgsFew args → (args ≡ no_args) ⊎ ArgsSpare args →
      TermFew (name i o T args)
  use-few i freely T args b h k = freely-few i T args b h
  use-few i once T args b h (inl e) = rw e (bare-few i T b)
  use-few i once T args b h (inr k) = once-few i T args b k

  -- questions with one answer
  brief-answers : {T : Ty} {q : Question} → Brief T q → answers_to T q ≤ 1
  unfolding answers_to
  brief-answers brief-run = omega arith
  brief-answers brief-write = omega arith

  mutual
    unfolding TermFew ArgsFew TermSpare step numbered weight InRange types AnswersAt positions degree asks replies

    term_few : (M : Term) {s : Context} {T : Ty} → Typed s M T → InRange N M → TermFew M
    term_few skip t r n q σ = few-single _ _ zero-le
    term_few diverge t r n q σ = few-single _ _ zero-le
    term_few (const v) t r n q σ = few-single _ _ zero-le
    term_few (private i) t r n q σ = few-sum _ single single _ (few-single _ _ zero-le) (few-single _ _ zero-le)
    term_few (name i o T args) (a_name t) r n q σ =
        use-few i o T args r.1 (λ n σ. args-few args t 0 r.2 n σ) (args-spare args t 0 r.2) n q σ
    term_few (fetch X) (a_fetch t) r n q σ = term_few X t r n read σ
    term_few (operate m o L R) (an_operate t u) r n q σ =
        few-sum _ _ _ _ (few-map _ _ _ _ _ (term_few L t r.0 n ask (λ p. σ (inl p))))
        (few-product _ _ _ _ (λ x. few-map _ _ _ _ _ (term_few R u r.1 n ask (λ p. σ (inr (x, p))))))
    term_few (assign m X E) (an_assign t u) r n q σ =
        few-sum _ _ _ _ (few-map _ _ _ _ _ (term_few E u r.2 n ask (λ p. σ (inl p))))
        (few-product _ _ _ _ (λ x.
        few-map _ _ _ _ _ (term_few X t r.1 n (write x.0) (λ p. σ (inr (x, p))))))
    term_few (seq C M) (a_seq t u) r n q σ =
        few-sum _ _ _ _ (few-map _ _ _ _ _ (term_few C t r.0 n run (λ p. σ (inl p))))
        (few-map _ _ _ _ _ (term_few M u r.1 n q (λ p. σ (inr p))))
    term_few (while B C) (a_while t u) r n q σ =
        few-sum _ _ _ _ (few-map _ _ _ _ _ (term_few B t r.0 n ask (λ p. σ (inl p))))
        (few-map _ _ _ _ _ (term_few C u r.1 n run (λ p. σ (inr p))))
    term_few (cond B M K) (a_cond t u v) r n q σ =
        few-sum _ _ _ _ (few-map _ _ _ _ _ (term_few B t r.0 n ask (λ p. σ (inl p))))
        (few-sum _ _ _ _ (few-map _ _ _ _ _ (term_few M u r.1 n q (λ p. σ (inr (inl p)))))
        (few-map _ _ _ _ _ (term_few K v r.2 n q (λ p. σ (inr (inr p))))))
    term_few (new m h C) (a_new t) r n q σ =
        few-product _ _ _ _ (λ x. few-map _ _ _ _ _ (term_few C t r (m ∷ n) q (λ p. (x, σ (x, p)))))

    args-few : (args : Args) {s : Context} → TypedArgs s args → (j : ℕ) → InRangeArgs N args j → ArgsFew args
    args-few no_args t j r n σ = rw (totalOf-empty _) zero-le
    args-few (arg T M args) (one_more t u) j r n σ =
        arg-few T M args r.1 (λ n q τ. term_few M t r.2 n q τ) (λ n τ. args-few args u (suc j) r.3 n τ) n σ

    args-spare : (args : Args) {s : Context} → TypedArgs s args → (j : ℕ) → InRangeArgs N args j →
        (args ≡ no_args) ⊎ ArgsSpare args
    args-spare no_args t j r = inl refl
    args-spare (arg T M args) (one_more t u) j r =
        inr (arg-spare T M args r.1
        (first-spare T M (λ n q τ. term_few M t r.2 n q τ)
        (λ e n τ. term-spare M (as-command e t) r.2 run brief-run n τ))
        (λ n τ. args-few args u (suc j) r.3 n τ))

    -- a term of a type that is asked a question with one answer
    term-spare : (M : Term) {s : Context} {T : Ty} → Typed s M T → InRange N M → (q : Question) → Brief T q →
        TermSpare M q
    term-spare skip t r q b n σ = spare_single _ _ (omega (arith, three))
    term-spare diverge t r q b n σ = spare_single _ _ (omega (arith, three))
    term-spare (const v) t r q b n σ = spare_single _ _ (omega (arith, three))
    term-spare (private i) t r q b n σ =
        spare-left _ single single _ (spare_single _ _ (omega (arith, three))) (few-single _ _ zero-le)
    term-spare (name i o T args) (a_name t) r q b n σ =
        use-spare i o T args q (brief-answers b) (λ n σ. args-few args t 0 r.2 n σ) n σ
    term-spare (fetch X) (a_fetch t) r q b n σ = absurd (not-brief _ q b)
    term-spare (operate m o L R) (an_operate t u) r q b n σ = absurd (not-brief _ q b)
    term-spare (assign m X E) (an_assign t u) r q b n σ =
        spare-right _ _ _ _ (few-map _ _ _ _ _ (term_few E u r.2 n ask (λ p. σ (inl p))))
        (spare-product _ _ _ _ r.0 (λ x.
        spare-map _ _ _ _ _ (term-spare X t r.1 (write x.0) brief-write n (λ p. σ (inr (x, p))))))
    term-spare (seq C M) (a_seq t u) r q b n σ =
        spare-right _ _ _ _ (few-map _ _ _ _ _ (term_few C t r.0 n run (λ p. σ (inl p))))
        (spare-map _ _ _ _ _ (term-spare M u r.1 q b n (λ p. σ (inr p))))
    term-spare (while B C) (a_while t u) r q b n σ =
        spare-right _ _ _ _ (few-map _ _ _ _ _ (term_few B t r.0 n ask (λ p. σ (inl p))))
        (spare-map _ _ _ _ _ (term-spare C u r.1 run brief-run n (λ p. σ (inr p))))
    term-spare (cond B M K) (a_cond t u v) r q b n σ =
        spare-right _ _ _ _ (few-map _ _ _ _ _ (term_few B t r.0 n ask (λ p. σ (inl p))))
        (spare-left _ _ _ _ (spare-map _ _ _ _ _ (term-spare M u r.1 q b n (λ p. σ (inr (inl p)))))
        (few-map _ _ _ _ _ (term_few K v r.2 n q (λ p. σ (inr (inr p))))))
    term-spare (new m h C) (a_new t) r q b n σ =
        spare-product _ _ _ _ h (λ x. spare-map _ _ _ _ _ (term-spare C t r q b (m ∷ n) (λ p. (x, σ (x, p)))))

-- the degrees of the numbers are those of the states
degrees-total : (T : Ty) (M : Term) →
    total (degree_at T M) (spots T M) ≡ total_of (numbered_spots T M) (λ p. degree (sheet T M p))
unfolding total_of value_at degree_at steps numbered_step
degrees-total T M =
    totalOf-same (numbered_spots T M) (λ p. degree (numbered_step T M p)) (λ p. degree (sheet T M p))
    (λ p. degree-map _ _ (sheet T M p))

-- THEOREM: twice the number of edges is at most 1 + K for each state, the end counted
pub few-edges : (N : Numbers) → 3 ≤ numbers N → (T : Ty) (M : Term) → Typed [] M T → TyIn N T → InRange N M →
    2 * total (degree_at T M) (spots T M) ≤ (1 + numbers N) * (1 + spots T M)
unfolding Few TermFew sheet spots numbered_spots degree hearings
few-edges N three T M t b r =
    let P = product (numbered_questions T) (numbered M) in
    let f : s.Spot T M → ℕ = λ p. degree (sheet T M p) in
    let e = sheet-total P (numbered_answers T) f in
    let copies : Few (1 + numbers N) P (λ x. f (s.within x)) =
    few-product _ _ _ _ (λ x. few-map _ _ _ _ _ (term_few N three M t r [] x.0 (λ p. tt))) in
    let each = totalOf-most (numbered_answers T) (λ y. f (s.reply y)) 2 (λ y. omega arith) in
    rw (degrees-total T M, e) (omega (arith, copies, each, type-few N three T b))
