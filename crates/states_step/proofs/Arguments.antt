-- The arguments of a name, by numbers.
use mathlib.Core.Path.{◌≡◌, refl, sym, ◌∙◌, ap, subst, subst⁻¹_refl}
use mathlib.Core.Logic.{inl, inr}
use mathlib.Core.Bool.{false}
use mathlib.Core.List.{List, ◌∷◌}
use Prim.Native.Nat.{ℕ, zero, suc, ◌+◌, ◌*◌, ◌-◌, ◌<◌}
use native.Mathlib.Omega.{arith}
use lib.Dec.{eqb, ltb}
use borrow.Author.Tests.{lt-ltb, lt-leb, le-leb, ne_eqb}
use Rattle.language.specs.Choice.{pick}
use Rattle.language.specs.Ty.{Ty, command, expression, variable, Question, Answer, Answers, to_run, to_ask, to_read}
use Rattle.language.specs.Ty.{to_write, questions, answers}
use Rattle.language.specs.Move.{at, Move, move}
use Rattle.language.specs.Term.{Term, Often, freely, once, onces, Args, arg, name}
use Rattle.language.specs.Weight.{use_weight, weight, weight_args}
use Rattle.language.specs.declared.Numbers.{Numbers}
use Rattle.states_machine.specs.Action.{Next, to, out, dead, AnswersAt, Action, go, say, hear, map_next, map_action}
use Rattle.states_machine.specs.Decide.{when, answers?}
use Rattle.states_machine.specs.Edge.{edge_hear}
use Rattle.states_machine.specs.Position.{Context, Store, QuestionOf, Reply, types, spent, within}
use Rattle.states_machine.specs.Position.{reply, Position, PositionArgs, State, Exit as ExitOf, StateArgs, ExitArgs}
use Rattle.states_machine.specs.Numbered.{Numbered, single, values, iso, sum, sum_code, product, product_code}
use Rattle.states_machine.specs.Numbering.{alone, numbered_questions, numbered_answers, replies, numbered_replies}
use Rattle.states_machine.specs.Numbering.{numbered_spent, numbered_name, positions, weight-args, numbered_use}
use Rattle.states_machine.specs.Numbering.{numbered, numbered_args}
use Rattle.states_machine.specs.Step.{later, again, step, step_args}
use Rattle.states_machine.proofs.Unique.{Answers-prop}
use Rattle.sheet_rows.specs.Row.{word}
use Rattle.sheet_rows.specs.Rep.{count, RepArgs, r_none, r_arg}
use Rattle.states_positions.specs.declared.Move.{Move as Record}
use Rattle.states_positions.specs.declared.Frame.{Frame}
use Rattle.states_positions.specs.declared.Out.{Out as Did}
use Rattle.states_positions.specs.declared.Out.TheVariants.{Go, Say, Stuck}
use Rattle.states_positions.specs.declared.Spot.TheVariants.{Inside}
use Rattle.states_positions.specs.Row.{part_weight, part_class, part_values, sum_of, mul_add_of}
use Rattle.states_positions.specs.Types.{answers_of, answer_number}
use Rattle.states_names.specs.Name.{framed_of, said_of, copies_of, arg_spots, reply_here, reply_of, arg_here, in_args}
use Rattle.states_rise.specs.Up.{exit_argument, exits_of, goes_of, rise_of}
use Rattle.states_step.specs.walk.Step.{step_at}
use Rattle.states_step.specs.walk.Shows.{kind_q, value_q, kind_a, value_a, move_of, stored, held, updated, ShowsNext}
use Rattle.states_step.specs.walk.Shows.{Variables}
use Rattle.states_step.specs.walk.Shows.{ShowsSaid, waits, leads, Shows, ArgsNext, ArgsSaid, a_waits, a_leads}
use Rattle.states_step.specs.walk.Shows.{ArgsShow}
use Rattle.states_step.proofs.Sums.{map-edge, sum-small, mul_add_small, quotient, remainder, times, factors}
use Rattle.states_step.proofs.Sums.{when-yes, when-no}
use Rattle.states_step.proofs.TypeNumbers.{HasType, questions-of, answers_of_lem, question-kind, question-value}
use Rattle.states_step.proofs.TypeNumbers.{Answered, fitting, unfitting, answer-of}
use Rattle.states_step.proofs.Parts.{part-weight, part_type, positive, some-question}

-- the numbers of a name's positions
subst-code : {X : Type 0} {a b : ℕ} (e : a ≡ b) (N : Numbered X a) (x : X) →
    (subst (λ (k : ℕ). Numbered X k) e N).code x ≡ N.code x
subst-code {X} {a} e N x = ap N.code (subst⁻¹_refl (λ (k : ℕ). X) {x = a} x)

pub named-code : (i : ℕ) (o : Often) (T : Ty) (args : Args) (x : Position (name i o T args)) →
    (numbered (name i o T args)).code x
    ≡ (numbered_name (numbered_spent o) (numbered_args args) (numbered_replies (types args))).code x
unfolding numbered numbered_use
named-code i o T args x =
    subst-code {b = use_weight o + weight_args args} (omega (arith, weight-args args))
    (numbered_name (numbered_spent o) (numbered_args args) (numbered_replies (types args))) x

pub spent-code : (i : ℕ) (T : Ty) (args : Args) → 2 ≡ (numbered (name i once T args)).code (spent tt)
unfolding numbered_name numbered_spent iso sum sum_code single
spent-code i T args = omega (arith, named-code i once T args (spent tt))

-- where a name waits after the answer of an argument
pub again-code : (i : ℕ) (o : Often) (T : Ty) (args : Args) → 1 + onces o ≡ (numbered (name i o T args)).code (again o)
unfolding again onces numbered_name numbered_spent iso sum sum_code single
again-code i freely T args = sym (named-code i freely T args (again freely))
again-code i once T args = spent-code i T args

pub within-code : (i : ℕ) (o : Often) (T : Ty) (args : Args) (p : PositionArgs args) →
    2 + onces o + (numbered_args args).code p ≡ (numbered (name i o T args)).code (within p)
unfolding numbered_name iso sum sum_code single
within-code i o T args p = omega (arith, named-code i o T args (within p))

pub reply-code : (i : ℕ) (o : Often) (T : Ty) (args : Args) (r : Reply (types args)) →
    2 + onces o + positions args + (numbered_replies (types args)).code r ≡ (numbered (name i o T args)).code (reply r)
unfolding numbered_name iso sum sum_code single
reply-code i o T args r = omega (arith, named-code i o T args (reply r))

-- one argument's positions
module _ (t : List ℕ) (node j : ℕ) (T : Ty) (M : Term) (pw : part_weight t node j ≡ weight M)
    (ty : HasType (part_class t node j) (part_values t node j) T)
    (fits : questions T * weight M + answers T < 65536) where
  pub few-questions : questions T < 65536
  few-questions = omega (arith, (factors (questions T) (weight M) (some-question T) (positive M)).0)

  pub low-weight : weight M < 65536
  low-weight = omega (arith, (factors (questions T) (weight M) (some-question T) (positive M)).1)

  pub copies_of_lem : copies_of t node j ≡ questions T * weight M
  unfolding copies_of
  copies_of_lem =
      rw (
        questions-of _ _ T ty few-questions,
        pw,
        mul_add_small (questions T) (weight M) 0 few-questions low-weight (omega arith),
      ) (omega arith)

  answers-here : answers_of (part_class t node j) (part_values t node j) ≡ answers T
  answers-here = answers_of_lem _ _ T ty (omega arith)

  pub found : (q : QuestionOf T) (p : Position M) (base after : ℕ) → base < 65536 →
      arg_here (word t node (5 + j)) (part_class t node j) (part_values t node j) (part_weight t node j)
      ((numbered_questions T).code q * weight M + (numbered M).code p) base after
      ≡ Inside (word t node (5 + j)) (kind_q q.0) (value_q q.0) ((numbered M).code p)
      (framed_of 6 (base + (numbered_questions T).code q * weight M) after (part_class t node j) (part_values t node j)
      ((numbered_questions T).code q))
  unfolding arg_here
  found q p base after b =
      let c : (numbered_questions T).code q < 65536 = omega (arith, (numbered_questions T).bound q, few-questions) in
      let e : mul_add_of ((numbered_questions T).code q) (weight M) base
      ≡ base + (numbered_questions T).code q * weight M =
      mul_add_small ((numbered_questions T).code q) (weight M) base c low-weight (omega arith) ∙ omega arith in
      rw (
        pw,
        ne_eqb (weight M) 0 (omega (arith, positive M)),
        quotient ((numbered_questions T).code q) (weight M) ((numbered M).code p) ((numbered M).bound p),
        remainder ((numbered_questions T).code q) (weight M) ((numbered M).code p) ((numbered M).bound p),
        e,
        question-kind _ _ T ty q,
        question-value _ _ T ty q,
      ) refl

-- the positions of all arguments
pub spots-of : {K : Numbers} {t rs n : List ℕ} {left node j : ℕ} {args : Args} → RepArgs K t left node j rs n args →
    weight_args args < 65536 → j + count args < 65536 → arg_spots t node j (count args) ≡ positions args
unfolding count arg_spots positions weight_args
spots-of r_none b h = refl
spots-of {t = t} (r_arg {at = node} {j} {T = T} {M} {args} r rs) b h =
    rw (
      copies_of_lem t node j T M (part-weight node j r) (part_type node j r) (omega arith),
      spots-of rs (omega arith) (omega arith),
    )
    (sum-small (questions T * weight M) (positions args) (omega (arith, weight-args args)))

-- the step of an argument, among the arguments
module _ (K : Numbers) (t : List ℕ) (m : Record) (n : Context) (T : Ty) (M : Term) (rest : Args) (c k : ℕ)
    (ty : HasType c k T)
    (q : QuestionOf T) (base after : ℕ) (vs : Variables) (fits : questions T * weight M + answers T < 65536)
    (low : base < 65536) (low' : after < 65536) where
  abbrev pub ArgFrame : Frame
  ArgFrame = framed_of 6 (base + (numbered_questions T).code q * weight M) after c k ((numbered_questions T).code q)

  abbrev pub first-in : State n M → StateArgs n (arg T M rest)
  first-in s = (s.0, inl (q, s.1))

  unfoldable pub first_out : ExitOf n → Next (StateArgs n (arg T M rest)) (ExitArgs n (types (arg T M rest)))
  unfolding types AnswersAt
  first_out e = when (answers? T q.0 e.1) (λ h. out (e.0, (0, q.0, e.1, h)))

  first_code : (p : Position M) → sum_of (base + (numbered_questions T).code q * weight M) ((numbered M).code p)
      ≡ base + (numbered_args (arg T M rest)).code (inl (q, p))
  unfolding numbered_args sum sum_code product product_code
  first_code p =
      sum-small (base + (numbered_questions T).code q * weight M) ((numbered M).code p)
      (omega (
        arith,
        times (questions T) (weight M) ((numbered_questions T).code q) ((numbered_questions T).bound q),
        (numbered M).bound p,
      )) ∙ omega arith

  first-exit : (e : ExitOf n) (l u : ℕ) → stored n e.0 ≡ updated vs l u →
      ArgsNext n (arg T M rest) base after vs (first_out e) (exits_of K ArgFrame (kind_a e.1) (value_a e.1) l u)
  unfolding exits_of exit_argument ArgsNext types AnswersAt first_out
  first-exit (τ, a) l u w =
      rw (question-kind c k T ty q, question-value c k T ty q) (cases (answer-of c k T ty (omega arith) q.0 a))
    where
      first-reply : (h : Answers T q.0 a) → sum_of after (suc ((numbered_answers T).code (q.0, a, h)) - 1)
          ≡ after + (numbered_replies (T ∷ types rest)).code (0, q.0, a, h)
      first-reply h =
          unfold numbered_replies iso sum sum_code in
          sum-small after (suc ((numbered_answers T).code (q.0, a, h)) - 1)
          (omega (arith, (numbered_answers T).bound (q.0, a, h))) ∙ omega arith

      cases : Answered c k T q.0 a → ArgsNext n (arg T M rest) base after vs (first_out (τ, a))
          (pick (ltb 0 (answer_number c k (kind_q q.0) (value_q q.0) (kind_a a) (value_a a)))
          (Go (sum_of after (answer_number c k (kind_q q.0) (value_q q.0) (kind_a a) (value_a a) - 1)) l u) Stuck)
      cases (fitting h e) =
          rw (
            e,
            when-yes {S = StateArgs n (arg T M rest)} {A = ExitArgs n (T ∷ types rest)} (answers? T q.0 a)
                (λ h. out (τ, (0, q.0, a, h))) Answers-prop h,
            lt-ltb 0 (suc ((numbered_answers T).code (q.0, a, h))) (omega arith),
          )
          (l, u, ap (λ (j : ℕ). Go j l u) (first-reply h), w)
      cases (unfitting h e) =
          rw (
            e,
            when-no {S = StateArgs n (arg T M rest)} {A = ExitArgs n (T ∷ types rest)} (answers? T q.0 a)
                (λ h. out (τ, (0, q.0, a, h))) h,
          ) refl

  first_next : (x : Next (State n M) (ExitOf n)) (o : Did) → ShowsNext n M vs x o →
      ArgsNext n (arg T M rest) base after vs (map_next first-in first_out x) (rise_of K ArgFrame o)
  unfolding ShowsNext ArgsNext map_next rise_of goes_of
  first_next (to s) o (l, u, h, w) = rw h (l, u, ap (λ (j : ℕ). Go j l u) (first_code s.1), w)
  first_next (out x) o (l, u, h, w) = rw h (first-exit x l u w)
  first_next dead o h = rw h refl

  first_said : (y : Move) (x : Next (State n M) (ExitOf n)) (o : Did) → ShowsSaid n M vs y x o →
      ArgsSaid n (arg T M rest) base after vs y (map_next first-in first_out x) (rise_of K ArgFrame o)
  unfolding ShowsSaid ArgsSaid map_next rise_of
  first_said y (to s) o (h, w) = rw h (ap (λ (j : ℕ). Say (move_of y) j) (first_code s.1), w)
  first_said y (out x) o h = absurd h
  first_said y dead o h = absurd h

  pub first : (y : Action (State n M) (ExitOf n)) (o : Did) → Shows K t n M vs m y o →
      ArgsShow K t n (arg T M rest) base after vs m (map_action first-in first_out y) (rise_of K ArgFrame o)
  unfolding Shows ArgsShow map_action rise_of
  first (go x) o h = first_next x o h
  first (say y x) o h = first_said y x o h
  first (hear l k) o (waits {node} {q} {x} {c} a w b) = a_waits {node = node} {q = q} {x = x} {c = c} a w (rw b refl)
  first (hear l k₁) o (leads i j d a b) =
      a_leads i j d a
      (subst (λ (x : Next (StateArgs n (arg T M rest)) (ExitArgs n (types (arg T M rest)))).
      ArgsNext n (arg T M rest) base after vs x (rise_of K ArgFrame o))
      (sym (map-edge first-in first_out l k₁ (move (at i j) d)))
      (first_next (edge_hear l k₁ (move (at i j) d)) o b))

-- the step of a later argument
module _ (K : Numbers) (t : List ℕ) (m : Record) (n : Context) (T : Ty) (M : Term) (rest : Args) (base after : ℕ)
    (vs : Variables) where
  abbrev pub later-in : StateArgs n rest → StateArgs n (arg T M rest)
  later-in s = (s.0, inr s.1)

  unfoldable pub later-out : ExitArgs n (types rest) →
      Next (StateArgs n (arg T M rest)) (ExitArgs n (types (arg T M rest)))
  unfolding types AnswersAt
  later-out e = out (later n T (types rest) e)

  later-next : (x : Next (StateArgs n rest) (ExitArgs n (types rest))) (o : Did) →
      ArgsNext n rest (base + questions T * weight M) (after + answers T) vs x o →
      ArgsNext n (arg T M rest) base after vs (map_next later-in later-out x) o
  unfolding ArgsNext map_next later-out types AnswersAt numbered_args sum sum_code numbered_replies iso
  later-next (to s) o (l, u, h, w) = (l, u, h ∙ ap (λ (j : ℕ). Go j l u) (omega arith), w)
  later-next (out x) o (l, u, h, w) = (l, u, h ∙ ap (λ (j : ℕ). Go j l u) (omega arith), w)
  later-next dead o h = h

  later-said : (y : Move) (x : Next (StateArgs n rest) (ExitArgs n (types rest))) (o : Did) →
      ArgsSaid n rest (base + questions T * weight M) (after + answers T) vs y x o →
      ArgsSaid n (arg T M rest) base after vs y (map_next later-in later-out x) o
  unfolding ArgsSaid map_next numbered_args sum sum_code
  later-said y (to s) o (h, w) = (h ∙ ap (λ (j : ℕ). Say (move_of y) j) (omega arith), w)
  later-said y (out x) o h = absurd h
  later-said y dead o h = absurd h

  pub among : (y : Action (StateArgs n rest) (ExitArgs n (types rest))) (o : Did) →
      ArgsShow K t n rest (base + questions T * weight M) (after + answers T) vs m y o →
      ArgsShow K t n (arg T M rest) base after vs m (map_action later-in later-out y) o
  unfolding ArgsShow map_action
  among (go x) o h = later-next x o h
  among (say y x) o h = later-said y x o h
  among (hear l k) o (a_waits {node} {q} {x} {c} a w b) = a_waits {node = node} {q = q} {x = x} {c = c} a w b
  among (hear l k) o (a_leads i j d a b) =
      a_leads i j d a
      (subst (λ (x : Next (StateArgs n (arg T M rest)) (ExitArgs n (types (arg T M rest)))).
      ArgsNext n (arg T M rest) base after vs x o)
      (sym (map-edge later-in later-out l k (move (at i j) d)))
      (later-next (edge_hear l k (move (at i j) d)) o b))

-- the steps of the arguments, in the name
module _ (K : Numbers) (t : List ℕ) (m : Record) (n : Context) (i : ℕ) (o : Often) (T : Ty) (args : Args)
    (vs : Variables) where
  abbrev pub whole_in : StateArgs n args → State n (name i o T args)
  whole_in s = (s.0, within s.1)

  abbrev pub whole_out : ExitArgs n (types args) → Next (State n (name i o T args)) (ExitOf n)
  whole_out e = to (e.0, reply e.1)

  whole-next : (x : Next (StateArgs n args) (ExitArgs n (types args))) (d : Did) →
      ArgsNext n args (2 + onces o) (2 + onces o + positions args) vs x d →
      ShowsNext n (name i o T args) vs (map_next whole_in whole_out x) d
  unfolding ArgsNext ShowsNext map_next
  whole-next (to s) d (l, u, h, w) = (l, u, h ∙ ap (λ (j : ℕ). Go j l u) (within-code i o T args s.1), w)
  whole-next (out x) d (l, u, h, w) = (l, u, h ∙ ap (λ (j : ℕ). Go j l u) (reply-code i o T args x.1), w)
  whole-next dead d h = h

  whole-said : (y : Move) (x : Next (StateArgs n args) (ExitArgs n (types args))) (d : Did) →
      ArgsSaid n args (2 + onces o) (2 + onces o + positions args) vs y x d →
      ShowsSaid n (name i o T args) vs y (map_next whole_in whole_out x) d
  unfolding ArgsSaid ShowsSaid map_next
  whole-said y (to s) d (h, w) = (h ∙ ap (λ (j : ℕ). Say (move_of y) j) (within-code i o T args s.1), w)
  whole-said y (out x) d h = absurd h
  whole-said y dead d h = absurd h

  pub whole : (y : Action (StateArgs n args) (ExitArgs n (types args))) (d : Did) →
      ArgsShow K t n args (2 + onces o) (2 + onces o + positions args) vs m y d →
      Shows K t n (name i o T args) vs m (map_action whole_in whole_out y) d
  unfolding ArgsShow Shows map_action
  whole (go x) d h = whole-next x d h
  whole (say y x) d h = whole-said y x d h
  whole (hear l k) d (a_waits {node} {q} {x} {c} a w b) = waits {node = node} {q = q} {x = x} {c = c} a w b
  whole (hear l k) d (a_leads i' j e a b) =
      leads i' j e a
      (subst (λ (x : Next (State n (name i o T args)) (ExitOf n)). ShowsNext n (name i o T args) vs x d)
      (sym (map-edge whole_in whole_out l k (move (at i' j) e)))
      (whole-next (edge_hear l k (move (at i' j) e)) d b))

-- what a reply says
said-of : (id c m : ℕ) (T : Ty) → HasType c m T → (j : ℕ) (q : Question) (a : Answer) (h : Answers T q a)
    (next : ℕ) → reply_here id c m j ((numbered_answers T).code (q, a, h)) next ≡ said_of (kind_a a) id j (value_a a) next
unfolding HasType numbered_answers alone iso single sum sum_code values reply_here kind_a value_a
said-of id c m command e j _ _ to_run next = rw e refl
said-of id c m (expression k) e j _ _ (to_ask {v = v} h) next = rw (e.0, e.1, lt-leb k v h) refl
said-of id c m (variable k) e j _ _ (to_read {v = v} h) next = rw (e.0, e.1, lt-leb k v h) refl
said-of id c m (variable k) e j _ _ (to_write {v = v} h) next = rw (e.0, e.1, le-leb k (k + v) (omega arith)) refl

pub reply-of : {K : Numbers} {t rs n : List ℕ} {left node j : ℕ} {args : Args} → RepArgs K t left node j rs n args →
    weight_args args < 65536 → j + count args < 65536 → (id : ℕ) (r : Reply (types args)) (next : ℕ) →
    reply_of t id node j (count args) ((numbered_replies (types args)).code r) next
    ≡ said_of (kind_a r.2) id (suc (j + r.0)) (value_a r.2) next
unfolding count types AnswersAt reply_of numbered_replies iso sum sum_code weight_args
reply-of r_none b h id r next = absurd r.3
reply-of {t = t} (r_arg {at = node} {j} {T = T} {M} {args} r rs) b h id (zero, q, a, x) next =
    let pw = part-weight node j r in
    let ty = part_type node j r in
    let e : sum_of j 1 ≡ suc (j + 0) = sum-small j 1 (omega arith) ∙ omega arith in
    rw (
      answers-here t node j T M pw ty (omega arith),
      lt-leb (answers T) ((numbered_answers T).code (q, a, x)) ((numbered_answers T).bound (q, a, x)),
      e,
    )
    (said-of id (part_class t node j) (part_values t node j) T ty (suc (j + 0)) q a x next)
reply-of {t = t} (r_arg {at = node} {j} {T = T} {M} {args} r rs) b h id (suc i, q, a, x) next =
    let pw = part-weight node j r in
    let ty = part_type node j r in
    let k = (numbered_replies (types args)).code (i, q, a, x) in
    let e : sum_of j 1 ≡ j + 1 = sum-small j 1 (omega arith) in
    let d : answers T + k - answers T ≡ k = omega arith in
    rw (answers-here t node j T M pw ty (omega arith), le-leb (answers T) (answers T + k) (omega arith), e, d)
    (reply-of rs (omega arith) (omega arith) id (i, q, a, x) next
    ∙ ap (λ (k : ℕ). said_of (kind_a a) id (suc k) (value_a a) next) (omega arith))

-- where a position of the arguments is found
pub record ArgFound (K : Numbers) (t : List ℕ) (left node j base after : ℕ) (rs : List ℕ) (n : Context) (args : Args)
    (σ : Store n)
    (s : ℕ → ℕ) (m : Record) (p : PositionArgs args) : Type 0 where
  pub part : ℕ
  pub kind : ℕ
  pub value : ℕ
  pub inner : ℕ
  pub frame : Frame
  pub down : in_args t node j (count args) ((numbered_args args).code p) base after ≡ Inside part kind value inner frame
  pub plain : eqb frame.role 7 ≡ false
  pub shows : ArgsShow K t n args base after (held rs n σ) m (step_args args n σ p)
      (rise_of K frame (step_at t K left part kind value inner s m))

module _ (K : Numbers) (t : List ℕ) (left node j : ℕ) (rs : List ℕ) (n : Context) (T : Ty) (M : Term) (args : Args)
    (pw : part_weight t node j ≡ weight M) (ty : HasType (part_class t node j) (part_values t node j) T)
    (fits : questions T * weight M + answers T + weight_args args < 65536) (room : j < 65536) (σ : Store n) (s : ℕ → ℕ)
    (m : Record) (base after : ℕ) (low : base + (questions T * weight M + positions args) < 65536)
    (low' : after + (answers T + replies (types args)) < 65536) where
  pub arg-first : (q : QuestionOf T) (p : Position M) →
      Shows K t n M (held rs n σ) m (step M n q.0 σ p)
      (step_at t K left (word t node (5 + j)) (kind_q q.0) (value_q q.0) ((numbered M).code p) s m) →
      ArgFound K t left node j base after rs n (arg T M args) σ s m (inl (q, p))
  unfolding count in_args numbered_args sum sum_code product product_code step_args step first_out
  arg-first q p x = record {
    part = word t node (5 + j);
    kind = kind_q q.0;
    value = value_q q.0;
    inner = (numbered M).code p;
    frame = framed_of 6 (base + (numbered_questions T).code q * weight M) after (part_class t node j)
        (part_values t node j) ((numbered_questions T).code q);
    down =
        rw (
          copies_of_lem t node j T M pw ty (omega arith),
          lt-leb (questions T * weight M) ((numbered_questions T).code q * weight M + (numbered M).code p)
              (omega (
                arith,
                times (questions T) (weight M) ((numbered_questions T).code q) ((numbered_questions T).bound q),
                (numbered M).bound p,
              )),
        )
        (found t node j T M pw ty (omega arith) q p base after (omega arith));
    plain = refl;
    shows =
        first K t m n T M args (part_class t node j) (part_values t node j) ty q base after (held rs n σ) (omega arith)
        (omega arith) (omega arith) (step M n q.0 σ p) _ x;
  }

  pub arg-later : (p : PositionArgs args) →
      ArgFound K t left node (j + 1) (base + questions T * weight M) (after + answers T) rs n args σ s m p →
      ArgFound K t left node j base after rs n (arg T M args) σ s m (inr p)
  unfolding count in_args numbered_args sum sum_code product product_code step_args step later-out
  arg-later p x =
      let e : sum_of j 1 ≡ j + 1 = sum-small j 1 (omega arith) in
      let k = (numbered_args args).code p in
      let d : questions T * weight M + k - questions T * weight M ≡ k = omega arith in
      let e₁ : sum_of base (questions T * weight M) ≡ base + questions T * weight M =
      sum-small base (questions T * weight M) (omega arith) in
      let e₂ : sum_of after (answers T) ≡ after + answers T = sum-small after (answers T) (omega arith) in
      record {
        part = x.part;
        kind = x.kind;
        value = x.value;
        inner = x.inner;
        frame = x.frame;
        down =
            rw (
              copies_of_lem t node j T M pw ty (omega arith),
              le-leb (questions T * weight M) (questions T * weight M + k) (omega arith),
              answers-here t node j T M pw ty (omega arith),
              e,
              d,
              e₁,
              e₂,
            ) x.down;
        plain = x.plain;
        shows = among K t m n T M args base after (held rs n σ) (step_args args n σ p) _ x.shows;
      }
