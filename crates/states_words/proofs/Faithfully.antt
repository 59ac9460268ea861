-- What the code's definition says of a state of a whole sheet shows the machine's action at that state.
use mathlib.Core.Path.{◌≡◌, refl, sym, ◌∙◌, ap, subst}
use mathlib.Core.Logic.{inl, inr}
use mathlib.Core.List.{List, []}
use Prim.Native.Nat.{ℕ, zero, suc, ◌+◌, ◌*◌, ◌-◌, ◌≤◌, ◌<◌}
use native.Mathlib.Omega.{arith}
use native.Mathlib.Decide.{ℕ_discrete}
use lib.Dec.{eqb, ltb}
use borrow.Author.Tests.{lt-ltb, le-ltb, lt-leb, le-leb, eq-eqb, ne_eqb}
use Rattle.language.specs.Choice.{pick}
use Rattle.language.specs.declared.Numbers.{Numbers}
use Rattle.language.specs.Ty.{Ty, command, expression, variable, Question, Answer, Fits, Answers, to_run, to_ask}
use Rattle.language.specs.Ty.{to_read, to_write, questions, answers}
use Rattle.language.specs.Move.{Event, question, answer, at, Move, move}
use Rattle.language.specs.Term.{Term}
use Rattle.language.specs.Weight.{weight}
use Rattle.states_machine.specs.Action.{Next, to, out, dead, Heard, opening, who, Hears, Action, go, say, hear, map_next}
use Rattle.states_machine.specs.Action.{map_action}
use Rattle.states_machine.specs.Decide.{when, fits?, answers?, hears?}
use Rattle.states_machine.specs.Edge.{received, edge_hear}
use Rattle.states_machine.specs.Position.{QuestionOf, AnswerOf, Position, entry, State, Exit as ExitOf}
use Rattle.states_machine.specs.Step.{step}
use Rattle.states_machine.specs.Numbered.{single, values, iso, sum, sum_code, product, product_code}
use Rattle.states_machine.specs.Numbering.{alone, numbered_questions, numbered_answers, numbered}
use Rattle.states_machine.specs.Settle.{Index}
use Rattle.states_machine.specs.Sheet.{Spot, start, within, reply, opens as Opening-of, sheet, spots, numbered_sheet}
use Rattle.states_machine.specs.Sheet.{numbered_spots, index, numbered_step, steps}
use Rattle.states_machine.proofs.Unique.{Fits-prop, Answers-prop}
use Rattle.sheet_rows.specs.Row.{word}
use Rattle.sheet_rows.specs.Rep.{Rep}
use Rattle.states_positions.specs.declared.Move.{Move as Record}
use Rattle.states_positions.specs.declared.Frame.{Frame}
use Rattle.states_positions.specs.declared.Out.{Out as Did}
use Rattle.states_positions.specs.declared.Out.TheVariants.{Go, Say, Hear, Stuck}
use Rattle.states_positions.specs.declared.Spot.TheVariants.{Inside}
use Rattle.states_positions.specs.Row.{sum_of, mul_add_of}
use Rattle.states_positions.specs.Types.{question_number, answer_number}
use Rattle.states_names.specs.Name.{framed_of, arg_here}
use Rattle.states_rise.specs.Up.{exit_argument, exits_of, goes_of, rise_of}
use Rattle.states_step.specs.walk.Step.{on_spot}
use Rattle.states_step.specs.walk.Shows.{kind_q, value_q, kind_a, value_a, move_of, GivenMove, Words, HeldStore, held}
use Rattle.states_step.specs.walk.Shows.{ShowsNext}
use Rattle.states_step.specs.walk.Shows.{ShowsSaid, waits as awaits, leads as follows, Shows}
use Rattle.states_step.proofs.Sums.{map-edge, sum-small, mul_add_small, quotient, remainder, times, factors}
use Rattle.states_step.proofs.Sums.{when-yes, when-no, when-dead}
use Rattle.states_step.proofs.TypeNumbers.{HasType, has_type, questions-of, answers_of_lem, question-kind, question-value}
use Rattle.states_step.proofs.TypeNumbers.{Answered, fitting, unfitting, answer-of, Asked, asking, not-asking}
use Rattle.states_step.proofs.TypeNumbers.{question-of, no-question}
use Rattle.states_step.proofs.Parts.{row_of, positive, some-question}
use Rattle.states_step.proofs.Hearing.{entry_zero, stuck, kind-below}
use Rattle.states_step.proofs.Faithful.{faithful}
use Rattle.states_step.proofs.Variables.{outside}
use Rattle.states_path.specs.States.{opened_of, at_start, within_of, replied_of, after_of, spots_of, sheet_at}
use Rattle.states_words.specs.inner.Acts.{calls, opens, Leads, SaysMove, Listens, waits, leads, Acts}

-- the numbers of the states: the start, then the positions of the copies of the term, then the answers
module _ (T : Ty) (M : Term) where
  within-code : (q : QuestionOf T) (p : Position M) → (numbered_spots T M).code (within (q, p))
      ≡ 1 + (numbered_questions T).code q * weight M + (numbered M).code p
  unfolding numbered_spots numbered_sheet iso sum sum_code single product product_code
  within-code q p = omega arith

  reply-code : (y : AnswerOf T) → (numbered_spots T M).code (reply y)
      ≡ 1 + questions T * weight M + (numbered_answers T).code y
  unfolding numbered_spots numbered_sheet iso sum sum_code single
  reply-code y = omega arith

-- what the answer of number k says
replied : (c m : ℕ) (T : Ty) → HasType c m T → (q : Question) (a : Answer) (h : Answers T q a) →
    replied_of c m ((numbered_answers T).code (q, a, h)) ≡ move_of (move (at 255 0) (answer a))
unfolding HasType numbered_answers alone iso single sum sum_code values replied_of move_of kind_a value_a
replied c m command e _ _ to_run = rw e refl
replied c m (expression k) e _ _ (to_ask {v = v} h) = rw (e.0, e.1, lt-leb k v h) refl
replied c m (variable k) e _ _ (to_read {v = v} h) = rw (e.0, e.1, lt-leb k v h) refl
replied c m (variable k) e _ _ (to_write {v = v} h) = rw (e.0, e.1, le-leb k (k + v) (omega arith)) refl

-- a move that is not taken
dead-leads : {K : ℕ} (x : Next (Index K) (Unit {0})) (o : Did) → x ≡ dead → o ≡ Stuck → Leads x o
unfolding Leads
dead-leads x o e d = rw (e, d) refl

module _ (N : Numbers) (t : List ℕ) {root : ℕ} {M : Term} {T : Ty} (r : Rep N t 6144 root [] [] M T)
    (fits : spots T M ≤ 4096) where
  -- the row of the whole term
  weighed : word t root 1 ≡ weight M
  weighed = (row_of r).1.weighed

  typed : HasType (word t root 2) (word t root 3) T
  typed = has_type t root T (row_of r).1.typed

  -- the states are few
  few : 1 + (questions T * weight M + answers T) ≤ 4096
  unfolding spots
  few = fits

  few-questions : questions T < 4096
  few-questions = omega (arith, few, (factors (questions T) (weight M) (some-question T) (positive M)).0)

  low-weight : weight M < 4096
  low-weight = omega (arith, few, (factors (questions T) (weight M) (some-question T) (positive M)).1)

  after-of : after_of t root ≡ 1 + questions T * weight M
  unfolding after_of
  after-of =
      rw (questions-of _ _ T typed (omega (arith, few-questions)), weighed)
      (mul_add_small (questions T) (weight M) 1 (omega (arith, few-questions)) (omega (arith, low-weight)) (omega arith)
      ∙ omega arith)

  -- THEOREM: the code counts the states of the machine but the end
  pub spots-of : spots_of t root ≡ spots T M
  unfolding spots_of spots
  spots-of =
      rw (after-of, answers_of_lem _ _ T typed (omega (arith, few)))
      (sum-small (1 + questions T * weight M) (answers T) (omega (arith, few)) ∙ omega arith)

  -- a question enters its copy of the term
  enters : (q : Question) (d : Dec (Fits T q)) →
      Leads (when d (λ h. to (index T M (within ((q, h), entry M)))))
      (pick (eqb (question_number (word t root 2) (word t root 3) (kind_q q) (value_q q)) 0) Stuck
      (Go (mul_add_of (question_number (word t root 2) (word t root 3) (kind_q q) (value_q q) - 1) (word t root 1) 1) 0 0))
  unfolding when Leads
  enters q d = cases d (question-of _ _ T typed (omega (arith, few-questions)) q)
    where
      place : (f : Fits T q) → mul_add_of (suc ((numbered_questions T).code (q, f)) - 1) (word t root 1) 1
          ≡ (numbered_spots T M).code (within ((q, f), entry M))
      place f =
          let e : suc ((numbered_questions T).code (q, f)) - 1 ≡ (numbered_questions T).code (q, f) = omega arith in
          rw (e, weighed, within-code T M (q, f) (entry M), entry_zero M)
          (mul_add_small ((numbered_questions T).code (q, f)) (weight M) 1
          (omega (arith, few-questions, (numbered_questions T).bound (q, f))) (omega (arith, low-weight))
          (omega arith) ∙ omega arith)

      cases : (d : Dec (Fits T q)) → Asked (word t root 2) (word t root 3) T q →
          Leads (when d (λ h. to (index T M (within ((q, h), entry M)))))
          (pick (eqb (question_number (word t root 2) (word t root 3) (kind_q q) (value_q q)) 0) Stuck
          (Go (mul_add_of (question_number (word t root 2) (word t root 3) (kind_q q) (value_q q) - 1) (word t root 1) 1)
          0 0))
      cases (yes h) (asking f e) =
          rw (e, ne_eqb (suc ((numbered_questions T).code (q, f))) 0 (omega arith))
          (0, 0, ap (λ (k : ℕ). Go k 0 0) (rw (Fits-prop h f) (place f)))
      cases (yes h) (not-asking f e) = absurd (f h)
      cases (no h) (asking f e) = absurd (h f)
      cases (no h) (not-asking f e) = rw e refl

  -- what follows a move at the start
  unfoldable begins : (r : Heard) → Hears (opening 255 T) r → Next (Index (spots T M)) (Unit {0})
  begins r h = map_next (index T M) (λ e. out e) (Opening-of T M r h)

  start-leads : (i j : ℕ) (e : Event) →
      Leads (edge_hear (opening 255 T) begins (move (at i j) e)) (opened_of t root (move_of (move (at i j) e)))
  unfolding edge_hear received hears? opened_of move_of Opening-of begins map_next who when
  start-leads i zero (question q) = cases (ℕ_discrete 255 i)
    where
      cases : (d : Dec (255 ≡ i)) →
          Leads (when d (λ e. when (fits? T q) (λ h. to (index T M (within ((q, h), entry M))))))
          (opened_of t root (move_of (move (at i 0) (question q))))
      cases (yes e) = rw (eq-eqb i 255 (sym e)) (enters q (fits? T q))
      cases (no e) = rw (ne_eqb i 255 (λ x. e (sym x))) (dead-leads _ _ refl refl)
  start-leads i zero (answer a) =
      dead-leads _ _ (when-dead (ℕ_discrete 255 i))
      (rw (no-question (word t root 2) (word t root 3) a) (stuck (eqb i 255)))
  start-leads i (suc j) (question q) =
      dead-leads _ _ (when-dead (ℕ_discrete 255 i)) (rw (ne_eqb (suc j) 0 (omega arith)) (stuck (eqb i 255)))
  start-leads i (suc j) (answer a) =
      dead-leads _ _ refl (rw (ne_eqb (suc j) 0 (omega arith)) (stuck (eqb i 255)))

  -- the action at each state
  at-start : (m : Record) → GivenMove m → Listens N t m (opening 255 T) begins (at_start t root m)
  unfolding at_start
  at-start m (inl e) =
      rw (eq-eqb m.kind 255 e) (waits {node = root} {q = 7} {x = 0} {c = 0} e (opens (row_of r).1.typed) refl)
  at-start m (inr (i, j, ev, e)) =
      subst (λ (m : Record). Listens N t m (opening 255 T) begins
      (pick (eqb m.kind 255) (Hear root 7 0 0) (opened_of t root m))) (sym e)
      (leads i j ev refl (rw (kind-below i j ev) (start-leads i j ev)))

  -- the steps of the term in the copy for the question q
  module _ (q : QuestionOf T) where
    abbrev copy : Frame
    copy = framed_of 6 (1 + (numbered_questions T).code q * weight M) (1 + questions T * weight M) (word t root 2)
        (word t root 3) ((numbered_questions T).code q)

    abbrev inside : State [] M → Spot T M
    inside s = within (q, s.1)

    abbrev leave : ExitOf [] → Next (Spot T M) (Unit {0})
    leave e = when (answers? T q.0 e.1) (λ h. to (reply (q.0, e.1, h)))

    abbrev indexed : Next (Spot T M) (Unit {0}) → Next (Index (spots T M)) (Unit {0})
    indexed x = map_next (index T M) (λ e. out e) x

    copy-code : (p : Position M) → sum_of (1 + (numbered_questions T).code q * weight M) ((numbered M).code p)
        ≡ (numbered_spots T M).code (within (q, p))
    copy-code p =
        sum-small (1 + (numbered_questions T).code q * weight M) ((numbered M).code p)
        (omega (
          arith,
          few,
          times (questions T) (weight M) ((numbered_questions T).code q)
              ((numbered_questions T).bound q),
          (numbered M).bound p,
        )) ∙ sym (within-code T M q p)

    -- an exit leads to the answer
    leaves : (e : ExitOf []) (l u : ℕ) → Leads (indexed (leave e)) (exits_of N copy (kind_a e.1) (value_a e.1) l u)
    unfolding exits_of exit_argument Leads map_next
    leaves (τ, a) l u =
        rw (question-kind _ _ T typed q, question-value _ _ T typed q)
        (cases (answer-of _ _ T typed (omega (arith, few)) q.0 a))
      where
        place : (h : Answers T q.0 a) →
            sum_of (1 + questions T * weight M) (suc ((numbered_answers T).code (q.0, a, h)) - 1)
            ≡ (numbered_spots T M).code (reply (q.0, a, h))
        place h =
            sum-small (1 + questions T * weight M) (suc ((numbered_answers T).code (q.0, a, h)) - 1)
            (omega (arith, few, (numbered_answers T).bound (q.0, a, h)))
            ∙ omega (arith, reply-code T M (q.0, a, h))

        cases : Answered (word t root 2) (word t root 3) T q.0 a → Leads (indexed (leave (τ, a)))
            (pick (ltb 0 (answer_number (word t root 2) (word t root 3) (kind_q q.0) (value_q q.0) (kind_a a)
            (value_a a)))
            (Go (sum_of (1 + questions T * weight M)
            (answer_number (word t root 2) (word t root 3) (kind_q q.0) (value_q q.0) (kind_a a) (value_a a) - 1))
            l u) Stuck)
        cases (fitting h e) =
            rw (
              e,
              when-yes {S = Spot T M} {A = Unit {0}} (answers? T q.0 a) (λ h. to (reply (q.0, a, h)))
                  Answers-prop h,
              lt-ltb 0 (suc ((numbered_answers T).code (q.0, a, h))) (omega arith),
            )
            (l, u, ap (λ (k : ℕ). Go k l u) (place h))
        cases (unfitting h e) =
            rw (e, when-no {S = Spot T M} {A = Unit {0}} (answers? T q.0 a) (λ h. to (reply (q.0, a, h))) h) refl

    rise-next : (x : Next (State [] M) (ExitOf [])) (o : Did) → ShowsNext [] M [] x o →
        Leads (indexed (map_next inside leave x)) (rise_of N copy o)
    unfolding ShowsNext Leads map_next rise_of goes_of
    rise-next (to s) o (l, u, h, w) = rw h (l, u, ap (λ (k : ℕ). Go k l u) (copy-code s.1))
    rise-next (out e) o (l, u, h, w) = rw h (leaves e l u)
    rise-next dead o h = rw h refl

    rise-said : (y : Move) (x : Next (State [] M) (ExitOf [])) (o : Did) → ShowsSaid [] M [] y x o →
        SaysMove y (indexed (map_next inside leave x)) (rise_of N copy o)
    unfolding ShowsSaid SaysMove map_next rise_of
    rise-said y (to s) o (h, w) = rw h (ap (λ (k : ℕ). Say (move_of y) k) (copy-code s.1))
    rise-said y (out e) o h = absurd h
    rise-said y dead o h = absurd h

    rise : (m : Record) (y : Action (State [] M) (ExitOf [])) (o : Did) → Shows N t [] M [] m y o →
        Acts N t m (map_action (index T M) (λ e. out e) (map_action inside leave y)) (rise_of N copy o)
    unfolding Shows Acts map_action rise_of
    rise m (go x) o h = rise-next x o h
    rise m (say y x) o h = rise-said y x o h
    rise m (hear l k) o (awaits {node} {q} {x} {c} a w b) =
        waits {node = node} {q = q} {x = x} {c = c} a (calls w) (rw b refl)
    rise m (hear l k) o (follows i j d a b) =
        leads i j d a
        (subst (λ (x : Next (Index (spots T M)) (Unit {0})). Leads x (rise_of N copy o))
        (sym (map-edge (index T M) (λ e. out e) l (λ r s. map_next inside leave (k r s)) (move (at i j) d)
        ∙ ap indexed (map-edge inside leave l k (move (at i j) d))))
        (rise-next (edge_hear l k (move (at i j) d)) o b))

    -- where the position p of the copy is found, and its action
    found : (p : Position M) → arg_here root (word t root 2) (word t root 3) (word t root 1)
        ((numbered_questions T).code q * weight M + (numbered M).code p) 1 (1 + questions T * weight M)
        ≡ Inside root (kind_q q.0) (value_q q.0) ((numbered M).code p) copy
    unfolding arg_here
    found p =
        let c = (numbered_questions T).code q in
        let e : mul_add_of c (weight M) 1 ≡ 1 + c * weight M =
        mul_add_small c (weight M) 1 (omega (arith, few-questions, (numbered_questions T).bound q))
        (omega (arith, low-weight)) (omega arith) ∙ omega arith in
        rw (
          weighed,
          ne_eqb (weight M) 0 (omega (arith, positive M)),
          quotient c (weight M) ((numbered M).code p) ((numbered M).bound p),
          remainder c (weight M) ((numbered M).code p) ((numbered M).bound p),
          e,
          question-kind _ _ T typed q,
          question-value _ _ T typed q,
        ) refl

    at-within : Words t → (m : Record) → GivenMove m → (p : Position M) →
        Acts N t m (numbered_step T M (within (q, p))) (sheet_at t N root ((numbered_spots T M).code (within (q, p))) m)
    unfolding sheet_at within_of on_spot numbered_step sheet held HeldStore
    at-within ws m gv p =
        let c = (numbered_questions T).code q * weight M + (numbered M).code p in
        let d : 1 + (numbered_questions T).code q * weight M + (numbered M).code p - 1 ≡ c = omega arith in
        rw (
          within-code T M q p,
          after-of,
          ne_eqb (1 + (numbered_questions T).code q * weight M + (numbered M).code p) 0 (omega arith),
          lt-ltb (1 + (numbered_questions T).code q * weight M + (numbered M).code p) (1 + questions T * weight M)
              (omega (
                arith,
                times (questions T) (weight M) ((numbered_questions T).code q)
                    ((numbered_questions T).bound q),
                (numbered M).bound p,
              )),
          d,
          found p,
        )
        (rise m (step M [] q.0 tt p) _
        (faithful N t ws m gv M r q.0 tt (λ row. 0) tt outside p))

  at-reply : (m : Record) (y : AnswerOf T) →
      Acts N t m (numbered_step T M (reply y)) (sheet_at t N root ((numbered_spots T M).code (reply y)) m)
  unfolding sheet_at numbered_step sheet map_action map_next Acts SaysMove
  at-reply m y =
      let c = (numbered_answers T).code y in
      let d : 1 + questions T * weight M + c - (1 + questions T * weight M) ≡ c = omega arith in
      rw (
        reply-code T M y,
        after-of,
        ne_eqb (1 + questions T * weight M + c) 0 (omega arith),
        le-ltb (1 + questions T * weight M + c) (1 + questions T * weight M) (omega arith),
        d,
        spots-of,
        replied _ _ T typed y.0 y.1 y.2,
      ) refl

  at-spot : Words t → (m : Record) → GivenMove m → (s : Spot T M) →
      Acts N t m (numbered_step T M s) (sheet_at t N root ((numbered_spots T M).code s) m)
  at-spot ws m gv start =
      unfold sheet_at numbered_step sheet map_action Acts numbered_spots numbered_sheet iso sum sum_code single begins
      in
      at-start m gv
  at-spot ws m gv (within (q, p)) = at-within q ws m gv p
  at-spot ws m gv (reply y) = at-reply m y

-- THEOREM: what the code's definition says of the state k shows the machine's action there
pub acts : (N : Numbers) (t : List ℕ) {root : ℕ} {M : Term} {T : Ty} → Words t → Rep N t 6144 root [] [] M T →
    spots T M ≤ 4096 → (m : Record) → GivenMove m → (k : ℕ) (h : k < spots T M) →
    Acts N t m (steps T M (k, h)) (sheet_at t N root k m)
unfolding steps
acts N t {root} {M} {T} ws r fits m gv k h =
    subst (λ (j : ℕ). Acts N t m (steps T M (k, h)) (sheet_at t N root j m)) ((numbered_spots T M).code_decode k h)
    (at-spot N t r fits ws m gv ((numbered_spots T M).decode k h))
