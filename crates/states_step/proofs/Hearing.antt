-- What is heard at a name, by numbers.
use mathlib.Core.Path.{◌≡◌, refl, sym, ◌∙◌, ap, subst}
use mathlib.Core.Logic.{◌⊎◌, inl, inr}
use mathlib.Core.Bool.{Bool, true, false}
use mathlib.Core.List.{List, [], ◌∷◌}
use Prim.Native.Nat.{ℕ, zero, suc, ◌+◌, ◌*◌, ◌-◌, ◌≤◌, ◌<◌}
use native.Mathlib.Omega.{arith}
use native.Mathlib.Decide.{ℕ_discrete}
use lib.Dec.{eqb, leb}
use borrow.Author.Tests.{lt-leb, le-leb, eq-eqb, ne_eqb}
use Rattle.language.specs.Choice.{pick}
use Rattle.language.specs.Ty.{Ty, Question, run, ask, read, write, Answer, done, ok, value, Answers}
use Rattle.language.specs.Ty.{questions, answers}
use Rattle.language.specs.Move.{Event, question, answer, at, move}
use Rattle.language.specs.Term.{Term, skip, diverge, const, private, name, fetch, operate, assign, seq, while, cond}
use Rattle.language.specs.Term.{new, Often, onces, Args, no_args, arg}
use Rattle.language.specs.Weight.{use_weight, weight, weight_args}
use Rattle.language.proofs.AskOnceLaws.{onces-below}
use Rattle.language.specs.declared.Numbers.{Numbers}
use Rattle.states_machine.specs.Action.{Next, to, out, dead, calling, who, FitsAt, map_next}
use Rattle.states_machine.specs.Decide.{when, answers?, fits-at?, hears?}
use Rattle.states_machine.specs.Edge.{received, edge_hear}
use Rattle.states_machine.specs.Position.{Context, Store, types, start, within, reply, PositionArgs, entry}
use Rattle.states_machine.specs.Position.{State, Exit as ExitOf}
use Rattle.states_machine.specs.Numbered.{single, values, iso, sum, sum_code, product, product_code}
use Rattle.states_machine.specs.Numbering.{numbered_answers, numbered_questions, numbered_name, weight-args, numbered}
use Rattle.states_machine.specs.Numbering.{numbered_args}
use Rattle.states_machine.specs.Step.{enter, listen, closing, closes}
use Rattle.states_machine.proofs.Unique.{FitsAt-prop}
use Rattle.sheet_rows.specs.Row.{word}
use Rattle.sheet_rows.specs.Rep.{count, Rep, RepArgs, r_none, r_arg}
use Rattle.states_positions.specs.declared.Move.{Move as Record}
use Rattle.states_positions.specs.declared.Out.{Out as Did}
use Rattle.states_positions.specs.declared.Out.TheVariants.{Go, Exit, Hear, Stuck}
use Rattle.states_positions.specs.Row.{part_weight, part_class, part_values, name_id, name_count, name_spent, sum_of}
use Rattle.states_positions.specs.Row.{mul_add_of}
use Rattle.states_positions.specs.Types.{question_number, answer_number}
use Rattle.states_names.specs.Name.{inner_of, again_of, arg_spots, hear_answer, hear_question, listen_of, at_wait}
use Rattle.states_names.specs.Name.{at_spent}
use Rattle.states_step.specs.walk.Shows.{kind_q, value_q, kind_a, value_a, move_of, stored, held, valued, updated}
use Rattle.states_step.specs.walk.Shows.{Variables, ShowsNext}
use Rattle.states_step.specs.walk.Shows.{Takes, takes_all, takes_none, Awaits, ShowsHeard, waits, leads, Shows}
use Rattle.states_step.specs.walk.Shows.{GivenMove}
use Rattle.states_step.proofs.Sums.{sum-small, mul_add_small, when-dead}
use Rattle.states_step.proofs.TypeNumbers.{HasType, Answered, fitting, unfitting, answer-of, Asked, asking}
use Rattle.states_step.proofs.TypeNumbers.{not-asking, question-of, no_answer, no-question}
use Rattle.states_step.proofs.Parts.{part-weight, part_type}
use Rattle.states_step.proofs.Arguments.{named-code, few-questions, low-weight, copies_of_lem, within-code}

-- the first position of a term is number 0
pub entry_zero : (M : Term) → (numbered M).code (entry M) ≡ 0
unfolding numbered entry single sum sum_code product product_code values
entry_zero skip = refl
entry_zero diverge = refl
entry_zero (const v) = refl
entry_zero (private i) = refl
entry_zero (name i o T args) = unfold numbered_name iso sum sum_code single entry in named-code i o T args start
entry_zero (fetch X) = entry_zero X
entry_zero (operate m o L R) = entry_zero L
entry_zero (assign m X E) = entry_zero E
entry_zero (seq C M) = entry_zero C
entry_zero (while B C) = entry_zero B
entry_zero (cond B M N) = entry_zero B
entry_zero (new m h C) = omega (arith, entry_zero C)

-- entering argument i of the arguments from j on, which is argument a of the name
module _ (t : List ℕ) (n : Context) (σ : Store n) (p : Question) where
  data Enters (node j i a : ℕ) (args : Args) : Type 0 where
    enters : (h : FitsAt (types args) i p) (x : PositionArgs args) (k : ℕ) → enter args n σ i p h ≡ to (σ, x) →
        i < count args → question_number (part_class t node a) (part_values t node a) (kind_q p) (value_q p) ≡ suc k →
        k < 65536 → part_weight t node a < 65536 →
        k * part_weight t node a + arg_spots t node j i ≡ (numbered_args args).code x → Enters node j i a args
    refuses : (FitsAt (types args) i p → ⊥) →
        (count args ≤ i) ⊎ ((i < count args)
        × (question_number (part_class t node a) (part_values t node a) (kind_q p) (value_q p) ≡ 0)) →
        Enters node j i a args

  entering : {K : Numbers} {rs : List ℕ} {left node j : ℕ} {args : Args} → RepArgs K t left node j rs n args →
      weight_args args < 65536 → j + count args < 65536 → (i a : ℕ) → a ≡ j + i → Enters node j i a args
  unfolding types FitsAt count weight_args enter map_next numbered_args sum sum_code product product_code arg_spots
  entering r_none b h i a e = refuses (λ f. f) (inl (omega arith))
  entering (r_arg {at = node} {j} {T = T} {M} {args} r rs) b h zero a e =
      cases (question-of (part_class t node j) (part_values t node j) T ty
      (few-questions t node j T M pw ty (omega arith)) p)
    where
      pw : part_weight t node j ≡ weight M
      pw = part-weight node j r

      ty : HasType (part_class t node j) (part_values t node j) T
      ty = part_type node j r

      same : a ≡ j
      same = omega arith

      cases : Asked (part_class t node j) (part_values t node j) T p → Enters node j 0 a (arg T M args)
      cases (asking f x) =
          enters f (inl ((p, f), entry M)) ((numbered_questions T).code (p, f)) refl (omega arith) (rw same x)
          (omega (arith, (numbered_questions T).bound (p, f), few-questions t node j T M pw ty (omega arith)))
          (rw (same, pw) (low-weight t node j T M pw ty (omega arith))) (rw (same, pw, entry_zero M) refl)
      cases (not-asking f x) = refuses f (inr (omega arith, rw same x))
  entering (r_arg {at = node} {j} {T = T} {M} {args} r rs) b h (suc i) a e =
      cases (entering rs (omega arith) (omega arith) i a (omega arith))
    where
      cases : Enters node (j + 1) i a args → Enters node j (suc i) a (arg T M args)
      cases (enters f x k g l d k₁ k₂ w) =
          enters f (inr x) k (rw g refl) (omega arith) d k₁ k₂
          (rw (
            copies_of_lem t node j T M (part-weight node j r) (part_type node j r) (omega arith),
            sum-small (questions T * weight M) (arg_spots t node (j + 1) i)
                (omega (arith, w, (numbered_args args).bound x, weight-args args)),
          ) (omega (arith, w)))
      cases (refuses f (inl x)) = refuses f (inl (omega arith))
      cases (refuses f (inr (x, y))) = refuses f (inr (omega arith, y))

-- no variable is written
pub written_none : (vs : Variables) (u : ℕ) → updated vs 0 u ≡ valued vs
unfolding updated valued
written_none [] u = refl
written_none (v ∷ vs) u =
    rw (ne_eqb 0 (suc v.0) (omega arith)) (ap (λ (l : List ℕ). v.1 ∷ l) (written_none vs u))

pub valued_held : (rs : List ℕ) (n : Context) (σ : Store n) → stored n σ ≡ valued (held rs n σ)
unfolding stored held valued
valued_held rs [] σ = refl
valued_held [] (m ∷ n) σ = ap (λ (l : List ℕ). σ.0.0 ∷ l) (valued_held [] n σ.1)
valued_held (r ∷ rs) (m ∷ n) σ = ap (λ (l : List ℕ). σ.0.0 ∷ l) (valued_held rs n σ.1)

pub unwritten : (rs : List ℕ) (n : Context) (σ : Store n) → stored n σ ≡ updated (held rs n σ) 0 0
unwritten rs n σ = valued_held rs n σ ∙ sym (written_none (held rs n σ) 0)

pub stuck : (b : Bool) → ◌≡◌ {A = Did} (pick b Stuck Stuck) Stuck
stuck true = refl
stuck false = refl

-- the kind of a move at a place is not that of none
pub kind-below : (i j : ℕ) (e : Event) → eqb (move_of (move (at i j) e)).kind 255 ≡ false
unfolding move_of kind_q kind_a
kind-below i j (question run) = refl
kind-below i j (question ask) = refl
kind-below i j (question read) = refl
kind-below i j (question (write v)) = refl
kind-below i j (answer done) = refl
kind-below i j (answer ok) = refl
kind-below i j (answer (value v)) = refl

-- where the arguments of a name begin, and where it waits after one of them
pub inner-of : (t : List ℕ) (node : ℕ) (o : Often) → name_spent t node ≡ onces o → inner_of t node ≡ 2 + onces o
unfolding inner_of
inner-of t node o e = rw e (sum-small 2 (onces o) (omega (arith, onces-below o)))

pub again-of : (t : List ℕ) (node : ℕ) (o : Often) → name_spent t node ≡ onces o → again_of t node ≡ 1 + onces o
unfolding again_of
again-of t node o e = rw e (sum-small 1 (onces o) (omega (arith, onces-below o)))

-- what is heard at a name
module _ (K : Numbers) (t : List ℕ) (left node i : ℕ) (rs : List ℕ) (n : Context) (o : Often) (T : Ty) (args : Args)
    (pi : name_id t node ≡ i) (pc : name_count t node ≡ count args) (ps : name_spent t node ≡ onces o)
    (ty : HasType (word t node 2) (word t node 3) T) (own : answers T < 1048576)
    (few : count args ≤ 4) (fits : use_weight o + weight_args args < 65536)
    (r : Rep K t (suc left) node rs n (name i o T args) T)
    (ra : RepArgs K t left node 0 rs n args) (q : Question) (σ : Store n) where
  abbrev Use : Term
  Use = name i o T args

  abbrev vs : Variables
  vs = held rs n σ

  dead-shows : (x : Next (State n Use) (ExitOf n)) (o : Did) → x ≡ dead → o ≡ Stuck → ShowsNext n Use vs x o
  unfolding ShowsNext
  dead-shows x o e d = rw (e, d) refl

  heard-answer : (a : Answer) (d : Dec (Answers T q a)) → ShowsNext n Use vs (when d (λ h. out (σ, a)))
      (pick (eqb (answer_number (word t node 2) (word t node 3) (kind_q q) (value_q q) (kind_a a) (value_a a)) 0) Stuck
      (Exit (kind_a a) (value_a a) 0 0))
  unfolding when ShowsNext
  heard-answer a d = cases d (answer-of (word t node 2) (word t node 3) T ty own q a)
    where
      cases : (d : Dec (Answers T q a)) → Answered (word t node 2) (word t node 3) T q a →
          ShowsNext n Use vs (when d (λ h. out (σ, a)))
          (pick (eqb (answer_number (word t node 2) (word t node 3) (kind_q q) (value_q q) (kind_a a) (value_a a)) 0) Stuck
          (Exit (kind_a a) (value_a a) 0 0))
      cases (yes x) (fitting h e) =
          rw (e, ne_eqb (suc ((numbered_answers T).code (q, a, h))) 0 (omega arith))
          (0, 0, refl, unwritten rs n σ)
      cases (yes x) (unfitting h e) = absurd (h x)
      cases (no x) (fitting h e) = absurd (x h)
      cases (no x) (unfitting h e) = rw e refl

  abbrev entered : (p : Question) (j : ℕ) → FitsAt (types args) j p → Next (State n Use) (ExitOf n)
  entered p j h = map_next (λ s. (s.0, within s.1)) (λ e. to (e.0, reply e.1)) (enter args n σ j p h)

  abbrev numbering : (p : Question) (j : ℕ) → Did
  numbering p j =
      pick (leb (count args) j) Stuck
      (pick (eqb (question_number (part_class t node j) (part_values t node j) (kind_q p) (value_q p)) 0) Stuck
      (Go (mul_add_of (question_number (part_class t node j) (part_values t node j) (kind_q p) (value_q p) - 1)
      (part_weight t node j) (sum_of (inner_of t node) (arg_spots t node 0 j))) 0 0))

  heard-question : (p : Question) (j : ℕ) (d : Dec (FitsAt (types args) j p)) →
      ShowsNext n Use vs (when d (entered p j)) (numbering p j)
  unfolding when ShowsNext map_next
  heard-question p j d = cases d (entering t n σ p ra (omega arith) (omega arith) j j (omega arith))
    where
      cases : (d : Dec (FitsAt (types args) j p)) → Enters t n σ p node 0 j j args →
          ShowsNext n Use vs (when d (entered p j)) (numbering p j)
      cases (yes y) (enters h x k g l e k₁ k₂ w) =
          let d : suc k - 1 ≡ k = omega arith in
          let b : (numbered_args args).code x < 65536 = omega (arith, (numbered_args args).bound x, weight-args args) in
          let f : mul_add_of k (part_weight t node j) (sum_of (inner_of t node) (arg_spots t node 0 j))
          ≡ (numbered Use).code (within x) =
          rw (
            inner-of t node o ps,
            sum-small (2 + onces o) (arg_spots t node 0 j) (omega (arith, w, onces-below o)),
            mul_add_small k (part_weight t node j) (2 + onces o + arg_spots t node 0 j) k₁ k₂
                (omega (arith, w, onces-below o)),
          )
          (omega (arith, w, within-code i o T args x)) in
          rw (FitsAt-prop (types args) j p y h, g, lt-leb (count args) j l, e, ne_eqb (suc k) 0 (omega arith), d)
          (0, 0, ap (λ (z : ℕ). Go z 0 0) f, unwritten rs n σ)
      cases (yes y) (refuses f x) = absurd (f y)
      cases (no y) (enters h x k g l e k₁ k₂ w) = absurd (y h)
      cases (no y) (refuses f (inl l)) = rw (le-leb (count args) j l) refl
      cases (no y) (refuses f (inr (l, e))) = rw (lt-leb (count args) j l, e) refl

  listen-shows : (i' j : ℕ) (e : Event) →
      ShowsNext n Use vs (edge_hear (calling i (types args) T q) (listen i o T args n q σ) (move (at i' j) e))
      (listen_of t node (kind_q q) (value_q q) (name_count t node) (move_of (move (at i' j) e)))
  unfolding edge_hear received hears? listen_of hear_answer hear_question move_of listen who when
  listen-shows i' zero (question p) =
      dead-shows _ _ (when-dead (ℕ_discrete i i'))
      (rw (no_answer (word t node 2) (word t node 3) (kind_q q) (value_q q) p) (stuck (eqb i' (name_id t node))))
  listen-shows i' zero (answer a) = cases (ℕ_discrete i i')
    where
      cases : (d : Dec (i ≡ i')) → ShowsNext n Use vs (when d (λ e. when (answers? T q a) (λ h. out (σ, a))))
          (pick (eqb i' (name_id t node))
          (pick (eqb (answer_number (word t node 2) (word t node 3) (kind_q q) (value_q q) (kind_a a) (value_a a)) 0) Stuck
          (Exit (kind_a a) (value_a a) 0 0)) Stuck)
      cases (yes e) = rw (eq-eqb i' (name_id t node) (sym e ∙ sym pi)) (heard-answer a (answers? T q a))
      cases (no e) = rw (ne_eqb i' (name_id t node) (λ x. e (sym (x ∙ pi)))) (dead-shows _ _ refl refl)
  listen-shows i' (suc j) (question p) = cases (ℕ_discrete i i')
    where
      less : suc j - 1 ≡ j
      less = omega arith

      cases : (d : Dec (i ≡ i')) → ShowsNext n Use vs (when d (λ e. when (fits-at? (types args) j p) (entered p j)))
          (listen_of t node (kind_q q) (value_q q) (name_count t node) (move_of (move (at i' (suc j)) (question p))))
      cases (yes e) =
          rw (eq-eqb i' (name_id t node) (sym e ∙ sym pi), ne_eqb (suc j) 0 (omega arith), less, pc)
          (heard-question p j (fits-at? (types args) j p))
      cases (no e) = rw (ne_eqb i' (name_id t node) (λ x. e (sym (x ∙ pi)))) (dead-shows _ _ refl refl)
  listen-shows i' (suc j) (answer a) =
      dead-shows _ _ refl
      (rw (
        ne_eqb (suc j) 0 (omega arith),
        no-question (part_class t node (suc j - 1)) (part_values t node (suc j - 1)) a,
        stuck (leb (name_count t node) (suc j - 1)),
      ) (stuck (eqb i' (name_id t node))))

  awaited : (Ts : List Ty) (c : ℕ) → Takes args Ts c → Awaits K t (calling i Ts T q) node (kind_q q) (value_q q) c
  awaited Ts c h = record {
    left = suc left;
    rows = rs;
    within = n;
    id = i;
    often = o;
    result = T;
    args = args;
    part = r;
    asked = q;
    asks = Ts;
    takes = h;
    listens = refl;
    kinded = refl;
    valued = refl;
  }

  pub hears : (m : Record) → GivenMove m →
      ShowsHeard K t n Use vs m (calling i (types args) T q) (listen i o T args n q σ)
      (at_wait t node (kind_q q) (value_q q) (name_count t node) m)
  unfolding at_wait
  hears m (inl e) =
      rw (eq-eqb m.kind 255 e, pc)
      (waits {node = node} {q = kind_q q} {x = value_q q} {c = count args} e
      (awaited (types args) (count args) takes_all) refl)
  hears m (inr (i', j, ev, e)) =
      subst (λ (m : Record). ShowsHeard K t n Use vs m (calling i (types args) T q) (listen i o T args n q σ)
      (pick (eqb m.kind 255) (Hear node (kind_q q) (value_q q) (name_count t node))
      (listen_of t node (kind_q q) (value_q q) (name_count t node) m)))
      (sym e)
      (leads i' j ev refl (rw (kind-below i' j ev) (listen-shows i' j ev)))

  -- at the second wait only answers are heard
  close-shows : (i' j : ℕ) (e : Event) →
      ShowsNext n Use vs (edge_hear (calling i [] T q) (closing i T n q σ) (move (at i' j) e))
      (listen_of t node (kind_q q) (value_q q) 0 (move_of (move (at i' j) e)))
  unfolding edge_hear received hears? fits-at? listen_of hear_answer hear_question move_of closing who when
  close-shows i' zero (question p) =
      dead-shows _ _ (when-dead (ℕ_discrete i i'))
      (rw (no_answer (word t node 2) (word t node 3) (kind_q q) (value_q q) p) (stuck (eqb i' (name_id t node))))
  close-shows i' zero (answer a) = cases (ℕ_discrete i i')
    where
      cases : (d : Dec (i ≡ i')) → ShowsNext n Use vs (when d (λ e. when (answers? T q a) (λ h. out (σ, a))))
          (pick (eqb i' (name_id t node))
          (pick (eqb (answer_number (word t node 2) (word t node 3) (kind_q q) (value_q q) (kind_a a) (value_a a)) 0) Stuck
          (Exit (kind_a a) (value_a a) 0 0)) Stuck)
      cases (yes e) = rw (eq-eqb i' (name_id t node) (sym e ∙ sym pi)) (heard-answer a (answers? T q a))
      cases (no e) = rw (ne_eqb i' (name_id t node) (λ x. e (sym (x ∙ pi)))) (dead-shows _ _ refl refl)
  close-shows i' (suc j) (question p) =
      dead-shows _ _ (when-dead (ℕ_discrete i i'))
      (rw (ne_eqb (suc j) 0 (omega arith), le-leb 0 (suc j - 1) (omega arith)) (stuck (eqb i' (name_id t node))))
  close-shows i' (suc j) (answer a) =
      dead-shows _ _ refl
      (rw (ne_eqb (suc j) 0 (omega arith), le-leb 0 (suc j - 1) (omega arith)) (stuck (eqb i' (name_id t node))))

  closing-hears : (m : Record) → GivenMove m →
      ShowsHeard K t n Use vs m (calling i [] T q) (closing i T n q σ) (at_wait t node (kind_q q) (value_q q) 0 m)
  unfolding at_wait
  closing-hears m (inl e) =
      rw (eq-eqb m.kind 255 e)
      (waits {node = node} {q = kind_q q} {x = value_q q} {c = 0} e (awaited [] 0 takes_none) refl)
  closing-hears m (inr (i', j, ev, e)) =
      subst (λ (m : Record). ShowsHeard K t n Use vs m (calling i [] T q) (closing i T n q σ)
      (pick (eqb m.kind 255) (Hear node (kind_q q) (value_q q) 0) (listen_of t node (kind_q q) (value_q q) 0 m)))
      (sym e)
      (leads i' j ev refl (rw (kind-below i' j ev) (close-shows i' j ev)))

-- the second wait
pub spent-shows : (K : Numbers) (t : List ℕ) (left node i : ℕ) (rs : List ℕ) (n : Context) (o : Often) (T : Ty)
    (args : Args) → name_id t node ≡ i → name_count t node ≡ count args → name_spent t node ≡ onces o →
    HasType (word t node 2) (word t node 3) T → answers T < 1048576 → count args ≤ 4 →
    use_weight o + weight_args args < 65536 → Rep K t (suc left) node rs n (name i o T args) T →
    RepArgs K t left node 0 rs n args → (q : Question) (σ : Store n) (m : Record) → GivenMove m →
    Shows K t n (name i o T args) (held rs n σ) m (closes i T args n q σ) (at_spent t node (kind_q q) (value_q q) m)
unfolding Shows ShowsNext closes at_spent count
spent-shows K t left node i rs n o T no_args pi pc ps ty own few fits r ra q σ m gv = rw (pc) refl
spent-shows K t left node i rs n o T (arg A M args) pi pc ps ty own few fits r ra q σ m gv =
    rw (pc, ne_eqb (suc (count args)) 0 (omega arith))
    (closing-hears K t left node i rs n o T (arg A M args) pi pc ps ty own few fits r ra q σ m gv)
