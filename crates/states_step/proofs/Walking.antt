-- One level of the walk, and the walk at a name.
use mathlib.Core.Path.{◌≡◌, refl, sym, ◌∙◌, ap, ap₂, subst}
use mathlib.Core.List.{List}
use Prim.Native.Nat.{ℕ, suc, ◌+◌, ◌*◌, ◌-◌, ◌≤◌, ◌<◌}
use native.Mathlib.Omega.{arith}
use lib.Dec.{eqb}
use mathlib.Core.Bool.{false}
use borrow.Author.Tests.{lt-ltb, le-ltb, ne_eqb}
use Rattle.language.specs.Ty.{Ty, Question}
use Rattle.language.specs.Move.{question, answer, at, move}
use Rattle.language.specs.Term.{Often, freely, once, onces, Args, name}
use Rattle.language.specs.Weight.{use_weight, weight_args}
use Rattle.language.proofs.AskOnceLaws.{onces-below}
use Rattle.language.specs.declared.Numbers.{Numbers}
use Rattle.states_machine.specs.Action.{to, calling, Action, say, hear}
use Rattle.states_machine.specs.Position.{Context, Store, Reply, types, Spent, start, wait, spent, within, reply, Position}
use Rattle.states_machine.specs.Position.{PositionArgs, State, Exit as ExitOf}
use Rattle.states_machine.specs.Numbered.{single, iso, sum, sum_code}
use Rattle.states_machine.specs.Numbering.{numbered_replies, numbered_name, positions, weight-args, numbered}
use Rattle.states_machine.specs.Numbering.{numbered_args}
use Rattle.states_machine.specs.Step.{listen, again, closes, step, step_args}
use Rattle.sheet_rows.specs.Row.{word}
use Rattle.sheet_rows.specs.Rep.{count, RepArgs}
use Rattle.states_positions.specs.declared.Move.{Move as Record}
use Rattle.states_positions.specs.declared.Frame.{Frame}
use Rattle.states_positions.specs.declared.Out.{Out as Did}
use Rattle.states_positions.specs.declared.Out.TheVariants.{Go, Say}
use Rattle.states_positions.specs.declared.Spot.TheVariants.{Here, Inside}
use Rattle.states_positions.specs.Row.{name_id, name_count, name_spent, sum_of, mul_add_of}
use Rattle.states_step.specs.walk.Store.{with_value, store_in}
use Rattle.states_names.specs.Name.{framed_of, inner_of, said_of, arg_spots, reply_of, in_args, at_wait}
use Rattle.states_names.specs.Name.{at_spent, in_name}
use Rattle.states_step.specs.walk.Down.{operate_in, assign_in, in_private, down_as, down_of}
use Rattle.states_rise.specs.Up.{rise_of}
use Rattle.states_step.specs.walk.Step.{on_spot, step_at}
use Rattle.states_step.specs.walk.Shows.{kind_q, value_q, kind_a, value_a, move_of, held, ShowsSaid, ShowsHeard}
use Rattle.states_step.specs.walk.Shows.{Shows}
use Rattle.states_step.proofs.Sums.{sum-small, quotient, remainder}
use Rattle.states_step.proofs.Arguments.{named-code, spent-code, again-code, spots-of, reply-of, within-code}
use Rattle.states_step.proofs.Arguments.{reply-code, whole, ArgFound}
use Rattle.states_step.proofs.Hearing.{valued_held, inner-of, again-of}

-- the position is here
pub walk_here : (K : Numbers) (t : List ℕ) (left node q x k : ℕ) (s : ℕ → ℕ) (m : Record) {o : Did} →
    down_of t node q x k s m ≡ Here o → step_at t K (suc left) node q x k s m ≡ o
unfolding step_at on_spot
walk_here K t left node q x k s m e = rw e refl

-- the position is in a part with the same variables
pub walk-in : (K : Numbers) (t : List ℕ) (left node q x k : ℕ) (s : ℕ → ℕ) (m : Record)
    {part kind value inner : ℕ} {F : Frame} → down_of t node q x k s m ≡ Inside part kind value inner F →
    eqb F.role 7 ≡ false →
    step_at t K (suc left) node q x k s m ≡ rise_of K F (step_at t K left part kind value inner s m)
unfolding step_at on_spot store_in
walk-in K t left node q x k s m e role = rw e (simp role)

-- the position is in a block
pub walk-new : (K : Numbers) (t : List ℕ) (left node q x k : ℕ) (s : ℕ → ℕ) (m : Record)
    {part kind value inner : ℕ} (base a b c d : ℕ) →
    down_of t node q x k s m ≡ Inside part kind value inner (framed_of 7 base a b c d) →
    step_at t K (suc left) node q x k s m
    ≡ rise_of K (framed_of 7 base a b c d) (step_at t K left part kind value inner (with_value s a c) m)
unfolding step_at on_spot store_in
walk-new K t left node q x k s m base a b c d e = rw e refl

-- in the copy for x of an assigned variable and of a right operand
pub assign-right : (var e w v m x c : ℕ) → c < v →
    assign_in var e w v m (w + (x * v + c)) ≡ Inside var 6 x c (framed_of 5 (mul_add_of x v w) 0 0 0 0)
unfolding assign_in
assign-right var e w v m x c h =
    let d : w + (x * v + c) - w ≡ x * v + c = omega arith in
    rw (
      le-ltb (w + (x * v + c)) w (omega arith),
      ne_eqb v 0 (omega arith),
      d,
      quotient x v c h,
      remainder x v c h,
    ) refl

pub operate-right : (l r w v o m x c : ℕ) → c < v →
    operate_in l r w v o m (w + (x * v + c)) ≡ Inside r 2 0 c (framed_of 4 (mul_add_of x v w) x o m 0)
unfolding operate_in
operate-right l r w v o m x c h =
    let d : w + (x * v + c) - w ≡ x * v + c = omega arith in
    rw (
      le-ltb (w + (x * v + c)) w (omega arith),
      ne_eqb v 0 (omega arith),
      d,
      quotient x v c h,
      remainder x v c h,
    ) refl

-- the first step of a private variable
pub private-go : (t : List ℕ) (node q x : ℕ) (s : ℕ → ℕ) (m : Record) → word t node 0 ≡ 128 →
    down_of t node q x 0 s m ≡ Here (Go 1 0 0)
unfolding down_as in_private
private-go t node q x s m kd = rw kd refl

-- names
module _ (K : Numbers) (t : List ℕ) (left node i : ℕ) (rs : List ℕ) (n : Context) (o : Often) (T : Ty) (args : Args)
    (kd : word t node 0 ≡ 20) (pi : name_id t node ≡ i) (pc : name_count t node ≡ count args)
    (ps : name_spent t node ≡ onces o) (few : count args ≤ 4) (fits : use_weight o + weight_args args < 65536)
    (ra : RepArgs K t left node 0 rs n args) (q : Question) (σ : Store n) (s : ℕ → ℕ) (m : Record) where
  all : arg_spots t node 0 (count args) ≡ positions args
  all = spots-of ra (omega arith) (omega arith)

  first : inner_of t node ≡ 2 + onces o
  first = inner-of t node o ps

  after : sum_of (2 + onces o) (positions args) ≡ 2 + onces o + positions args
  after = sum-small (2 + onces o) (positions args) (omega (arith, weight-args args, onces-below o))

  at-args : (k : ℕ) → k < positions args →
      down_of t node (kind_q q) (value_q q) (2 + onces o + k) s m
      ≡ in_args t node 0 (count args) k (2 + onces o) (2 + onces o + positions args)
  unfolding down_as in_name
  at-args k h =
      let d : 2 + onces o + k - (2 + onces o) ≡ k = omega arith in
      rw (
        kd,
        ne_eqb (2 + onces o + k) 0 (omega arith),
        ne_eqb (2 + onces o + k) 1 (omega arith),
        first,
        le-ltb (2 + onces o + k) (2 + onces o) (omega arith),
        pc,
        all,
        d,
        lt-ltb k (positions args) h,
        after,
      ) refl

  at-replies : (k : ℕ) →
      down_of t node (kind_q q) (value_q q) (2 + onces o + positions args + k) s m
      ≡ Here (reply_of t i node 0 (count args) k (1 + onces o))
  unfolding down_as in_name
  at-replies k =
      let d : 2 + onces o + positions args + k - (2 + onces o) ≡ positions args + k = omega arith in
      let d' : positions args + k - positions args ≡ k = omega arith in
      rw (
        kd,
        ne_eqb (2 + onces o + positions args + k) 0 (omega arith),
        ne_eqb (2 + onces o + positions args + k) 1 (omega arith),
        first,
        le-ltb (2 + onces o + positions args + k) (2 + onces o) (omega arith),
        pi,
        pc,
        all,
        d,
        le-ltb (positions args + k) (positions args) (omega arith),
        d',
        again-of t node o ps,
      ) refl

  abbrev Goal : Position (name i o T args) → Action (State n (name i o T args)) (ExitOf n) → Type 0
  Goal p y = Shows K t n (name i o T args) (held rs n σ) m y
      (step_at t K (suc left) node (kind_q q) (value_q q) ((numbered (name i o T args)).code p) s m)

  move-to : (p : Position (name i o T args)) (y : Action (State n (name i o T args)) (ExitOf n)) (k : ℕ) →
      k ≡ (numbered (name i o T args)).code p →
      Shows K t n (name i o T args) (held rs n σ) m y (step_at t K (suc left) node (kind_q q) (value_q q) k s m) →
      Goal p y
  move-to p y k e x =
      subst (λ (j : ℕ). Shows K t n (name i o T args) (held rs n σ) m y
      (step_at t K (suc left) node (kind_q q) (value_q q) j s m)) e x

  start-code : 0 ≡ (numbered (name i o T args)).code start
  unfolding numbered_name iso sum sum_code single
  start-code = sym (named-code i o T args start)

  wait-code : 1 ≡ (numbered (name i o T args)).code wait
  unfolding numbered_name iso sum sum_code single
  wait-code = sym (named-code i o T args wait)

  pub name-start : Goal start (say (move (at i 0) (question q)) (to (σ, wait)))
  unfolding down_as in_name Shows ShowsSaid move_of
  name-start =
      move-to start (say (move (at i 0) (question q)) (to (σ, wait))) 0 start-code
      (rw (walk_here K t left node (kind_q q) (value_q q) 0 s m {o = said_of (kind_q q) i 0 (value_q q) 1}
      (rw (kd, pi) refl)) (
        ap (λ (j : ℕ). Say (record { kind = kind_q q; id = i; arg = 0; value = value_q q }) j) wait-code,
        valued_held
            rs n σ,
      ))

  pub name-wait :
      ShowsHeard K t n (name i o T args) (held rs n σ) m (calling i (types args) T q) (listen i o T args n q σ)
      (at_wait t node (kind_q q) (value_q q) (name_count t node) m) →
      Goal wait (hear (calling i (types args) T q) (listen i o T args n q σ))
  unfolding down_as in_name Shows
  name-wait x =
      move-to wait (hear (calling i (types args) T q) (listen i o T args n q σ)) 1 wait-code
      (rw (walk_here K t left node (kind_q q) (value_q q) 1 s m
      {o = at_wait t node (kind_q q) (value_q q) (name_count t node) m} (rw kd refl)) x)

  pub name-reply : (r : Reply (types args)) →
      Goal (reply r) (say (move (at i (suc r.0)) (answer r.2)) (to (σ, again o)))
  unfolding Shows ShowsSaid move_of
  name-reply r =
      move-to (reply r) (say (move (at i (suc r.0)) (answer r.2)) (to (σ, again o)))
      (2 + onces o + positions args + (numbered_replies (types args)).code r) (reply-code i o T args r)
      (rw (walk_here K t left node (kind_q q) (value_q q)
      (2 + onces o + positions args + (numbered_replies (types args)).code r) s
      m {o = said_of (kind_a r.2) i (suc (0 + r.0)) (value_a r.2) (1 + onces o)}
      (at-replies ((numbered_replies (types args)).code r)
      ∙ ap (λ (d : Did). Here d) (reply-of ra (omega arith) (omega arith) i r (1 + onces o)))) (
        ap₂ (λ (a k : ℕ). Say (record {
          kind =
              kind_a r.2;
          id = i;
          arg = a;
          value = value_a r.2;
        }) k) (omega arith)
            (again-code i o T args),
        valued_held rs n σ,
      ))

  pub name-within : (p : PositionArgs args) →
      ArgFound K t left node 0 (2 + onces o) (2 + onces o + positions args) rs n args σ s m p →
      Goal (within p) (step (name i o T args) n q σ (within p))
  unfolding step
  name-within p x =
      move-to (within p) (step (name i o T args) n q σ (within p)) (2 + onces o + (numbered_args args).code p)
      (within-code i o T args p)
      (rw (walk-in K t left node (kind_q q) (value_q q) (2 + onces o + (numbered_args args).code p) s m {part = x.part}
      {kind = x.kind} {value = x.value} {inner = x.inner} {F = x.frame}
      (at-args ((numbered_args args).code p) ((numbered_args args).bound p) ∙ x.down) x.plain)
      (whole K t m n i o T args (held rs n σ) (step_args args n σ p) _ x.shows))

-- the second wait of a name that asks once
pub name-spent : (K : Numbers) (t : List ℕ) (left node i : ℕ) (rs : List ℕ) (n : Context) (o : Often) (T : Ty)
    (args : Args) → word t node 0 ≡ 20 → name_spent t node ≡ onces o → (q : Question) (σ : Store n) (s : ℕ → ℕ)
    (m : Record) (x : Spent o) →
    Shows K t n (name i o T args) (held rs n σ) m (closes i T args n q σ) (at_spent t node (kind_q q) (value_q q) m) →
    Shows K t n (name i o T args) (held rs n σ) m (closes i T args n q σ)
    (step_at t K (suc left) node (kind_q q) (value_q q) ((numbered (name i o T args)).code (spent x)) s m)
unfolding down_as in_name onces
name-spent K t left node i rs n freely T args kd ps q σ s m x h = absurd x
name-spent K t left node i rs n once T args kd ps q σ s m tt h =
    subst (λ (j : ℕ). Shows K t n (name i once T args) (held rs n σ) m (closes i T args n q σ)
    (step_at t K (suc left) node (kind_q q) (value_q q) j s m)) (spent-code i T args)
    (rw (walk_here K t left node (kind_q q) (value_q q) 2 s m {o = at_spent t node (kind_q q) (value_q q) m}
    (rw (kd, inner-of t node once ps) refl)) h)
