-- The machine of a term: what each state does.
use Rattle.std.specs.Prelude.{◌⊎◌, List, [], ◌∷◌, ℕ, zero, suc, Option, None, Some}
use Rattle.std.proofs.Math.Logic.{inl, inr}
use Rattle.std.proofs.Math.Decide.{dec_lt}
use Rattle.language.specs.Ty.{Ty, Question, run, ask, read, write, Answer, done, ok, value}
use Rattle.language.specs.Move.{question, answer, at, move}
use Rattle.language.specs.Term.{Term, skip, diverge, const, private, name, fetch, operate, assign, seq}
use Rattle.language.specs.Term.{while, cond, new, Often, freely, once, Args, no_args, arg, apply}
use Rattle.language.specs.Play.{Val}
use Rattle.states_machine.specs.Action.{Next, to, out, dead, Heard, asked, answered, opened, calling, FitsAt}
use Rattle.states_machine.specs.Action.{AnswersAt, Hears, Action, go, say, hear, map_next, map_action}
use Rattle.states_machine.specs.Decide.{when, answers?}
use Rattle.states_machine.specs.Position.{Context, Store, types, Spent, AtName, start, wait, spent, within, reply}
use Rattle.states_machine.specs.Position.{Position, PositionArgs, entry, State, Exit, StateArgs, ExitArgs}

-- a state of the first part, seen in the whole
abbrev pub left : {D X Y : Type 0} → D × X → D × (X ⊎ Y)
left s = (s.0, inl s.1)

-- a state of the second part
abbrev pub right : {D X Y : Type 0} → D × Y → D × (X ⊎ Y)
right s = (s.0, inr s.1)

-- a state of the second part's copy for x
abbrev pub copy : {D X Y Z : Type 0} → Z → D × Y → D × (X ⊎ (Z × Y))
copy x s = (s.0, inr (x, s.1))

-- Go on after the right answer; any other answer leads nowhere.
module _ {S A : Type 0} where
  -- a command's answer
  unfoldable pub on_done : Answer → Next S A → Next S A
  on_done done x = x
  on_done ok x = dead
  on_done (value v) x = dead

  -- a written variable's answer
  unfoldable pub on_ok : Answer → Next S A → Next S A
  on_ok done x = dead
  on_ok ok x = x
  on_ok (value v) x = dead

  -- one of the m values of the data
  unfoldable pub on_value : (m : ℕ) → Answer → (Val m → Next S A) → Next S A
  on_value m done x = dead
  on_value m ok x = dead
  on_value m (value v) x = when (dec_lt v m) (λ h. x (v, h))

  -- a truth: x where it is true, y where it is false
  unfoldable pub on_truth : Answer → Next S A → Next S A → Next S A
  on_truth done x y = dead
  on_truth ok x y = dead
  on_truth (value zero) x y = y
  on_truth (value (suc zero)) x y = x
  on_truth (value (suc (suc v))) x y = dead

  -- the result of an operator
  unfoldable pub on_some : Option ℕ → (ℕ → Next S A) → Next S A
  on_some None x = dead
  on_some (Some v) x = x v

  -- a question to a variable of m values that holds v: the value it holds then, and the answer
  unfoldable pub ask_variable : (m : ℕ) → Val m → Question → (Val m → Answer → Next S A) → Next S A
  ask_variable m v run k = dead
  ask_variable m v ask k = dead
  ask_variable m v read k = k v (value v.0)
  ask_variable m v (write x) k = when (dec_lt x m) (λ h. k (x, h) ok)

  -- a question to the variable of the enclosing block i
  unfoldable pub access : (n : Context) → ℕ → Store n → Question → (Store n → Answer → Next S A) → Next S A
  access [] i σ q k = dead
  access (m ∷ n) zero σ q k = ask_variable m σ.0 q (λ v. k (v, σ.1))
  access (m ∷ n) (suc i) σ q k = access n i σ.1 q (λ τ. k (σ.0, τ))

-- a reply of the arguments after the first
abbrev pub later : (n : Context) (T : Ty) (Ts : List Ty) → ExitArgs n Ts → ExitArgs n (T ∷ Ts)
unfolding AnswersAt
later n T Ts e = (e.0, (suc e.1.0, e.1.1, e.1.2, e.1.3))

-- into argument j, with the question q
unfoldable pub enter : (args : Args) (n : Context) → Store n → (j : ℕ) (q : Question) → FitsAt (types args) j q →
    Next (StateArgs n args) (ExitArgs n (types args))
unfolding types FitsAt AnswersAt
enter no_args n σ j q f = dead
enter (arg T M args) n σ zero q f = to (σ, inl ((q, f), entry M))
enter (arg T M args) n σ (suc j) q f = map_next right (λ e. out (later n T (types args) e)) (enter args n σ j q f)

-- a state of an argument, at the name
abbrev pub inside : {D S X Y : Type 0} → D × X → D × AtName S X Y
inside s = (s.0, within s.1)

-- an argument's reply, at the name
abbrev pub replying : {D S X Y : Type 0} → D × Y → D × AtName S X Y
replying e = (e.0, reply e.1)

-- what follows each move of the name i, asked q
unfoldable pub listen : (i : ℕ) (o : Often) (T : Ty) (args : Args) (n : Context) (q : Question) → Store n →
    (r : Heard) → Hears (calling i (types args) T q) r → Next (State n (name i o T args)) (Exit n)
unfolding Hears
listen i o T args n q σ (asked j p) h = map_next inside (λ e. to (replying e)) (enter args n σ j p h)
listen i o T args n q σ (answered a) h = out (σ, a)
listen i o T args n q σ (opened p) h = absurd h

-- where the name waits after an argument's answer
unfoldable pub again : (o : Often) {X Y : Type 0} → AtName (Spent o) X Y
again freely = wait
again once = spent tt

-- what follows each move of the name i, asked q, that may put no more questions: its answers
unfoldable pub closing : {S : Type 0} (i : ℕ) (T : Ty) (n : Context) (q : Question) → Store n → (r : Heard) →
    Hears (calling i [] T q) r → Next S (Exit n)
unfolding Hears FitsAt
closing i T n q σ (asked j p) h = absurd h
closing i T n q σ (answered a) h = out (σ, a)
closing i T n q σ (opened p) h = absurd h

-- the wait for the answer alone: a name without arguments never comes there
unfoldable pub closes : {S : Type 0} (i : ℕ) (T : Ty) (args : Args) (n : Context) (q : Question) → Store n →
    Action S (Exit n)
closes i T no_args n q σ = go dead
closes i T (arg A M args) n q σ = hear (calling i [] T q) (closing i T n q σ)

-- what a term that has been asked q does at a position
unfoldable mutual
  unfolding types AnswersAt

  pub step : (M : Term) (n : Context) → Question → Store n → Position M → Action (State n M) (Exit n)
  step skip n q σ p = go (out (σ, done))
  step diverge n q σ p = go dead
  step (const v) n q σ p = go (out (σ, value v))
  step (private i) n q σ (inl p) = go (to (σ, inr tt))
  step (private i) n q σ (inr p) = go (access n i σ q (λ τ a. out (τ, a)))
  step (name i o T args) n q σ start = say (move (at i 0) (question q)) (to (σ, wait))
  step (name i o T args) n q σ wait = hear (calling i (types args) T q) (listen i o T args n q σ)
  step (name i o T args) n q σ (spent s) = closes i T args n q σ
  step (name i o T args) n q σ (within p) = map_action inside (λ e. to (replying e)) (step_args args n σ p)
  step (name i o T args) n q σ (reply r) = say (move (at i (suc r.0)) (answer r.2)) (to (σ, again o))
  step (fetch X) n q σ p = step X n read σ p
  step (operate m o L R) n q σ (inl p) =
      map_action left (λ e. on_value m e.1 (λ x. to (e.0, inr (x, entry R)))) (step L n ask σ p)
  step (operate m o L R) n q σ (inr p) =
      map_action (copy p.0)
      (λ e. on_value m e.1 (λ y. on_some (apply o p.0.0 y.0) (λ z. out (e.0, value z))))
      (step R n ask σ p.1)
  step (assign m X E) n q σ (inl p) =
      map_action left (λ e. on_value m e.1 (λ x. to (e.0, inr (x, entry X)))) (step E n ask σ p)
  step (assign m X E) n q σ (inr p) =
      map_action (copy p.0) (λ e. on_ok e.1 (out (e.0, done))) (step X n (write p.0.0) σ p.1)
  step (seq C M) n q σ (inl p) = map_action left (λ e. on_done e.1 (to (e.0, inr (entry M)))) (step C n run σ p)
  step (seq C M) n q σ (inr p) = map_action right (λ e. out e) (step M n q σ p)
  step (while B C) n q σ (inl p) =
      map_action left (λ e. on_truth e.1 (to (e.0, inr (entry C))) (out (e.0, done))) (step B n ask σ p)
  step (while B C) n q σ (inr p) = map_action right (λ e. on_done e.1 (to (e.0, inl (entry B)))) (step C n run σ p)
  step (cond B M N) n q σ (inl p) =
      map_action left (λ e. on_truth e.1 (to (e.0, inr (inl (entry M)))) (to (e.0, inr (inr (entry N)))))
      (step B n ask σ p)
  step (cond B M N) n q σ (inr (inl p)) = map_action (λ s. right (left s)) (λ e. out e) (step M n q σ p)
  step (cond B M N) n q σ (inr (inr p)) = map_action (λ s. right (right s)) (λ e. out e) (step N n q σ p)
  step (new m h C) n q σ p =
      map_action (λ s. (s.0.1, (s.0.0, s.1))) (λ e. out (e.0.1, e.1)) (step C (m ∷ n) q (p.0, σ) p.1)

  -- and its arguments: an argument exits with an answer to the question that it was asked
  pub step_args : (args : Args) (n : Context) → Store n → PositionArgs args →
      Action (StateArgs n args) (ExitArgs n (types args))
  step_args no_args n σ p = go dead
  step_args (arg T M args) n σ (inl p) =
      map_action (λ s. (s.0, inl (p.0, s.1)))
      (λ e. when (answers? T p.0.0 e.1) (λ h. out (e.0, (0, p.0.0, e.1, h))))
      (step M n p.0.0 σ p.1)
  step_args (arg T M args) n σ (inr p) = map_action right (λ e. out (later n T (types args) e)) (step_args args n σ p)
