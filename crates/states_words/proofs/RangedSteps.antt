-- Where a term and its type are in range, every move that a state of its machine says has a letter, and whom a state
-- waits for is in range.
use mathlib.Core.Logic.{inl, inr}
use mathlib.Core.List.{List, [], ◌∷◌}
use Prim.Native.Nat.{ℕ, zero, suc, ◌+◌, ◌≤◌, ◌<◌}
use native.Mathlib.Omega.{arith}
use lib.ListN.{length}
use Rattle.language.specs.declared.Numbers.{Numbers}
use Rattle.language.specs.Ty.{Ty, Question, run, ask, read, write, Answer, Fits, fits_run, fits_ask, fits_read}
use Rattle.language.specs.Ty.{fits_write, Answers, to_run, to_ask, to_read, to_write}
use Rattle.language.specs.Move.{question, answer, value_of}
use Rattle.language.specs.Term.{Term, skip, diverge, const, private, name, fetch, operate, assign, seq, while, cond}
use Rattle.language.specs.Term.{new, Args, no_args, arg}
use Rattle.language.specs.Typing.{Typed, a_skip, a_diverge, a_const, a_private, a_name, a_fetch, an_operate}
use Rattle.language.specs.Typing.{an_assign, a_seq, a_while, a_cond, a_new, TypedArgs, no_more, one_more}
use Rattle.states_words.specs.Letter.{Values, Small}
use Rattle.states_machine.specs.Action.{Next, AnswersAt, Action, go, say, hear, map_action}
use Rattle.states_machine.specs.Position.{Store, types, Position, PositionArgs}
use Rattle.states_machine.specs.Position as position
use Rattle.states_machine.specs.Range.{TyIn, InRange, InRangeArgs}
use Rattle.states_machine.specs.Settle.{Index}
use Rattle.states_machine.specs.Sheet.{Spot, start, within, reply, spots, sheet, numbered_spots, numbered_step, steps}
use Rattle.states_machine.specs.Step.{closes, step, step_args}
use Rattle.states_words.specs.inner.Ranged.{AllIn, ListenIn, ActionIn}

module _ (N : Numbers) where
  -- the values of a question and of an answer of a type in range
  question-in : {T : Ty} {q : Question} → TyIn N T → Fits T q → Values N (value_of (question q))
  unfolding TyIn Values value_of
  question-in b fits_run = tt
  question-in b fits_ask = tt
  question-in b fits_read = tt
  question-in b (fits_write h) = omega (arith, b.1)

  answer-in : {T : Ty} {q : Question} {a : Answer} → TyIn N T → Answers T q a → Values N (value_of (answer a))
  unfolding TyIn Values value_of
  answer-in b to_run = tt
  answer-in b (to_ask h) = omega (arith, b.1)
  answer-in b (to_read h) = omega (arith, b.1)
  answer-in b (to_write h) = tt

  -- arguments in range: at most four, of types in range
  few-args : (args : Args) (j : ℕ) → InRangeArgs N args j → j ≤ 4 → j + length (types args) ≤ 4
  unfolding InRangeArgs types
  few-args no_args j h l = omega arith
  few-args (arg T M args) j h l = omega (arith, few-args args (suc j) h.3 (omega (arith, h.0)))

  types-in : (args : Args) (j : ℕ) → InRangeArgs N args j → AllIn N (types args)
  unfolding InRangeArgs types AllIn
  types-in no_args j h = tt
  types-in (arg T M args) j h = (h.1, types-in args (suc j) h.3)

  -- a reply of an argument
  reply-in : (Ts : List Ty) → AllIn N Ts → (j : ℕ) (q : Question) (a : Answer) → AnswersAt Ts j q a →
      (j < length Ts) × Values N (value_of (answer a))
  unfolding AllIn AnswersAt
  reply-in [] h j q a x = absurd x
  reply-in (T ∷ Ts) h zero q a x = (omega arith, answer-in h.0 x)
  reply-in (T ∷ Ts) h (suc j) q a x =
      let r = reply-in Ts h.1 j q a x in
      (omega (arith, r.0), r.1)

  -- a part's action, seen in the whole
  map-in : {S B S' B' : Type 0} (f : S → S') (h : B → Next S' B') (y : Action S B) → ActionIn N y →
      ActionIn N (map_action f h y)
  unfolding ActionIn map_action
  map-in f h (go x) r = r
  map-in f h (say m x) r = r
  map-in f h (hear l k) r = r

  -- a name that may put no more questions
  close-in : (S : Type 0) (i : ℕ) (T : Ty) (args : Args) (n : List ℕ) (q : Question) (σ : Store n) → i < 256 →
      TyIn N T → ActionIn N (closes {S = S} i T args n q σ)
  unfolding ActionIn ListenIn AllIn closes
  close-in S i T no_args n q σ h b = tt
  close-in S i T (arg A M args) n q σ h b = (h, omega arith, tt, b)

  -- the actions of a term that has been asked a question of its type
  mutual
    unfolding step InRange ActionIn ListenIn Small

    step_in : (M : Term) {n : List ℕ} {T : Ty} → Typed n M T → InRange N M → (q : Question) → Fits T q →
        (σ : Store n) (p : Position M) → ActionIn N (step M n q σ p)
    step_in skip a_skip r q f σ p = tt
    step_in diverge a_diverge r q f σ p = tt
    step_in (const v) (a_const h) r q f σ p = tt
    step_in (private i) (a_private h) r q f σ (inl p) = tt
    step_in (private i) (a_private h) r q f σ (inr p) = tt
    step_in (name i o T args) (a_name h) r q f σ position.start = (r.0, omega arith, question-in r.1 f)
    step_in (name i o T args) (a_name h) r q f σ position.wait =
        (r.0, omega (arith, few-args args 0 r.2 (omega arith)), types-in args 0 r.2, r.1)
    step_in (name i o T args) (a_name h) r q f σ (position.spent s) = close-in _ i T args _ q σ r.0 r.1
    step_in (name i o T args) (a_name h) r q f σ (position.within p) = map-in _ _ _ (args_in args h 0 r.2 σ p)
    step_in (name i o T args) (a_name h) r q f σ (position.reply (j, q', a, x)) =
        let y = reply-in (types args) (types-in args 0 r.2) j q' a x in
        (r.0, omega (arith, y.0, few-args args 0 r.2 (omega arith)), y.1)
    step_in (fetch X) (a_fetch h) r q f σ p = step_in X h r read fits_read σ p
    step_in (operate m o L R) (an_operate h k) r q f σ (inl p) =
        map-in _ _ _ (step_in L h r.0 ask fits_ask σ p)
    step_in (operate m o L R) (an_operate h k) r q f σ (inr p) =
        map-in _ _ _ (step_in R k r.1 ask fits_ask σ p.1)
    step_in (assign m X E) (an_assign h k) r q f σ (inl p) = map-in _ _ _ (step_in E k r.2 ask fits_ask σ p)
    step_in (assign m X E) (an_assign h k) r q f σ (inr p) =
        map-in _ _ _ (step_in X h r.1 (write p.0.0) (fits_write p.0.1) σ p.1)
    step_in (seq C M) (a_seq h k) r q f σ (inl p) = map-in _ _ _ (step_in C h r.0 run fits_run σ p)
    step_in (seq C M) (a_seq h k) r q f σ (inr p) = map-in _ _ _ (step_in M k r.1 q f σ p)
    step_in (while B C) (a_while h k) r q f σ (inl p) = map-in _ _ _ (step_in B h r.0 ask fits_ask σ p)
    step_in (while B C) (a_while h k) r q f σ (inr p) = map-in _ _ _ (step_in C k r.1 run fits_run σ p)
    step_in (cond B C M) (a_cond h k l) r q f σ (inl p) = map-in _ _ _ (step_in B h r.0 ask fits_ask σ p)
    step_in (cond B C M) (a_cond h k l) r q f σ (inr (inl p)) = map-in _ _ _ (step_in C k r.1 q f σ p)
    step_in (cond B C M) (a_cond h k l) r q f σ (inr (inr p)) = map-in _ _ _ (step_in M l r.2 q f σ p)
    step_in (new m z C) (a_new h) r q f σ p = map-in _ _ _ (step_in C h r q f (p.0, σ) p.1)

    args_in : (args : Args) {n : List ℕ} → TypedArgs n args → (j : ℕ) → InRangeArgs N args j → (σ : Store n)
        (p : PositionArgs args) → ActionIn N (step_args args n σ p)
    args_in no_args no_more j r σ p = absurd p
    args_in (arg T M args) (one_more h k) j r σ (inl p) =
        map-in _ _ _ (step_in M h r.2 p.0.0 p.0.1 σ p.1)
    args_in (arg T M args) (one_more h k) j r σ (inr p) = map-in _ _ _ (args_in args k (suc j) r.3 σ p)

  -- the states of the whole sheet
  module _ (T : Ty) (M : Term) (t : Typed [] M T) (b : TyIn N T) (r : InRange N M) where
    sheet-in : (s : Spot T M) → ActionIn N (sheet T M s)
    unfolding sheet ActionIn ListenIn Small
    sheet-in start = b
    sheet-in (within x) = map-in _ _ _ (step_in M t r x.0.0 x.0.1 tt x.1)
    sheet-in (reply y) = (omega arith, omega arith, answer-in b y.2)

-- THEOREM: every action of the machine of a typed term in range says moves with letters and waits in range
pub ranged : (N : Numbers) (T : Ty) (M : Term) → Typed [] M T → TyIn N T → InRange N M → (k : Index (spots T M)) →
    ActionIn N (steps T M k)
unfolding steps numbered_step
ranged N T M t b r k = map-in N _ _ _ (sheet-in N T M t b r ((numbered_spots T M).decode k.0 k.1))
