-- What a step becomes in the part above and in the whole sheet: what is silent, an exit or none is so, and what an exit
-- writes is handed on as it is.
use Rattle.std.specs.Prelude.{Option, None, Some}
use mathlib.Core.Path.{◌≡◌, refl}
use mathlib.Core.Bool.{Bool, true, false}
use mathlib.Core.List.{List, [], ◌∷◌}
use Prim.Native.Nat.{ℕ, ◌-◌, ◌%◌}
use native.Mathlib.Omega.{arith}
use lib.Dec.{eqb, ltb}
use borrow.Author.Tests.{ne_eqb}
use Rattle.language.specs.Choice.{pick}
use Rattle.language.specs.declared.Numbers.{Numbers}
use Rattle.states_positions.specs.declared.Move.{Move}
use Rattle.states_positions.specs.declared.Frame.{Frame}
use Rattle.states_positions.specs.declared.Out.{Out}
use Rattle.states_positions.specs.declared.Out.TheVariants.{Go, Exit, Say, Hear, Stuck}
use Rattle.language.specs.Operator.{operate}
use Rattle.states_positions.specs.Row.{sum_of, mul_add_of}
use Rattle.states_positions.specs.Types.{question_kind, question_value, answer_number}
use Rattle.states_rise.specs.Up.{exit_done, exit_truth, exit_value, exit_result, exit_operate, exit_assign, exit_argument}
use Rattle.states_rise.specs.Up.{exit_new, goes_of, exits_of, rise_of}
use Rattle.states_path.specs.Path.{rise_all}

-- a step is silent, an exit or none
pub data Quiet : Out → Type 0 where
  q-go : (next block set : ℕ) → Quiet (Go next block set)
  q-exit : (kind value block set : ℕ) → Quiet (Exit kind value block set)
  q-stuck : Quiet Stuck

-- two such steps, the one of which writes u to the variable of a block and the other nothing
pub data Alike (block u : ℕ) : Out → Out → Type 0 where
  a-go : (next v : ℕ) → Alike block u (Go next block u) (Go next 0 v)
  a-exit : (kind value v : ℕ) → Alike block u (Exit kind value block u) (Exit kind value 0 v)
  a-stuck : Alike block u Stuck Stuck

quiet-pick : (b : Bool) {x y : Out} → Quiet x → Quiet y → Quiet (pick b x y)
quiet-pick true p q = p
quiet-pick false p q = q

alike-pick : (b : Bool) {l u : ℕ} {x y x' y' : Out} → Alike l u x x' → Alike l u y y' →
    Alike l u (pick b x y) (pick b x' y')
alike-pick true p q = p
alike-pick false p q = q

quiet-result : (r : Option ℕ) (l u : ℕ) → Quiet (exit_result r l u)
unfolding exit_result
quiet-result None l u = q-stuck
quiet-result (Some v) l u = q-exit 5 v l u

alike-result : (r : Option ℕ) (l u v : ℕ) → Alike l u (exit_result r l u) (exit_result r 0 v)
unfolding exit_result
alike-result None l u v = a-stuck
alike-result (Some x) l u v = a-exit 5 x v

-- the copy of a part that a value leads to, the result of an operator, the number of an answer
abbrev copy : Frame → ℕ → ℕ
copy f x = mul_add_of x f.b f.a

abbrev result : Numbers → Frame → ℕ → Option ℕ
result N f x = operate N (f.b % 256) (f.a % 65536) (x % 65536)

abbrev answered : Frame → ℕ → ℕ → ℕ
answered f k x = answer_number f.b f.c (question_kind f.b f.d) (question_value f.b f.d) k x

module _ (N : Numbers) where
  quiet-exits : (f : Frame) (k x l u : ℕ) → Quiet (exits_of N f k x l u)
  unfolding exits_of exit_done exit_truth exit_value exit_operate exit_assign exit_argument exit_new
  quiet-exits f k x l u =
      quiet-pick (eqb f.role 1) (quiet-pick (eqb k 1) (q-go f.a l u) q-stuck)
      (quiet-pick (eqb f.role 2) (quiet-pick (eqb k 5) (quiet-pick (eqb x 1) (q-go f.a l u)
      (quiet-pick (eqb x 0) (quiet-pick (eqb f.b 0) (q-exit 1 0 l u) (q-go f.b l u)) q-stuck)) q-stuck)
      (quiet-pick (eqb f.role 3) (quiet-pick (eqb k 5) (quiet-pick (ltb x f.c) (q-go (copy f x) l u) q-stuck)
      q-stuck)
      (quiet-pick (eqb f.role 4)
      (quiet-pick (eqb k 5) (quiet-pick (ltb x f.c) (quiet-result (result N f x) l u) q-stuck) q-stuck)
      (quiet-pick (eqb f.role 5) (quiet-pick (eqb k 4) (q-exit 1 0 l u) q-stuck)
      (quiet-pick (eqb f.role 6) (quiet-pick (ltb 0 (answered f k x)) (q-go (sum_of f.a (answered f k x - 1)) l u)
      q-stuck)
      (quiet-pick (eqb f.role 7) (quiet-pick (eqb l f.a) (q-exit k x 0 0) (q-exit k x l u)) (q-exit k x l u)))))))

  quiet-rise : (f : Frame) (o : Out) → Quiet o → Quiet (rise_of N f o)
  unfolding rise_of goes_of
  quiet-rise f o (q-go next l u) =
      quiet-pick (eqb f.role 7) (quiet-pick (eqb l f.a) (q-go (mul_add_of u f.b next) 0 0) (q-go (sum_of f.base
      next) l u))
      (q-go (sum_of f.base next) l u)
  quiet-rise f o (q-exit k x l u) = quiet-exits f k x l u
  quiet-rise f o q-stuck = q-stuck

  -- THEOREM: what is silent, an exit or none is so in the whole sheet
  pub quiet_all : (fs : List Frame) (o : Out) → Quiet o → Quiet (rise_all N fs o)
  unfolding rise_all
  quiet_all [] o q = q
  quiet_all (f ∷ fs) o q = quiet_all fs (rise_of N f o) (quiet-rise f o q)

  -- what an exit writes is handed on by a frame that is no block's
  pub alike-exits : (f : Frame) (k x l u v : ℕ) → (f.role ≡ 7 → ⊥) →
      Alike l u (exits_of N f k x l u) (exits_of N f k x 0 v)
  unfolding exits_of exit_done exit_truth exit_value exit_operate exit_assign exit_argument exit_new
  alike-exits f k x l u v e =
      rw (ne_eqb f.role 7 e)
      (alike-pick (eqb f.role 1) (alike-pick (eqb k 1) (a-go f.a v) a-stuck)
      (alike-pick (eqb f.role 2) (alike-pick (eqb k 5) (alike-pick (eqb x 1) (a-go f.a v)
      (alike-pick (eqb x 0) (alike-pick (eqb f.b 0) (a-exit 1 0 v) (a-go f.b v)) a-stuck)) a-stuck)
      (alike-pick (eqb f.role 3) (alike-pick (eqb k 5) (alike-pick (ltb x f.c) (a-go (copy f x) v) a-stuck)
      a-stuck)
      (alike-pick (eqb f.role 4)
      (alike-pick (eqb k 5) (alike-pick (ltb x f.c) (alike-result (result N f x) l u v) a-stuck) a-stuck)
      (alike-pick (eqb f.role 5) (alike-pick (eqb k 4) (a-exit 1 0 v) a-stuck)
      (alike-pick (eqb f.role 6)
      (alike-pick (ltb 0 (answered f k x)) (a-go (sum_of f.a (answered f k x - 1)) v) a-stuck) (a-exit k x
      v)))))))

-- what the one is, where the other is known
pub alike-go : {l u next l' v' : ℕ} {o o' : Out} → Alike l u o o' → o' ≡ Go next l' v' → o ≡ Go next l u
alike-go (a-go n v) e = cc
alike-go (a-exit k x v) e = let z : ◌≡◌ {A = ℕ} 0 1 = cc in absurd (omega arith)
alike-go a-stuck e = let z : ◌≡◌ {A = ℕ} 0 1 = cc in absurd (omega arith)

pub alike-exit : {l u k x l' v' : ℕ} {o o' : Out} → Alike l u o o' → o' ≡ Exit k x l' v' → o ≡ Exit k x l u
alike-exit (a-go n v) e = let z : ◌≡◌ {A = ℕ} 0 1 = cc in absurd (omega arith)
alike-exit (a-exit k x v) e = cc
alike-exit a-stuck e = let z : ◌≡◌ {A = ℕ} 0 1 = cc in absurd (omega arith)

pub alike-stuck : {l u : ℕ} {o o' : Out} → Alike l u o o' → o' ≡ Stuck → o ≡ Stuck
alike-stuck (a-go n v) e = let z : ◌≡◌ {A = ℕ} 0 1 = cc in absurd (omega arith)
alike-stuck (a-exit k x v) e = let z : ◌≡◌ {A = ℕ} 0 1 = cc in absurd (omega arith)
alike-stuck a-stuck e = refl

pub alike-say : {l u next : ℕ} {m : Move} {o o' : Out} → Alike l u o o' → o' ≡ Say m next → ⊥
alike-say (a-go n v) e = let z : ◌≡◌ {A = ℕ} 0 1 = cc in omega arith
alike-say (a-exit k x v) e = let z : ◌≡◌ {A = ℕ} 0 1 = cc in omega arith
alike-say a-stuck e = let z : ◌≡◌ {A = ℕ} 0 1 = cc in omega arith

pub alike-hear : {l u at q x c : ℕ} {o o' : Out} → Alike l u o o' → o' ≡ Hear at q x c → ⊥
alike-hear (a-go n v) e = let z : ◌≡◌ {A = ℕ} 0 1 = cc in omega arith
alike-hear (a-exit k x v) e = let z : ◌≡◌ {A = ℕ} 0 1 = cc in omega arith
alike-hear a-stuck e = let z : ◌≡◌ {A = ℕ} 0 1 = cc in omega arith
