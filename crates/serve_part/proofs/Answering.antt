-- Which questions and answers the parts of a term in order have: those of their types.
use Prim.Native.Nat.{ℕ, ◌+◌, ◌-◌, ◌≤◌, ◌<◌}
use native.Mathlib.Omega.{arith}
use mathlib.Core.Path.{◌≡◌, sym, ap, ◌∙◌, subst}
use Rattle.language.specs.Ty.{expression, variable, Question, run, ask, read, write, Answer, done, ok}
use Rattle.language.specs.Ty.{value, Answers, to_run, to_ask, to_read, to_write}
use Rattle.language.specs.Play.{Val, VarPair, reading, writing}
use Rattle.language.specs.Typing.{operands}
use Rattle.language.specs.declared.Numbers.{Numbers}
use Rattle.sheet_parts.specs.Rule.{values, operand_type}
use Rattle.sheet_written.specs.Meaning.{ty_of}
use Rattle.sheet_written.proofs.Types.{ty-expression, ty-variable, ty-command, ty-truth, values-up, operands-type}

-- types that are the same have the same answers
pub answers-as : (N : Numbers) {q : Question} {a : Answer} {ty ty' : ℕ} → ty ≡ ty' → Answers (ty_of N ty) q a →
    Answers (ty_of N ty') q a
answers-as N {q} {a} e h = subst (λ x. Answers (ty_of N x) q a) e h

-- an expression's answer is one of a variable that is read
read-data : {m : ℕ} {q : Question} {a : Answer} → Answers (expression m) q a → Answers (variable m) read a
read-data (to_ask h) = to_read h

-- what a variable is asked and answers, without the bounds of values
pair-variable : {m : ℕ} {q : Question} {a : Answer} → Answers (variable m) q a → VarPair q a
pair-variable (to_read h) = reading
pair-variable (to_write h) = writing

module _ (N : Numbers) where
  -- a command
  pub to-command : {ty : ℕ} → ty ≡ 0 → Answers (ty_of N ty) run done
  to-command e = rw (e, ty-command N) to_run

  -- a test
  pub to_truth : {ty v : ℕ} → ty ≡ 1 → v < 2 → Answers (ty_of N ty) ask (value v)
  to_truth e h = rw (e, ty-truth N) (to_ask h)

  -- the variable of a fetch
  pub to_fetch : {q : Question} {a : Answer} (ty : ℕ) → 3 ≤ ty → ty < 5 → Answers (ty_of N (ty - 2)) q a →
      Answers (ty_of N ty) read a
  to_fetch {q} {a} ty l l' h =
      let e : ty ≡ ty - 2 + 2 = omega arith in
      rw (ty-variable N ty l, ap (values N) e ∙ values-up N (ty - 2) (omega arith) (omega arith))
      (read-data (rw (ty-expression N (ty - 2) (omega arith) (omega arith)) at h))

  -- an operand
  pub to-operand : (op : ℕ) {ty : ℕ} → ty ≡ operand_type op →
      (x : Val (operands (record { over = N; operator = op }))) → Answers (ty_of N ty) ask (value x.0)
  to-operand op e x = rw (e, operands-type N op) (to_ask x.1)

  -- the expression and the variable of an assign
  pub to-source : (ty d : ℕ) → 3 ≤ ty → ty < 5 → d + 2 ≡ ty → (x : Val (values N ty)) →
      Answers (ty_of N d) ask (value x.0)
  to-source ty d l l' e x =
      let v : values N ty ≡ values N d = ap (values N) (sym e) ∙ values-up N d (omega arith) (omega arith) in
      rw (ty-expression N d (omega arith) (omega arith), ← v) (to_ask x.1)

  pub to-target : (ty : ℕ) → 3 ≤ ty → (x : Val (values N ty)) → Answers (ty_of N ty) (write x.0) ok
  to-target ty l x = rw (ty-variable N ty l) (to_write x.1)

  -- a declared variable is asked and answers as a private one
  pub to-private : {q : Question} {a : Answer} (d : ℕ) → 0 < d → Answers (ty_of N (2 + d)) q a → VarPair q a
  to-private d l h = pair-variable (rw (ty-variable N (2 + d) (omega arith)) at h)
