-- The weight of a term as written, by an environment of weights. Document 02 [1]: "The weight of a use is that of the
-- procedure's term with each parameter weighing what its argument weighs, and kind 28 itself [...] weighs what that
-- [its second term] weighs"; the rest is document 01, "Reckoned size".
use Rattle.std.specs.Prelude.{ℕ, zero, suc, ◌+◌, ◌*◌, List, [], ◌∷◌, length}
use Rattle.language.specs.Ty.{questions, answers}
use Rattle.language.specs.Term.{Operation}
use Rattle.language.specs.Typing.{operands}
use Rattle.language.specs.declared.Numbers.{Numbers}
use Rattle.language.specs.Weight.{use_weight}
use Rattle.sheet_parts.specs.Rule.{values}
use Rattle.sheet_written.specs.Environment.{beyond}
use Rattle.sheet_written.specs.Written.{Written, skip, diverge, truth, number, call, fetch, operate, assign}
use Rattle.sheet_written.specs.Written.{sequence, while, choose, new, procedure, Writtens, none, more, Name, Sheet}
use Rattle.sheet_written.specs.Meaning.{Binder, a_block, meaning, inside, after, ty_of, typed, by_meaning}

-- what the binders weigh, by their numbers
pub record Weights : Type 0 where
  -- a parameter
  pub passed : ℕ → ℕ
  -- a procedure, where its arguments weigh as given
  pub body : ℕ → (ℕ → ℕ) → ℕ

unfoldable pub no_weights : Weights
no_weights = record { passed = λ k. 1; body = λ k xs. 1 }

unfoldable pub with-body : ℕ → ((ℕ → ℕ) → ℕ) → Weights → Weights
with-body k p ω = record { passed = ω.passed; body = beyond k ω.body (λ j. p) }

unfoldable pub with_passed : ℕ → (ℕ → ℕ) → Weights → Weights
with_passed k xs ω = record { passed = beyond k ω.passed xs; body = ω.body }

unfoldable mutual
  pub weigh : Numbers → List Name → List Binder → Weights → Written → ℕ
  -- constants (definition 13)
  weigh N ns bs ω (truth b) = 1
  weigh N ns bs ω (number b) = 1
  -- operators (definition 14)
  weigh N ns bs ω (operate op l r) =
      let o : Operation = record { over = N; operator = op } in
      weigh N ns bs ω l + operands o * weigh N ns bs ω r
  -- commands (definition 15)
  weigh N ns bs ω skip = 1
  weigh N ns bs ω (diverge ty) = 1
  weigh N ns bs ω (sequence c m) = weigh N ns bs ω c + weigh N ns bs ω m
  weigh N ns bs ω (while b c) = weigh N ns bs ω b + weigh N ns bs ω c
  weigh N ns bs ω (choose b x y) = weigh N ns bs ω b + (weigh N ns bs ω x + weigh N ns bs ω y)
  -- identifiers (definition 18) and application (definition 22); parameters and procedures (definitions 31 and 32)
  weigh N ns bs ω (call id ws) =
      by_meaning (meaning ns bs id) 1
      (λ k. 2)
      (λ k. ω.passed k)
      (λ k. ω.body k (λ j. weighed N ns bs ω ws j))
      (λ often ty tys. use_weight often + weigh_args N ns bs ω ws tys)
  weigh N ns bs ω (procedure id ty ps body rest) =
      weigh N ns (after id ty ps bs)
      (with-body (length bs) (λ xs. weigh N ns (inside ps bs) (with_passed (length bs) xs ω) body) ω) rest
  -- variables (definitions 24 to 26)
  weigh N ns bs ω (fetch v) = weigh N ns bs ω v
  weigh N ns bs ω (assign v e) = weigh N ns bs ω e + values N (typed ns bs v) * weigh N ns bs ω v
  weigh N ns bs ω (new id d c) = values N d * weigh N ns (a_block id d ∷ bs) ω c

  -- arguments of the given types, of a declared name
  pub weigh_args : Numbers → List Name → List Binder → Weights → Writtens → List ℕ → ℕ
  weigh_args N ns bs ω none tys = 0
  weigh_args N ns bs ω (more w ws) [] = 0
  weigh_args N ns bs ω (more w ws) (ty ∷ tys) =
      questions (ty_of N ty) * weigh N ns bs ω w + answers (ty_of N ty) + weigh_args N ns bs ω ws tys

  -- argument j of a procedure, counted from 0
  pub weighed : Numbers → List Name → List Binder → Weights → Writtens → ℕ → ℕ
  weighed N ns bs ω none j = 1
  weighed N ns bs ω (more w ws) zero = weigh N ns bs ω w
  weighed N ns bs ω (more w ws) (suc j) = weighed N ns bs ω ws j

unfoldable pub weigh_sheet : Sheet → ℕ
weigh_sheet S = weigh S.numbers S.names [] no_weights S.term
