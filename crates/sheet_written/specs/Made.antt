-- How many rows the expansion of a part makes: one for each record that is no use of a parameter or a procedure and no
-- kind 28, where the term of a procedure is expanded at each use, and each argument that it uses once. Document 02 [1].
use Rattle.std.specs.Prelude.{ℕ, zero, suc, ◌+◌, ◌*◌, List, [], ◌∷◌, length}
use Rattle.language.specs.declared.Numbers.{Numbers}
use Rattle.sheet_written.specs.Environment.{beyond}
use Rattle.sheet_written.specs.Written.{Written, skip, diverge, truth, number, call, fetch, operate, assign}
use Rattle.sheet_written.specs.Written.{sequence, while, choose, new, procedure, Writtens, none, more, Name, Sheet}
use Rattle.sheet_written.specs.Meaning.{Binder, a_block, meaning, inside, after, by_meaning}
use Rattle.sheet_written.specs.Form.{Form, Forms, no_forms, with_form, form_of, total}

-- 1 where there is something, else 0
unfoldable pub sign : ℕ → ℕ
sign zero = 0
sign (suc n) = 1

-- which parameters are used
unfoldable pub signs : Form → Form
signs f = record { constant = 0; of = λ s. sign (f.of s) }

-- μ says it of the terms of the procedures, by their numbers
unfoldable mutual
  pub made : Numbers → List Name → List Binder → Forms → (ℕ → ℕ) → Written → ℕ
  made N ns bs φ μ skip = 1
  made N ns bs φ μ (diverge ty) = 1
  made N ns bs φ μ (truth b) = 1
  made N ns bs φ μ (number b) = 1
  made N ns bs φ μ (call id ws) =
      by_meaning (meaning ns bs id) 1
      (λ k. 1)
      (λ k. 0)
      (λ k. μ k + total (φ.count k) (λ j. sign ((φ.form k).of (k + j)) * mades N ns bs φ μ ws j))
      (λ often ty tys. 1 + made_args N ns bs φ μ ws tys)
  made N ns bs φ μ (fetch v) = 1 + made N ns bs φ μ v
  made N ns bs φ μ (operate op x y) = 1 + made N ns bs φ μ x + made N ns bs φ μ y
  made N ns bs φ μ (assign x y) = 1 + made N ns bs φ μ x + made N ns bs φ μ y
  made N ns bs φ μ (sequence x y) = 1 + made N ns bs φ μ x + made N ns bs φ μ y
  made N ns bs φ μ (choose b x y) = 1 + made N ns bs φ μ b + made N ns bs φ μ x + made N ns bs φ μ y
  made N ns bs φ μ (while x y) = 1 + made N ns bs φ μ x + made N ns bs φ μ y
  made N ns bs φ μ (new id d c) = 1 + made N ns (a_block id d ∷ bs) φ μ c
  made N ns bs φ μ (procedure id ty ps body rest) =
      made N ns (after id ty ps bs) (with_form (length bs) (form_of N ns (inside ps bs) φ body) (length ps) φ)
      (beyond (length bs) μ (λ j. made N ns (inside ps bs) φ μ body)) rest

  -- arguments of a declared name
  pub made_args : Numbers → List Name → List Binder → Forms → (ℕ → ℕ) → Writtens → List ℕ → ℕ
  made_args N ns bs φ μ none tys = 0
  made_args N ns bs φ μ (more w ws) [] = 0
  made_args N ns bs φ μ (more w ws) (ty ∷ tys) = made N ns bs φ μ w + made_args N ns bs φ μ ws tys

  -- argument j of a procedure
  pub mades : Numbers → List Name → List Binder → Forms → (ℕ → ℕ) → Writtens → ℕ → ℕ
  mades N ns bs φ μ none j = 1
  mades N ns bs φ μ (more w ws) zero = made N ns bs φ μ w
  mades N ns bs φ μ (more w ws) (suc j) = mades N ns bs φ μ ws j

unfoldable pub made_sheet : Sheet → ℕ
made_sheet S = made S.numbers S.names [] no_forms (λ k. 0) S.term
