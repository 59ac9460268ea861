-- Weights as forms: a constant and a coefficient for each enclosing parameter. Document 02 [1]: what a use weighs is
-- linear in what its arguments weigh, so a procedure's weight is reckoned once, where it is read.
use Rattle.std.specs.Prelude.{ℕ, zero, suc, ◌+◌, ◌*◌, List, [], ◌∷◌, length, eqb, ltb}
use Rattle.language.specs.Choice.{pick}
use Rattle.language.specs.Ty.{questions, answers}
use Rattle.language.specs.Term.{Operation}
use Rattle.language.specs.Typing.{operands}
use Rattle.language.specs.declared.Numbers.{Numbers}
use Rattle.language.specs.Weight.{use_weight}
use Rattle.sheet_parts.specs.Rule.{values}
use Rattle.sheet_written.specs.Environment.{beyond}
use Rattle.sheet_written.specs.Written.{Written, skip, diverge, truth, number, call, fetch, operate, assign}
use Rattle.sheet_written.specs.Written.{sequence, while, choose, new, procedure, Writtens, none, more, Name, Sheet}
use Rattle.sheet_written.specs.Meaning.{Binder, a_block, a_parameter, a_procedure, meaning, inside, after, ty_of}
use Rattle.sheet_written.specs.Meaning.{typed, by_meaning}

pub record Form : Type 0 where
  pub constant : ℕ
  -- by the parameter's number
  pub of : ℕ → ℕ

unfoldable pub only : ℕ → Form
only c = record { constant = c; of = λ s. 0 }

-- the parameter k itself
unfoldable pub unit : ℕ → Form
unit k = record { constant = 0; of = λ s. pick (eqb s k) 1 0 }

unfoldable pub plus : Form → Form → Form
plus f g = record { constant = f.constant + g.constant; of = λ s. f.of s + g.of s }

unfoldable pub times : ℕ → Form → Form
times c f = record { constant = c * f.constant; of = λ s. c * f.of s }

-- without the coefficients from k on
unfoldable pub lower : ℕ → Form → Form
lower k f = record { constant = f.constant; of = λ s. pick (ltb s k) (f.of s) 0 }

-- the first m of them, each times its factor
unfoldable pub sums : ℕ → (ℕ → ℕ) → (ℕ → Form) → Form
sums zero c f = only 0
sums (suc m) c f = plus (sums m c f) (times (c m) (f m))

-- the form of the procedure k with m parameters, whose numbers are those from k on, at arguments of the given forms
unfoldable pub instance : ℕ → ℕ → Form → (ℕ → Form) → Form
instance k m f xs = plus (lower k f) (sums m (λ j. f.of (k + j)) xs)

-- of the procedures, by their numbers: the form of the term, and how many parameters there are
pub record Forms : Type 0 where
  pub form : ℕ → Form
  pub count : ℕ → ℕ

unfoldable pub no_forms : Forms
no_forms = record { form = λ k. only 1; count = λ k. 0 }

unfoldable pub with_form : ℕ → Form → ℕ → Forms → Forms
with_form k f m φ = record { form = beyond k φ.form (λ j. f); count = beyond k φ.count (λ j. m) }

unfoldable mutual
  pub form_of : Numbers → List Name → List Binder → Forms → Written → Form
  -- constants (definition 13)
  form_of N ns bs φ (truth b) = only 1
  form_of N ns bs φ (number b) = only 1
  -- operators (definition 14)
  form_of N ns bs φ (operate op l r) =
      let o : Operation = record { over = N; operator = op } in
      plus (form_of N ns bs φ l) (times (operands o) (form_of N ns bs φ r))
  -- commands (definition 15)
  form_of N ns bs φ skip = only 1
  form_of N ns bs φ (diverge ty) = only 1
  form_of N ns bs φ (sequence c m) = plus (form_of N ns bs φ c) (form_of N ns bs φ m)
  form_of N ns bs φ (while b c) = plus (form_of N ns bs φ b) (form_of N ns bs φ c)
  form_of N ns bs φ (choose b x y) = plus (form_of N ns bs φ b) (plus (form_of N ns bs φ x) (form_of N ns bs φ y))
  -- identifiers (definition 18) and application (definition 22); parameters and procedures (definitions 31 and 32)
  form_of N ns bs φ (call id ws) =
      by_meaning (meaning ns bs id) (only 1)
      (λ k. only 2)
      (λ k. unit k)
      (λ k. instance k (φ.count k) (φ.form k) (λ j. formed N ns bs φ ws j))
      (λ often ty tys. plus (only (use_weight often)) (form_args N ns bs φ ws tys))
  form_of N ns bs φ (procedure id ty ps body rest) =
      form_of N ns (after id ty ps bs) (with_form (length bs) (form_of N ns (inside ps bs) φ body) (length ps) φ) rest
  -- variables (definitions 24 to 26)
  form_of N ns bs φ (fetch v) = form_of N ns bs φ v
  form_of N ns bs φ (assign v e) = plus (form_of N ns bs φ e) (times (values N (typed ns bs v)) (form_of N ns bs φ v))
  form_of N ns bs φ (new id d c) = times (values N d) (form_of N ns (a_block id d ∷ bs) φ c)

  -- arguments of the given types, of a declared name
  pub form_args : Numbers → List Name → List Binder → Forms → Writtens → List ℕ → Form
  form_args N ns bs φ none tys = only 0
  form_args N ns bs φ (more w ws) [] = only 0
  form_args N ns bs φ (more w ws) (ty ∷ tys) =
      plus (plus (times (questions (ty_of N ty)) (form_of N ns bs φ w)) (only (answers (ty_of N ty))))
      (form_args N ns bs φ ws tys)

  -- argument j of a procedure, counted from 0
  pub formed : Numbers → List Name → List Binder → Forms → Writtens → ℕ → Form
  formed N ns bs φ none j = only 1
  formed N ns bs φ (more w ws) zero = form_of N ns bs φ w
  formed N ns bs φ (more w ws) (suc j) = formed N ns bs φ ws j

-- the first m of them
unfoldable pub total : ℕ → (ℕ → ℕ) → ℕ
total zero g = 0
total (suc m) g = total m g + g m

-- those of the enclosing parameters
unfoldable pub over : List Binder → (ℕ → ℕ) → ℕ
over [] g = 0
over (a_block id d ∷ bs) g = over bs g
over (a_parameter id ty ∷ bs) g = over bs g + g (length bs)
over (a_procedure id ty tys ∷ bs) g = over bs g

-- what a form comes to where the enclosing parameters weigh as given
unfoldable pub value : List Binder → Form → (ℕ → ℕ) → ℕ
value bs f x = f.constant + over bs (λ s. f.of s * x s)

-- the constant is the whole weight of a sheet
unfoldable pub form_sheet : Sheet → ℕ
form_sheet S = (form_of S.numbers S.names [] no_forms S.term).constant
