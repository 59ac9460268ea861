-- A table without marks is left as it is: all that weighing writes is after its end.
use Prim.Native.Nat.{ℕ, zero, suc, ◌+◌, ◌*◌, ◌-◌, ◌≤◌, min}
use native.Mathlib.Omega.{arith}
use mathlib.Core.Bool.{Bool, true, false}
use mathlib.Core.List.{List}
use mathlib.Core.Path.{◌≡◌, refl, ap, ◌∙◌}
use lib.ListN.{length, set}
use lib.Seq.{set_out}
use lib.Dec.{eqb, ltb}
use Rattle.language.specs.Choice.{pick}
use Rattle.sheet_rows.specs.PartKind.{KIND, DETAIL, PARTS, PROCEDURE, PARAMETER}
use Rattle.sheet_rows.specs.Row.{word}
use Rattle.sheet_written.specs.Held.{held}
use Rattle.weight_theory.specs.Stack.{marks_from, slots_from, height-at, forms_from, form_words, most_forms, marks_in}
use Rattle.weight_theory.specs.Stack.{height_of, spot, form_word, cleared, copied, summed, constant_form, unit_form}
use Rattle.weight_theory.specs.Stack.{lower_form, widened, added_form}
use Rattle.weight_theory.specs.Shows.{most_parameters, last_parameter}
use Rattle.weight_theory.specs.Plan.{parts_of, own_of, term_form, factor_of, extra_of, come_of}
use Rattle.weight_theory.specs.Step.{started, part_added, parts_added, closed, weighed_plain, terms, weighed_procedure}
use Rattle.weight_theory.specs.Step.{weighed}

either_is : (b : Bool) (x y t : List ℕ) → x ≡ t → y ≡ t → pick b x y ≡ t
either_is true x y t p q = p
either_is false x y t p q = q

module _ (t : List ℕ) (h : length t ≤ marks_from) where
  -- a word after the end, and one of a form
  out : (i v : ℕ) → marks_from ≤ i → set t i v ≡ t
  out i v g = set_out t i v (omega arith)

  form-out : (row i v : ℕ) → set t (spot row i) v ≡ t
  unfolding spot
  form-out row i v = out (forms_from + form_words * row + i) v (omega arith)

  -- some words
  cleared-short : (row i n : ℕ) → cleared (spot row i) n t ≡ t
  unfolding cleared spot
  cleared-short row i zero = refl
  cleared-short row i (suc n) =
      ap (λ u. set u (spot row i + n) 0) (cleared-short row i n)
      ∙ out (forms_from + form_words * row + i + n) 0 (omega arith)

  copied-short : (to from n : ℕ) → copied to from n t ≡ t
  unfolding copied
  copied-short to from zero = refl
  copied-short to from (suc n) =
      ap (λ u. set u (spot to (1 + n)) (form_word u from (1 + n))) (copied-short to from n)
      ∙ form-out to (1 + n) (form_word t from (1 + n))

  summed-short : (to from c n : ℕ) → summed to from c n t ≡ t
  unfolding summed
  summed-short to from c zero = refl
  summed-short to from c (suc n) =
      ap (λ u. set u (spot to (1 + n)) (held (form_word u to (1 + n) + c * form_word u from (1 + n))))
      (summed-short to from c n)
      ∙ form-out to (1 + n) (held (form_word t to (1 + n) + c * form_word t from (1 + n)))

  -- forms
  pub constant-short : (row c : ℕ) → constant_form row c t ≡ t
  unfolding constant_form
  constant-short row c = ap (λ u. set u (spot row 1) (held c)) (form-out row 0 0) ∙ form-out row 1 (held c)

  unit-short : (row s : ℕ) → unit_form row s t ≡ t
  unfolding unit_form
  unit-short row s =
      ap (λ u. set (cleared (spot row 1) (1 + s) u) (spot row (2 + s)) 1) (form-out row 0 (1 + s))
      ∙ ap (λ u. set u (spot row (2 + s)) 1) (cleared-short row 1 (1 + s)) ∙ form-out row (2 + s) 1

  lower-short : (to from k : ℕ) → lower_form to from k t ≡ t
  unfolding lower_form
  lower-short to from k =
      ap (λ u. copied to from (1 + min k (form_word t from 0)) u) (form-out to 0 (min k (form_word t from 0)))
      ∙ copied-short to from (1 + min k (form_word t from 0))

  widened-short : (to n : ℕ) → widened to n t ≡ t
  unfolding widened
  widened-short to n =
      either_is (ltb (form_word t to 0) n) _ t t
      (ap (λ u. set u (spot to 0) n) (cleared-short to (2 + form_word t to 0) (n - form_word t to 0)) ∙ form-out to 0 n)
      refl

  added-short : (to from c e : ℕ) → added_form to from c e t ≡ t
  unfolding added_form
  added-short to from c e =
      let n : ℕ = form_word t from 0 in
      ap (λ u. set u (spot to 1) (held (form_word u to 1 + e)))
      (ap (λ u. summed to from c (1 + n) u) (widened-short to n) ∙ summed-short to from c (1 + n))
      ∙ form-out to 1 (held (form_word t to 1 + e))

  -- the steps
  started-short : (kind detail k row : ℕ) → started kind detail k row t ≡ t
  unfolding started
  started-short kind detail k row =
      either_is (ltb kind PARAMETER) _ _ t (constant-short row (own_of kind detail))
      (either_is (eqb kind PARAMETER) _ _ t (unit-short row (min detail last_parameter))
      (lower-short row (term_form t detail) k))

  parts-short : (kind detail k at first row n j : ℕ) → parts_added kind detail k at first row n j t ≡ t
  unfolding parts_added part_added
  parts-short kind detail k at first row zero j = refl
  parts-short kind detail k at first row (suc n) j =
      ap (λ u. parts_added kind detail k at first row n (suc j) u)
      (added-short row (first + j) (factor_of t kind detail k at (word t at (PARTS + j)) j)
      (extra_of t kind (word t at (PARTS + j))))
      ∙ parts-short kind detail k at first row n (suc j)

  pub noted-short : (at to mark : ℕ) → set (set (set t (marks_from + at) mark) (slots_from + at) to) height-at
      (min (suc to) most_forms) ≡ t
  noted-short at to mark =
      ap (λ u. set (set u (slots_from + at) to) height-at (min (suc to) most_forms))
      (out (marks_from + at) mark (omega arith))
      ∙ ap (λ u. set u height-at (min (suc to) most_forms)) (out (slots_from + at) to (omega arith))
      ∙ out height-at (min (suc to) most_forms) (omega arith)

  closed-short : (at to row mark : ℕ) → closed at to row mark t ≡ t
  unfolding closed
  closed-short at to row mark =
      ap (λ u. set (set (set u (marks_from + at) mark) (slots_from + at) to) height-at (min (suc to) most_forms))
      (either_is (eqb to row) t _ t refl (lower-short to row most_parameters))
      ∙ noted-short at to mark

  plain-short : (k at kind detail : ℕ) → weighed_plain k at kind detail t ≡ t
  unfolding weighed_plain
  plain-short k at kind detail =
      let n : ℕ = parts_of kind detail in
      let row : ℕ = height_of t in
      let mark : ℕ = come_of t (marks_in t) kind detail k at n in
      ap (λ u. closed at (row - n) row mark u)
      (ap (λ u. parts_added kind detail k at (row - n) row n 0 u) (started-short kind detail k row)
      ∙ parts-short kind detail k at (row - n) row n 0)
      ∙ closed-short at (row - n) row mark

  procedure-short : (at number : ℕ) → weighed_procedure at number t ≡ t
  unfolding weighed_procedure
  procedure-short at number = closed-short at (height_of t - terms) (suc (height_of t - terms)) _

  pub weighed-short : (k at : ℕ) → weighed k at t ≡ t
  unfolding weighed
  weighed-short k at =
      either_is (eqb (word t at KIND) PROCEDURE) _ _ t (procedure-short at (word t at DETAIL))
      (plain-short k at (word t at KIND) (word t at DETAIL))
