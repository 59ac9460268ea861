-- What stays where one form is written.
use Prim.Native.Nat.{ℕ, ◌+◌, ◌*◌, ◌≤◌, ◌<◌}
use native.Mathlib.Omega.{arith}
use mathlib.Core.List.{List}
use mathlib.Core.Path.{◌≡◌}
use lib.ListN.{get_or}
use lib.Seq.{get_or-drop}
use Rattle.sheet_written.specs.Form.{Form}
use Rattle.sheet_rows.specs.Row.{cell, word}
use Rattle.weight_theory.specs.Stack.{marks_from, slots_from, forms_from, form_words, marks_in, slot_of, form_word}
use Rattle.weight_theory.specs.Shows.{Shows, OnlyForm}
use Rattle.weight_theory.proofs.FormLaws.{only-low, only-form, shows_kept}

-- all words before the forms, and the forms below a row, are as they were
pub record Agrees (t t' : List ℕ) (h : ℕ) : Type 0 where
  pub low : (i : ℕ) → i < forms_from → get_or t' i 0 ≡ get_or t i 0
  pub forms : (row i : ℕ) → row < h → i < form_words → form_word t' row i ≡ form_word t row i

-- one form is written, and shows f
pub record Shaped (t t' : List ℕ) (row : ℕ) (f : Form) : Type 0 where
  pub shows : Shows t' row f
  pub only : OnlyForm t t' row

pub only-agrees : (t t' : List ℕ) (row h : ℕ) → h ≤ row → OnlyForm t t' row → Agrees t t' h
only-agrees t t' row h l O = record {
  low = λ i g. only-low t t' row O i g;
  forms = λ r i g b. only-form t t' row r i O (λ e. omega arith) b;
}

module _ (t t' : List ℕ) (h : ℕ) (A : Agrees t t' h) where
  pub word-agrees : (p i : ℕ) → p < 4096 → i < 9 → word t' p i ≡ word t p i
  unfolding word cell
  word-agrees p i g b = A.low (9 * p + i) (omega arith)

  pub slot-agrees : (p : ℕ) → p < 4096 → slot_of t' p ≡ slot_of t p
  unfolding slot_of
  slot-agrees p g = A.low (slots_from + p) (omega arith)

  pub shows-agrees : (row : ℕ) (f : Form) → row < h → Shows t row f → Shows t' row f
  shows-agrees row f g S = shows_kept t t' row f (λ i b. A.forms row i g b) S

-- marks, as words of the table
pub mark-word : (t : List ℕ) (p : ℕ) → get_or (marks_in t) p 0 ≡ get_or t (marks_from + p) 0
mark-word t p = get_or-drop marks_from t p 0
