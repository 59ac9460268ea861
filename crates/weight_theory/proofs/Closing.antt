-- A record is closed: its form takes the place of those of its parts, its slot, its mark and the height are set.
use Prim.Native.Nat.{ℕ, suc, ◌+◌, ◌≤◌, ◌<◌, min}
use native.Mathlib.Omega.{arith}
use mathlib.Core.List.{List}
use mathlib.Core.Path.{◌≡◌, sym, ◌∙◌}
use lib.Dec.{eqb}
use lib.ListN.{length, get_or, set, length-set}
use lib.Seq.{get_or-set_same, get_or-set_other}
use borrow.Author.Tests.{eqb-true, eqb-false}
use Rattle.language.specs.Choice.{pick}
use Rattle.sheet_written.specs.Form.{Form}
use Rattle.sheet_written.proofs.Tests.{by-test}
use Rattle.weight_theory.specs.Stack.{marks_from, slots_from, height-at, most_forms, marks_in, slot_of, height_of, spot}
use Rattle.weight_theory.specs.Stack.{form_word, lower_form}
use Rattle.weight_theory.specs.Shows.{most_parameters, Shows, OnlyForm}
use Rattle.weight_theory.specs.Step.{closed}
use Rattle.weight_theory.specs.Weighed.{OnlyAt}
use Rattle.weight_theory.proofs.Spots.{only_none}
use Rattle.weight_theory.proofs.FormLaws.{lower-formed, lower_only, lower-all, shows_kept, only-low, only-form}
use Rattle.weight_theory.proofs.Kept.{Shaped, mark-word}

-- what belongs to other places
pub only-at-then : (t u v : List ℕ) (at h : ℕ) → OnlyAt t u at h → OnlyAt u v at h → OnlyAt t v at h
only-at-then t u v at h A B = record {
  long = B.long ∙ A.long;
  table = λ i l. B.table i l ∙ A.table i l;
  marks = λ p n l. B.marks p n l ∙ A.marks p n l;
  slots = λ p n l. B.slots p n l ∙ A.slots p n l;
  forms = λ r i l g. B.forms r i l g ∙ A.forms r i l g;
}

pub only-at-form : (t u : List ℕ) (at h row : ℕ) → h ≤ row → OnlyForm t u row → OnlyAt t u at h
unfolding slot_of
only-at-form t u at h row b O = record {
  long = O.long;
  table = λ i l. only-low t u row O i (omega arith);
  marks = λ p n l. mark-word u p ∙ only-low t u row O (marks_from + p) (omega arith) ∙ sym (mark-word t p);
  slots = λ p n l. only-low t u row O (slots_from + p) (omega arith);
  forms = λ r i l g. only-form t u row r i O (λ e. omega arith) g;
}

-- the form moves
form-moved : (t : List ℕ) (to row : ℕ) (f : Form) → length t ≡ 58313 → to < 100 → row < 100 → Shows t row f →
    Shaped t (pick (eqb to row) t (lower_form to row most_parameters t)) to f
form-moved t to row f long h l S =
    by-test (eqb to row)
    (λ e. rw e (record { shows = rw (eqb-true to row e) S; only = only_none t to }))
    (λ e. let n : to ≡ row → ⊥ = eqb-false to row e in
    rw e (record {
      shows = lower-all t (lower_form to row most_parameters t) row to f S
          (lower-formed t to row most_parameters f long h l n S);
      only = lower_only t to row most_parameters f long h l n S;
    }))

-- the slot, the mark and the height are set
module _ (u : List ℕ) (at to mark : ℕ) (long : length u ≡ 58313) (early : at < 4096) (room : to < 100) where
  abbrev noted : List ℕ
  noted = set (set (set u (marks_from + at) mark) (slots_from + at) to) height-at (min (suc to) most_forms)

  noted-long : length noted ≡ length u
  noted-long =
      length-set (set (set u (marks_from + at) mark) (slots_from + at) to) height-at (min (suc to) most_forms)
      ∙ length-set (set u (marks_from + at) mark) (slots_from + at) to ∙ length-set u (marks_from + at) mark

  noted_other : (i : ℕ) → (i ≡ marks_from + at → ⊥) → (i ≡ slots_from + at → ⊥) → (i ≡ height-at → ⊥) →
      get_or noted i 0 ≡ get_or u i 0
  noted_other i a b c =
      get_or-set_other (set (set u (marks_from + at) mark) (slots_from + at) to) height-at i (min (suc to) most_forms) 0
      (λ e. c (omega arith))
      ∙ get_or-set_other (set u (marks_from + at) mark) (slots_from + at) i to 0 (λ e. b (omega arith))
      ∙ get_or-set_other u (marks_from + at) i mark 0 (λ e. a (omega arith))

  noted-height : height_of noted ≡ suc to
  unfolding height_of
  noted-height =
      let v : List ℕ = set u (marks_from + at) mark in
      let w : List ℕ = set v (slots_from + at) to in
      let l : length w ≡ length u = length-set v (slots_from + at) to ∙ length-set u (marks_from + at) mark in
      let m : min (suc to) most_forms ≡ suc to = omega arith in
      get_or-set_same w height-at (min (suc to) most_forms) 0 (omega arith) ∙ m

  noted-slot : slot_of noted at ≡ to
  unfolding slot_of
  noted-slot =
      let v : List ℕ = set u (marks_from + at) mark in
      let w : List ℕ = set v (slots_from + at) to in
      let l : length v ≡ length u = length-set u (marks_from + at) mark in
      get_or-set_other w height-at (slots_from + at) (min (suc to) most_forms) 0 (λ e. omega arith)
      ∙ get_or-set_same v (slots_from + at) to 0 (omega arith)

  noted-mark : get_or (marks_in noted) at 0 ≡ mark
  noted-mark =
      let v : List ℕ = set u (marks_from + at) mark in
      let w : List ℕ = set v (slots_from + at) to in
      mark-word noted at
      ∙ get_or-set_other w height-at (marks_from + at) (min (suc to) most_forms) 0 (λ e. omega arith)
      ∙ get_or-set_other v (slots_from + at) (marks_from + at) to 0 (λ e. omega arith)
      ∙ get_or-set_same u (marks_from + at) mark 0 (omega arith)

  noted-form : (row i : ℕ) → form_word noted row i ≡ form_word u row i
  unfolding form_word spot
  noted-form row i =
      noted_other (spot row i) (λ e. omega arith) (λ e. omega arith) (λ e. omega arith)

  noted-kept : OnlyAt u noted at to
  unfolding slot_of
  noted-kept = record {
    long = noted-long;
    table = λ i l. noted_other i (λ e. omega arith) (λ e. omega arith) (λ e. omega arith);
    marks = λ p n l. mark-word noted p
        ∙ noted_other (marks_from + p) (λ e. n (omega arith)) (λ e. omega arith) (λ e. omega arith)
        ∙ sym (mark-word u p);
    slots = λ p n l.
        noted_other (slots_from + p) (λ e. omega arith) (λ e. n (omega arith)) (λ e. omega arith);
    forms = λ r i l g. noted-form r i;
  }

-- what closing does
pub record Closes (t u : List ℕ) (at h mark : ℕ) (f : Form) : Type 0 where
  pub shows : Shows u h f
  pub height : height_of u ≡ suc h
  pub slot : slot_of u at ≡ h
  pub marked : get_or (marks_in u) at 0 ≡ mark
  pub kept : OnlyAt t u at h

pub closed-does : (t : List ℕ) (at h row mark : ℕ) (f : Form) → length t ≡ 58313 → at < 4096 → h < 100 → row < 100 →
    Shows t row f → Closes t (closed at h row mark t) at h mark f
unfolding closed
closed-does t at h row mark f long early b l S =
    let u : List ℕ = pick (eqb h row) t (lower_form h row most_parameters t) in
    let M : Shaped t u h f = form-moved t h row f long b l S in
    let n : length u ≡ 58313 = M.only.long ∙ long in
    record {
      shows = shows_kept u (noted u at h mark n early b) h f (λ i g. noted-form u at h mark n early b h i) M.shows;
      height = noted-height u at h mark n early b;
      slot = noted-slot u at h mark n early b;
      marked = noted-mark u at h mark n early b;
      kept = only-at-then t u (noted u at h mark n early b) at h
          (only-at-form t u at h h (omega arith) M.only) (noted-kept u at h mark n early b);
    }
