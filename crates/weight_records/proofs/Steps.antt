-- The steps of weighing a record, over plain variables.
use Prim.Native.Nat.{ℕ, suc, ◌+◌, ◌-◌, ◌≤◌, ◌<◌, min}
use native.Mathlib.Omega.{arith}
use mathlib.Core.List.{List}
use mathlib.Core.Path.{◌≡◌, ap, ap₂, sym, ◌∙◌}
use lib.ListN.{set}
use borrow.Author.Tests.{eq-eqb, ne_eqb}
use Rattle.sheet_rows.specs.PartKind.{KIND, DETAIL, PROCEDURE}
use Rattle.sheet_rows.specs.Row.{word}
use Rattle.weight_theory.specs.Stack.{marks_from, slots_from, height-at, most_forms, marks_in, height_of, lower_form}
use Rattle.weight_theory.specs.Plan.{parts_of, come_of}
use Rattle.weight_theory.specs.Step.{started, part_added, parts_added, closed, weighed_plain, weighed}

-- the parts from j on are left
module _ (kind detail k at first row n : ℕ) where
  abbrev left : ℕ → ℕ → List ℕ → List ℕ
  left m j t = parts_added kind detail k at first row m j t

  pub parts_first : (t : List ℕ) → left (n - 0) 0 t ≡ left n 0 t
  parts_first t = ap (λ m. left m 0 t) (omega arith)

  pub parts_again : (j j' : ℕ) (t u v : List ℕ) → j < n → j' ≡ suc j →
      u ≡ part_added kind detail k at first row j t → left (n - j) j t ≡ v → left (n - j') j' u ≡ v
  unfolding parts_added
  parts_again j j' t u v h q e g =
      let m : suc (n - j') ≡ n - j = omega arith in
      ap₂ (λ a b. left (n - j') a b) q e ∙ (ap (λ a. left a j t) m ∙ g)

  pub parts_last : (j : ℕ) (t v : List ℕ) → n ≤ j → left (n - j) j t ≡ v → t ≡ v
  unfolding parts_added
  parts_last j t v h g =
      let m : 0 ≡ n - j = omega arith in
      ap (λ a. left a j t) m ∙ g

-- the end of a record
pub close-there : (at to row mark : ℕ) (t u : List ℕ) → to ≡ row →
    u ≡ set (set (set t (marks_from + at) mark) (slots_from + at) to) height-at (min (suc to) most_forms) →
    u ≡ closed at to row mark t
unfolding closed
close-there at to row mark t u h e = rw (eq-eqb to row h) e

pub close-moved : (at to row mark : ℕ) (t t₁ u : List ℕ) → (to ≡ row → ⊥) → t₁ ≡ lower_form to row 128 t →
    u ≡ set (set (set t₁ (marks_from + at) mark) (slots_from + at) to) height-at (min (suc to) most_forms) →
    u ≡ closed at to row mark t
unfolding closed
close-moved at to row mark t t₁ u n p e = rw (ne_eqb to row n, ← p) e

-- a record that is no procedure
pub plain_more : (k at kind detail n row mark to : ℕ) (t t₁ t₂ u : List ℕ) → n ≡ parts_of kind detail →
    row ≡ height_of t → mark ≡ come_of t (marks_in t) kind detail k at n → t₁ ≡ started kind detail k row t →
    to ≡ row - n → t₂ ≡ parts_added kind detail k at to row n 0 t₁ → u ≡ closed at to row mark t₂ →
    u ≡ weighed_plain k at kind detail t
unfolding weighed_plain
plain_more k at kind detail n row mark to t t₁ t₂ u pn pr pm p₁ pt p₂ e =
    e ∙ rw (p₂, p₁, pt, pm, pn, pr)

pub plain-none : (k at kind detail n row mark : ℕ) (t t₁ u : List ℕ) → n ≡ parts_of kind detail → row ≡ height_of t →
    mark ≡ come_of t (marks_in t) kind detail k at n → t₁ ≡ started kind detail k row t → n ≡ 0 →
    u ≡ closed at row row mark t₁ → u ≡ weighed_plain k at kind detail t
unfolding parts_added
plain-none k at kind detail n row mark t t₁ u pn pr pm p₁ z e =
    plain_more k at kind detail n row mark row t t₁ t₁ u pn pr pm p₁ (omega arith)
    (ap (λ m. parts_added kind detail k at row row m 0 t₁) (sym z)) e

-- a record
pub record-plain : (k at kind detail : ℕ) (t u : List ℕ) → kind ≡ word t at KIND → detail ≡ word t at DETAIL →
    (kind ≡ PROCEDURE → ⊥) → u ≡ weighed_plain k at kind detail t → u ≡ weighed k at t
unfolding weighed
record-plain k at kind detail t u p q n e =
    rw (ne_eqb (word t at KIND) PROCEDURE (λ h. n (p ∙ h))) (e ∙ ap₂ (λ a d. weighed_plain k at a d t) p q)
