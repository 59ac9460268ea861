-- A record weighed in one step.
use Prim.Native.Nat.{ℕ, suc, ◌+◌, ◌-◌, ◌≤◌, ◌<◌, min}
use native.Mathlib.Omega.{arith}
use mathlib.Core.Bool.{Bool, true, false, not}
use mathlib.Core.List.{List}
use mathlib.Core.Path.{◌≡◌, refl, sym, ap, ◌∙◌}
use lib.ListN.{length, set}
use lib.Dec.{ltb}
use borrow.Author.Tests.{lt-ltb, ltb-true, ltb-false, ne_eqb}
use Rattle.sheet_written.proofs.Tests.{by-test}
use Rattle.sheet_rows.specs.PartKind.{PARAMETER, ROUTINE, VALUES, PARTS}
use Rattle.sheet_rows.specs.Row.{word}
use Rattle.weight_theory.specs.Stack.{marks_from, slots_from, height-at, most_forms, marks_in, height_of, spot}
use Rattle.weight_theory.specs.Stack.{constant_form}
use Rattle.weight_theory.specs.Plan.{own_of, come_of}
use Rattle.weight_theory.specs.Step.{started, closed, weighed}
use Rattle.weight_records.specs.Few.{RowAt, LeafKind, SumKind}
use Rattle.weight_records.specs.inner.Sum.{SumOf}
use Rattle.weight_records.proofs.Steps.{close-there, close-moved, plain-none, plain_more, record-plain}
use Rattle.weight_records.proofs.Short.{constant-short, noted-short, weighed-short}
use Rattle.weight_records.proofs.Bare.{constant-held, moved-bare}
use Rattle.weight_records.proofs.Plans.{Plan, plan-of}
use Rattle.weight_records.proofs.Sums.{parts-bare}

-- a record without parts
leaf-come : (t : List ℕ) (k at kind detail : ℕ) → kind < PARAMETER → 0 ≡ come_of t (marks_in t) kind detail k at 0
unfolding come_of
leaf-come t k at kind detail h =
    rw (ne_eqb kind PARAMETER (λ e. omega arith), ne_eqb kind ROUTINE (λ e. omega arith)) refl

leaf-start : (t : List ℕ) (k row kind detail : ℕ) → kind < PARAMETER →
    constant_form row (own_of kind detail) t ≡ started kind detail k row t
unfolding started
leaf-start t k row kind detail h = rw (lt-ltb kind PARAMETER h) refl

pub leaf-weighed : (k at kind detail row c : ℕ) (t t₁ u : List ℕ) → row ≡ height_of t → c ≡ own_of kind detail →
    t₁ ≡ constant_form row c t →
    u ≡ set (set (set t₁ (marks_from + at) 0) (slots_from + at) row) height-at (min (suc row) most_forms) →
    LeafKind kind detail → RowAt t at kind detail → u ≡ weighed k at t
leaf-weighed k at kind detail row c t t₁ u pr pc p e L R =
    by-test (ltb (length t) marks_from)
    (λ b. let h : length t < marks_from = ltb-true (length t) marks_from b in
    let g : length t ≤ marks_from = omega arith in
    e ∙ ap (λ x. set (set (set x (marks_from + at) 0) (slots_from + at) row) height-at (min (suc row) most_forms))
    (p ∙ constant-short t g row c)
    ∙ noted-short t g at row 0 ∙ sym (weighed-short t g k at))
    (λ b. let h : marks_from ≤ length t = ltb-false (length t) marks_from b in
    record-plain k at kind detail t u (sym (R.has_kind h)) (sym (R.has_detail h)) L.plain
    (plain-none k at kind detail 0 row 0 t t₁ u (sym L.none) pr (leaf-come t k at kind detail L.low)
    (p ∙ ap (λ x. constant_form row x t) pc ∙ leaf-start t k row kind detail L.low) refl
    (close-there at row row 0 t₁ u refl e)))

-- a constant for the form above the stack and for that of a part
pub settled : (at to row c : ℕ) (t t₁ t₂ u : List ℕ) → to < row → t₁ ≡ constant_form row c t →
    t₂ ≡ constant_form to c t₁ →
    u ≡ set (set (set t₂ (marks_from + at) 0) (slots_from + at) to) height-at (min (suc to) most_forms) →
    spot row 1 < length t → u ≡ closed at to row 0 (constant_form row c t)
settled at to row c t t₁ t₂ u l p q e h =
    close-moved at to row 0 (constant_form row c t) t₂ u (λ x. omega arith)
    (q ∙ ap (λ x. constant_form to c x) p ∙ sym (moved-bare to row c t l h)) e

-- a record by its parts
marks-in : (row : ℕ) (t : List ℕ) → spot row 1 < length t → marks_from ≤ length t
unfolding spot
marks-in row t h = omega arith

not-false : (b : Bool) → not b ≡ false → b ≡ true
not-false true e = refl
not-false false e = sym e

pub parts-weighed : (k at kind detail n first second row to c : ℕ) (has : Bool) (t u : List ℕ) → at < 4096 →
    row ≡ height_of t → n ≤ row → has ≡ ltb (spot row 1) (length t) → not has ≡ false → to ≡ row - n →
    SumOf t to n first second c →
    (spot row 1 < length t → u ≡ closed at to row 0 (constant_form row c t)) →
    RowAt t at kind detail → SumKind t at kind detail n first second → u ≡ weighed k at t
parts-weighed k at kind detail n first second row to c has t u h pr l b y pt X e R S =
    let i : spot row 1 < length t = ltb-true (spot row 1) (length t) (sym b ∙ not-false has y) in
    let m : marks_from ≤ length t = marks-in row t i in
    let P : Plan t at k row kind detail n first second = plan-of t at k row h kind detail n first second S in
    record-plain k at kind detail t u (sym (R.has_kind m)) (sym (R.has_detail m)) P.other
    (plain_more k at kind detail n row 0 to t (constant_form row 0 t) (constant_form row c t) u P.parts pr P.come
    P.start pt
    (sym (parts-bare t at k row kind detail n first second to P (omega arith) i X.bare n 0 0 (omega arith)
    ∙ constant-held row _ c t (sym X.sum)))
    (e i))

-- the values of the first part
pub first_read : (t : List ℕ) (at place r : ℕ) → place ≡ word t at PARTS → at < place → place < 4096 →
    r ≡ word t place VALUES →
    (at < word t at PARTS) × ((word t at PARTS < 4096) × (r ≡ word t (word t at PARTS) VALUES))
first_read t at place r p h g e = (omega arith, (omega arith, e ∙ ap (λ x. word t x VALUES) p))
