-- The table word by word: what a row holds after `row_written` and `linked`, and that all other words stay; a note
-- changes no row, and weighing changes neither a row nor a note.
use Prim.Native.Nat.{ℕ, ◌+◌, ◌*◌, ◌≤◌, ◌<◌}
use native.Mathlib.Omega.{arith}
use mathlib.Core.Path.{◌≡◌, refl, ap, ◌∙◌}
use mathlib.Core.Bool.{Bool, true, false}
use mathlib.Core.List.{List}
use lib.ListN.{length, get_or, set, length-set}
use lib.Dec.{eqb}
use lib.Seq.{get_or-set_same, get_or-set_other}
use Rattle.language.specs.declared.Numbers.{Numbers}
use Rattle.sheet_parts.specs.Rule as rule
use Rattle.sheet_rows.specs.Row as row
use Rattle.sheet_rows.specs.Row.{cell, row_kind, class_of, row_written, linked}
use Rattle.sheet_heads.specs.declared.head.Record.{Record}
use Rattle.sheet_rows.specs.Row.{word}
use Rattle.language.specs.Choice.{pick}
use Rattle.weight_theory.specs.Step.{weighed}
use Rattle.weight_theory.proofs.Below.{weighed-low}
use Rattle.sheet_reader.specs.table.Notes.{uses_name, noted, is_noted}

-- one word set: that word, and what another holds
set_same : (t : List ℕ) (p i v : ℕ) → i < 9 → 9 * p + 9 ≤ length t → word (set t (cell p i) v) p i ≡ v
unfolding word cell
set_same t p i v h g = get_or-set_same t (9 * p + i) v 0 (omega arith)

set_else : (t : List ℕ) (q j v p i x : ℕ) → i < 9 → j < 9 → (p ≡ q → i ≡ j → ⊥) → word t p i ≡ x →
    word (set t (cell q j) v) p i ≡ x
unfolding word cell
set_else t q j v p i x h g n e =
    get_or-set_other t (9 * q + j) (9 * p + i) v 0 (λ f. n (omega arith) (omega arith)) ∙ e

-- the first five words of the row of a record of type ty that `number` binders enclose and that ends before a place
pub record Holds (N : Numbers) (r : Record) (ty number end : ℕ) (U : List ℕ) (at : ℕ) : Type 0 where
  pub kind : word U at 0 ≡ row_kind r.rule r
  pub ended : word U at 1 ≡ end
  pub class : word U at 2 ≡ class_of ty
  pub values : word U at 3 ≡ rule.values N ty
  pub detail : word U at 4 ≡ row.detail r.rule N r number

pub length-written : (N : Numbers) (r : Record) (ty number end : ℕ) (t : List ℕ) → length (row_written N r ty number
    end t) ≡ length t
unfolding row_written
length-written N r ty number end t = simp length-set

pub length-linked : (p j part : ℕ) (t : List ℕ) → length (linked p j part t) ≡ length t
unfolding linked
length-linked p j part t = simp length-set

pub written_row : (N : Numbers) (r : Record) (ty number end : ℕ) (t : List ℕ) → 9 * r.place + 9 ≤ length t →
    Holds N r ty number end (row_written N r ty number end t) r.place
unfolding row_written
written_row N r ty number end t h =
    let q : ℕ = r.place in
    let x₀ : ℕ = row_kind r.rule r in
    let x₁ : ℕ = end in
    let x₂ : ℕ = class_of ty in
    let x₃ : ℕ = rule.values N ty in
    let x₄ : ℕ = row.detail r.rule N r number in
    let d₀ : List ℕ = set t (cell q 0) x₀ in
    let d₁ : List ℕ = set d₀ (cell q 1) x₁ in
    let d₂ : List ℕ = set d₁ (cell q 2) x₂ in
    let d₃ : List ℕ = set d₂ (cell q 3) x₃ in
    record {
      kind = over d₃ q 4 x₄ 0 (omega arith) (over d₂ q 3 x₃ 0 (omega arith)
          (over d₁ q 2 x₂ 0 (omega arith) (over d₀ q 1 x₁ 0 (omega arith) (set_same t q 0 x₀ (omega arith) h))));
      ended = over d₃ q 4 x₄ 1 (omega arith) (over d₂ q 3 x₃ 1 (omega arith)
          (over d₁ q 2 x₂ 1 (omega arith) (set_same d₀ q 1 x₁ (omega arith) (simp length-set h))));
      class = over d₃ q 4 x₄ 2 (omega arith) (over d₂ q 3 x₃ 2 (omega arith)
          (set_same d₁ q 2 x₂ (omega arith) (simp length-set h)));
      values = over d₃ q 4 x₄ 3 (omega arith) (set_same d₂ q 3 x₃ (omega arith) (simp length-set h));
      detail = set_same d₃ q 4 x₄ (omega arith) (simp length-set h);
    }
  where
    over : (u : List ℕ) (q j v i : ℕ) {x : ℕ} → (i < 9) × (j < 9) × (i ≡ j → ⊥) → word u q i ≡ x →
        word (set u (cell q j) v) q i ≡ x
    over u q j v i g e = set_else u q j v q i _ g.0 g.1 (λ f. g.2) e

-- every other word: of another row, or the place of a part
pub written-else : (N : Numbers) (r : Record) (ty number end : ℕ) (t : List ℕ) (p i : ℕ) → i < 9 → (p ≡ r.place → 5
    ≤ i) →
    word (row_written N r ty number end t) p i ≡ word t p i
unfolding row_written
written-else N r ty number end t p i h n =
    let q : ℕ = r.place in
    let x₀ : ℕ = row_kind r.rule r in
    let x₁ : ℕ = end in
    let x₂ : ℕ = class_of ty in
    let x₃ : ℕ = rule.values N ty in
    let x₄ : ℕ = row.detail r.rule N r number in
    let d₀ : List ℕ = set t (cell q 0) x₀ in
    let d₁ : List ℕ = set d₀ (cell q 1) x₁ in
    let d₂ : List ℕ = set d₁ (cell q 2) x₂ in
    let d₃ : List ℕ = set d₂ (cell q 3) x₃ in
    over d₃ 4 x₄ (omega arith) (over d₂ 3 x₃ (omega arith) (over d₁ 2 x₂ (omega arith)
    (over d₀ 1 x₁ (omega arith) (over t 0 x₀ (omega arith) refl))))
  where
    over : (u : List ℕ) (j v : ℕ) → j < 5 → word u p i ≡ word t p i →
        word (set u (cell r.place j) v) p i ≡ word t p i
    over u j v g e = set_else u r.place j v p i _ h (omega arith) (λ f k. let m : 5 ≤ i = n f in omega arith) e

pub linked-same : (p j part : ℕ) (t : List ℕ) → j < 4 → 9 * p + 9 ≤ length t → word (linked p j part t) p (5 + j) ≡
    part
unfolding linked
linked-same p j part t h g = set_same t p (5 + j) part (omega arith) g

pub linked-else : (q j part : ℕ) (t : List ℕ) (p i : ℕ) → j < 4 → i < 9 → (p ≡ q → i ≡ 5 + j → ⊥) →
    word (linked q j part t) p i ≡ word t p i
unfolding linked
linked-else q j part t p i g h n = set_else t q (5 + j) part p i _ h (omega arith) n refl

-- a note stands after the rows
pub length-noted : (r : Record) (t : List ℕ) → length (noted r t) ≡ length t
unfolding noted
length-noted r t = go (uses_name r)
  where
    go : (b : Bool) → length (pick b (set t (36864 + r.a) 1) t) ≡ length t
    go true = length-set t (36864 + r.a) 1
    go false = refl

pub noted-else : (r : Record) (t : List ℕ) (p i : ℕ) → p < 4096 → i < 9 → word (noted r t) p i ≡ word t p i
unfolding noted word cell
noted-else r t p i h g = go (uses_name r)
  where
    go : (b : Bool) → get_or (pick b (set t (36864 + r.a) 1) t) (9 * p + i) 0 ≡ get_or t (9 * p + i) 0
    go true = get_or-set_other t (36864 + r.a) (9 * p + i) 1 0 (λ e. omega arith)
    go false = refl

-- forms and marks stand after the rows and the notes
pub weighed-else : (k at : ℕ) (t : List ℕ) (p i : ℕ) → p < 4096 → i < 9 → word (weighed k at t) p i ≡ word t p i
unfolding word cell
weighed-else k at t p i h g = weighed-low k at t (9 * p + i) (omega arith)

pub weighed-notes : (k at : ℕ) (t : List ℕ) (id : ℕ) → id < 256 → is_noted (weighed k at t) id ≡ is_noted t id
unfolding is_noted
weighed-notes k at t id h = ap (λ x. eqb x 1) (weighed-low k at t (36864 + id) (omega arith))
