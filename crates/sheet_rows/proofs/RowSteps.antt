-- The stores of a row, over plain variables.
use Prim.Native.Nat.{ℕ, ◌+◌, ◌*◌}
use native.Mathlib.Omega.{arith}
use mathlib.Core.Path.{◌≡◌, refl, ◌∙◌}
use mathlib.Core.List.{List}
use lib.ListN.{get_or, set}
use Rattle.language.specs.declared.Numbers.{Numbers}
use Rattle.sheet_parts.specs.Rule.{values}
use Rattle.sheet_rows.specs.Row.{cell, word, row_kind, class_of, detail, five_from, five, row_written}
use Rattle.sheet_heads.specs.declared.head.Record.{Record}

-- a word of the table
pub word_read : (t : List ℕ) (place i : ℕ) → get_or t (9 * place + i) 0 ≡ word t place i
unfolding word cell
word_read t place i = refl

-- the words of a row follow each other
pub cell-next : (place i : ℕ) → cell place 0 + i ≡ cell place i
unfolding cell
cell-next place i = omega arith

-- the five words, one after another
pub five-words :
    (place : ℕ) (t : List ℕ) (k h c v d : ℕ) {t₁ t₂ t₃ t₄ t₅ : List ℕ} →
    t₁ ≡ set t (cell place 0) k → t₂ ≡ set t₁ (cell place 1) h → t₃ ≡ set t₂ (cell place 2) c →
    t₄ ≡ set t₃ (cell place 3) v → t₅ ≡ set t₄ (cell place 4) d → t₅ ≡ five place k h c v d t
unfolding five_from
five-words place t k h c v d p q s u w =
    w ∙ rw (u, s, q, p, cell-next place 1, cell-next place 2, cell-next place 3, cell-next place 4)

-- they are a record's row
pub five-written :
    (N : Numbers) (r : Record) (ty number end : ℕ) (t : List ℕ) {k d : ℕ} {u : List ℕ} →
    k ≡ row_kind r.rule r → d ≡ detail r.rule N r number →
    u ≡ five r.place k end (class_of ty) (values N ty) d t → u ≡ row_written N r ty number end t
unfolding row_written five_from
five-written N r ty number end t a d p =
    p ∙ rw (a, d)
    (rw (cell-next r.place 1, cell-next r.place 2, cell-next r.place 3, cell-next r.place 4))
