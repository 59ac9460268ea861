-- The words of a record's row once they are written, and those that stay.
use Prim.Native.Nat.{ℕ, ◌+◌, ◌<◌}
use native.Mathlib.Omega.{arith}
use mathlib.Core.Path.{◌≡◌, ◌∙◌}
use mathlib.Core.Bool.{Bool, true, false}
use mathlib.Core.List.{List}
use lib.ListN.{length, get_or, set, length-set}
use lib.Seq.{get_or-set_same, get_or-set_other}
use Rattle.language.specs.Choice.{pick}
use Rattle.language.specs.declared.Numbers.{Numbers}
use Rattle.sheet_parts.specs.Rule.{values}
use Rattle.sheet_rows.specs.Row.{cell, word, row_kind, class_of, detail, row_written}
use Rattle.weight_records.specs.Few.{RowAt}
use Rattle.sheet_heads.specs.declared.head.Record.{Record}
use Rattle.sheet_reader.specs.table.Notes.{uses_name, noted}

-- five words of the row at a place, one after another
module _ (t : List ℕ) (p k e c v d : ℕ) where
  abbrev One : List ℕ
  One = set t (cell p 0) k

  abbrev Two : List ℕ
  Two = set One (cell p 1) e

  abbrev Three : List ℕ
  Three = set Two (cell p 2) c

  abbrev Four : List ℕ
  Four = set Three (cell p 3) v

  abbrev Five : List ℕ
  Five = set Four (cell p 4) d

  four-long : length Four ≡ length t
  four-long = simp length-set

  five-long : length Five ≡ length t
  five-long = simp length-set

  -- a word that is none of them stays
  stays : (i : ℕ) → ((j : ℕ) → j < 5 → i ≡ cell p j → ⊥) → get_or Five i 0 ≡ get_or t i 0
  stays i h =
      get_or-set_other Four (cell p 4) i d 0 (h 4 (omega arith)) ∙
      get_or-set_other Three (cell p 3) i v 0 (h 3 (omega arith)) ∙
      get_or-set_other Two (cell p 2) i c 0 (h 2 (omega arith)) ∙
      get_or-set_other One (cell p 1) i e 0 (h 1 (omega arith)) ∙
      get_or-set_other t (cell p 0) i k 0 (h 0 (omega arith))

  first-there : cell p 0 < length t → get_or Five (cell p 0) 0 ≡ k
  unfolding cell
  first-there h =
      get_or-set_other Four (cell p 4) (cell p 0) d 0 (λ f. omega arith) ∙
      get_or-set_other Three (cell p 3) (cell p 0) v 0 (λ f. omega arith) ∙
      get_or-set_other Two (cell p 2) (cell p 0) c 0 (λ f. omega arith) ∙
      get_or-set_other One (cell p 1) (cell p 0) e 0 (λ f. omega arith) ∙
      get_or-set_same t (cell p 0) k 0 h

  last-there : cell p 4 < length t → get_or Five (cell p 4) 0 ≡ d
  last-there h = get_or-set_same Four (cell p 4) d 0 (omega (arith, four-long))

module _ (N : Numbers) (r : Record) (ty around end : ℕ) (t : List ℕ) where
  abbrev Row : List ℕ
  Row = row_written N r ty around end t

  -- the kind and the detail
  pub row_at : r.place < 4096 → RowAt Row r.place (row_kind r.rule r) (detail r.rule N r around)
  unfolding row_written word cell
  row_at h =
      record {
        has_kind = λ l.
            let m = five-long t r.place (row_kind r.rule r) end (class_of ty) (values N ty)
            (detail r.rule N r around) in
            first-there t r.place (row_kind r.rule r) end (class_of ty) (values N ty) (detail r.rule N r around)
            (omega (arith, h, l, m));
        has_detail = λ l.
            let m = five-long t r.place (row_kind r.rule r) end (class_of ty) (values N ty)
            (detail r.rule N r around) in
            last-there t r.place (row_kind r.rule r) end (class_of ty) (values N ty) (detail r.rule N r around)
            (omega (arith, h, l, m));
      }

  -- the place of the first part, and the rows after
  pub row_first : word Row r.place 5 ≡ word t r.place 5
  unfolding row_written word cell
  row_first =
      stays t r.place (row_kind r.rule r) end (class_of ty) (values N ty) (detail r.rule N r around)
      (cell r.place 5) (λ j h e. omega arith)

  pub row-after : (place : ℕ) → r.place < place → word Row place 3 ≡ word t place 3
  unfolding row_written word cell
  row-after place l =
      stays t r.place (row_kind r.rule r) end (class_of ty) (values N ty) (detail r.rule N r around)
      (cell place 3) (λ j h e. omega arith)

-- a note leaves the rows
noted-by :
    (b : Bool) (t : List ℕ) (id at kind d : ℕ) → at < 4096 → RowAt t at kind d →
    RowAt (pick b (set t (36864 + id) 1) t) at kind d
unfolding word cell
noted-by true t id at kind d h R =
    record {
      has_kind = λ l.
          get_or-set_other t (36864 + id) (cell at 0) 1 0 (λ e. omega arith) ∙ R.has_kind (rw length-set at l);
      has_detail = λ l.
          get_or-set_other t (36864 + id) (cell at 4) 1 0 (λ e. omega arith) ∙ R.has_detail (rw length-set at l);
    }
noted-by false t id at kind d h R = R

pub noted-at :
    (r : Record) (t : List ℕ) (at kind d : ℕ) → at < 4096 → RowAt t at kind d → RowAt (noted r t) at kind d
unfolding noted
noted-at r t at kind d h R = noted-by (uses_name r) t r.a at kind d h R

-- the same of equal tables, kinds and details
pub at_same :
    (at : ℕ) {t u : List ℕ} {j k c d : ℕ} → u ≡ t → j ≡ k → c ≡ d → RowAt t at k d → RowAt u at j c
at_same at e f g R = rw (e, f, g) R
