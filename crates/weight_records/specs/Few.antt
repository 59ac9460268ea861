-- Which records are weighed without a sum of forms: those without parts, and those with one to three parts whose weight
-- is the sum of theirs. Only inner contracts cite it.
use Rattle.std.specs.Prelude.{ℕ, ◌≤◌, ◌<◌, ◌≡◌, List, length}
use Rattle.sheet_rows.specs.PartKind.{FETCH, OPERATE, ASSIGN, SEQUENCE, IF, WHILE, NEW, PROCEDURE, PARAMETER}
use Rattle.sheet_rows.specs.PartKind.{KIND, VALUES, DETAIL, PARTS}
use Rattle.sheet_rows.specs.Row.{word}
use Rattle.sheet_records.specs.Limits.{most_bytes}
use Rattle.weight_theory.specs.Stack.{marks_from}
use Rattle.weight_theory.specs.Plan.{parts_of}

-- the row at a place has a kind and a detail, where the table has more than rows and notes; in a shorter one nothing is
-- weighed
pub record RowAt (t : List ℕ) (at kind detail : ℕ) : Type 0 where
  pub has_kind : marks_from ≤ length t → word t at KIND ≡ kind
  pub has_detail : marks_from ≤ length t → word t at DETAIL ≡ detail

-- a record without parts that uses neither a parameter nor a procedure
pub record LeafKind (kind detail : ℕ) : Type 0 where
  pub low : kind < PARAMETER
  pub plain : kind ≡ PROCEDURE → ⊥
  pub none : parts_of kind detail ≡ 0

-- the record at a place has n parts, of which the first and the second weigh as often as said, a third once; in the
-- order in which document 001 defines the plays
pub data SumKind (t : List ℕ) (at kind detail n first second : ℕ) : Type 0 where
  sum_operate : kind ≡ OPERATE → n ≡ 2 → first ≡ 1 → word t at PARTS < most_bytes →
      second ≡ word t (word t at PARTS) VALUES → SumKind t at kind detail n first second
  sum_sequence : kind ≡ SEQUENCE → n ≡ 2 → first ≡ 1 → second ≡ 1 → SumKind t at kind detail n first second
  sum_while : kind ≡ WHILE → n ≡ 2 → first ≡ 1 → second ≡ 1 → SumKind t at kind detail n first second
  sum_if : kind ≡ IF → n ≡ 3 → first ≡ 1 → second ≡ 1 → SumKind t at kind detail n first second
  sum_fetch : kind ≡ FETCH → n ≡ 1 → first ≡ 1 → SumKind t at kind detail n first second
  sum_assign : kind ≡ ASSIGN → n ≡ 2 → word t at PARTS < most_bytes → first ≡ word t (word t at PARTS) VALUES →
      second ≡ 1 → SumKind t at kind detail n first second
  sum_new : kind ≡ NEW → n ≡ 1 → first ≡ detail → SumKind t at kind detail n first second
