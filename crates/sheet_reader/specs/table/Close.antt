-- The rows of records that are closed by one decision over their rule: those without parts, and those whose weight is
-- the sum of their parts'. Only inner contracts cite it.
use Rattle.std.specs.Prelude.{ℕ, ◌+◌, ◌<◌, ◌≡◌, List, Option, Some, None, get_or, eqb}
use Rattle.language.specs.Choice.{pick}
use Rattle.language.specs.Number.{code, from_byte}
use Rattle.language.specs.declared.Numbers.{Numbers}
use Rattle.sheet_records.specs.Standing.{standing_of}
use Rattle.sheet_parts.specs.Types.{command, truth, number}
use Rattle.sheet_parts.specs.Rule.{part_type}
use Rattle.sheet_rows.specs.PartKind.{CONSTANT, PRIVATE, VALUES, PARTS}
use Rattle.sheet_rows.specs.Row as row
use Rattle.sheet_rows.specs.Row.{word, declared_detail}
use Rattle.weight_records.specs.Few.{SumKind}
use Rattle.sheet_heads.specs.declared.head.Record.{Record}
use Rattle.sheet_records.specs.declared.kind.Rule.{Rule}
use Rattle.sheet_records.specs.declared.kind.Rule.TheVariants.{Skip, Diverge, Truth, Number, Use, Fetch, Operate}
use Rattle.sheet_records.specs.declared.kind.Rule.TheVariants.{Assign, Sequence, If, While, New, Procedure}
use Rattle.sheet_records.specs.declared.standing.Standing.{Standing}
use Rattle.sheet_records.specs.declared.standing.Standing.TheVariants.{Free, Retired, Declared, Variable, Parameter}
use Rattle.sheet_records.specs.declared.standing.Standing.TheVariants.{Procedure as Routine}
use Rattle.sheet_reader.specs.declared.close.Leaf.{Leaf}
use Rattle.sheet_reader.specs.declared.close.Sum.{Sum}

abbrev pub leaf : ℕ → ℕ → ℕ → Leaf
leaf kind ty detail = record { kind = kind; ty = ty; detail = detail }

abbrev pub sum : ℕ → ℕ → ℕ → ℕ → ℕ → Sum
sum ty detail n first second =
    record { ty = ty; detail = detail; parts = n; first = first; second = second }

-- the row of a use without arguments: of a declared name and of a variable
unfoldable pub leaf_use : List ℕ → Record → Standing → Option Leaf
leaf_use s r Free = None
leaf_use s r Retired = None
leaf_use s r (Declared place once) = Some (leaf r.kind (get_or s (place + 2) 0) (declared_detail r.a 0 once))
leaf_use s r (Variable binder holds) = Some (leaf PRIVATE (2 + holds) binder)
leaf_use s r (Parameter binder ty) = None
leaf_use s r (Routine binder place) = None

unfoldable pub leaf_row : Rule → List ℕ → Numbers → Record → Option Leaf
leaf_row Skip s N r = Some (leaf r.kind command 0)
leaf_row Diverge s N r = Some (leaf r.kind r.a 0)
leaf_row Truth s N r = Some (leaf r.kind truth r.a)
leaf_row Number s N r = Some (leaf CONSTANT number (code N (from_byte r.a)))
leaf_row Use s N r = leaf_use s r (standing_of r.b)
leaf_row Fetch s N r = None
leaf_row Operate s N r = None
leaf_row Assign s N r = None
leaf_row Sequence s N r = None
leaf_row If s N r = None
leaf_row While s N r = None
leaf_row New s N r = None
leaf_row Procedure s N r = None

-- the row of a record, where it has no parts
unfoldable pub leaf_of : List ℕ → Numbers → Record → Option Leaf
leaf_of s N r = pick (eqb r.parts 0) (leaf_row r.rule s N r) None

-- the row of a record whose last part has type last, and how its weight is a sum in every table that has the place of
-- its first part and the rows after its own as t has them
pub record SumIs (t : List ℕ) (N : Numbers) (r : Record) (last ty detail n first second : ℕ) : Type 0 where
  pub same_kind : r.kind ≡ row.row_kind r.rule r
  pub has_type : (s : List ℕ) → ty ≡ part_type r.rule s r last
  pub has_detail : (around : ℕ) → detail ≡ row.detail r.rule N r around
  pub sums : (u : List ℕ) → word u r.place PARTS ≡ word t r.place PARTS →
      ((place : ℕ) → r.place < place → word u place VALUES ≡ word t place VALUES) →
      SumKind u r.place r.kind detail n first second

unfoldable pub SumRow : List ℕ → Numbers → Record → ℕ → Option Sum → Type 0
SumRow t N r last (Some x) = SumIs t N r last x.ty x.detail x.parts x.first x.second
SumRow t N r last None = Unit
