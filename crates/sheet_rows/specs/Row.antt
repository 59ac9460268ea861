-- The table of parts, which the reader leaves: nine words for each place of a sheet. Only inner contracts cite it; what the
-- words say is told in sheet_written/specs/Table.
use Rattle.std.specs.Prelude.{ℕ, ◌+◌, ◌*◌, ◌%◌, List, get_or, set, eqb, ltb}
use Rattle.language.specs.Choice.{pick}
use Rattle.language.specs.Number.{code, from_byte}
use Rattle.language.specs.declared.Numbers.{Numbers}
use Rattle.sheet_records.specs.Standing.{standing_of}
use Rattle.sheet_rows.specs.PartKind.{CONSTANT, PRIVATE, PARAMETER, ROUTINE, KIND, END, CLASS, VALUES, DETAIL}
use Rattle.sheet_rows.specs.PartKind.{PARTS, ROW-WORDS, ID-SPAN, COUNT-SPAN, PLACE-SPAN}
use Rattle.sheet_rows.specs.Class.{COMMANDS, EXPRESSIONS, VARIABLES}
use Rattle.sheet_parts.specs.Rule.{values}
use Rattle.sheet_records.specs.declared.kind.Rule.{Rule}
use Rattle.sheet_records.specs.declared.kind.Rule.TheVariants.{Skip, Diverge, Truth, Number, Use, Fetch, Operate}
use Rattle.sheet_records.specs.declared.kind.Rule.TheVariants.{Assign, Sequence, If, While, New, Procedure}
use Rattle.sheet_heads.specs.declared.head.Record.{Record}
use Rattle.sheet_records.specs.declared.standing.Standing.{Standing}
use Rattle.sheet_records.specs.declared.standing.Standing.TheVariants.{Free, Retired, Declared, Variable, Parameter}
use Rattle.sheet_records.specs.declared.standing.Standing.TheVariants.{Procedure as Routine}

-- where word i of the row at a place stands
unfoldable pub cell : ℕ → ℕ → ℕ
cell place i = ROW-WORDS * place + i

-- word i of the row at a place
unfoldable pub word : List ℕ → ℕ → ℕ → ℕ
word t at i = get_or t (cell at i) 0

-- the kind of a use's row: of a name that of its record
unfoldable pub use_kind : ℕ → Standing → ℕ
use_kind kind Free = kind
use_kind kind Retired = kind
use_kind kind (Declared place once) = kind
use_kind kind (Variable number holds) = PRIVATE
use_kind kind (Parameter number ty) = PARAMETER
use_kind kind (Routine number place) = ROUTINE

unfoldable pub row_kind : Rule → Record → ℕ
row_kind Skip r = r.kind
row_kind Diverge r = r.kind
row_kind Truth r = r.kind
row_kind Number r = CONSTANT
row_kind Use r = use_kind r.kind (standing_of r.b)
row_kind Fetch r = r.kind
row_kind Operate r = r.kind
row_kind Assign r = r.kind
row_kind Sequence r = r.kind
row_kind If r = r.kind
row_kind While r = r.kind
row_kind New r = r.kind
row_kind Procedure r = r.kind

unfoldable pub class_of : ℕ → ℕ
class_of ty = pick (eqb ty 0) COMMANDS (pick (ltb ty 3) EXPRESSIONS VARIABLES)

-- the detail of a use of a name: its id, ID-SPAN times the number of its arguments and, where it asks once, ONCE
unfoldable pub declared_detail : ℕ → ℕ → ℕ → ℕ
declared_detail id count once = id + ID-SPAN * (count % COUNT-SPAN + COUNT-SPAN * (once % 2))

-- the detail of a use of an id with a number of arguments: of a name that, of a variable or a parameter its binder's
-- number, of a procedure the place of its record and 4,096 times the number of arguments
unfoldable pub use_detail : ℕ → ℕ → Standing → ℕ
use_detail id count Free = declared_detail id count 0
use_detail id count Retired = declared_detail id count 0
use_detail id count (Declared place once) = declared_detail id count once
use_detail id count (Variable number holds) = number
use_detail id count (Parameter number ty) = number
use_detail id count (Routine number place) = place % PLACE-SPAN + PLACE-SPAN * (count % COUNT-SPAN)

-- the detail of a record that `number` binders enclose
unfoldable pub detail : Rule → Numbers → Record → ℕ → ℕ
detail Skip N r number = 0
detail Diverge N r number = 0
detail Truth N r number = r.a
detail Number N r number = code N (from_byte r.a)
detail Use N r number = use_detail r.a r.parts (standing_of r.b)
detail Fetch N r number = 0
detail Operate N r number = r.a
detail Assign N r number = 0
detail Sequence N r number = 0
detail If N r number = 0
detail While N r number = 0
detail New N r number = values N r.b
detail Procedure N r number = number

-- the table with five words from a place of it on
unfoldable pub five_from : ℕ → ℕ → ℕ → ℕ → ℕ → ℕ → List ℕ → List ℕ
five_from at kind end class values detail t =
    set (set (set (set (set t at kind) (at + END) end) (at + CLASS) class) (at + VALUES) values) (at + DETAIL) detail

-- the table with the first five words of the row at a place
abbrev pub five : ℕ → ℕ → ℕ → ℕ → ℕ → ℕ → List ℕ → List ℕ
five place kind end class values detail t = five_from (cell place KIND) kind end class values detail t

-- the table with the first five words of a record's row written; the record has type ty, `number` binders enclose it, and it
-- ends before a place
unfoldable pub row_written : Numbers → Record → ℕ → ℕ → ℕ → List ℕ → List ℕ
row_written N r ty number end t =
    set (set (set (set (set t (cell r.place KIND) (row_kind r.rule r))
    (cell r.place END) end)
    (cell r.place CLASS) (class_of ty))
    (cell r.place VALUES) (values N ty))
    (cell r.place DETAIL) (detail r.rule N r number)

-- the table with the place of part j in the row at a place
unfoldable pub linked : ℕ → ℕ → ℕ → List ℕ → List ℕ
linked place j part t = set t (cell place (PARTS + j)) part
