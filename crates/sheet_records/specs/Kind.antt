-- The kinds of records. Document 01, "The sheet, byte by byte", the table: "Each record is one byte of kind and a body whose
-- length the kind fixes"; document 02 [1] for kind 28, [5] for kind 3. SHEETS 2.2 to 2.4.
use Rattle.std.specs.Prelude.{ℕ, ◌+◌, eqb}
use Rattle.language.specs.Choice.{pick}
use Rattle.sheet_records.specs.declared.kind.Rule.{Rule}
use Rattle.sheet_records.specs.declared.kind.Rule.TheVariants.{Skip, Diverge, Truth, Number, Use, Fetch, Operate}
use Rattle.sheet_records.specs.declared.kind.Rule.TheVariants.{Assign, Sequence, If, While, New, Procedure}
use Rattle.sheet_records.specs.declared.kind.Shape.{Shape}
use Rattle.sheet_records.specs.declared.kind.Shape.TheVariants.{Part, Declare, Retire, Unknown}

-- "a body whose length the kind fixes": of a name record, and of a part of a term by its rule
abbrev pub declare_body : ℕ
declare_body = 7

abbrev pub retire_body : ℕ
retire_body = 1

abbrev pub bytes_of : Rule → ℕ
bytes_of Skip = 0
bytes_of Diverge = 1
bytes_of Truth = 1
bytes_of Number = 1
bytes_of Use = 1
bytes_of Fetch = 0
bytes_of Operate = 1
bytes_of Assign = 0
bytes_of Sequence = 0
bytes_of If = 0
bytes_of While = 0
bytes_of New = 2
bytes_of Procedure = 11

-- how many bytes the record of a part has before its parts: "one byte of kind and a body"
abbrev pub record_width : Rule → ℕ
record_width R = 1 + bytes_of R

-- the length of the body and, of a declaration, 1 where the name asks once, else 0; of a part of a term, the number of
-- its parts (a use's stand in its declaration) and its rule
unfoldable pub shape_of : ℕ → Shape
shape_of k =
    pick (eqb k 1) (Declare declare_body 0)
    (pick (eqb k 2) (Retire retire_body)
    (pick (eqb k 3) (Declare declare_body 1)
    (pick (eqb k 16) (Part (bytes_of Skip) 0 Skip)
    (pick (eqb k 17) (Part (bytes_of Diverge) 0 Diverge)
    (pick (eqb k 18) (Part (bytes_of Truth) 0 Truth)
    (pick (eqb k 19) (Part (bytes_of Number) 0 Number)
    (pick (eqb k 20) (Part (bytes_of Use) 0 Use)
    (pick (eqb k 21) (Part (bytes_of Fetch) 1 Fetch)
    (pick (eqb k 22) (Part (bytes_of Operate) 2 Operate)
    (pick (eqb k 23) (Part (bytes_of Assign) 2 Assign)
    (pick (eqb k 24) (Part (bytes_of Sequence) 2 Sequence)
    (pick (eqb k 25) (Part (bytes_of If) 3 If)
    (pick (eqb k 26) (Part (bytes_of While) 2 While)
    (pick (eqb k 27) (Part (bytes_of New) 1 New)
    (pick (eqb k 28) (Part (bytes_of Procedure) 2 Procedure) Unknown)))))))))))))))

-- the length of a record's body and how many parts it has, a use's left out
unfoldable pub body_in : Shape → ℕ
body_in (Part body parts rule) = body
body_in (Declare body once) = body
body_in (Retire body) = body
body_in Unknown = 0

unfoldable pub parts_in : Shape → ℕ
parts_in (Part body parts rule) = parts
parts_in (Declare body once) = 0
parts_in (Retire body) = 0
parts_in Unknown = 0
