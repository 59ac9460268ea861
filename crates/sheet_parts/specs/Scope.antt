-- The scopes inside a record. Document 01, "The sheet, byte by byte": "A use means the innermost enclosing new with that id";
-- document 02 [1]: "An inner name hides an outer one, as with new", "The procedure doesn't see its own id". SHEETS 2.6.
use Rattle.std.specs.Prelude.{ℕ, zero, suc, ◌+◌, ◌*◌, List, get_or, set}
use Rattle.sheet_records.specs.Standing.{variable_standing, parameter_standing, procedure_standing}
use Rattle.sheet_records.specs.declared.kind.Rule.{Rule}
use Rattle.sheet_records.specs.declared.kind.Rule.TheVariants.{Skip, Diverge, Truth, Number, Use, Fetch, Operate}
use Rattle.sheet_records.specs.declared.kind.Rule.TheVariants.{Assign, Sequence, If, While, New, Procedure}
use Rattle.sheet_parts.specs.declared.scope.Opens.{Opens}
use Rattle.sheet_parts.specs.declared.scope.Opens.TheVariants.{Nothing, Block, Routine}
use Rattle.sheet_heads.specs.declared.head.Record.{Record}

-- which scopes a record opens
unfoldable pub opens : Rule → Opens
opens Skip = Nothing
opens Diverge = Nothing
opens Truth = Nothing
opens Number = Nothing
opens Use = Nothing
opens Fetch = Nothing
opens Operate = Nothing
opens Assign = Nothing
opens Sequence = Nothing
opens If = Nothing
opens While = Nothing
opens New = Block
opens Procedure = Routine

-- the standings inside a new that `number` binders enclose
unfoldable pub entered : List ℕ → Record → ℕ → List ℕ
entered st r number = set st r.a (variable_standing number r.b)

-- the standings inside the term of the procedure at a place that `number` binders enclose: the first j parameters are set
unfoldable pub passed : List ℕ → ℕ → ℕ → ℕ → List ℕ → List ℕ
passed s place number zero st = st
passed s place number (suc j) st =
    set (passed s place number j st) (get_or s (place + 4 + 2 * j) 0)
    (parameter_standing (number + j) (get_or s (place + 5 + 2 * j) 0))

-- the standings inside the term in which the procedure may be used
unfoldable pub usable : List ℕ → Record → ℕ → List ℕ
usable st r number = set st r.a (procedure_standing number r.place)
