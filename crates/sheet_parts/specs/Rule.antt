-- How the parts of a record are typed. Document 01, "The sheet, byte by byte" (types, after figure 1 of document 001), and
-- "Reckoned size" for the numbers of values, questions and answers; document 02 [1] for procedures. SHEETS 3.2 and 7.2.
use Rattle.std.specs.Prelude.{ℕ, ◌+◌, ◌-◌, ◌*◌, Bool, true, false, List, get_or, eqb, ltb, leb}
use Rattle.language.specs.Choice.{pick}
use Rattle.language.specs.Number.{numbers}
use Rattle.language.specs.Operators.{takes_numbers, gives_number}
use Rattle.language.specs.declared.Numbers.{Numbers}
use Rattle.sheet_records.specs.Standing.{standing_of, result_of, argument_of}
use Rattle.sheet_parts.specs.Types.{command, truth, number, truth_variable}
use Rattle.sheet_records.specs.declared.kind.Rule.{Rule}
use Rattle.sheet_records.specs.declared.kind.Rule.TheVariants.{Skip, Diverge, Truth, Number, Use, Fetch, Operate}
use Rattle.sheet_records.specs.declared.kind.Rule.TheVariants.{Assign, Sequence, If, While, New, Procedure}
use Rattle.sheet_heads.specs.declared.head.Record.{Record}

-- K: the number of values of a type's data; of a command it is not used
unfoldable pub values : Numbers → ℕ → ℕ
values N ty = pick (eqb ty truth) 2 (pick (eqb ty truth_variable) 2 (numbers N))

-- how many questions a type has, and how many answers they have in all
unfoldable pub questions : Numbers → ℕ → ℕ
questions N ty = pick (ltb ty truth_variable) 1 (1 + values N ty)

unfoldable pub answers : Numbers → ℕ → ℕ
answers N ty = pick (eqb ty command) 1 (pick (ltb ty truth_variable) (values N ty) (2 * values N ty))

-- the type of an operator's operands, and that of its result
unfoldable pub operand_type : ℕ → ℕ
operand_type op = pick (takes_numbers op) number truth

unfoldable pub result_type : ℕ → ℕ
result_type op = pick (gives_number op) number truth

-- whether part j of a record may have type ty, where the part before it has type prev
unfoldable pub accepts_part : Rule → List ℕ → Record → ℕ → ℕ → ℕ → Bool
accepts_part Skip s r j prev ty = false
accepts_part Diverge s r j prev ty = false
accepts_part Truth s r j prev ty = false
accepts_part Number s r j prev ty = false
accepts_part Use s r j prev ty = eqb ty (argument_of s (standing_of r.b) j)
accepts_part Fetch s r j prev ty = leb truth_variable ty
accepts_part Operate s r j prev ty = eqb ty (operand_type r.a)
accepts_part Assign s r j prev ty = pick (eqb j 0) (leb truth_variable ty) (eqb (ty + 2) prev)
accepts_part Sequence s r j prev ty = pick (eqb j 0) (eqb ty command) true
accepts_part If s r j prev ty = pick (eqb j 0) (eqb ty truth) (pick (eqb j 1) true (eqb ty prev))
accepts_part While s r j prev ty = pick (eqb j 0) (eqb ty truth) (eqb ty command)
accepts_part New s r j prev ty = eqb ty command
-- the first term has the procedure's result type, the second any
accepts_part Procedure s r j prev ty = pick (eqb j 0) (eqb ty (get_or s (r.place + 2) 0)) true

-- the type of a record whose last part has type last
unfoldable pub part_type : Rule → List ℕ → Record → ℕ → ℕ
part_type Skip s r last = command
part_type Diverge s r last = r.a
part_type Truth s r last = truth
part_type Number s r last = number
part_type Use s r last = result_of s (standing_of r.b)
part_type Fetch s r last = last - 2
part_type Operate s r last = result_type r.a
part_type Assign s r last = command
part_type Sequence s r last = last
part_type If s r last = last
part_type While s r last = command
part_type New s r last = command
part_type Procedure s r last = last
