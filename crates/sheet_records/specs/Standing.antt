-- The standing of an id. Document 01, "Required forms by place": "An array [0; 255] holds each id's standing: free, retired,
-- declared record or enclosing variable"; document 02 [1]: an enclosing procedure or parameter too. SHEETS 2.6.
--
-- A standing is a number, which says whether the id is free, retired, declared by the record at a place (with 1 where
-- the name asks once, document 02 [5], else 0), or held by an enclosing binder: the variable of a new with its data (1
-- truth, 2 number), a parameter with its type, a procedure with the place of its record. Enclosing binders are numbered
-- from the outermost, which is 0; there are at most 128.
use Rattle.std.specs.Prelude.{ℕ, ◌+◌, ◌-◌, ◌*◌, ◌/◌, ◌%◌, Bool, true, false, eqb, ltb, List, get_or}
use Rattle.language.specs.Choice.{pick}
use Rattle.sheet_records.specs.declared.standing.Standing.{Standing}
use Rattle.sheet_records.specs.declared.standing.Standing.TheVariants.{Free, Retired, Declared, Variable, Parameter}
use Rattle.sheet_records.specs.declared.standing.Standing.TheVariants.{Procedure}

abbrev pub free : ℕ
free = 0

abbrev pub retired : ℕ
retired = 1

-- the first standings of declared ids, of variables, of parameters and of procedures
abbrev pub declared : ℕ
declared = 256

abbrev pub variables : ℕ
variables = 12288

abbrev pub parameters : ℕ
parameters = 16384

abbrev pub procedures : ℕ
procedures = 32768

unfoldable pub declared_standing : ℕ → ℕ → ℕ
declared_standing place once = declared + 2 * place + once

unfoldable pub variable_standing : ℕ → ℕ → ℕ
variable_standing number holds = variables + 4 * number + holds

unfoldable pub parameter_standing : ℕ → ℕ → ℕ
parameter_standing number ty = parameters + 8 * number + ty

unfoldable pub procedure_standing : ℕ → ℕ → ℕ
procedure_standing number place = procedures + 128 * place + number

-- what a standing says
unfoldable pub standing_of : ℕ → Standing
standing_of c =
    pick (eqb c free) Free
    (pick (eqb c retired) Retired
    (pick (ltb c variables) (Declared ((c - declared) / 2) ((c - declared) % 2))
    (pick (ltb c parameters) (Variable ((c - variables) / 4) ((c - variables) % 4))
    (pick (ltb c procedures) (Parameter ((c - parameters) / 8) ((c - parameters) % 8))
    (Procedure ((c - procedures) % 128) ((c - procedures) / 128))))))

-- whether a name record holds the id: no binder may take it
unfoldable pub is_named : Standing → Bool
is_named Free = false
is_named Retired = true
is_named (Declared place once) = true
is_named (Variable number holds) = false
is_named (Parameter number ty) = false
is_named (Procedure number place) = false

-- whether an enclosing binder holds the id
unfoldable pub is_held : Standing → Bool
is_held Free = false
is_held Retired = false
is_held (Declared place once) = false
is_held (Variable number holds) = true
is_held (Parameter number ty) = true
is_held (Procedure number place) = true

-- the type of a use of the id; an id that is free or retired has none
unfoldable pub result_of : List ℕ → Standing → ℕ
result_of s Free = 0
result_of s Retired = 0
result_of s (Declared place once) = get_or s (place + 2) 0
result_of s (Variable number holds) = 2 + holds
result_of s (Parameter number ty) = ty
result_of s (Procedure number place) = get_or s (place + 2) 0

-- how many arguments it has, and the type of argument j: the body of a declare record has the types one after the other,
-- that of a procedure pairs of id and type
unfoldable pub count_of : List ℕ → Standing → ℕ
count_of s Free = 0
count_of s Retired = 0
count_of s (Declared place once) = get_or s (place + 3) 0
count_of s (Variable number holds) = 0
count_of s (Parameter number ty) = 0
count_of s (Procedure number place) = get_or s (place + 3) 0

unfoldable pub argument_of : List ℕ → Standing → ℕ → ℕ
argument_of s Free j = 0
argument_of s Retired j = 0
argument_of s (Declared place once) j = get_or s (place + 4 + j) 0
argument_of s (Variable number holds) j = 0
argument_of s (Parameter number ty) j = 0
argument_of s (Procedure number place) j = get_or s (place + 5 + 2 * j) 0
