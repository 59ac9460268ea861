-- The notes in a table of parts: after the rows a word for each byte, 1 once a use of the declared name with that id was
-- read. Only inner contracts cite it.
use Rattle.std.specs.Prelude.{ℕ, ◌+◌, ◌≡◌, Bool, true, false, List, length, get_or, set, eqb}
use Rattle.language.specs.Choice.{pick}
use Rattle.sheet_records.specs.Standing.{standing_of}
use Rattle.sheet_heads.specs.declared.head.Record.{Record}
use Rattle.sheet_records.specs.declared.standing.Standing.{Standing}
use Rattle.sheet_records.specs.declared.standing.Standing.TheVariants.{Free, Retired, Declared, Variable, Parameter}
use Rattle.sheet_records.specs.declared.standing.Standing.TheVariants.{Procedure}
use Rattle.weight_theory.specs.Stack.{all_words}

-- where the notes begin: after nine words for each of 4,096 places
abbrev pub notes : ℕ
notes = 36864

-- a table in which nothing is written
pub record Blank (t : List ℕ) : Type 0 where
  pub long : length t ≡ all_words
  pub clear : (i : ℕ) → get_or t i 0 ≡ 0

-- whether a standing is that of a declared name
unfoldable pub is_name_standing : Standing → Bool
is_name_standing Free = false
is_name_standing Retired = false
is_name_standing (Declared place once) = true
is_name_standing (Variable number holds) = false
is_name_standing (Parameter number ty) = false
is_name_standing (Procedure number place) = false

-- whether a record is a use of a declared name; 20 is the kind of a use
unfoldable pub uses_name : Record → Bool
uses_name r = pick (eqb r.kind 20) (is_name_standing (standing_of r.b)) false

-- the table once a record was read: a use of a declared name is noted
unfoldable pub noted : Record → List ℕ → List ℕ
noted r t = pick (uses_name r) (set t (notes + r.a) 1) t

-- whether a use of the name with an id is noted
unfoldable pub is_noted : List ℕ → ℕ → Bool
is_noted t id = eqb (get_or t (notes + id) 0) 1
