-- Shared rows in words, document 02 [1]: nine words for each row. Only inner contracts cite it.
--
-- A row: 0 kind (16 to 27, 18 for every constant, 128 for the use of a private variable), 1 weight, held at 4,097, 2
-- class of its type (0 command, 1 expression, 2 variable), 3 number of values of its data, 4 detail, 5 to 8 the rows of
-- its parts. The detail of a constant is its code, of an operation its operator, of a name its id, 256 times the number
-- of its arguments and, where it asks once, 2,048, of a new the number of values of its variable, of an assignment that
-- of the variable that it sets, of a private variable the row of its new.
use Rattle.std.specs.Prelude.{ℕ, suc, ◌+◌, ◌*◌, ◌%◌, List, [], ◌∷◌, eqb}
use Rattle.std.proofs.Math.Option.{Option, none, some}
use Rattle.language.specs.Choice.{pick}
use Rattle.language.specs.Ty.{questions, answers}
use Rattle.language.specs.Typing.{operands}
use Rattle.language.specs.declared.Numbers.{Numbers}
use Rattle.language.specs.Weight.{use_weight}
use Rattle.sheet_written.specs.Written.{Name}
use Rattle.sheet_written.specs.Meaning.{Meaning, private, argument, routine, named, retired, free, declared, ty_of}
use Rattle.sheet_written.specs.Shared as s
use Rattle.sheet_written.specs.Shared.{Parts, no_part, part, Row}
use Rattle.sheet_written.specs.Expand.{operation}
use Rattle.sheet_rows.specs.PartKind.{SKIP, DIVERGE, CONSTANT, NAME, FETCH, OPERATE, ASSIGN, SEQUENCE, IF, WHILE, NEW}
use Rattle.sheet_rows.specs.PartKind.{PRIVATE, KIND, DETAIL, PARTS}
use Rattle.sheet_rows.specs.Rep as nodes
use Rattle.sheet_rows.specs.Row.{word}

-- how many rows there may be; it is also what stands where there is no row
abbrev pub ROWS : ℕ
ROWS = nodes.ROWS

-- the words of all of them
abbrev pub TERM-WORDS : ℕ
TERM-WORDS = 110592

-- parts of the given types, from number j on
unfoldable pub parts_from : Numbers → List ℕ → (ℕ → ℕ) → ℕ → Parts
parts_from N [] f j = no_part
parts_from N (ty ∷ tys) f j = part (ty_of N ty) (f j) (parts_from N tys f (suc j))

-- the row of a name, by what its id means
unfoldable pub named_row : Numbers → ℕ → (ℕ → ℕ) → Meaning → Option Row
named_row N id f (private k d) = none
named_row N id f (argument k ty) = none
named_row N id f (routine k ty tys) = none
named_row N id f (named often ty tys) = some (s.name id often (ty_of N ty) (parts_from N tys f 0))
named_row N id f retired = none
named_row N id f free = none

-- the row with a kind, a detail and parts
unfoldable pub row_of : Numbers → List Name → ℕ → ℕ → (ℕ → ℕ) → Option Row
row_of N ns kind d f =
    pick (eqb kind SKIP) (some s.skip)
    (pick (eqb kind DIVERGE) (some s.diverge)
    (pick (eqb kind CONSTANT) (some (s.const d))
    (pick (eqb kind PRIVATE) (some (s.private d))
    (pick (eqb kind NAME) (named_row N (d % 256) f (declared ns (d % 256)))
    (pick (eqb kind FETCH) (some (s.fetch (f 0)))
    (pick (eqb kind OPERATE) (some (s.operate (operands (operation N d)) (operation N d) (f 0) (f 1)))
    (pick (eqb kind ASSIGN) (some (s.assign d (f 0) (f 1)))
    (pick (eqb kind SEQUENCE) (some (s.seq (f 0) (f 1)))
    (pick (eqb kind IF) (some (s.cond (f 0) (f 1) (f 2)))
    (pick (eqb kind WHILE) (some (s.while (f 0) (f 1)))
    (pick (eqb kind NEW) (some (s.new d (f 0))) none)))))))))))

-- the row that stands in the words
unfoldable pub decode : Numbers → List Name → List ℕ → ℕ → Option Row
decode N ns t r = row_of N ns (word t r KIND) (word t r DETAIL) (λ j. word t r (PARTS + j))

-- what parts weigh as arguments of a name, by the weights of rows
unfoldable pub parts_weight : (ℕ → ℕ) → Parts → ℕ
parts_weight w no_part = 0
parts_weight w (part T a xs) = questions T * w a + answers T + parts_weight w xs

-- what a row weighs, by the weights of the rows of its parts: document 01, "Reckoned size"
unfoldable pub row_weight : (ℕ → ℕ) → Row → ℕ
row_weight w s.skip = 1
row_weight w s.diverge = 1
row_weight w (s.const v) = 1
row_weight w (s.private v) = 2
row_weight w (s.name i o T xs) = use_weight o + parts_weight w xs
row_weight w (s.fetch a) = w a
row_weight w (s.operate m o a b) = w a + m * w b
row_weight w (s.assign m a b) = w b + m * w a
row_weight w (s.seq a b) = w a + w b
row_weight w (s.while a b) = w a + w b
row_weight w (s.cond a b c) = w a + (w b + w c)
row_weight w (s.new m a) = m * w a
