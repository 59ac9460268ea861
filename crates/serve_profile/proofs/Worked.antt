-- Small sheets, worked out: which records offend, and at which places. Document 02 [13].
use Prim.Native.Nat.{ℕ}
use mathlib.Core.Path.{◌≡◌, refl}
use mathlib.Core.List.{List, [], ◌∷◌}
use Rattle.language.specs.Ty.{command, variable}
use Rattle.language.specs.Term as t
use Rattle.language.specs.Term.{freely}
use Rattle.language.specs.declared.Numbers.{Numbers}
use Rattle.sheet_parts.specs.Rule.{values}
use Rattle.sheet_written.specs.Environment.{beyond}
use Rattle.sheet_written.specs.Written.{Written, truth, number, call, fetch, assign, sequence, choose, procedure}
use Rattle.sheet_written.specs.Written.{none, more, Name, declare, Sheet}
use Rattle.sheet_written.specs.Meaning.{declared, id_of, meant, meaning, inside, types_of, after, use_type, typed, ty_of}
use Rattle.sheet_written.specs.Meaning.{by_meaning, no_terms, with-level, with-body, with_passed, resolve, resolve_args}
use Rattle.sheet_written.specs.Meaning.{resolved, term_of}
use Rattle.sheet_written.specs.Width.{width, widths, name_width, names_width, heading_width}
use Rattle.sheet_written.specs.Pieces.{own_width}
use Rattle.serve_profile.specs.Offence.{is_expression, any_loud, loud_use, loud, within, hit, record_and, offending}
use Rattle.serve_profile.specs.Offence.{all_offending, offences}

unfoldable one : Numbers
one = record { z = 1; rule = 0 }

-- names: 0 a command, 1 and 2 number variables, 3 a number of a number, 4 a number of a command, 5 one of a variable;
-- the heading has 2 + 6 × 8 bytes
unfoldable heading : List Name
heading =
    declare freely 0 0 [] ∷ declare freely 1 4 [] ∷ declare freely 2 4 [] ∷ declare freely 3 2 (2 ∷ []) ∷
    declare freely 4 2 (0 ∷ []) ∷ declare freely 5 2 (4 ∷ []) ∷ []

unfoldable sheet : Written → Sheet
sheet W = record { numbers = one; names = heading; term = W }

unfoldable by : ℕ → Written
by i = call i none

unfoldable of : ℕ → Written → Written
of i W = call i (more W none)

-- an expression that runs a command before it gives its value: its own record offends
whole : offences (sheet (sequence (by 0) (number 1))) ≡ 50 ∷ []
unfolding offences sheet heading by offending record_and loud within hit is_expression typed meaning declared use_type
    heading_width names_width name_width own_width width loud_use any_loud all_offending widths
whole = refl

-- the same sequence of commands does not
commands : offences (sheet (sequence (by 0) (by 0))) ≡ []
unfolding offences sheet heading by offending record_and loud within hit is_expression typed meaning declared use_type
    heading_width names_width name_width own_width width loud_use any_loud all_offending widths
commands = refl

-- in an assignment only the expression is one: the sequence before the variable stays, the one before the value offends
assigned : offences (sheet (assign (sequence (by 0) (by 1)) (sequence (by 0) (number 1)))) ≡ 56 ∷ []
unfolding offences sheet heading by offending record_and loud within hit is_expression typed meaning declared use_type
    heading_width names_width name_width own_width width loud_use any_loud all_offending widths
assigned = refl

-- a variable that is fetched is inside the expression
fetched : offences (sheet (fetch (choose (truth 1) (by 1) (sequence (by 0) (by 2))))) ≡ 56 ∷ []
unfolding offences sheet heading by offending record_and loud within hit is_expression typed meaning declared use_type
    heading_width names_width name_width own_width width loud_use any_loud all_offending widths
fetched = refl

-- the first by place and not by depth: a use before the sequence in its argument
outer-first : offences (sheet (of 4 (assign (by 1) (sequence (by 0) (number 1))))) ≡ 50 ∷ 55 ∷ []
unfolding offences sheet heading by of offending record_and loud within hit is_expression typed meaning declared use_type
    heading_width names_width name_width own_width width loud_use any_loud all_offending widths
outer-first = refl

-- uses, from left to right: of expressions none offends, of a command or a variable each does, also inside another
uses : offences (sheet (of 3 (of 4 (assign (by 1) (of 5 (by 2)))))) ≡ 52 ∷ 57 ∷ []
unfolding offences sheet heading by of offending record_and loud within hit is_expression typed meaning declared use_type
    heading_width names_width name_width own_width width loud_use any_loud all_offending widths
uses = refl

-- A procedure outside all expressions may have a variable as its parameter, and its argument there may be a sequence.
-- So an expression in the procedure's term, which fetches the parameter, runs a command, in a sheet of the profile: the
-- theorem is of sheets of expression type, in which no kind 28 stands, and not of the expressions of every sheet.
unfoldable passing : Sheet
passing =
    sheet (procedure 9 0 (record { id = 6; holds = 4 } ∷ []) (assign (by 1) (fetch (by 6)))
    (of 9 (sequence (by 0) (by 2))))

in_profile : offences passing ≡ []
unfolding passing offences sheet heading by of offending record_and loud within hit is_expression typed meaning declared
    use_type heading_width names_width name_width own_width width loud_use any_loud all_offending widths inside after types_of id_of
    meant
in_profile = refl

runs : term_of passing ≡
    t.assign (values one 4) (t.name 1 freely (variable (values one 4)) t.no_args)
    (t.fetch (t.seq (t.name 0 freely command t.no_args) (t.name 2 freely (variable (values one 4)) t.no_args)))
unfolding passing term_of sheet heading by of resolve resolved resolve_args meaning declared id_of meant inside types_of
    after use_type typed by_meaning no_terms with-level with-body with_passed beyond ty_of
runs = refl
