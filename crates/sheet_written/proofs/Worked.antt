-- Small sheets with procedures, worked out: scope, hiding and the levels of private variables. Document 02 [1].
use Prim.Native.Nat.{ℕ}
use mathlib.Core.Path.{◌≡◌, refl}
use mathlib.Core.List.{[], ◌∷◌}
use Rattle.language.specs.Number.{numbers}
use Rattle.language.specs.Term as t
use Rattle.language.specs.Term.{Term}
use Rattle.language.specs.declared.Numbers.{Numbers}
use Rattle.sheet_parts.specs.Rule.{values}
use Rattle.sheet_written.specs.Environment.{beyond}
use Rattle.sheet_written.specs.Written.{Written, skip, diverge, truth, call, assign, sequence, new, procedure}
use Rattle.sheet_written.specs.Written.{Parameter, none, more, Sheet}
use Rattle.sheet_written.specs.Meaning.{declared, id_of, meant, meaning, inside, types_of, after, use_type, typed}
use Rattle.sheet_written.specs.Meaning.{some_value, by_meaning, no_terms, with-level, with-body, with_passed, resolve}
use Rattle.sheet_written.specs.Meaning.{resolved, term_of}
use Rattle.sheet_written.specs.Form.{only, unit, plus, times, lower, sums, instance, no_forms, with_form, form_of}
use Rattle.sheet_written.specs.Form.{formed, form_sheet}

unfoldable one : Numbers
one = record { z = 1; rule = 0 }

unfoldable sheet : Written → Sheet
sheet W = record { numbers = one; names = []; term = W }

-- a command as parameter, a use without arguments, an assignment of true
unfoldable given : ℕ → Parameter
given i = record { id = i; holds = 0 }

unfoldable by : ℕ → Written
by i = call i none

unfoldable set : ℕ → Written
set i = assign (by i) (truth 1)

-- what is expected: a block with a truth variable, and true assigned to the variable of the enclosing block i
unfoldable block : Term → Term
block M = t.new (values one 1) (some_value one 1) M

unfoldable sets : ℕ → Term
sets i = t.assign 2 (t.private i) (t.const 1)

-- the caller's variable inside the procedure's block: "in the scope of the caller"
caller : term_of (sheet (new 1 1 (procedure 9 0 (given 2 ∷ []) (new 3 1 (by 2)) (call 9 (more (set 1) none)))))
    ≡ block (block (sets 1))
unfolding term_of sheet given by set block sets resolve resolved meaning declared id_of meant inside types_of after use_type
    typed
    by_meaning no_terms with-level with-body with_passed beyond values
caller = refl

-- the caller's variable has the id of the procedure's: each means its own
captured : term_of (sheet (new 1 1 (procedure 9 0 (given 2 ∷ []) (new 1 1 (sequence (set 1) (by 2)))
    (call 9 (more (set 1) none)))))
    ≡ block (block
    (t.seq (sets 0) (sets 1)))
unfolding term_of sheet given by set block sets resolve resolved meaning declared id_of meant inside types_of after use_type
    typed
    by_meaning no_terms with-level with-body with_passed beyond values
captured = refl

-- "The procedure doesn't see its own id": it means what it means outside
outside : term_of (sheet (new 9 1 (procedure 9 0 [] (set 9) (by 9))))
    ≡ block (sets 0)
unfolding term_of sheet given by set block sets resolve resolved meaning declared id_of meant inside types_of after use_type
    typed
    by_meaning no_terms with-level with-body with_passed beyond values
outside = refl

-- "A parameter may have the procedure's own id"
own-id : term_of (sheet (procedure 9 0 (given 9 ∷ []) (sequence (by 9) (by 9)) (call 9 (more skip none)))) ≡ t.seq t.skip
    t.skip
unfolding term_of sheet given by set block sets resolve resolved meaning declared id_of meant inside types_of after use_type
    typed
    by_meaning no_terms with-level with-body with_passed beyond values
own-id = refl

-- an inner parameter hides an outer one, in the inner procedure's term only
hides : term_of (sheet (procedure 5 0 (given 1 ∷ [])
    (procedure 6 0 (given 1 ∷ []) (by 1) (sequence (by 1) (call 6 (more skip none))))
    (call 5 (more (diverge 0) none))))
    ≡ t.seq t.diverge t.skip
unfolding term_of sheet given by set block sets resolve resolved meaning declared id_of meant inside types_of after use_type
    typed
    by_meaning no_terms with-level with-body with_passed beyond values
hides = refl

-- scope is static: p keeps the variable that it was written under, though its use stands under another of that id
static : term_of (sheet (new 1 1 (procedure 9 0 [] (set 1) (new 1 1 (by 9)))))
    ≡ block (block (sets 1))
unfolding term_of sheet given by set block sets resolve resolved meaning declared id_of meant inside types_of after use_type
    typed
    by_meaning no_terms with-level with-body with_passed beyond values
static = refl

-- p(x) = x; x and q(x) = p(p(x)), used at skip, weighs 4
fourfold : form_sheet (sheet (procedure 7 0 (given 1 ∷ []) (sequence (by 1) (by 1))
    (procedure 8 0 (given 1 ∷ []) (call 7 (more (call 7 (more (by 1) none)) none)) (call 8 (more skip none)))))
    ≡ 4
unfolding form_sheet sheet given by set meaning declared id_of meant inside types_of after by_meaning beyond only unit plus
    times
    lower sums instance no_forms with_form form_of formed
fourfold = refl

-- an argument that is not used weighs nothing
unused-argument : form_sheet (sheet (procedure 7 0 (given 1 ∷ []) skip (call 7 (more (sequence skip skip) none)))) ≡ 1
unfolding form_sheet sheet given by set meaning declared id_of meant inside types_of after by_meaning beyond only unit plus
    times
    lower sums instance no_forms with_form form_of formed
unused-argument = refl
