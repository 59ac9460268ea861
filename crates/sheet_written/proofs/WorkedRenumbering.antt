-- Small sheets renumbered, worked out. Document 02 [4].
use Prim.Native.Nat.{ℕ}
use mathlib.Core.Path.{◌≡◌, refl}
use mathlib.Core.Bool.{true}
use mathlib.Core.List.{List, [], ◌∷◌}
use Rattle.sheet_written.specs.Written.{Written, skip, truth, call, assign, sequence, new, procedure, Parameter}
use Rattle.sheet_written.specs.Written.{none, more, Name, declare, retire, Sheet}
use Rattle.sheet_written.specs.Meaning.{a_block, id_of, inside, after}
use Rattle.sheet_written.specs.Width.{width, name_width, names_width, heading_width}
use Rattle.sheet_written.specs.Hiding.{is_held}
use Rattle.sheet_written.specs.Renumber.{holds_id, put, map_inside}
use Rattle.sheet_written.specs.Renumber.{is_named, is_bound, taken_at_first, lowest_from, lowest, Change, Renumbering}
use Rattle.sheet_written.specs.Renumber.{renumbered, none_left, over, before, next, changed, renumber_id, with_id}
use Rattle.sheet_written.specs.Renumber.{renumber_parameters, renumber, renumber_all, renumber_sheet}
use Rattle.language.specs.Term.{freely}

unfoldable sheet : List Name → Written → Sheet
sheet ns W = record { numbers = record { z = 1; rule = 0 }; names = ns; term = W }

-- a command as parameter, a use without arguments, an assignment of true, a change
unfoldable given : ℕ → Parameter
given i = record { id = i; holds = 0 }

unfoldable by : ℕ → Written
by i = call i none

unfoldable set : ℕ → Written
set i = assign (by i) (truth 1)

unfoldable change : ℕ → ℕ → ℕ → Change
change p a b = record { place = p; old = a; given = b }

-- the term is written, with these changes
unfoldable Written-as : Renumbering Written → Written → List Change → Type 0
Written-as (renumbered X ds then) W cs = (X ≡ W) × (ds ≡ cs)
Written-as (none_left p) W cs = ⊥

-- one inside the other: the outermost keeps its id, the uses follow
nested : Written-as (renumber_sheet (sheet [] (new 9 1 (sequence (set 9) (new 9 1 (new 9 1 (set 9)))))))
    (new 9 1 (sequence (set 9) (new 0 1 (new 1 1 (set 1))))) (change 12 9 0 ∷ change 15 9 1 ∷ [])
unfolding Written-as sheet by set change renumber_sheet renumber renumber_all renumber_id changed over before next
    lowest_from lowest taken_at_first is_named is_bound heading_width names_width width is_held id_of put
nested = (refl, refl)

-- ids declared, retired, and bound to the right are not given
passed_over : Written-as (renumber_sheet (sheet (declare freely 0 0 [] ∷ retire 1 ∷ [])
    (new 9 1 (sequence (new 9 1 (set 9)) (sequence (by 0) (new 2 1 (set 9)))))))
    (new 9 1 (sequence (new 3 1 (set 3)) (sequence (by 0) (new 2 1 (set 9))))) (change 17 9 3 ∷ [])
unfolding Written-as sheet by set change renumber_sheet renumber renumber_all renumber_id changed over before next
    lowest_from lowest taken_at_first is_named is_bound heading_width names_width name_width width is_held id_of put
passed_over = (refl, refl)

-- a parameter may have its procedure's id, which does not enclose it
own-id : Written-as (renumber_sheet (sheet [] (procedure 9 0 (given 9 ∷ []) (by 9) (call 9 (more skip none)))))
    (procedure 9 0 (given 9 ∷ []) (by 9) (call 9 (more skip none))) []
unfolding Written-as sheet given by renumber_sheet renumber renumber_all renumber_parameters renumber_id with_id over before
    next taken_at_first is_named is_bound heading_width names_width width is_held id_of inside after put map_inside
own-id = (refl, refl)

-- both hide an outer one: each gets an id of its own
both-hide : Written-as
    (renumber_sheet (sheet [] (new 9 1 (procedure 9 0 (given 9 ∷ []) (by 9) (call 9 (more skip none))))))
    (new 9 1 (procedure 0 0 (given 1 ∷ []) (by 1) (call 0 (more skip none)))) (change 6 9 0 ∷ change 9 9 1 ∷ [])
unfolding Written-as sheet given by change renumber_sheet renumber renumber_all renumber_parameters renumber_id with_id
    changed over before next lowest_from lowest taken_at_first is_named is_bound holds_id heading_width names_width width is_held
    id_of inside after put map_inside
both-hide = (refl, refl)

-- side by side nothing is hidden; a block of the procedure's id in its own term is not in its scope
beside : Written-as
    (renumber_sheet (sheet [] (sequence (new 9 1 (set 9)) (procedure 9 0 [] (new 9 1 (set 9)) (by 9)))))
    (sequence (new 9 1 (set 9)) (procedure 9 0 [] (new 9 1 (set 9)) (by 9))) []
unfolding Written-as sheet by set renumber_sheet renumber renumber_all renumber_parameters renumber_id over before
    next taken_at_first is_named is_bound heading_width names_width width is_held id_of inside after put map_inside
beside = (refl, refl)

-- no id is left
full : renumber_id (a_block 9 1 ∷ []) (λ id. true) 6 9 ≡ none_left 6
unfolding renumber_id is_held id_of changed lowest lowest_from
full = refl
