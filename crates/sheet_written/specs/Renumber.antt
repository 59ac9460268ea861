-- The renumbering of a sheet. Document 02 [4]: a tool that "goes left to right, and gives each inner name that hides an
-- outer one the lowest id that is neither declared, retired, nor bound anywhere in the sheet as read or as changed so
-- far; the uses it governs follow", and "lists each binding record's change, left to right". Hiding is judged on the
-- sheet as read; judged on the sheet as changed it is the same, since the outermost binder of an id keeps it and the
-- ids given are new (proofs/Giving, judged-alike).
use Rattle.std.specs.Prelude.{ℕ, zero, suc, ◌+◌, Bool, true, false, ◌||◌, List, [], ◌∷◌, ◌++◌, eqb, ltb}
use Rattle.language.specs.Choice.{pick}
use Rattle.sheet_records.specs.Kind.{record_width}
use Rattle.sheet_records.specs.declared.kind.Rule.TheVariants.{Use, Operate, New, Procedure}
use Rattle.sheet_records.specs.Limits.{ids}
use Rattle.sheet_written.specs.Written.{Written, skip, diverge, truth, number, call, fetch, operate, assign}
use Rattle.sheet_written.specs.Written.{sequence, while, choose, new, procedure, Parameter, Writtens, none, more}
use Rattle.sheet_written.specs.Written.{Name, declare, retire, Sheet}
use Rattle.sheet_written.specs.Meaning.{Binder, a_block, inside, after}
use Rattle.sheet_written.specs.Width.{width, heading_width}
use Rattle.sheet_written.specs.Hiding.{is_held}

-- "declared, retired"
unfoldable pub is_named : List Name → ℕ → Bool
is_named [] id = false
is_named (declare often k ty tys ∷ ns) id = eqb k id || is_named ns id
is_named (retire k ∷ ns) id = eqb k id || is_named ns id

-- one of the parameters has the id
unfoldable pub holds_id : ℕ → List Parameter → Bool
holds_id id [] = false
holds_id id (p ∷ ps) = pick (eqb p.id id) true (holds_id id ps)

-- "bound anywhere in the sheet"
unfoldable mutual
  pub is_bound : Written → ℕ → Bool
  is_bound skip id = false
  is_bound (diverge ty) id = false
  is_bound (truth b) id = false
  is_bound (number b) id = false
  is_bound (call k ws) id = is_bound_in ws id
  is_bound (fetch v) id = is_bound v id
  is_bound (operate op x y) id = is_bound x id || is_bound y id
  is_bound (assign x y) id = is_bound x id || is_bound y id
  is_bound (sequence x y) id = is_bound x id || is_bound y id
  is_bound (choose b x y) id = is_bound b id || (is_bound x id || is_bound y id)
  is_bound (while x y) id = is_bound x id || is_bound y id
  is_bound (new k d c) id = eqb k id || is_bound c id
  is_bound (procedure k ty ps x y) id = eqb k id || (holds_id id ps || (is_bound x id || is_bound y id))

  pub is_bound_in : Writtens → ℕ → Bool
  is_bound_in none id = false
  is_bound_in (more w ws) id = is_bound w id || is_bound_in ws id

-- the ids that may not be given at first; later those given are taken too
unfoldable pub taken_at_first : Sheet → ℕ → Bool
taken_at_first S id = is_named S.names id || is_bound S.term id

-- the first id from id on that is not taken, of n ids
unfoldable pub lowest_from : (ℕ → Bool) → ℕ → ℕ → ℕ
lowest_from taken id zero = id
lowest_from taken id (suc n) = pick (taken id) (lowest_from taken (suc id) n) id

-- "the lowest id that is neither declared, retired, nor bound"; 255 where no id is left
unfoldable pub lowest : (ℕ → Bool) → ℕ
lowest taken = lowest_from taken 0 ids

-- how many of the ids below n are not taken
unfoldable pub left : (ℕ → Bool) → ℕ → ℕ
left taken zero = 0
left taken (suc n) = pick (taken n) 0 1 + left taken n

-- "place of the id byte in two bytes, low byte first, old id, new id"
pub record Change : Type 0 where
  pub place : ℕ
  pub old : ℕ
  pub given : ℕ

-- something as written, the changes made in it and the ids taken after it; or the place of "the id byte for which no id
-- is left"
pub data Renumbering (X : Type 0) : Type 0 where
  renumbered : X → List Change → (ℕ → Bool) → Renumbering X
  none_left : ℕ → Renumbering X

unfoldable pub over : {X Y : Type 0} → (X → Y) → Renumbering X → Renumbering Y
over g (renumbered x cs taken) = renumbered (g x) cs taken
over g (none_left at) = none_left at

-- changes before those of a later part
unfoldable pub before : {X : Type 0} → List Change → Renumbering X → Renumbering X
before cs (renumbered x ds taken) = renumbered x (cs ++ ds) taken
before cs (none_left at) = none_left at

-- one part and then the next, with the ids taken so far
unfoldable pub next : {X Y : Type 0} → Renumbering X → (X → (ℕ → Bool) → Renumbering Y) → Renumbering Y
next (renumbered x cs taken) k = before cs (k x taken)
next (none_left at) k = none_left at

-- f, but x at a
unfoldable pub put : {X : Type 0} → ℕ → X → (ℕ → X) → ℕ → X
put a x f j = pick (eqb j a) x (f j)

-- a binder gets the lowest id that is not taken
unfoldable pub changed : ℕ → ℕ → ℕ → (ℕ → Bool) → Renumbering ℕ
changed at id low taken =
    pick (ltb low ids)
    (renumbered low (record { place = at; old = id; given = low } ∷ []) (put low true taken))
    (none_left at)

-- the id of a binder, its byte at a place: "each inner name that hides an outer one"
unfoldable pub renumber_id : List Binder → (ℕ → Bool) → ℕ → ℕ → Renumbering ℕ
renumber_id bs taken at id = pick (is_held bs id) (changed at id (lowest taken) taken) (renumbered id [] taken)

unfoldable pub with_id : Parameter → ℕ → Parameter
with_id p id = record { id = id; holds = p.holds }

-- the parameters of a record, one after the other; an enclosing procedure's own id is none of those around it
unfoldable pub renumber_parameters : List Binder → (ℕ → Bool) → ℕ → List Parameter → Renumbering (List Parameter)
renumber_parameters bs taken at [] = renumbered [] [] taken
renumber_parameters bs taken at (p ∷ ps) =
    next (renumber_id bs taken at p.id) (λ id then. over (◌∷◌ (with_id p id)) (renumber_parameters bs then (2 + at) ps))

-- what the ids become inside a procedure whose parameters become others
unfoldable pub map_inside : (ℕ → ℕ) → List Parameter → List Parameter → ℕ → ℕ
map_inside f [] qs = f
map_inside f (p ∷ ps) [] = f
map_inside f (p ∷ ps) (q ∷ qs) = map_inside (put p.id q.id f) ps qs

-- a term whose kind byte is at a place, with the binders around it as read and with what the ids in scope become
unfoldable mutual
  pub renumber : List Binder → (ℕ → ℕ) → (ℕ → Bool) → ℕ → Written → Renumbering Written
  renumber bs f taken at skip = renumbered skip [] taken
  renumber bs f taken at (diverge ty) = renumbered (diverge ty) [] taken
  renumber bs f taken at (truth b) = renumbered (truth b) [] taken
  renumber bs f taken at (number b) = renumbered (number b) [] taken
  renumber bs f taken at (call id ws) = over (call (f id)) (renumber_all bs f taken (record_width Use + at) ws)
  renumber bs f taken at (fetch v) = over fetch (renumber bs f taken (1 + at) v)
  renumber bs f taken at (operate op x y) =
      next (renumber bs f taken (record_width Operate + at) x) (λ x' then.
      over (operate op x') (renumber bs f then (record_width Operate + at + width x) y))
  renumber bs f taken at (assign x y) =
      next (renumber bs f taken (1 + at) x) (λ x' then. over (assign x') (renumber bs f then (1 + at + width x) y))
  renumber bs f taken at (sequence x y) =
      next (renumber bs f taken (1 + at) x) (λ x' then. over (sequence x') (renumber bs f then (1 + at + width x) y))
  renumber bs f taken at (choose b x y) =
      next (renumber bs f taken (1 + at) b) (λ b' then. next (renumber bs f then (1 + at + width b) x)
      (λ x' then'. over (choose b' x') (renumber bs f then' (1 + at + width b + width x) y)))
  renumber bs f taken at (while x y) =
      next (renumber bs f taken (1 + at) x) (λ x' then. over (while x') (renumber bs f then (1 + at + width x) y))
  renumber bs f taken at (new id d c) =
      next (renumber_id bs taken (1 + at) id) (λ id' then.
      over (new id' d) (renumber (a_block id d ∷ bs) (put id id' f) then (record_width New + at) c))
  renumber bs f taken at (procedure id ty ps x y) =
      next (renumber_id bs taken (1 + at) id) (λ id' then.
      next (renumber_parameters bs then (4 + at) ps) (λ qs then'.
      next (renumber (inside ps bs) (map_inside f ps qs) then' (record_width Procedure + at) x) (λ x' then''.
      over (procedure id' ty qs x')
      (renumber (after id ty ps bs) (put id id' f) then'' (record_width Procedure + at + width x) y))))

  pub renumber_all : List Binder → (ℕ → ℕ) → (ℕ → Bool) → ℕ → Writtens → Renumbering Writtens
  renumber_all bs f taken at none = renumbered none [] taken
  renumber_all bs f taken at (more w ws) =
      next (renumber bs f taken at w) (λ w' then. over (more w') (renumber_all bs f then (at + width w) ws))

-- a whole sheet
unfoldable pub renumber_sheet : Sheet → Renumbering Written
renumber_sheet S = renumber [] (λ id. id) (taken_at_first S) (heading_width S) S.term
