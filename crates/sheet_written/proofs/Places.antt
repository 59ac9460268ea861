-- The changes stand in the order of their id bytes, and these are bytes of the term; so is the byte for which no id is
-- left. Document 02 [4].
use Prim.Native.Nat.{ℕ, suc, ◌+◌, ◌≤◌, ◌<◌}
use native.Mathlib.Omega.{arith}
use mathlib.Core.Bool.{Bool}
use mathlib.Core.List.{List, [], ◌∷◌, ◌++◌}
use lib.ListN.{length}
use lib.Dec.{ltb}
use Rattle.sheet_written.specs.Written.{Written, skip, diverge, truth, number, call, fetch, operate, assign}
use Rattle.sheet_written.specs.Written.{sequence, while, choose, new, procedure, Parameter, Writtens, none, more}
use Rattle.sheet_written.specs.Written.{Name}
use Rattle.sheet_written.specs.Meaning.{Binder, a_block, inside, after}
use Rattle.sheet_written.specs.Hiding.{is_held}
use Rattle.sheet_written.specs.Renumber.{put, map_inside}
use Rattle.sheet_written.specs.Renumber.{Change, Renumbering, renumbered, none_left, over, before, next, lowest}
use Rattle.sheet_written.specs.Renumber.{changed, renumber_id, with_id, renumber_parameters, renumber, renumber_all}
use Rattle.sheet_written.specs.Width.{width, widths}
use Rattle.sheet_written.specs.Renumbering.{Ascending}
use Rattle.sheet_written.proofs.Tests.{by-test}
use Rattle.sheet_written.proofs.Known.{Known, AllKnown}

wider : (cs : List Change) (low low' high high' : ℕ) → low ≤ low' → high' ≤ high → Ascending low' high' cs →
    Ascending low high cs
unfolding Ascending
wider [] low low' high high' l h a = omega (arith, l, h, a)
wider (c ∷ cs) low low' high high' l h a =
    (omega (arith, l, a.0), wider cs (suc c.place) (suc c.place) high high' (omega arith) h a.1)

ascending-append : (cs ds : List Change) (low mid high : ℕ) → Ascending low mid cs → Ascending mid high ds →
    Ascending low high (cs ++ ds)
unfolding Ascending
ascending-append [] ds low mid high a b = wider ds low mid high high a (omega arith) b
ascending-append (c ∷ cs) ds low mid high a b = (a.0, ascending-append cs ds (suc c.place) mid high a.1 b)

pub ascending-from : (cs : List Change) (low high : ℕ) → Ascending low high cs → low ≤ high
unfolding Ascending
ascending-from [] low high a = a
ascending-from (c ∷ cs) low high a =
    let i : suc c.place ≤ high = ascending-from cs (suc c.place) high a.1 in omega (arith, a.0, i)

-- the places of a renumbering, from low on and below high
unfoldable pub Within : {X : Type 0} → ℕ → ℕ → Renumbering X → Type 0
Within low high (renumbered x cs then) = Ascending low high cs
Within low high (none_left at) = (low ≤ at) × (at < high)

within-over : {X Y : Type 0} (low low' high high' : ℕ) (g : X → Y) (a : Renumbering X) → low ≤ low' → high' ≤ high →
    Within low' high' a → Within low high (over g a)
unfolding Within over
within-over low low' high high' g (renumbered x cs then) l h a = wider cs low low' high high' l h a
within-over low low' high high' g (none_left at) l h a = (omega (arith, l, a.0), omega (arith, h, a.1))

within-before : {Y : Type 0} (low mid high : ℕ) (cs : List Change) (b : Renumbering Y) → Ascending low mid cs →
    Within mid high b → Within low high (before cs b)
unfolding Within before
within-before low mid high cs (renumbered y ds then) a b = ascending-append cs ds low mid high a b
within-before low mid high cs (none_left at) a b =
    (omega (arith, ascending-from cs low mid a, b.0), b.1)

-- the first part from low' on and below mid', the next from mid on
within-next : {X Y : Type 0} (low low' mid' mid high : ℕ) (a : Renumbering X) (k : X → (ℕ → Bool) → Renumbering Y) →
    low ≤ low' → mid' ≤ mid → mid ≤ high → Within low' mid' a →
    ((x : X) (then : ℕ → Bool) → Within mid high (k x then)) → Within low high (next a k)
unfolding Within next
within-next low low' mid' mid high (renumbered x cs then) k l m h a b =
    within-before low mid high cs (k x then) (wider cs low low' mid mid' l m a) (b x then)
within-next low low' mid' mid high (none_left at) k l m h a b =
    (omega (arith, l, a.0), omega (arith, m, h, a.1))

within-id : (bs : List Binder) (taken : ℕ → Bool) (at id : ℕ) → Within at (suc at) (renumber_id bs taken at id)
unfolding Within renumber_id changed Ascending
within-id bs taken at id =
    by-test (is_held bs id)
    (λ t. rw t (by-test (ltb (lowest taken) 255) (λ u. rw u (omega arith, omega arith))
    (λ u. rw u (omega arith, omega arith))))
    (λ t. rw t (omega arith))

within-parameters : (ps : List Parameter) (bs : List Binder) (taken : ℕ → Bool) (at : ℕ) →
    Within at (at + (length ps + length ps)) (renumber_parameters bs taken at ps)
unfolding Within renumber_parameters Ascending
within-parameters [] bs taken at = omega arith
within-parameters (p ∷ ps) bs taken at =
    within-next at at (suc at) (2 + at) (at + (length (p ∷ ps) + length (p ∷ ps))) (renumber_id bs taken at p.id)
    (λ id then. over (◌∷◌ (with_id p id)) (renumber_parameters bs then (2 + at) ps)) (omega arith) (omega arith)
    (omega arith) (within-id bs taken at p.id)
    (λ id then. within-over (2 + at) (2 + at) (at + (length (p ∷ ps) + length (p ∷ ps)))
    (2 + at + (length ps + length ps)) (◌∷◌ (with_id p id)) (renumber_parameters bs then (2 + at) ps) (omega arith)
    (omega arith) (within-parameters ps bs then (2 + at)))

-- two parts, one after the other
within-two : (bs : List Binder) (f : ℕ → ℕ) (taken : ℕ → Bool) (low at high : ℕ) (x y : Written)
    (make : Written → Written → Written) → low ≤ at → at + width x + width y ≤ high →
    Within at (at + width x) (renumber bs f taken at x) →
    ((then : ℕ → Bool) → Within (at + width x) (at + width x + width y) (renumber bs f then (at + width x) y)) →
    Within low high
    (next (renumber bs f taken at x) (λ x' then. over (make x') (renumber bs f then (at + width x) y)))
within-two bs f taken low at high x y make l h a b =
    within-next low at (at + width x) (at + width x) high (renumber bs f taken at x)
    (λ x' then. over (make x') (renumber bs f then (at + width x) y)) l (omega arith) (omega (arith, h)) a
    (λ x' then. within-over (at + width x) (at + width x) high (at + width x + width y) (make x')
    (renumber bs f then (at + width x) y) (omega arith) h (b then))

-- THEOREM: the places of a term's changes
module _ (ns : List Name) (s : ℕ → Bool) where
  mutual
    unfolding Within renumber renumber_all width widths Ascending Known AllKnown

    pub within : (W : Written) (bs : List Binder) (f : ℕ → ℕ) (taken : ℕ → Bool) (at : ℕ) → Known ns s W →
        Within at (at + width W) (renumber bs f taken at W)
    within skip bs f taken at k = omega arith
    within (diverge ty) bs f taken at k = omega arith
    within (truth b) bs f taken at k = omega arith
    within (number b) bs f taken at k = omega arith
    within (call id ws) bs f taken at k =
        within-over at (2 + at) (at + width (call id ws)) (2 + at + widths ws) (call (f id))
        (renumber_all bs f taken (2 + at) ws) (omega arith) (omega arith)
        (within_all ws bs f taken (2 + at) k.2)
    within (fetch v) bs f taken at k =
        within-over at (1 + at) (at + width (fetch v)) (1 + at + width v) fetch (renumber bs f taken (1 + at) v)
        (omega arith) (omega arith) (within v bs f taken (1 + at) k)
    within (operate op x y) bs f taken at k =
        within-two bs f taken at (2 + at) (at + width (operate op x y)) x y (operate op) (omega arith) (omega arith)
        (within x bs f taken (2 + at) k.0) (λ then. within y bs f then (2 + at + width x) k.1)
    within (assign x y) bs f taken at k =
        within-two bs f taken at (1 + at) (at + width (assign x y)) x y assign (omega arith) (omega arith)
        (within x bs f taken (1 + at) k.0) (λ then. within y bs f then (1 + at + width x) k.1)
    within (sequence x y) bs f taken at k =
        within-two bs f taken at (1 + at) (at + width (sequence x y)) x y sequence (omega arith) (omega arith)
        (within x bs f taken (1 + at) k.0) (λ then. within y bs f then (1 + at + width x) k.1)
    within (choose b x y) bs f taken at k =
        within-next at (1 + at) (1 + at + width b) (1 + at + width b) (at + width (choose b x y))
        (renumber bs f taken (1 + at) b)
        (λ b' then. next (renumber bs f then (1 + at + width b) x)
        (λ x' then'. over (choose b' x') (renumber bs f then' (1 + at + width b + width x) y)))
        (omega arith) (omega arith) (omega arith) (within b bs f taken (1 + at) k.0)
        (λ b' then. within-two bs f then (1 + at + width b) (1 + at + width b) (at + width (choose b x y)) x y
        (choose b') (omega arith) (omega arith) (within x bs f then (1 + at + width b) k.1)
        (λ then'. within y bs f then' (1 + at + width b + width x) k.2))
    within (while x y) bs f taken at k =
        within-two bs f taken at (1 + at) (at + width (while x y)) x y while (omega arith) (omega arith)
        (within x bs f taken (1 + at) k.0) (λ then. within y bs f then (1 + at + width x) k.1)
    within (new id d c) bs f taken at k =
        within-next at (1 + at) (suc (1 + at)) (3 + at) (at + width (new id d c)) (renumber_id bs taken (1 + at) id)
        (λ id' then. over (new id' d) (renumber (a_block id d ∷ bs) (put id id' f) then (3 + at) c))
        (omega arith) (omega arith) (omega arith) (within-id bs taken (1 + at) id)
        (λ id' then. within-over (3 + at) (3 + at) (at + width (new id d c)) (3 + at + width c) (new id' d)
        (renumber (a_block id d ∷ bs) (put id id' f) then (3 + at) c) (omega arith) (omega arith)
        (within c (a_block id d ∷ bs) (put id id' f) then (3 + at) k.3))
    within (procedure id ty ps x y) bs f taken at k =
        let high : ℕ = at + width (procedure id ty ps x y) in
        within-next at (1 + at) (suc (1 + at)) (4 + at) high (renumber_id bs taken (1 + at) id)
        (λ id' then. next (renumber_parameters bs then (4 + at) ps) (λ qs then'.
        next (renumber (inside ps bs) (map_inside f ps qs) then' (12 + at) x) (λ x' then''.
        over (procedure id' ty qs x')
        (renumber (after id ty ps bs) (put id id' f) then'' (12 + at + width x) y))))
        (omega arith) (omega arith) (omega arith) (within-id bs taken (1 + at) id)
        (λ id' then. within-next (4 + at) (4 + at) (4 + at + (length ps + length ps)) (12 + at) high
        (renumber_parameters bs then (4 + at) ps)
        (λ qs then'. next (renumber (inside ps bs) (map_inside f ps qs) then' (12 + at) x) (λ x' then''.
        over (procedure id' ty qs x')
        (renumber (after id ty ps bs) (put id id' f) then'' (12 + at + width x) y)))
        (omega arith) (omega (arith, k.7)) (omega arith) (within-parameters ps bs then (4 + at))
        (λ qs then'. within-next (12 + at) (12 + at) (12 + at + width x) (12 + at + width x) high
        (renumber (inside ps bs) (map_inside f ps qs) then' (12 + at) x)
        (λ x' then''. over (procedure id' ty qs x')
        (renumber (after id ty ps bs) (put id id' f) then'' (12 + at + width x) y))
        (omega arith) (omega arith) (omega arith)
        (within x (inside ps bs) (map_inside f ps qs) then' (12 + at) k.5)
        (λ x' then''. within-over (12 + at + width x) (12 + at + width x) high (12 + at + width x + width y)
        (procedure id' ty qs x') (renumber (after id ty ps bs) (put id id' f) then'' (12 + at + width x) y)
        (omega arith) (omega arith)
        (within y (after id ty ps bs) (put id id' f) then'' (12 + at + width x) k.6))))

    within_all : (ws : Writtens) (bs : List Binder) (f : ℕ → ℕ) (taken : ℕ → Bool) (at : ℕ) → AllKnown ns s ws →
        Within at (at + widths ws) (renumber_all bs f taken at ws)
    within_all none bs f taken at k = omega arith
    within_all (more w ws) bs f taken at k =
        within-next at at (at + width w) (at + width w) (at + widths (more w ws)) (renumber bs f taken at w)
        (λ w' then. over (more w') (renumber_all bs f then (at + width w) ws)) (omega arith) (omega arith)
        (omega arith) (within w bs f taken at k.0)
        (λ w' then. within-over (at + width w) (at + width w) (at + widths (more w ws)) (at + width w + widths ws)
        (more w') (renumber_all bs f then (at + width w) ws) (omega arith) (omega arith)
        (within_all ws bs f then (at + width w) k.1))
