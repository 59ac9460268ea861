-- There is a change for each binder that hides another, in their order, and it gives the lowest id that is left.
-- Document 02 [4].
use Prim.Native.Nat.{ℕ, ◌+◌, ◌<◌}
use native.Mathlib.Omega.{arith}
use mathlib.Core.Path.{◌≡◌, refl, sym, ap, ◌∙◌, subst}
use mathlib.Core.Bool.{Bool, true, false}
use mathlib.Core.List.{List, [], ◌∷◌, ◌++◌, append_assoc}
use lib.ListN.{length, length-append}
use lib.Dec.{ltb}
use borrow.Author.Tests.{ltb-true, ltb-false}
use Rattle.sheet_written.specs.Written.{Written, skip, diverge, truth, number, call, fetch, operate, assign}
use Rattle.sheet_written.specs.Written.{sequence, while, choose, new, procedure, Parameter, Writtens, none, more}
use Rattle.sheet_written.specs.Meaning.{Binder, a_block, inside, after}
use Rattle.sheet_written.specs.Width.{width}
use Rattle.sheet_written.specs.Hiding.{is_held, Hiding, hiding_id, hiding_parameters, hiding, all_hiding}
use Rattle.sheet_written.specs.Renumber.{put, map_inside}
use Rattle.sheet_written.specs.Renumber.{Change, Renumbering, renumbered, none_left, over, before, next, lowest}
use Rattle.sheet_written.specs.Renumber.{left, changed, renumber_id, with_id, renumber_parameters, renumber}
use Rattle.sheet_written.specs.Renumber.{renumber_all}
use Rattle.sheet_written.specs.Renumbering.{Gives, replaced, NoneLeft}
use Rattle.sheet_written.proofs.Tests.{by-test}
use Rattle.sheet_written.proofs.Lowest.{lowest_free, left-put, none-lowest}

gives-append : (cs ds : List Change) (taken then last : ℕ → Bool) → Gives taken cs then → Gives then ds last →
    Gives taken (cs ++ ds) last
unfolding Gives
gives-append [] ds taken then last h g = subst (λ (t : ℕ → Bool). Gives t ds last) h g
gives-append (c ∷ cs) ds taken then last h g =
    (h.0, h.1, gives-append cs ds (put c.given true taken) then last h.2 g)

-- each change leaves one id fewer
pub gives_left : (cs : List Change) (taken then : ℕ → Bool) → Gives taken cs then →
    length cs + left then 255 ≡ left taken 255
unfolding Gives
gives_left [] taken then h = rw h (omega arith)
gives_left (c ∷ cs) taken then h =
    let e : taken c.given ≡ false =
    ap taken h.0 ∙ lowest_free taken (subst (λ (k : ℕ). k < 255) h.0 h.1) in
    omega (arith, gives_left cs (put c.given true taken) then h.2, left-put taken 255 c.given h.1 e)

replaced-append : (cs ds : List Change) → replaced (cs ++ ds) ≡ replaced cs ++ replaced ds
unfolding replaced
replaced-append [] ds = refl
replaced-append (c ∷ cs) ds = ap (◌∷◌ (record { place = c.place; id = c.old })) (replaced-append cs ds)

-- the changes take the place of binders that hide others
pub record Listed (taken : ℕ → Bool) (hs : List Hiding) (cs : List Change) (then : ℕ → Bool) : Type 0 where
  pub gives : Gives taken cs then
  pub listed : replaced cs ≡ hs

unfoldable pub Lists : {X : Type 0} → (ℕ → Bool) → List Hiding → Renumbering X → Type 0
Lists taken hs (renumbered x cs then) = Listed taken hs cs then
Lists taken hs (none_left at) = NoneLeft taken hs at

no_change : (taken : ℕ → Bool) → Listed taken [] [] taken
unfolding Gives replaced
no_change taken = record { gives = refl; listed = refl }

lists-over : {X Y : Type 0} (taken : ℕ → Bool) (hs : List Hiding) (g : X → Y) (a : Renumbering X) → Lists taken hs a →
    Lists taken hs (over g a)
unfolding Lists over
lists-over taken hs g (renumbered x cs then) h = h
lists-over taken hs g (none_left at) h = h

lists-before : {Y : Type 0} (taken then : ℕ → Bool) (hs ks : List Hiding) (cs : List Change) (b : Renumbering Y) →
    Listed taken hs cs then → Lists then ks b → Lists taken (hs ++ ks) (before cs b)
unfolding Lists before
lists-before taken then hs ks cs (renumbered y ds last) h g = record {
  gives = gives-append cs ds taken then last h.gives g.gives;
  listed = replaced-append cs ds ∙ ap (◌++ replaced ds) h.listed ∙ ap (hs ++◌) g.listed;
}
lists-before taken then hs ks cs (none_left at) h g =
    let from : List Hiding = record { place = at; id = g.id } ∷ g.rest in
    record {
      made = cs ++ g.made;
      last = g.last;
      id = g.id;
      rest = g.rest;
      gives = gives-append cs g.made taken then g.last h.gives g.gives;
      full = g.full;
      many = omega (arith, length-append cs g.made, gives_left cs taken then h.gives, g.many);
      stopped = ap (◌++ from) (replaced-append cs g.made)
          ∙ append_assoc (replaced cs) (replaced g.made) from
          ∙ ap (◌++ (replaced g.made ++ from)) h.listed ∙ ap (hs ++◌) g.stopped;
    }

lists-next : {X Y : Type 0} (taken : ℕ → Bool) (hs ks : List Hiding) (a : Renumbering X)
    (k : X → (ℕ → Bool) → Renumbering Y) → Lists taken hs a →
    ((x : X) (then : ℕ → Bool) → Lists then ks (k x then)) → Lists taken (hs ++ ks) (next a k)
unfolding Lists next
lists-next taken hs ks (renumbered x cs then) k h g = lists-before taken then hs ks cs (k x then) h (g x then)
lists-next taken hs ks (none_left at) k h g =
    let here : Hiding = record { place = at; id = h.id } in
    record {
      made = h.made;
      last = h.last;
      id = h.id;
      rest = h.rest ++ ks;
      gives = h.gives;
      full = h.full;
      many = h.many;
      stopped = sym (append_assoc (replaced h.made) (here ∷ h.rest) ks) ∙ ap (◌++ ks) h.stopped;
    }

lists-id : (bs : List Binder) (taken : ℕ → Bool) (at id : ℕ) →
    Lists taken (hiding_id bs at id) (renumber_id bs taken at id)
unfolding Lists hiding_id renumber_id changed Gives replaced
lists-id bs taken at id =
    by-test (is_held bs id)
    (λ t. rw t (by-test (ltb (lowest taken) 255)
    (λ u. rw u (record { gives = (refl, ltb-true (lowest taken) 255 u, refl); listed = refl }))
    (λ u. rw u (record {
      made = [];
      last = taken;
      id = id;
      rest = [];
      gives = refl;
      full = ltb-false (lowest taken) 255 u;
      many = sym (none-lowest taken (ltb-false (lowest taken) 255 u));
      stopped = refl;
    }))))
    (λ t. rw t (no_change taken))

lists-parameters : (ps : List Parameter) (bs : List Binder) (taken : ℕ → Bool) (at : ℕ) →
    Lists taken (hiding_parameters bs at ps) (renumber_parameters bs taken at ps)
unfolding Lists hiding_parameters renumber_parameters
lists-parameters [] bs taken at = no_change taken
lists-parameters (p ∷ ps) bs taken at =
    lists-next taken (hiding_id bs at p.id) (hiding_parameters bs (2 + at) ps) (renumber_id bs taken at p.id)
    (λ id then. over (◌∷◌ (with_id p id)) (renumber_parameters bs then (2 + at) ps)) (lists-id bs taken at p.id)
    (λ id then. lists-over then (hiding_parameters bs (2 + at) ps) (◌∷◌ (with_id p id))
    (renumber_parameters bs then (2 + at) ps) (lists-parameters ps bs then (2 + at)))

-- two parts, one after the other
lists-two : (bs : List Binder) (f : ℕ → ℕ) (taken : ℕ → Bool) (at at' : ℕ) (x y : Written)
    (make : Written → Written → Written) → Lists taken (hiding bs at x) (renumber bs f taken at x) →
    ((then : ℕ → Bool) → Lists then (hiding bs at' y) (renumber bs f then at' y)) →
    Lists taken (hiding bs at x ++ hiding bs at' y)
    (next (renumber bs f taken at x) (λ x' then. over (make x') (renumber bs f then at' y)))
lists-two bs f taken at at' x y make h g =
    lists-next taken (hiding bs at x) (hiding bs at' y) (renumber bs f taken at x)
    (λ x' then. over (make x') (renumber bs f then at' y)) h
    (λ x' then. lists-over then (hiding bs at' y) (make x') (renumber bs f then at' y) (g then))

-- THEOREM: the changes of a term
mutual
  unfolding Lists renumber renumber_all hiding all_hiding

  pub lists : (W : Written) (bs : List Binder) (f : ℕ → ℕ) (taken : ℕ → Bool) (at : ℕ) →
      Lists taken (hiding bs at W) (renumber bs f taken at W)
  lists skip bs f taken at = no_change taken
  lists (diverge ty) bs f taken at = no_change taken
  lists (truth b) bs f taken at = no_change taken
  lists (number b) bs f taken at = no_change taken
  lists (call id ws) bs f taken at =
      lists-over taken (all_hiding bs (2 + at) ws) (call (f id)) (renumber_all bs f taken (2 + at) ws)
      (lists-all ws bs f taken (2 + at))
  lists (fetch v) bs f taken at =
      lists-over taken (hiding bs (1 + at) v) fetch (renumber bs f taken (1 + at) v) (lists v bs f taken (1 + at))
  lists (operate op x y) bs f taken at =
      lists-two bs f taken (2 + at) (2 + at + width x) x y (operate op) (lists x bs f taken (2 + at))
      (λ then. lists y bs f then (2 + at + width x))
  lists (assign x y) bs f taken at =
      lists-two bs f taken (1 + at) (1 + at + width x) x y assign (lists x bs f taken (1 + at))
      (λ then. lists y bs f then (1 + at + width x))
  lists (sequence x y) bs f taken at =
      lists-two bs f taken (1 + at) (1 + at + width x) x y sequence (lists x bs f taken (1 + at))
      (λ then. lists y bs f then (1 + at + width x))
  lists (choose b x y) bs f taken at =
      lists-next taken (hiding bs (1 + at) b)
      (hiding bs (1 + at + width b) x ++ hiding bs (1 + at + width b + width x) y) (renumber bs f taken (1 + at) b)
      (λ b' then. next (renumber bs f then (1 + at + width b) x)
      (λ x' then'. over (choose b' x') (renumber bs f then' (1 + at + width b + width x) y)))
      (lists b bs f taken (1 + at))
      (λ b' then. lists-two bs f then (1 + at + width b) (1 + at + width b + width x) x y (choose b')
      (lists x bs f then (1 + at + width b)) (λ then'. lists y bs f then' (1 + at + width b + width x)))
  lists (while x y) bs f taken at =
      lists-two bs f taken (1 + at) (1 + at + width x) x y while (lists x bs f taken (1 + at))
      (λ then. lists y bs f then (1 + at + width x))
  lists (new id d c) bs f taken at =
      lists-next taken (hiding_id bs (1 + at) id) (hiding (a_block id d ∷ bs) (3 + at) c)
      (renumber_id bs taken (1 + at) id)
      (λ id' then. over (new id' d) (renumber (a_block id d ∷ bs) (put id id' f) then (3 + at) c))
      (lists-id bs taken (1 + at) id)
      (λ id' then. lists-over then (hiding (a_block id d ∷ bs) (3 + at) c) (new id' d)
      (renumber (a_block id d ∷ bs) (put id id' f) then (3 + at) c)
      (lists c (a_block id d ∷ bs) (put id id' f) then (3 + at)))
  lists (procedure id ty ps x y) bs f taken at =
      let hx : List Hiding = hiding (inside ps bs) (12 + at) x in
      let hy : List Hiding = hiding (after id ty ps bs) (12 + at + width x) y in
      let hp : List Hiding = hiding_parameters bs (4 + at) ps in
      lists-next taken (hiding_id bs (1 + at) id) (hp ++ (hx ++ hy)) (renumber_id bs taken (1 + at) id)
      (λ id' then. next (renumber_parameters bs then (4 + at) ps) (λ qs then'.
      next (renumber (inside ps bs) (map_inside f ps qs) then' (12 + at) x) (λ x' then''.
      over (procedure id' ty qs x')
      (renumber (after id ty ps bs) (put id id' f) then'' (12 + at + width x) y))))
      (lists-id bs taken (1 + at) id)
      (λ id' then. lists-next then hp (hx ++ hy) (renumber_parameters bs then (4 + at) ps)
      (λ qs then'. next (renumber (inside ps bs) (map_inside f ps qs) then' (12 + at) x) (λ x' then''.
      over (procedure id' ty qs x')
      (renumber (after id ty ps bs) (put id id' f) then'' (12 + at + width x) y)))
      (lists-parameters ps bs then (4 + at))
      (λ qs then'. lists-next then' hx hy (renumber (inside ps bs) (map_inside f ps qs) then' (12 + at) x)
      (λ x' then''. over (procedure id' ty qs x')
      (renumber (after id ty ps bs) (put id id' f) then'' (12 + at + width x) y))
      (lists x (inside ps bs) (map_inside f ps qs) then' (12 + at))
      (λ x' then''. lists-over then'' hy (procedure id' ty qs x')
      (renumber (after id ty ps bs) (put id id' f) then'' (12 + at + width x) y)
      (lists y (after id ty ps bs) (put id id' f) then'' (12 + at + width x)))))

  lists-all : (ws : Writtens) (bs : List Binder) (f : ℕ → ℕ) (taken : ℕ → Bool) (at : ℕ) →
      Lists taken (all_hiding bs at ws) (renumber_all bs f taken at ws)
  lists-all none bs f taken at = no_change taken
  lists-all (more w ws) bs f taken at =
      lists-next taken (hiding bs at w) (all_hiding bs (at + width w) ws) (renumber bs f taken at w)
      (λ w' then. over (more w') (renumber_all bs f then (at + width w) ws)) (lists w bs f taken at)
      (λ w' then. lists-over then (all_hiding bs (at + width w) ws) (more w')
      (renumber_all bs f then (at + width w) ws) (lists-all ws bs f then (at + width w)))
