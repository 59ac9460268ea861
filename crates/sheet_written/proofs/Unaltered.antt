-- A term in which no binder hides another comes back unaltered. Document 02 [4].
use Prim.Native.Nat.{ℕ, ◌+◌}
use mathlib.Core.Path.{◌≡◌, refl, sym, ap, ◌∙◌}
use mathlib.Core.Bool.{Bool}
use mathlib.Core.List.{List, [], ◌∷◌}
use Rattle.sheet_written.specs.Written.{Written, skip, diverge, truth, number, call, fetch, operate, assign}
use Rattle.sheet_written.specs.Written.{sequence, while, choose, new, procedure, Parameter, Writtens, none, more}
use Rattle.sheet_written.specs.Meaning.{Binder, a_block, a_procedure, inside, after, types_of}
use Rattle.sheet_written.specs.Hiding.{Unheld, ApartParameters, Apart, AllApart}
use Rattle.sheet_written.specs.Renumber.{put, map_inside}
use Rattle.sheet_written.specs.Renumber.{Renumbering, renumbered, over, before, next, renumber_id, with_id}
use Rattle.sheet_written.specs.Renumber.{renumber_parameters, renumber, renumber_all}
use Rattle.sheet_written.specs.Width.{width}
use Rattle.sheet_written.proofs.Lowest.{put-here, put-past, by-id}

-- one part after the other, each unaltered
unaltered-next : {X Y : Type 0} (x : X) (y : Y) (taken : ℕ → Bool) (a : Renumbering X)
    (k : X → (ℕ → Bool) → Renumbering Y) → a ≡ renumbered x [] taken → k x taken ≡ renumbered y [] taken →
    next a k ≡ renumbered y [] taken
unfolding next before
unaltered-next x y taken a k e g = rw (e, g) refl

unaltered-over : {X Y : Type 0} (x : X) (taken : ℕ → Bool) (h : X → Y) (a : Renumbering X) → a ≡ renumbered x [] taken →
    over h a ≡ renumbered (h x) [] taken
unfolding over
unaltered-over x taken h a e = rw e refl

unaltered-id : (bs : List Binder) (taken : ℕ → Bool) (at id : ℕ) → Unheld bs id →
    renumber_id bs taken at id ≡ renumbered id [] taken
unfolding renumber_id Unheld
unaltered-id bs taken at id h = rw h refl

unaltered-parameters : (ps : List Parameter) (bs : List Binder) (taken : ℕ → Bool) (at : ℕ) → ApartParameters bs ps →
    renumber_parameters bs taken at ps ≡ renumbered ps [] taken
unfolding renumber_parameters ApartParameters with_id
unaltered-parameters [] bs taken at h = refl
unaltered-parameters (p ∷ ps) bs taken at h =
    unaltered-next p.id (p ∷ ps) taken (renumber_id bs taken at p.id)
    (λ id then. over (◌∷◌ (with_id p id)) (renumber_parameters bs then (2 + at) ps))
    (unaltered-id bs taken at p.id h.0)
    (unaltered-over ps taken (◌∷◌ p) (renumber_parameters bs taken (2 + at) ps)
    (unaltered-parameters ps bs taken (2 + at) h.1))

-- every id stays
put-itself : (a : ℕ) (f : ℕ → ℕ) → ((j : ℕ) → f j ≡ j) → (j : ℕ) → put a a f j ≡ j
put-itself a f h j =
    by-id j a (λ e. ap (put a a f) e ∙ put-here a a f ∙ sym e) (λ n. put-past a a f j n ∙ h j)

map-itself : (ps : List Parameter) (f : ℕ → ℕ) → ((j : ℕ) → f j ≡ j) → (j : ℕ) → map_inside f ps ps j ≡ j
unfolding map_inside
map-itself [] f h j = h j
map-itself (p ∷ ps) f h j = map-itself ps (put p.id p.id f) (put-itself p.id f h) j

-- two parts
unaltered-two : (bs : List Binder) (f : ℕ → ℕ) (taken : ℕ → Bool) (at₁ at₂ : ℕ) (x y : Written)
    (make : Written → Written → Written) → renumber bs f taken at₁ x ≡ renumbered x [] taken →
    renumber bs f taken at₂ y ≡ renumbered y [] taken →
    next (renumber bs f taken at₁ x) (λ x' then. over (make x') (renumber bs f then at₂ y))
    ≡ renumbered (make x y) [] taken
unaltered-two bs f taken at₁ at₂ x y make e g =
    unaltered-next x (make x y) taken (renumber bs f taken at₁ x)
    (λ x' then. over (make x') (renumber bs f then at₂ y)) e
    (unaltered-over y taken (make x) (renumber bs f taken at₂ y) g)

-- THEOREM: a term with nothing to change comes back unaltered, with no change
mutual
  unfolding renumber renumber_all Apart AllApart after

  pub unaltered : (W : Written) (bs : List Binder) (f : ℕ → ℕ) (taken : ℕ → Bool) (at : ℕ) → ((j : ℕ) → f j ≡ j) →
      Apart bs W → renumber bs f taken at W ≡ renumbered W [] taken
  unaltered skip bs f taken at i h = refl
  unaltered (diverge ty) bs f taken at i h = refl
  unaltered (truth b) bs f taken at i h = refl
  unaltered (number b) bs f taken at i h = refl
  unaltered (call id ws) bs f taken at i h =
      rw (i id) (unaltered-over ws taken (call id) (renumber_all bs f taken (2 + at) ws)
      (unaltered-all ws bs f taken (2 + at) i h))
  unaltered (fetch v) bs f taken at i h =
      unaltered-over v taken fetch (renumber bs f taken (1 + at) v) (unaltered v bs f taken (1 + at) i h)
  unaltered (operate op x y) bs f taken at i h =
      unaltered-two bs f taken (2 + at) (2 + at + width x) x y (operate op)
      (unaltered x bs f taken (2 + at) i h.0) (unaltered y bs f taken (2 + at + width x) i h.1)
  unaltered (assign x y) bs f taken at i h =
      unaltered-two bs f taken (1 + at) (1 + at + width x) x y assign
      (unaltered x bs f taken (1 + at) i h.0) (unaltered y bs f taken (1 + at + width x) i h.1)
  unaltered (sequence x y) bs f taken at i h =
      unaltered-two bs f taken (1 + at) (1 + at + width x) x y sequence
      (unaltered x bs f taken (1 + at) i h.0) (unaltered y bs f taken (1 + at + width x) i h.1)
  unaltered (choose b x y) bs f taken at i h =
      unaltered-next b (choose b x y) taken (renumber bs f taken (1 + at) b)
      (λ b' then. next (renumber bs f then (1 + at + width b) x)
      (λ x' then'. over (choose b' x') (renumber bs f then' (1 + at + width b + width x) y)))
      (unaltered b bs f taken (1 + at) i h.0)
      (unaltered-two bs f taken (1 + at + width b) (1 + at + width b + width x) x y (choose b)
      (unaltered x bs f taken (1 + at + width b) i h.1)
      (unaltered y bs f taken (1 + at + width b + width x) i h.2))
  unaltered (while x y) bs f taken at i h =
      unaltered-two bs f taken (1 + at) (1 + at + width x) x y while
      (unaltered x bs f taken (1 + at) i h.0) (unaltered y bs f taken (1 + at + width x) i h.1)
  unaltered (new id d c) bs f taken at i h =
      unaltered-next id (new id d c) taken (renumber_id bs taken (1 + at) id)
      (λ id' then. over (new id' d) (renumber (a_block id d ∷ bs) (put id id' f) then (3 + at) c))
      (unaltered-id bs taken (1 + at) id h.0)
      (unaltered-over c taken (new id d) (renumber (a_block id d ∷ bs) (put id id f) taken (3 + at) c)
      (unaltered c (a_block id d ∷ bs) (put id id f) taken (3 + at) (put-itself id f i) h.1))
  unaltered (procedure id ty ps x y) bs f taken at i h =
      unaltered-next id (procedure id ty ps x y) taken (renumber_id bs taken (1 + at) id)
      (λ id' then. next (renumber_parameters bs then (4 + at) ps) (λ qs then'.
      next (renumber (inside ps bs) (map_inside f ps qs) then' (12 + at) x) (λ x' then''.
      over (procedure id' ty qs x')
      (renumber (after id ty ps bs) (put id id' f) then'' (12 + at + width x) y))))
      (unaltered-id bs taken (1 + at) id h.0)
      (unaltered-next ps (procedure id ty ps x y) taken (renumber_parameters bs taken (4 + at) ps)
      (λ qs then'. next (renumber (inside ps bs) (map_inside f ps qs) then' (12 + at) x) (λ x' then''.
      over (procedure id ty qs x')
      (renumber (after id ty ps bs) (put id id f) then'' (12 + at + width x) y)))
      (unaltered-parameters ps bs taken (4 + at) h.1)
      (unaltered-next x (procedure id ty ps x y) taken
      (renumber (inside ps bs) (map_inside f ps ps) taken (12 + at) x)
      (λ x' then''. over (procedure id ty ps x')
      (renumber (after id ty ps bs) (put id id f) then'' (12 + at + width x) y))
      (unaltered x (inside ps bs) (map_inside f ps ps) taken (12 + at) (map-itself ps f i) h.2)
      (unaltered-over y taken (procedure id ty ps x)
      (renumber (after id ty ps bs) (put id id f) taken (12 + at + width x) y)
      (unaltered y (a_procedure id ty (types_of ps) ∷ bs) (put id id f) taken (12 + at + width x)
      (put-itself id f i) h.3))))

  unaltered-all : (ws : Writtens) (bs : List Binder) (f : ℕ → ℕ) (taken : ℕ → Bool) (at : ℕ) → ((j : ℕ) → f j ≡ j) →
      AllApart bs ws → renumber_all bs f taken at ws ≡ renumbered ws [] taken
  unaltered-all none bs f taken at i h = refl
  unaltered-all (more w ws) bs f taken at i h =
      unaltered-next w (more w ws) taken (renumber bs f taken at w)
      (λ w' then. over (more w') (renumber_all bs f then (at + width w) ws))
      (unaltered w bs f taken at i h.0)
      (unaltered-over ws taken (more w) (renumber_all bs f taken (at + width w) ws)
      (unaltered-all ws bs f taken (at + width w) i h.1))
