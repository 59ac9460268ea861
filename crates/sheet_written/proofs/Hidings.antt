-- No binder hides another exactly if none is found that does (specs/Hiding).
use Prim.Native.Nat.{ℕ, ◌+◌}
use native.Mathlib.Omega.{arith}
use mathlib.Core.Path.{◌≡◌, refl}
use mathlib.Core.List.{List, [], ◌∷◌, ◌++◌}
use Rattle.sheet_written.specs.Written.{Written, skip, diverge, truth, number, call, fetch, operate, assign}
use Rattle.sheet_written.specs.Written.{sequence, while, choose, new, procedure, Parameter, Writtens, none, more}
use Rattle.sheet_written.specs.Meaning.{Binder, a_block, inside, after}
use Rattle.sheet_written.specs.Width.{width}
use Rattle.sheet_written.specs.Hiding.{is_held, Unheld, ApartParameters, Apart, AllApart, Hiding, hiding_id}
use Rattle.sheet_written.specs.Hiding.{hiding_parameters, hiding, all_hiding, ApartRule}
use Rattle.sheet_written.proofs.Tests.{by-test}

-- two lists without an element
empty-first : (xs ys : List Hiding) → xs ++ ys ≡ [] → xs ≡ []
empty-first [] ys e = refl
empty-first (x ∷ xs) ys e = let z : ◌≡◌ {A = ℕ} 0 1 = cc in absurd (omega arith)

empty-second : (xs ys : List Hiding) → xs ++ ys ≡ [] → ys ≡ []
empty-second [] ys e = e
empty-second (x ∷ xs) ys e = let z : ◌≡◌ {A = ℕ} 0 1 = cc in absurd (omega arith)

pub unheld-id : (bs : List Binder) (at id : ℕ) → hiding_id bs at id ≡ [] → Unheld bs id
unfolding hiding_id Unheld
unheld-id bs at id e =
    by-test (is_held bs id)
    (λ t. let e' = rw t at e in let z : ◌≡◌ {A = ℕ} 0 1 = cc in absurd (omega arith))
    (λ t. t)

no-hiding-id : (bs : List Binder) (at id : ℕ) → Unheld bs id → hiding_id bs at id ≡ []
unfolding hiding_id Unheld
no-hiding-id bs at id h = rw h refl

apart-parameters : (ps : List Parameter) (bs : List Binder) (at : ℕ) → hiding_parameters bs at ps ≡ [] →
    ApartParameters bs ps
unfolding hiding_parameters ApartParameters
apart-parameters [] bs at e = tt
apart-parameters (p ∷ ps) bs at e =
    let hs : List Hiding = hiding_id bs at p.id in
    let ks : List Hiding = hiding_parameters bs (2 + at) ps in
    (unheld-id bs at p.id (empty-first hs ks e), apart-parameters ps bs (2 + at) (empty-second hs ks e))

no-hiding-parameters : (ps : List Parameter) (bs : List Binder) (at : ℕ) → ApartParameters bs ps →
    hiding_parameters bs at ps ≡ []
unfolding hiding_parameters ApartParameters
no-hiding-parameters [] bs at h = refl
no-hiding-parameters (p ∷ ps) bs at h =
    rw (no-hiding-id bs at p.id h.0, no-hiding-parameters ps bs (2 + at) h.1) refl

mutual
  unfolding Apart AllApart hiding all_hiding

  apart-term : (W : Written) (bs : List Binder) (at : ℕ) → hiding bs at W ≡ [] → Apart bs W
  apart-term skip bs at e = tt
  apart-term (diverge ty) bs at e = tt
  apart-term (truth b) bs at e = tt
  apart-term (number b) bs at e = tt
  apart-term (call id ws) bs at e = apart-all ws bs (2 + at) e
  apart-term (fetch v) bs at e = apart-term v bs (1 + at) e
  apart-term (operate op x y) bs at e =
      let hs : List Hiding = hiding bs (2 + at) x in
      let ks : List Hiding = hiding bs (2 + at + width x) y in
      (apart-term x bs (2 + at) (empty-first hs ks e), apart-term y bs (2 + at + width x) (empty-second hs ks e))
  apart-term (assign x y) bs at e =
      let hs : List Hiding = hiding bs (1 + at) x in
      let ks : List Hiding = hiding bs (1 + at + width x) y in
      (apart-term x bs (1 + at) (empty-first hs ks e), apart-term y bs (1 + at + width x) (empty-second hs ks e))
  apart-term (sequence x y) bs at e =
      let hs : List Hiding = hiding bs (1 + at) x in
      let ks : List Hiding = hiding bs (1 + at + width x) y in
      (apart-term x bs (1 + at) (empty-first hs ks e), apart-term y bs (1 + at + width x) (empty-second hs ks e))
  apart-term (choose b x y) bs at e =
      let hs : List Hiding = hiding bs (1 + at) b in
      let ks : List Hiding = hiding bs (1 + at + width b) x in
      let js : List Hiding = hiding bs (1 + at + width b + width x) y in
      let g : ks ++ js ≡ [] = empty-second hs (ks ++ js) e in (
        apart-term b bs (1 + at) (empty-first hs (ks ++ js) e),
        apart-term x bs (1 + at + width b) (empty-first ks js g),
        apart-term y bs (1 + at + width b + width x) (empty-second ks js g),
      )
  apart-term (while x y) bs at e =
      let hs : List Hiding = hiding bs (1 + at) x in
      let ks : List Hiding = hiding bs (1 + at + width x) y in
      (apart-term x bs (1 + at) (empty-first hs ks e), apart-term y bs (1 + at + width x) (empty-second hs ks e))
  apart-term (new id d c) bs at e =
      let hs : List Hiding = hiding_id bs (1 + at) id in
      let ks : List Hiding = hiding (a_block id d ∷ bs) (3 + at) c in (
        unheld-id bs (1 + at) id (empty-first hs ks e),
        apart-term c (a_block id d ∷ bs) (3 + at) (empty-second hs ks e),
      )
  apart-term (procedure id ty ps x y) bs at e =
      let hs : List Hiding = hiding_id bs (1 + at) id in
      let is : List Hiding = hiding_parameters bs (4 + at) ps in
      let js : List Hiding = hiding (inside ps bs) (12 + at) x in
      let ks : List Hiding = hiding (after id ty ps bs) (12 + at + width x) y in
      let g : is ++ (js ++ ks) ≡ [] = empty-second hs (is ++ (js ++ ks)) e in
      let f : js ++ ks ≡ [] = empty-second is (js ++ ks) g in (
        unheld-id bs (1 + at) id (empty-first hs (is ++ (js ++ ks)) e),
        apart-parameters ps bs (4 + at) (empty-first is (js ++ ks) g),
        apart-term x (inside ps bs) (12 + at) (empty-first js ks f),
        apart-term y (after id ty ps bs) (12 + at + width x) (empty-second js ks f),
      )

  apart-all : (ws : Writtens) (bs : List Binder) (at : ℕ) → all_hiding bs at ws ≡ [] → AllApart bs ws
  apart-all none bs at e = tt
  apart-all (more w ws) bs at e =
      let hs : List Hiding = hiding bs at w in
      let ks : List Hiding = all_hiding bs (at + width w) ws in
      (apart-term w bs at (empty-first hs ks e), apart-all ws bs (at + width w) (empty-second hs ks e))

mutual
  unfolding Apart AllApart hiding all_hiding

  no-hiding : (W : Written) (bs : List Binder) (at : ℕ) → Apart bs W → hiding bs at W ≡ []
  no-hiding skip bs at h = refl
  no-hiding (diverge ty) bs at h = refl
  no-hiding (truth b) bs at h = refl
  no-hiding (number b) bs at h = refl
  no-hiding (call id ws) bs at h = no-hiding-all ws bs (2 + at) h
  no-hiding (fetch v) bs at h = no-hiding v bs (1 + at) h
  no-hiding (operate op x y) bs at h =
      rw (no-hiding x bs (2 + at) h.0, no-hiding y bs (2 + at + width x) h.1) refl
  no-hiding (assign x y) bs at h =
      rw (no-hiding x bs (1 + at) h.0, no-hiding y bs (1 + at + width x) h.1) refl
  no-hiding (sequence x y) bs at h =
      rw (no-hiding x bs (1 + at) h.0, no-hiding y bs (1 + at + width x) h.1) refl
  no-hiding (choose b x y) bs at h =
      rw (
        no-hiding b bs (1 + at) h.0,
        no-hiding x bs (1 + at + width b) h.1,
        no-hiding y bs (1 + at + width b + width x) h.2,
      ) refl
  no-hiding (while x y) bs at h =
      rw (no-hiding x bs (1 + at) h.0, no-hiding y bs (1 + at + width x) h.1) refl
  no-hiding (new id d c) bs at h =
      rw (no-hiding-id bs (1 + at) id h.0, no-hiding c (a_block id d ∷ bs) (3 + at) h.1) refl
  no-hiding (procedure id ty ps x y) bs at h =
      rw (
        no-hiding-id bs (1 + at) id h.0,
        no-hiding-parameters ps bs (4 + at) h.1,
        no-hiding x (inside ps bs) (12 + at) h.2,
        no-hiding y (after id ty ps bs) (12 + at + width x) h.3,
      ) refl

  no-hiding-all : (ws : Writtens) (bs : List Binder) (at : ℕ) → AllApart bs ws → all_hiding bs at ws ≡ []
  no-hiding-all none bs at h = refl
  no-hiding-all (more w ws) bs at h =
      rw (no-hiding w bs at h.0, no-hiding-all ws bs (at + width w) h.1) refl

-- THEOREM: both ways
pub apart-rule : ApartRule
unfolding ApartRule
apart-rule W bs at = (λ h. no-hiding W bs at h, λ e. apart-term W bs at e)
