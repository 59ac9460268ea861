-- The offending records are those that are loud and stand inside a part of expression type.
use Prim.Native.Nat.{ℕ, zero, suc, ◌+◌, ◌≤◌}
use native.Mathlib.Omega.{arith}
use mathlib.Core.Path.{◌≡◌, refl, sym, ap, ◌∙◌, subst}
use mathlib.Core.Logic.{◌⊎◌, inl, inr}
use mathlib.Core.Bool.{Bool, true, false}
use mathlib.Core.List.{List, [], ◌∷◌, ◌++◌, append-nil}
use Rattle.sheet_written.specs.Written.{Written}
use Rattle.sheet_written.specs.Written.{Name}
use Rattle.sheet_written.specs.Meaning.{Binder, typed}
use Rattle.sheet_written.specs.Width.{width, heading_width}
use Rattle.sheet_written.specs.Pieces.{Piece, pieces, own_width}
use Rattle.sheet_reader.proofs.Widths.{width_some}
use Rattle.serve_profile.specs.Offence.{is_expression, loud, within, hit, offending, offences}
use Rattle.serve_profile.specs.Inside.{Stands, itself, below, StandsIn, in_first, in_later, Offends, Has, has_first}
use Rattle.serve_profile.specs.Inside.{has_later, OffenceRule}
use Rattle.serve_profile.proofs.Pieces.{item, items, offs, total, offs-open, width-open, own-some}

has_left : (xs ys : List ℕ) (p : ℕ) → Has xs p → Has (xs ++ ys) p
has_left [] ys p x' = elim x' [ ]
has_left (x ∷ xs) ys p has_first = has_first
has_left (x ∷ xs) ys p (has_later h) = has_later (has_left xs ys p h)

has_right : (xs ys : List ℕ) (p : ℕ) → Has ys p → Has (xs ++ ys) p
has_right [] ys p h = h
has_right (x ∷ xs) ys p h = has_later (has_right xs ys p h)

has_either : (xs ys : List ℕ) (p : ℕ) → Has (xs ++ ys) p → Has xs p ⊎ Has ys p
has_either [] ys p h = inr h
has_either (x ∷ xs) ys p has_first = inl has_first
has_either (x ∷ xs) ys p (has_later h) = go (has_either xs ys p h)
  where
    go : Has xs p ⊎ Has ys p → Has (x ∷ xs) p ⊎ Has ys p
    go (inl h) = inl (has_later h)
    go (inr h) = inr h

-- a record that is hit stands inside an expression and is loud
hit-found : (j l : Bool) (at p : ℕ) → Has (hit j l at) p → (j ≡ true) × (l ≡ true) × (p ≡ at)
unfolding hit
hit-found true true at p has_first = (refl, refl, refl)
hit-found false l at p x' = elim x' [ ]
hit-found true false at p x3 = elim x3 [ ]
hit-found true true at p (has_later x8) = elim x8 [ ]

module _ (ns : List Name) where
  -- the record and its parts
  opens : (bs : List Binder) (i : Bool) (W : Written) (at : ℕ) →
      offending ns bs i at W ≡
      hit (within ns bs i W) (loud ns bs W) at
      ++ offs ns (at + own_width W) (items (within ns bs i W) (pieces bs W) [])
  unfolding offs
  opens bs i W at = sym (append-nil (offending ns bs i at W)) ∙ offs-open ns bs i W at []

  -- a part of expression type is inside itself
  within-itself : (bs : List Binder) (i : Bool) (W : Written) → is_expression (typed ns bs W) ≡ true →
      within ns bs i W ≡ true
  unfolding within
  within-itself bs true W e = refl
  within-itself bs false W e = e

  within-true : (bs : List Binder) (W : Written) → within ns bs true W ≡ true
  unfolding within
  within-true bs W = refl

  pub same-inside : (bs : List Binder) (i : Bool) (W : Written) (at : ℕ) → is_expression (typed ns bs W) ≡ true →
      offending ns bs true at W ≡ offending ns bs i at W
  same-inside bs i W at e =
      opens bs true W at
      ∙ ap (λ (j : Bool). hit j (loud ns bs W) at ++ offs ns (at + own_width W) (items j (pieces bs W) []))
      (within-true bs W ∙ sym (within-itself bs i W e))
      ∙ sym (opens bs i W at)

  -- a loud record inside an expression offends
  mutual
    unfolding hit within offs items item

    loud-has : {bs cs : List Binder} {at p : ℕ} {W X : Written} → Stands bs at W cs p X → loud ns cs X ≡ true →
        Has (offending ns bs true at W) p
    loud-has (itself {bs} {at} {W}) l =
        subst (λ (xs : List ℕ). Has xs at) (sym (opens bs true W at)) (rw l has_first)
    loud-has (below {bs} {cs} {at} {p} {W} s) l =
        subst (λ (xs : List ℕ). Has xs p) (sym (opens bs true W at))
        (has_right (hit (within ns bs true W) (loud ns bs W) at) _ p (loud-has-in s l))

    loud-has-in : {at p : ℕ} {qs : List Piece} {cs : List Binder} {X : Written} → StandsIn at qs cs p X →
        loud ns cs X ≡ true → Has (offs ns at (items true qs [])) p
    loud-has-in (in_first {q = q} s) l = has_left _ _ _ (loud-has s l)
    loud-has-in (in_later {at} {q = q} s) l =
        has_right (offending ns q.around true at q.term) _ _ (loud-has-in s l)

  -- what offends in a part of expression type offends in what is around it
  mutual
    unfolding offs items item

    part-has : {bs cs : List Binder} {at q p : ℕ} {W Y : Written} → Stands bs at W cs q Y → (i : Bool) →
        is_expression (typed ns cs Y) ≡ true → Has (offending ns cs true q Y) p → Has (offending ns bs i at W) p
    part-has {p = p} (itself {bs} {at} {W}) i e h = subst (λ (xs : List ℕ). Has xs p) (same-inside bs i W at e) h
    part-has {p = p} (below {bs = bs} {at = at} {W = W} s) i e h =
        subst (λ (xs : List ℕ). Has xs p) (sym (opens bs i W at))
        (has_right (hit (within ns bs i W) (loud ns bs W) at) _ p (part-has-in s (within ns bs i W) e h))

    part-has-in : {at q p : ℕ} {qs : List Piece} {cs : List Binder} {Y : Written} → StandsIn at qs cs q Y → (j : Bool) →
        is_expression (typed ns cs Y) ≡ true → Has (offending ns cs true q Y) p → Has (offs ns at (items j qs [])) p
    part-has-in (in_first {q = r} s) j e h = has_left _ _ _ (part-has s j e h)
    part-has-in (in_later {at} {q = r} s) j e h =
        has_right (offending ns r.around j at r.term) _ _ (part-has-in s j e h)

  -- what is found: a loud record, inside what is around the part or inside a part of expression type in it
  record Loud (bs : List Binder) (at : ℕ) (W : Written) (p : ℕ) : Type 0 where
    within : List Binder
    found : Written
    inside : Stands bs at W within p found
    is_loud : loud ns within found ≡ true

  record LoudIn (at : ℕ) (qs : List Piece) (p : ℕ) : Type 0 where
    within : List Binder
    found : Written
    inside : StandsIn at qs within p found
    is_loud : loud ns within found ≡ true

  record OffendsIn (at : ℕ) (qs : List Piece) (p : ℕ) : Type 0 where
    around : List Binder
    place : ℕ
    part : Written
    stands : StandsIn at qs around place part
    expression : is_expression (typed ns around part) ≡ true
    loudly : Loud around place part p

  Why : Bool → List Binder → ℕ → Written → ℕ → Type 0
  Why i bs at W p = ((i ≡ true) × Loud bs at W p) ⊎ Offends ns bs at W p

  WhyIn : Bool → ℕ → List Piece → ℕ → Type 0
  WhyIn j at qs p = ((j ≡ true) × LoudIn at qs p) ⊎ OffendsIn at qs p

  -- a loud record of W itself: inside what is around, or inside W
  why-loud : (i : Bool) (bs : List Binder) (at : ℕ) (W : Written) (p : ℕ) → within ns bs i W ≡ true → Loud bs at W p →
      Why i bs at W p
  unfolding within Why
  why-loud true bs at W p e l = inl (refl, l)
  why-loud false bs at W p e l =
      inr (record {
        around = bs;
        place = at;
        part = W;
        stands = itself;
        expression = e;
        within = l.within;
        found = l.found;
        inside = l.inside;
        is_loud = l.is_loud;
      })

  why-below : (i : Bool) (bs : List Binder) (at : ℕ) (W : Written) (p : ℕ) →
      WhyIn (within ns bs i W) (at + own_width W) (pieces bs W) p → Why i bs at W p
  unfolding WhyIn Why
  why-below i bs at W p (inl h) =
      let l = h.1 in
      why-loud i bs at W p h.0
      (record { within = l.within; found = l.found; inside = below l.inside; is_loud = l.is_loud })
  why-below i bs at W p (inr o) =
      inr (record {
        around = o.around;
        place = o.place;
        part = o.part;
        stands = below o.stands;
        expression = o.expression;
        within = o.loudly.within;
        found = o.loudly.found;
        inside = o.loudly.inside;
        is_loud = o.loudly.is_loud;
      })

  why-first : (j : Bool) (at : ℕ) (q : Piece) (qs : List Piece) (p : ℕ) → Why j q.around at q.term p →
      WhyIn j at (q ∷ qs) p
  unfolding WhyIn Why
  why-first j at q qs p (inl h) =
      let l = h.1 in
      inl (h.0, record { within = l.within; found = l.found; inside = in_first l.inside; is_loud = l.is_loud })
  why-first j at q qs p (inr o) =
      inr (record {
        around = o.around;
        place = o.place;
        part = o.part;
        stands = in_first o.stands;
        expression = o.expression;
        loudly = record { within = o.within; found = o.found; inside = o.inside; is_loud = o.is_loud };
      })

  why-later : (j : Bool) (at : ℕ) (q : Piece) (qs : List Piece) (p : ℕ) → WhyIn j (at + width q.term) qs p →
      WhyIn j at (q ∷ qs) p
  unfolding WhyIn
  why-later j at q qs p (inl h) =
      let l = h.1 in
      inl (h.0, record { within = l.within; found = l.found; inside = in_later l.inside; is_loud = l.is_loud })
  why-later j at q qs p (inr o) =
      inr (record {
        around = o.around;
        place = o.place;
        part = o.part;
        stands = in_later o.stands;
        expression = o.expression;
        loudly = o.loudly;
      })

  -- parts, where what is said of each is known
  find-in : (n : ℕ) → ((bs : List Binder) (i : Bool) (W : Written) (at p : ℕ) → width W ≤ n →
      Has (offending ns bs i at W) p → Why i bs at W p) →
      (qs : List Piece) (j : Bool) (at p : ℕ) → total qs ≤ n → Has (offs ns at (items j qs [])) p → WhyIn j at qs p
  unfolding offs items item total
  find-in n f [] j at p h m = elim m [ ]
  find-in n f (q ∷ qs) j at p h m =
      go (has_either (offending ns q.around j at q.term) _ p m)
      (λ x. find-in n f qs j (at + width q.term) p (omega (arith, h)) x)
    where
      go : Has (offending ns q.around j at q.term) p ⊎ Has (offs ns (at + width q.term) (items j qs [])) p →
          (Has (offs ns (at + width q.term) (items j qs [])) p → WhyIn j (at + width q.term) qs p) →
          WhyIn j at (q ∷ qs) p
      go (inl x) g = why-first j at q qs p (f q.around j q.term at p (omega (arith, h)) x)
      go (inr x) g = why-later j at q qs p (g x)

  find : (n : ℕ) (bs : List Binder) (i : Bool) (W : Written) (at p : ℕ) → width W ≤ n →
      Has (offending ns bs i at W) p → Why i bs at W p
  find zero bs i W at p h m = absurd (omega (arith, h, width_some W))
  find (suc n) bs i W at p h m =
      go (has_either (hit (within ns bs i W) (loud ns bs W) at) _ p
      (subst (λ (xs : List ℕ). Has xs p) (opens bs i W at) m))
      (λ x. find-in n (λ cs k X a q l y. find n cs k X a q l y) (pieces bs W) (within ns bs i W) (at + own_width W) p
      (omega (arith, h, width-open bs W, own-some W)) x)
    where
      go : Has (hit (within ns bs i W) (loud ns bs W) at) p
          ⊎ Has (offs ns (at + own_width W) (items (within ns bs i W) (pieces bs W) [])) p →
          (Has (offs ns (at + own_width W) (items (within ns bs i W) (pieces bs W) [])) p →
          WhyIn (within ns bs i W) (at + own_width W) (pieces bs W) p) → Why i bs at W p
      go (inl x) g =
          let k = hit-found (within ns bs i W) (loud ns bs W) at p x in
          why-loud i bs at W p k.0
          (record {
            within = bs;
            found = W;
            is_loud = k.1;
            inside = subst (λ (a : ℕ). Stands bs at W bs a W) (sym k.2) itself;
          })
      go (inr x) g = why-below i bs at W p (g x)

-- THEOREM: what offends
pub offence-rule : OffenceRule
unfolding OffenceRule offences Why
offence-rule S p = (
  (λ h. told (find S.names (width S.term) [] false S.term (heading_width S) p (omega arith) h)),
  (λ o. part-has S.names o.stands false o.expression (loud-has S.names o.inside o.is_loud)),
)
  where
    told : ((false ≡ true) × Loud S.names [] (heading_width S) S.term p)
        ⊎ Offends S.names [] (heading_width S) S.term p →
        Offends S.names [] (heading_width S) S.term p
    told (inl h) = let z : ◌≡◌ {A = Bool} false true = h.0 in let z' : ◌≡◌ {A = ℕ} 0 1 = cc in absurd (omega arith)
    told (inr o) = o
