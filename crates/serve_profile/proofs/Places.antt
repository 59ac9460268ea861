-- The places of the offending records: they rise, and lie in the term; they do not hang on the ids of binders, so that
-- renumbering keeps them.
use Prim.Native.Nat.{ℕ, suc, ◌+◌, ◌≤◌, ◌<◌}
use native.Mathlib.Omega.{arith}
use mathlib.Core.Path.{◌≡◌, refl, ap}
use mathlib.Core.Bool.{Bool, true, false, ◌&&◌, ◌||◌}
use mathlib.Core.List.{List, [], ◌∷◌, ◌++◌}
use Rattle.language.specs.Choice.{pick}
use Rattle.language.specs.declared.Numbers.{Numbers}
use Rattle.sheet_written.specs.Written.{Written, skip, diverge, truth, number, call, fetch, operate, assign, sequence}
use Rattle.sheet_written.specs.Written.{while, choose, new, procedure, Writtens, none, more, Name}
use Rattle.sheet_written.specs.Meaning.{Binder, a_block, inside, after}
use Rattle.sheet_written.specs.Width.{width, widths, heading_width}
use Rattle.sheet_written.specs.Rules.{with_term}
use Rattle.sheet_written.specs.Like.{Like, like_skip, like_diverge, like_truth, like_number, like_call, like_fetch}
use Rattle.sheet_written.specs.Like.{like_operate, like_assign, like_sequence, like_choose, like_while, like_new}
use Rattle.sheet_written.specs.Like.{like_procedure, Likes, like_none, like_more}
use Rattle.sheet_written.specs.Renumbering.{RenumberRule}
use Rattle.sheet_written.proofs.Renaming.{like-typed}
use Rattle.sheet_written.proofs.Renumbering.{renumber-rule}
use Rattle.sheet_written.specs.Pieces.{own_width}
use Rattle.serve_profile.specs.Offence.{is_expression, loud_use, loud, within, hit, record_and, offending, all_offending}
use Rattle.serve_profile.specs.Offence.{offences}
use Rattle.serve_profile.specs.Places.{Rising, PlacesRise}
use Rattle.serve_profile.specs.Ids.{IdsAside, RenumberKeeps}
use Rattle.serve_profile.proofs.Pieces.{own-some}

rising_none : (low high : ℕ) → low ≤ high → Rising low high []
unfolding Rising
rising_none low high h = h

rising-lower : (ys : List ℕ) (low mid high : ℕ) → low ≤ mid → Rising mid high ys → Rising low high ys
unfolding Rising
rising-lower [] low mid high h b = omega (arith, h, b)
rising-lower (y ∷ ys) low mid high h b = (omega (arith, h, b.0), b.1)

-- places that rise, and then others beyond them
rising-append : (xs ys : List ℕ) (low mid high : ℕ) → Rising low mid xs → Rising mid high ys →
    Rising low high (xs ++ ys)
unfolding Rising
rising-append [] ys low mid high a b = rising-lower ys low mid high a b
rising-append (x ∷ xs) ys low mid high a b = (a.0, rising-append xs ys (suc x) mid high a.1 b)

rising-hit : (i l : Bool) (at : ℕ) (mid : ℕ) → at < mid → Rising at mid (hit i l at)
unfolding hit Rising
rising-hit i l at mid h = go (i && l)
  where
    go : (b : Bool) → Rising at mid (pick b (at ∷ []) [])
    go true = (omega arith, omega (arith, h))
    go false = omega (arith, h)

rising-wider : (xs : List ℕ) (low low' high high' : ℕ) → low' ≤ low → high ≤ high' → Rising low high xs →
    Rising low' high' xs
unfolding Rising
rising-wider [] low low' high high' h g r = omega (arith, h, g, r)
rising-wider (x ∷ xs) low low' high high' h g r =
    (omega (arith, h, r.0), rising-wider xs (suc x) (suc x) high high' (omega arith) g r.1)

-- two parts, of widths a and b
rising-two : (X Y : List ℕ) (low a b high : ℕ) → Rising low (low + a) X → Rising (low + a) (low + a + b) Y →
    low + a + b ≤ high → Rising low high (X ++ Y)
rising-two X Y low a b high x y h =
    rising-append X Y low (low + a) high x
    (rising-wider Y (low + a) (low + a) (low + a + b) high (omega arith) h y)

module _ (ns : List Name) where
  -- a record and then its parts
  rising-record : (W : Written) (bs : List Binder) (i : Bool) (at : ℕ) (parts : Bool → ℕ → List ℕ) →
      ((j : Bool) → Rising (at + own_width W) (at + width W) (parts j (at + own_width W))) →
      Rising at (at + width W) (record_and ns bs i at W parts)
  unfolding record_and
  rising-record W bs i at parts f =
      let j : Bool = within ns bs i W in
      rising-append (hit j (loud ns bs W) at) (parts j (at + own_width W)) at (at + own_width W) (at + width W)
      (rising-hit j (loud ns bs W) at (at + own_width W) (omega (arith, own-some W))) (f j)

  mutual
    unfolding offending all_offending own_width width widths

    rises : (W : Written) (bs : List Binder) (i : Bool) (at : ℕ) → Rising at (at + width W) (offending ns bs i at W)
    rises skip bs i at = rising-record skip bs i at _ (λ j. rising_none _ _ (omega arith))
    rises (diverge ty) bs i at = rising-record (diverge ty) bs i at _ (λ j. rising_none _ _ (omega arith))
    rises (truth b) bs i at = rising-record (truth b) bs i at _ (λ j. rising_none _ _ (omega arith))
    rises (number b) bs i at = rising-record (number b) bs i at _ (λ j. rising_none _ _ (omega arith))
    rises (call id ws) bs i at =
        rising-record (call id ws) bs i at _ (λ j.
        rising-wider (all_offending ns bs j (at + 2) ws) (at + 2) (at + 2) (at + 2 + widths ws) _ (omega arith)
        (omega arith) (rise-all ws bs j (at + 2)))
    rises (fetch v) bs i at =
        rising-record (fetch v) bs i at _ (λ j.
        rising-wider (offending ns bs j (at + 1) v) (at + 1) (at + 1) (at + 1 + width v) _ (omega arith) (omega arith)
        (rises v bs j (at + 1)))
    rises (operate op x y) bs i at =
        rising-record (operate op x y) bs i at _ (λ j.
        rising-two _ _ (at + 2) (width x) (width y) (at + (2 + (width x + width y))) (rises x bs j (at + 2))
        (rises y bs j (at + 2 + width x)) (omega arith))
    rises (assign x y) bs i at =
        rising-record (assign x y) bs i at _ (λ j.
        rising-two _ _ (at + 1) (width x) (width y) (at + (1 + (width x + width y))) (rises x bs j (at + 1))
        (rises y bs j (at + 1 + width x)) (omega arith))
    rises (sequence x y) bs i at =
        rising-record (sequence x y) bs i at _ (λ j.
        rising-two _ _ (at + 1) (width x) (width y) (at + (1 + (width x + width y))) (rises x bs j (at + 1))
        (rises y bs j (at + 1 + width x)) (omega arith))
    rises (choose b x y) bs i at =
        rising-record (choose b x y) bs i at _ (λ j.
        rising-two _ _ (at + 1) (width b) (width x + width y) (at + (1 + (width b + (width x + width y))))
        (rises b bs j (at + 1))
        (rising-two _ _ (at + 1 + width b) (width x) (width y) (at + 1 + width b + (width x + width y))
        (rises x bs j (at + 1 + width b)) (rises y bs j (at + 1 + width b + width x)) (omega arith))
        (omega arith))
    rises (while x y) bs i at =
        rising-record (while x y) bs i at _ (λ j.
        rising-two _ _ (at + 1) (width x) (width y) (at + (1 + (width x + width y))) (rises x bs j (at + 1))
        (rises y bs j (at + 1 + width x)) (omega arith))
    rises (new id d c) bs i at =
        rising-record (new id d c) bs i at _ (λ j.
        rising-wider (offending ns (a_block id d ∷ bs) j (at + 3) c) (at + 3) (at + 3) (at + 3 + width c) _
        (omega arith) (omega arith) (rises c (a_block id d ∷ bs) j (at + 3)))
    rises (procedure id ty ps x y) bs i at =
        rising-record (procedure id ty ps x y) bs i at _ (λ j.
        rising-two _ _ (at + 12) (width x) (width y) (at + (12 + (width x + width y)))
        (rises x (inside ps bs) j (at + 12)) (rises y (after id ty ps bs) j (at + 12 + width x)) (omega arith))

    rise-all : (ws : Writtens) (bs : List Binder) (i : Bool) (at : ℕ) →
        Rising at (at + widths ws) (all_offending ns bs i at ws)
    rise-all none bs i at = rising_none _ _ (omega arith)
    rise-all (more w ws) bs i at =
        rising-two _ _ at (width w) (widths ws) (at + (width w + widths ws)) (rises w bs i at)
        (rise-all ws bs i (at + width w)) (omega arith)

-- THEOREM: the places rise, and each is that of a byte of the term
pub places-rise : PlacesRise
unfolding PlacesRise offences
places-rise S = rises S.names S.term [] false (heading_width S)

-- the same of terms that are the same but for the ids of binders
mutual
  unfolding width widths

  like-width : {ns : List Name} {bs cs : List Binder} {W X : Written} → Like ns bs cs W X → width W ≡ width X
  like-width like_skip = refl
  like-width like_diverge = refl
  like-width like_truth = refl
  like-width like_number = refl
  like-width (like_call e h a) = rw (like-widths a)
  like-width (like_fetch x) = rw (like-width x)
  like-width (like_operate x y) = rw (like-width x, like-width y)
  like-width (like_assign x y) = rw (like-width x, like-width y)
  like-width (like_sequence x y) = rw (like-width x, like-width y)
  like-width (like_choose b x y) = rw (like-width b, like-width x, like-width y)
  like-width (like_while x y) = rw (like-width x, like-width y)
  like-width (like_new x) = rw (like-width x)
  like-width (like_procedure e x y) = rw (like-width x, like-width y)

  like-widths : {ns : List Name} {bs cs : List Binder} {ws ws' : Writtens} → Likes ns bs cs ws ws' →
      widths ws ≡ widths ws'
  like-widths like_none = refl
  like-widths (like_more x a) = rw (like-width x, like-widths a)

module _ (N : Numbers) (ns : List Name) where
  like-within : {bs cs : List Binder} {W X : Written} (i : Bool) → Like ns bs cs W X →
      within ns bs i W ≡ within ns cs i X
  unfolding within
  like-within i l = ap (λ (ty : ℕ). i || is_expression ty) (like-typed N ns l)

  like-loud : {bs cs : List Binder} {W X : Written} → Like ns bs cs W X → loud ns bs W ≡ loud ns cs X
  unfolding loud
  like-loud like_skip = refl
  like-loud like_diverge = refl
  like-loud like_truth = refl
  like-loud like_number = refl
  like-loud (like_call e h a) = ap loud_use e
  like-loud (like_fetch x) = refl
  like-loud (like_operate x y) = refl
  like-loud (like_assign x y) = refl
  like-loud (like_sequence x y) = refl
  like-loud (like_choose b x y) = refl
  like-loud (like_while x y) = refl
  like-loud (like_new x) = refl
  like-loud (like_procedure e x y) = refl

  -- records with as many bytes before their parts, whose parts offend alike
  like-record : {bs cs : List Binder} {W X : Written} → Like ns bs cs W X → (i : Bool) (at : ℕ) →
      own_width W ≡ own_width X → (f g : Bool → ℕ → List ℕ) → ((j : Bool) (p : ℕ) → f j p ≡ g j p) →
      record_and ns bs i at W f ≡ record_and ns cs i at X g
  unfolding record_and
  like-record {cs = cs} {X = X} l i at e f g h =
      rw (like-within i l, like-loud l, e, h (within ns cs i X) (at + own_width X))

  mutual
    unfolding offending all_offending own_width

    like-offending : {bs cs : List Binder} {W X : Written} → Like ns bs cs W X → (i : Bool) (at : ℕ) →
        offending ns bs i at W ≡ offending ns cs i at X
    like-offending like_skip i at = like-record like_skip i at refl _ _ (λ j p. refl)
    like-offending like_diverge i at = like-record like_diverge i at refl _ _ (λ j p. refl)
    like-offending like_truth i at = like-record like_truth i at refl _ _ (λ j p. refl)
    like-offending like_number i at = like-record like_number i at refl _ _ (λ j p. refl)
    like-offending (like_call e h a) i at = like-record (like_call e h a) i at refl _ _ (λ j p. like-all a j p)
    like-offending (like_fetch x) i at = like-record (like_fetch x) i at refl _ _ (λ j p. like-offending x j p)
    like-offending (like_operate {op = op} {x' = x'} x y) i at =
        like-record (like_operate {op = op} x y) i at refl _ _ (λ j p.
        rw (like-width x, like-offending x j p, like-offending y j (p + width x')))
    like-offending (like_assign {x' = x'} x y) i at =
        like-record (like_assign x y) i at refl _ _ (λ j p.
        rw (like-width x, like-offending x j p, like-offending y j (p + width x')))
    like-offending (like_sequence {x' = x'} x y) i at =
        like-record (like_sequence x y) i at refl _ _ (λ j p.
        rw (like-width x, like-offending x j p, like-offending y j (p + width x')))
    like-offending (like_choose {b' = b'} {x' = x'} b x y) i at =
        like-record (like_choose b x y) i at refl _ _ (λ j p.
        rw (
          like-width b,
          like-width x,
          like-offending b j p,
          like-offending x j (p + width b'),
          like-offending y j (p + width b' + width x'),
        ))
    like-offending (like_while {x' = x'} x y) i at =
        like-record (like_while x y) i at refl _ _ (λ j p.
        rw (like-width x, like-offending x j p, like-offending y j (p + width x')))
    like-offending (like_new x) i at = like-record (like_new x) i at refl _ _ (λ j p. like-offending x j p)
    like-offending (like_procedure {x' = x'} e x y) i at =
        like-record (like_procedure e x y) i at refl _ _ (λ j p.
        rw (like-width x, like-offending x j p, like-offending y j (p + width x')))

    like-all : {bs cs : List Binder} {ws ws' : Writtens} → Likes ns bs cs ws ws' → (i : Bool) (at : ℕ) →
        all_offending ns bs i at ws ≡ all_offending ns cs i at ws'
    like-all like_none i at = refl
    like-all (like_more {w' = w'} x a) i at = rw (like-width x, like-offending x i at, like-all a i (at + width w'))

-- THEOREM: the ids of binders aside
ids-aside : IdsAside
unfolding IdsAside offences with_term heading_width
ids-aside S W l = like-offending S.numbers S.names l false _

-- THEOREM: renumbering keeps the profile
pub renumber-keeps : RenumberKeeps
unfolding RenumberKeeps IdsAside RenumberRule
renumber-keeps S W cs then A e = ids-aside S W (renumber-rule S W cs then A e).like
