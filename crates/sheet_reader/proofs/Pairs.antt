-- The pairs of a procedure's parameters, unused ones 255 255.
use Prim.Native.Nat.{ℕ, zero, suc, ◌+◌, ◌*◌, ◌≤◌, ◌<◌}
use native.Mathlib.Omega.{arith}
use native.Mathlib.Nat.{add-zero}
use mathlib.Core.Path.{◌≡◌, refl, sym, ap, ◌∙◌}
use mathlib.Core.List.{List, [], ◌∷◌, ◌++◌}
use lib.ListN.{length, get_or, take, drop}
use lib.Seq.{drop-drop, get_or-drop}
use Rattle.sheet_written.specs.Written.{Parameter}
use Rattle.sheet_written.specs.Meaning.{Binder, a_parameter, inside, types_of}
use Rattle.sheet_reader.specs.Encoding.{pairs}
use Rattle.sheet_reader.specs.Reader.{parameters_of}
use Rattle.sheet_reader.proofs.Standings.{ParametersAt}

pub pairs-length : (n : ℕ) (ps : List Parameter) → length (pairs n ps) ≡ 2 * n
unfolding pairs
pairs-length zero ps = refl
pairs-length (suc n) [] = omega (arith, pairs-length n [])
pairs-length (suc n) (p ∷ ps) = omega (arith, pairs-length n ps)

pub parameters-length : (n : ℕ) (l : List ℕ) → length (parameters_of n l) ≡ n
unfolding parameters_of
parameters-length zero l = refl
parameters-length (suc n) l = ap suc (parameters-length n (drop 2 l))

-- the parameters that pairs hold
pub pairs-parameters :
    (n : ℕ) (ps : List Parameter) (l : List ℕ) → length ps ≤ n → parameters_of (length ps) (pairs n ps ++ l) ≡ ps
unfolding pairs parameters_of
pairs-parameters n [] l h = refl
pairs-parameters zero (p ∷ ps) l h = absurd (omega arith)
pairs-parameters (suc n) (p ∷ ps) l h = ap (λ (x : List Parameter). p ∷ x) (pairs-parameters n ps l (omega arith))

pub pairs-unused :
    (n : ℕ) (ps : List Parameter) (l : List ℕ) (j : ℕ) → length ps ≤ j → j < n →
    (get_or (pairs n ps ++ l) (2 * j) 0 ≡ 255) × (get_or (pairs n ps ++ l) (suc (2 * j)) 0 ≡ 255)
unfolding pairs
pairs-unused zero ps l j h k = absurd (omega arith)
pairs-unused (suc n) [] l zero h k = (refl, refl)
pairs-unused (suc n) [] l (suc j) h k =
    let e : 2 * suc j ≡ suc (suc (2 * j)) = omega arith in
    let r = pairs-unused n [] l j (omega arith) (omega arith) in
    (rw e r.0, rw e r.1)
pairs-unused (suc n) (p ∷ ps) l zero h k = absurd (omega arith)
pairs-unused (suc n) (p ∷ ps) l (suc j) h k =
    let e : 2 * suc j ≡ suc (suc (2 * j)) = omega arith in
    let r = pairs-unused n ps l j (omega arith) (omega arith) in
    (rw e r.0, rw e r.1)

pub pairs_of :
    (n c : ℕ) (l : List ℕ) → c ≤ n → 2 * n ≤ length l →
    ((j : ℕ) → c ≤ j → j < n → (get_or l (2 * j) 0 ≡ 255) × (get_or l (suc (2 * j)) 0 ≡ 255)) →
    pairs n (parameters_of c l) ≡ take (2 * n) l
unfolding pairs parameters_of
pairs_of zero zero l h k f = refl
pairs_of zero (suc c) l h k f = absurd (omega arith)
pairs_of (suc n) c [] h k f = absurd (omega arith)
pairs_of (suc n) c (x ∷ []) h k f = absurd (omega arith)
pairs_of (suc n) zero (x ∷ y ∷ l) h k f =
    let e : 2 * suc n ≡ suc (suc (2 * n)) = omega arith in
    let a : x ≡ 255 = (f 0 (omega arith) (omega arith)).0 in
    let b : y ≡ 255 = (f 0 (omega arith) (omega arith)).1 in
    rw (e, a, b) (ap (λ (z : List ℕ). 255 ∷ 255 ∷ z) (pairs_of n zero l (omega arith) (omega arith)
    (λ j u v. let e' : 2 * suc j ≡ suc (suc (2 * j)) = omega arith in
    let r = f (suc j) (omega arith) (omega arith) in (rw e' at r))))
pairs_of (suc n) (suc c) (x ∷ y ∷ l) h k f =
    let e : 2 * suc n ≡ suc (suc (2 * n)) = omega arith in
    rw e (ap (λ (z : List ℕ). x ∷ y ∷ z) (pairs_of n c l (omega arith) (omega arith)
    (λ j u v. let e' : 2 * suc j ≡ suc (suc (2 * j)) = omega arith in
    let r = f (suc j) (omega arith) (omega arith) in (rw e' at r))))

-- the parameters of the procedure at a place, from the one with number j on
pub parameters-at :
    (s : List ℕ) (place n j : ℕ) → ParametersAt s place j (parameters_of n (drop (place + 4 + 2 * j) s))
unfolding ParametersAt parameters_of
parameters-at s place zero j = tt
parameters-at s place (suc n) j =
    let q = place + 4 + 2 * j in
    let a : q ≡ q + 0 = omega arith in
    let b : place + 5 + 2 * j ≡ q + 1 = omega arith in
    let c : q + 2 ≡ place + 4 + 2 * suc j = omega arith in
    let d : drop 2 (drop q s) ≡ drop (place + 4 + 2 * suc j) s = drop-drop 2 q s ∙ ap (λ (x : ℕ). drop x s) c in (
      ap (λ (x : ℕ). get_or s x 0) a ∙ sym (get_or-drop q s 0 0),
      ap (λ (x : ℕ). get_or s x 0) b ∙ sym (get_or-drop q s 1 0),
      rw d (parameters-at s place n (suc j)),
    )

-- their types
pub types-length : (ps : List Parameter) → length (types_of ps) ≡ length ps
unfolding types_of
types-length [] = refl
types-length (p ∷ ps) = ap suc (types-length ps)

pub types-at :
    (s : List ℕ) (place j : ℕ) (ps : List Parameter) → ParametersAt s place j ps → (i : ℕ) → i < length ps →
    get_or s (place + 5 + 2 * (j + i)) 0 ≡ get_or (types_of ps) i 0
unfolding ParametersAt types_of
types-at s place j [] a i h = absurd (omega arith)
types-at s place j (p ∷ ps) a zero h = rw (add-zero j) a.1
types-at s place j (p ∷ ps) a (suc i) h =
    let e : j + suc i ≡ suc j + i = omega arith in
    rw e (types-at s place (suc j) ps a.2 i (omega arith))

-- the binders inside a procedure's term
pub inside-length : (ps : List Parameter) (bs : List Binder) → length (inside ps bs) ≡ length bs + length ps
unfolding inside
inside-length [] bs = sym (add-zero (length bs))
inside-length (p ∷ ps) bs = inside-length ps (a_parameter p.id p.holds ∷ bs) ∙ omega arith
