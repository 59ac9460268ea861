-- Bytes read back: those of a term in order, and those of one with a hole for one of its parts, are those of no other.
-- A use has as many arguments as its id means.
use Prim.Native.Nat.{ℕ, zero, suc, ◌≤◌, ◌<◌}
use native.Mathlib.Omega.{arith}
use mathlib.Core.Path.{◌≡◌, refl, sym, ap, ◌∙◌, subst}
use mathlib.Core.List.{List, [], ◌∷◌, ◌++◌, append_assoc}
use lib.ListN.{length, get_or, drop}
use lib.Seq.{drop_at}
use lib.Dec.{eqb}
use borrow.Author.Tests.{ne_eqb}
use Rattle.language.specs.Choice.{pick}
use Rattle.language.specs.Term.{freely, once}
use Rattle.language.specs.declared.Numbers.{Numbers}
use Rattle.sheet_records.specs.Limits.{ids, counts}
use Rattle.sheet_written.specs.Written.{Written, skip, diverge, truth, number, call, fetch, operate, assign, sequence}
use Rattle.sheet_written.specs.Written.{while, choose, new, procedure, Parameter, Writtens, none, more, Name, declare}
use Rattle.sheet_written.specs.Written.{retire}
use Rattle.sheet_written.specs.Meaning.{Binder, a_block, Meaning, private, argument, routine, named, retired, free}
use Rattle.sheet_written.specs.Meaning.{meaning, inside, after}
use Rattle.sheet_written.specs.Fine.{depth, depths, FineUse, Fine, FineArgs}
use Rattle.sheet_reader.specs.Encoding.{pairs, encode, encodes, declare_kind, encode_name}
use Rattle.sheet_reader.specs.Reader.{parameters_of}
use Rattle.sheet_reader.proofs.Pairs.{pairs-length, pairs-parameters}
use Rattle.serve_part.specs.Around.{Around, whole, in_call, in-fetch, in_left, in_right, in_target, in_source}
use Rattle.serve_part.specs.Around.{in_first, in_second, in_test, in_round, in_if, in_then, in_else, in-new}
use Rattle.serve_part.specs.Around.{Among, in_this, in_later, filled, all_filled}

-- what stands for a part: a use of an id that there is not
unfoldable pub hole : Written
hole = call ids none

-- what is read of bytes, with the bytes behind it
pub data Found (X : Type 0) : Type 0 where
  found : X → List ℕ → Found X
  lost : Found X

unfoldable next : {X Y : Type 0} → Found X → (X → List ℕ → Found Y) → Found Y
next (found x s) f = f x s
next lost f = lost

abbrev pub Reader : Type 0
Reader = List ℕ → Found Written

-- one, two and three parts, arguments, the two terms of a procedure
unfoldable one : Reader → (Written → Written) → Reader
one r g s = next (r s) (λ x t. found (g x) t)

unfoldable two : Reader → Reader → (Written → Written → Written) → Reader
two r r' g s = next (r s) (λ x t. one r' (g x) t)

unfoldable three : Reader → (Written → Written → Written → Written) → Reader
three r g s = next (r s) (λ x t. two r r (g x) t)

unfoldable all : Reader → ℕ → List ℕ → Found Writtens
all r zero s = found none s
all r (suc c) s = next (r s) (λ w t. next (all r c t) (λ ws u. found (more w ws) u))

unfoldable routine_of : (List Binder → Reader) → List Binder → ℕ → ℕ → List Parameter → Reader
routine_of r bs id ty ps s = two (r (inside ps bs)) (r (after id ty ps bs)) (λ x y. procedure id ty ps x y) s

-- the bytes of W are read as x, whatever follows them
abbrev Back : Reader → Written → Written → Type 0
Back r W x = (u : List ℕ) → r (encode W ++ u) ≡ found x u

abbrev AllBack : Reader → ℕ → Writtens → Writtens → Type 0
AllBack r c Ws ws = (u : List ℕ) → all r c (encodes Ws ++ u) ≡ found ws u

module _ (r : Reader) where
  one-back : (g : Written → Written) (X : Written) {x : Written} → Back r X x → (u : List ℕ) →
      one r g (encode X ++ u) ≡ found (g x) u
  unfolding one next
  one-back g X e u = rw (e u) refl

  two_back : (r' : Reader) (g : Written → Written → Written) (X Y : Written) {x y : Written} → Back r X x →
      Back r' Y y → (u : List ℕ) → two r r' g ((encode X ++ encode Y) ++ u) ≡ found (g x y) u
  unfolding two one next
  two_back r' g X Y e f u = rw (append_assoc (encode X) (encode Y) u, e (encode Y ++ u), f u) refl

  three_back : (g : Written → Written → Written → Written) (X Y Z : Written) {x y z : Written} → Back r X x →
      Back r Y y → Back r Z z → (u : List ℕ) →
      three r g ((encode X ++ (encode Y ++ encode Z)) ++ u) ≡ found (g x y z) u
  unfolding three next
  three_back g X Y Z e f h u =
      rw (append_assoc (encode X) (encode Y ++ encode Z) u, e ((encode Y ++ encode Z) ++ u))
      (two_back r (g _) Y Z f h u)

  more-back : (c : ℕ) (W : Written) (Ws : Writtens) {w : Written} {ws : Writtens} → Back r W w → AllBack r c Ws ws →
      (u : List ℕ) → all r (suc c) ((encode W ++ encodes Ws) ++ u) ≡ found (more w ws) u
  unfolding all next
  more-back c W Ws e f u = rw (append_assoc (encode W) (encodes Ws) u, e (encodes Ws ++ u), f u) refl

routine-back : (r : List Binder → Reader) (bs : List Binder) (id ty : ℕ) (ps : List Parameter) (X Y : Written)
    {x y : Written} → length ps < counts → Back (r (inside ps bs)) X x → Back (r (after id ty ps bs)) Y y →
    (u : List ℕ) → let s = (pairs 4 ps ++ (encode X ++ encode Y)) ++ u in
    routine_of r bs id ty (parameters_of (length ps) s) (drop 8 s) ≡ found (procedure id ty ps x y) u
unfolding routine_of
routine-back r bs id ty ps X Y l e f u =
    let rest = (encode X ++ encode Y) ++ u in
    rw (
      append_assoc (pairs 4 ps) (encode X ++ encode Y) u,
      pairs-parameters 4 ps rest (omega arith),
      drop_at (pairs 4 ps) rest 8 (pairs-length 4 ps),
    )
    (two_back (r (inside ps bs)) (r (after id ty ps bs)) (λ x y. procedure id ty ps x y) X Y e f u)

-- how many arguments a use has
count : Meaning → ℕ
count (private k d) = 0
count (argument k ty) = 0
count (routine k ty tys) = length tys
count (named often ty tys) = length tys
count retired = 0
count free = 0

counted : (N : Numbers) (ns : List Name) (bs : List Binder) (s : Meaning) (ws : Writtens) →
    FineUse s (ws ≡ none) (λ tys. FineArgs N ns bs ws tys) →
    (tys : List ℕ) × (count s ≡ length tys) × FineArgs N ns bs ws tys
unfolding FineUse FineArgs count
counted N ns bs (private k d) ws f = ([], refl, subst (λ x. FineArgs N ns bs x []) (sym f) tt)
counted N ns bs (argument k ty) ws f = ([], refl, subst (λ x. FineArgs N ns bs x []) (sym f) tt)
counted N ns bs (routine k ty tys) ws f = (tys, refl, f)
counted N ns bs (named often ty tys) ws f = (tys, refl, f)
counted N ns bs retired ws f = absurd f
counted N ns bs free ws f = absurd f

-- a term has a depth
depth-some : (W : Written) → 0 < depth W
unfolding depth
depth-some skip = omega arith
depth-some (diverge ty) = omega arith
depth-some (truth b) = omega arith
depth-some (number b) = omega arith
depth-some (call id ws) = omega arith
depth-some (fetch v) = omega arith
depth-some (operate op x y) = omega arith
depth-some (assign x y) = omega arith
depth-some (sequence x y) = omega arith
depth-some (choose b x y) = omega arith
depth-some (while x y) = omega arith
depth-some (new id d c) = omega arith
depth-some (procedure id ty ps x y) = omega arith

-- the names, and the term that is read for the hole
module _ (ns : List Name) (n : Written) where
  unfoldable use_of : Reader → List Binder → ℕ → Reader
  use_of r bs id s =
      pick (eqb id ids) (found n s) (next (all r (count (meaning ns bs id)) s) (λ ws t. found (call id ws) t))

  -- the record of a kind, where r reads its parts
  unfoldable of_kind : (List Binder → Reader) → List Binder → ℕ → Reader
  of_kind r bs b s =
      pick (eqb b 16) (found skip s)
      (pick (eqb b 17) (found (diverge (get_or s 0 0)) (drop 1 s))
      (pick (eqb b 18) (found (truth (get_or s 0 0)) (drop 1 s))
      (pick (eqb b 19) (found (number (get_or s 0 0)) (drop 1 s))
      (pick (eqb b 20) (use_of (r bs) bs (get_or s 0 0) (drop 1 s))
      (pick (eqb b 21) (one (r bs) (λ x. fetch x) s)
      (pick (eqb b 22) (two (r bs) (r bs) (λ x y. operate (get_or s 0 0) x y) (drop 1 s))
      (pick (eqb b 23) (two (r bs) (r bs) (λ x y. assign x y) s)
      (pick (eqb b 24) (two (r bs) (r bs) (λ x y. sequence x y) s)
      (pick (eqb b 25) (three (r bs) (λ x y z. choose x y z) s)
      (pick (eqb b 26) (two (r bs) (r bs) (λ x y. while x y) s)
      (pick (eqb b 27)
      (one (r (a_block (get_or s 0 0) (get_or s 1 0) ∷ bs)) (λ x. new (get_or s 0 0) (get_or s 1 0) x) (drop 2 s))
      (pick (eqb b 28) (routine_of r bs (get_or s 0 0) (get_or s 1 0) (parameters_of (get_or s 2 0) (drop 3 s)) (drop 11 s))
      lost))))))))))))

  -- at most k records deep
  pub read : ℕ → List Binder → Reader
  read zero bs s = lost
  read (suc k) bs [] = lost
  read (suc k) bs (b ∷ s) = of_kind (read k) bs b s

  -- bytes that are read as a term do not begin with a name's
  no_name : (k : ℕ) (bs : List Binder) (a : Name) (s : List ℕ) → read k bs (encode_name a ++ s) ≡ lost
  unfolding read of_kind declare_kind encode_name
  no_name zero bs a s = refl
  no_name (suc k) bs (declare freely id ty tys) s = refl
  no_name (suc k) bs (declare once id ty tys) s = refl
  no_name (suc k) bs (retire id) s = refl

  pub no_names : (k : ℕ) (bs : List Binder) {X s : List ℕ} {x : Written} → read k bs X ≡ found x s →
      (a : Name) (t : List ℕ) → X ≡ encode_name a ++ t → ⊥
  no_names k bs e a t f =
      let g = sym (no_name k bs a t) ∙ ap (read k bs) (sym f) ∙ e in
      let z : ◌≡◌ {A = ℕ} 0 1 = cc in absurd (omega arith)

  use-back : (r : Reader) (bs : List Binder) (id c : ℕ) (Ws : Writtens) {ws : Writtens} → id < ids →
      count (meaning ns bs id) ≡ c → AllBack r c Ws ws → (u : List ℕ) →
      use_of r bs id (encodes Ws ++ u) ≡ found (call id ws) u
  unfolding use_of next
  use-back r bs id c Ws l e f u = rw (ne_eqb id ids (λ z. omega arith), e, f u) refl

  two-parts : (k : ℕ) (bs : List Binder) (g : Written → Written → Written) (X Y : Written) {x y : Written} →
      Back (read k bs) X x → Back (read k bs) Y y → (u : List ℕ) →
      two (read k bs) (read k bs) g ((encode X ++ encode Y) ++ u) ≡ found (g x y) u
  two-parts k bs g X Y e f = two_back (read k bs) (read k bs) g X Y e f

  module _ (N : Numbers) where
    -- a term in order is read back
    abbrev Again : ℕ → Type 0
    Again k = (x : Written) (bs : List Binder) → Fine N ns bs x → depth x ≤ k → Back (read k bs) x x

    all-again : (k : ℕ) → Again k → (ws : Writtens) (tys : List ℕ) (bs : List Binder) → FineArgs N ns bs ws tys →
        depths ws ≤ k → AllBack (read k bs) (length tys) ws ws
    unfolding FineArgs depths encodes all
    all-again k R none [] bs f d = λ u. refl
    all-again k R none (ty ∷ tys) bs f d = absurd f
    all-again k R (more w ws) [] bs f d = absurd f
    all-again k R (more w ws) (ty ∷ tys) bs f d =
        more-back (read k bs) (length tys) w ws (R w bs f.0 (omega arith))
        (all-again k R ws tys bs f.2 (omega arith))

    again : (k : ℕ) → Again k
    unfolding Fine depth encode read of_kind
    again zero x bs f d = absurd (omega (arith, depth-some x))
    again (suc k) skip bs f d = λ u. refl
    again (suc k) (diverge ty) bs f d = λ u. refl
    again (suc k) (truth b) bs f d = λ u. refl
    again (suc k) (number b) bs f d = λ u. refl
    again (suc k) (call id ws) bs f d =
        let R = again k in
        let (tys, e, g) = counted N ns bs (meaning ns bs id) ws f.1 in
        use-back (read k bs) bs id (length tys) ws f.0 e (all-again k R ws tys bs g (omega arith))
    again (suc k) (fetch x) bs f d = one-back (read k bs) (λ z. fetch z) x (again k x bs f.0 (omega arith))
    again (suc k) (operate op x y) bs f d =
        two-parts k bs (λ z w. operate op z w) x y (again k x bs f.1 (omega arith))
        (again k y bs f.3 (omega arith))
    again (suc k) (assign x y) bs f d =
        two-parts k bs (λ z w. assign z w) x y (again k x bs f.0 (omega arith)) (again k y bs f.2 (omega arith))
    again (suc k) (sequence x y) bs f d =
        two-parts k bs (λ z w. sequence z w) x y (again k x bs f.0 (omega arith)) (again k y bs f.2 (omega arith))
    again (suc k) (while x y) bs f d =
        two-parts k bs (λ z w. while z w) x y (again k x bs f.0 (omega arith)) (again k y bs f.2 (omega arith))
    again (suc k) (choose b x y) bs f d =
        three_back (read k bs) (λ z w v. choose z w v) b x y (again k b bs f.0 (omega arith))
        (again k x bs f.2 (omega arith)) (again k y bs f.3 (omega arith))
    again (suc k) (new id d x) bs f l =
        one-back (read k (a_block id d ∷ bs)) (λ z. new id d z) x (again k x (a_block id d ∷ bs) f.4 (omega arith))
    again (suc k) (procedure id ty ps x y) bs f d =
        routine-back (read k) bs id ty ps x y f.3 (again k x (inside ps bs) f.5 (omega arith))
        (again k y (after id ty ps bs) f.7 (omega arith))

    -- and so is one with the hole for one of its parts, which is read as n
    module _ (m : Written) where
      abbrev Gap : ℕ → Type 0
      Gap k = (C : Around) (bs : List Binder) → Fine N ns bs (filled C m) → depth (filled C m) ≤ k →
          Back (read k bs) (filled C hole) (filled C n)

      gaps : (k : ℕ) → Gap k → (A : Among) (tys : List ℕ) (bs : List Binder) → FineArgs N ns bs (all_filled A m) tys →
          depths (all_filled A m) ≤ k → AllBack (read k bs) (length tys) (all_filled A hole) (all_filled A n)
      unfolding FineArgs depths all_filled encodes
      gaps k G (in_this C ws) [] bs f d = absurd f
      gaps k G (in_this C ws) (ty ∷ tys) bs f d =
          more-back (read k bs) (length tys) (filled C hole) ws (G C bs f.0 (omega arith))
          (all-again k (again k) ws tys bs f.2 (omega arith))
      gaps k G (in_later w A) [] bs f d = absurd f
      gaps k G (in_later w A) (ty ∷ tys) bs f d =
          more-back (read k bs) (length tys) w (all_filled A hole) (again k w bs f.0 (omega arith))
          (gaps k G A tys bs f.2 (omega arith))

      pub gap : (k : ℕ) → Gap k
      unfolding Fine depth encode encodes read of_kind use_of hole filled
      gap zero C bs f d = absurd (omega (arith, depth-some (filled C m)))
      gap (suc k) whole bs f d = λ u. refl
      gap (suc k) (in_call id A) bs f d =
          let G = gap k in
          let (tys, e, g) = counted N ns bs (meaning ns bs id) (all_filled A m) f.1 in
          use-back (read k bs) bs id (length tys) (all_filled A hole) f.0 e (gaps k G A tys bs g (omega arith))
      gap (suc k) (in-fetch C) bs f d =
          one-back (read k bs) (λ z. fetch z) (filled C hole) (gap k C bs f.0 (omega arith))
      gap (suc k) (in_left op C y) bs f d =
          two-parts k bs (λ z w. operate op z w) (filled C hole) y (gap k C bs f.1 (omega arith))
          (again k y bs f.3 (omega arith))
      gap (suc k) (in_right op x C) bs f d =
          two-parts k bs (λ z w. operate op z w) x (filled C hole) (again k x bs f.1 (omega arith))
          (gap k C bs f.3 (omega arith))
      gap (suc k) (in_target C y) bs f d =
          two-parts k bs (λ z w. assign z w) (filled C hole) y (gap k C bs f.0 (omega arith))
          (again k y bs f.2 (omega arith))
      gap (suc k) (in_source x C) bs f d =
          two-parts k bs (λ z w. assign z w) x (filled C hole) (again k x bs f.0 (omega arith))
          (gap k C bs f.2 (omega arith))
      gap (suc k) (in_first C y) bs f d =
          two-parts k bs (λ z w. sequence z w) (filled C hole) y (gap k C bs f.0 (omega arith))
          (again k y bs f.2 (omega arith))
      gap (suc k) (in_second x C) bs f d =
          two-parts k bs (λ z w. sequence z w) x (filled C hole) (again k x bs f.0 (omega arith))
          (gap k C bs f.2 (omega arith))
      gap (suc k) (in_test C y) bs f d =
          two-parts k bs (λ z w. while z w) (filled C hole) y (gap k C bs f.0 (omega arith))
          (again k y bs f.2 (omega arith))
      gap (suc k) (in_round x C) bs f d =
          two-parts k bs (λ z w. while z w) x (filled C hole) (again k x bs f.0 (omega arith))
          (gap k C bs f.2 (omega arith))
      gap (suc k) (in_if C x y) bs f d =
          three_back (read k bs) (λ z w v. choose z w v) (filled C hole) x y (gap k C bs f.0 (omega arith))
          (again k x bs f.2 (omega arith)) (again k y bs f.3 (omega arith))
      gap (suc k) (in_then b C y) bs f d =
          three_back (read k bs) (λ z w v. choose z w v) b (filled C hole) y (again k b bs f.0 (omega arith))
          (gap k C bs f.2 (omega arith)) (again k y bs f.3 (omega arith))
      gap (suc k) (in_else b x C) bs f d =
          three_back (read k bs) (λ z w v. choose z w v) b x (filled C hole) (again k b bs f.0 (omega arith))
          (again k x bs f.2 (omega arith)) (gap k C bs f.3 (omega arith))
      gap (suc k) (in-new id d C) bs f l =
          one-back (read k (a_block id d ∷ bs)) (λ z. new id d z) (filled C hole)
          (gap k C (a_block id d ∷ bs) f.4 (omega arith))
