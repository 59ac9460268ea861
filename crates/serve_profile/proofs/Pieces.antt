-- A record and its parts: the offending records, the bytes, the widths and the order of the parts, by the parts.
use Prim.Native.Nat.{ℕ, ◌+◌, ◌<◌}
use native.Mathlib.Omega.{arith}
use mathlib.Core.Path.{◌≡◌, refl, sym, ap, ◌∙◌}
use mathlib.Core.Bool.{Bool}
use mathlib.Core.List.{List, [], ◌∷◌, ◌++◌, append_assoc}
use lib.ListN.{length, get_or}
use Rattle.language.specs.declared.Numbers.{Numbers}
use Rattle.sheet_records.specs.Kind.{shape_of, body_in}
use Rattle.sheet_written.specs.Written.{Written, skip, diverge, truth, number, call, fetch, operate, assign, sequence}
use Rattle.sheet_written.specs.Written.{while, choose, new, procedure, Writtens, none, more, Name}
use Rattle.sheet_written.specs.Meaning.{Binder, Meaning, private, argument, routine, named, retired, free, meaning}
use Rattle.sheet_written.specs.Meaning.{a_block, inside, after}
use Rattle.sheet_written.specs.Fine.{Fine, FineUse, FineArgs}
use Rattle.sheet_written.specs.Width.{width, widths}
use Rattle.sheet_reader.specs.Encoding.{pairs, encode, encodes}
use Rattle.sheet_reader.proofs.Pairs.{pairs-length}
use Rattle.sheet_written.specs.Pieces.{Piece, piece, each, pieces, own_width}
use Rattle.serve_profile.specs.Offence.{loud, within, hit, record_and, offending, all_offending}

-- a term that stands inside an expression or not, with the binders around it
pub record Item : Type 0 where
  pub around : List Binder
  pub term : Written
  pub inner : Bool

unfoldable pub item : Bool → Piece → Item
item i p = record { around = p.around; term = p.term; inner = i }

-- parts of a record that stands inside an expression or not, and then others
unfoldable pub items : Bool → List Piece → List Item → List Item
items i [] xs = xs
items i (p ∷ ps) xs = item i p ∷ items i ps xs

unfoldable pub wide : List Item → ℕ
wide [] = 0
wide (x ∷ xs) = width x.term + wide xs

unfoldable pub bytes_of : List Item → List ℕ
bytes_of [] = []
bytes_of (x ∷ xs) = encode x.term ++ bytes_of xs

-- the places of the offending records of terms that stand one after the other
unfoldable pub offs : List Name → ℕ → List Item → List ℕ
offs ns at [] = []
offs ns at (x ∷ xs) = offending ns x.around x.inner at x.term ++ offs ns (at + width x.term) xs

unfoldable pub total : List Piece → ℕ
total [] = 0
total (p ∷ ps) = width p.term + total ps

all-offs : (ns : List Name) (bs : List Binder) (i : Bool) (ws : Writtens) (at : ℕ) (xs : List Item) →
    all_offending ns bs i at ws ++ offs ns (at + widths ws) xs ≡ offs ns at (items i (each bs ws) xs)
unfolding all_offending offs widths items each item piece
all-offs ns bs i none at xs = let e : at + 0 ≡ at = omega arith in ap (λ (k : ℕ). offs ns k xs) e
all-offs ns bs i (more w ws) at xs =
    let e : at + (width w + widths ws) ≡ at + width w + widths ws = omega arith in
    ap (λ (k : ℕ). (offending ns bs i at w ++ all_offending ns bs i (at + width w) ws) ++ offs ns k xs) e
    ∙ append_assoc (offending ns bs i at w) (all_offending ns bs i (at + width w) ws)
    (offs ns (at + width w + widths ws) xs)
    ∙ ap (λ (u : List ℕ). offending ns bs i at w ++ u) (all-offs ns bs i ws (at + width w) xs)

-- a record W: what of it offends itself, and after that no part, one, two and three parts, from byte k of it on
module _ (ns : List Name) (os : List Binder) (i : Bool) (W : Written) (at k : ℕ) (xs : List Item) where
  abbrev here : Bool
  here = within ns os i W

  abbrev own : List ℕ
  own = hit here (loud ns os W) at

  no_part : (own ++ []) ++ offs ns (at + k) xs ≡ own ++ offs ns (at + k) xs
  no_part = append_assoc own [] (offs ns (at + k) xs)

  -- the part x after X
  last-part : (X : List ℕ) (bs : List Binder) (x : Written) (p wide : ℕ) → at + wide ≡ p + width x →
      (own ++ (X ++ offending ns bs here p x)) ++ offs ns (at + wide) xs
      ≡ own ++ (X ++ (offending ns bs here p x ++ offs ns (p + width x) xs))
  last-part X bs x p wide e =
      let Y : List ℕ = offending ns bs here p x in
      append_assoc own (X ++ Y) (offs ns (at + wide) xs)
      ∙ ap (λ (u : List ℕ). own ++ u) (append_assoc X Y (offs ns (at + wide) xs)
      ∙ ap (λ (m : ℕ). X ++ (Y ++ offs ns m xs)) e)

  one-part : (bs : List Binder) (x : Written) →
      (own ++ offending ns bs here (at + k) x) ++ offs ns (at + (k + width x)) xs
      ≡ own ++ (offending ns bs here (at + k) x ++ offs ns (at + k + width x) xs)
  one-part bs x = last-part [] bs x (at + k) (k + width x) (omega arith)

  two-parts : (bs cs : List Binder) (x y : Written) →
      (own ++ (offending ns bs here (at + k) x ++ offending ns cs here (at + k + width x) y))
      ++ offs ns (at + (k + (width x + width y))) xs
      ≡ own ++ (offending ns bs here (at + k) x ++ (offending ns cs here (at + k + width x) y
      ++ offs ns (at + k + width x + width y) xs))
  two-parts bs cs x y =
      last-part (offending ns bs here (at + k) x) cs y (at + k + width x) (k + (width x + width y)) (omega arith)

  three-parts : (bs : List Binder) (x y z : Written) →
      (own ++ (offending ns bs here (at + k) x
      ++ (offending ns bs here (at + k + width x) y ++ offending ns bs here (at + k + width x + width y) z)))
      ++ offs ns (at + (k + (width x + (width y + width z)))) xs
      ≡ own ++ (offending ns bs here (at + k) x ++ (offending ns bs here (at + k + width x) y
      ++ (offending ns bs here (at + k + width x + width y) z ++ offs ns (at + k + width x + width y + width z) xs)))
  three-parts bs x y z =
      let X : List ℕ = offending ns bs here (at + k) x in
      let Y : List ℕ = offending ns bs here (at + k + width x) y in
      let Z : List ℕ = offending ns bs here (at + k + width x + width y) z in
      let T : List ℕ = offs ns (at + k + width x + width y + width z) xs in
      ap (λ (u : List ℕ). (own ++ u) ++ offs ns (at + (k + (width x + (width y + width z)))) xs)
      (sym (append_assoc X Y Z))
      ∙ last-part (X ++ Y) bs z (at + k + width x + width y) (k + (width x + (width y + width z))) (omega arith)
      ∙ ap (λ (u : List ℕ). own ++ u) (append_assoc X Y (Z ++ T))

-- the offending records of a term and of those after it: its own record, then its parts
pub offs-open : (ns : List Name) (bs : List Binder) (i : Bool) (W : Written) (at : ℕ) (xs : List Item) →
    offending ns bs i at W ++ offs ns (at + width W) xs
    ≡ hit (within ns bs i W) (loud ns bs W) at
    ++ offs ns (at + own_width W) (items (within ns bs i W) (pieces bs W) xs)
unfolding offending record_and own_width pieces items item piece width offs
offs-open ns bs i skip at xs = no_part ns bs i skip at 1 xs
offs-open ns bs i (diverge ty) at xs = no_part ns bs i (diverge ty) at 2 xs
offs-open ns bs i (truth b) at xs = no_part ns bs i (truth b) at 2 xs
offs-open ns bs i (number b) at xs = no_part ns bs i (number b) at 2 xs
offs-open ns bs i (call id ws) at xs =
    let j : Bool = within ns bs i (call id ws) in
    let H : List ℕ = hit j (loud ns bs (call id ws)) at in
    let A : List ℕ = all_offending ns bs j (at + 2) ws in
    let e : at + (2 + widths ws) ≡ at + 2 + widths ws = omega arith in
    append_assoc H A (offs ns (at + (2 + widths ws)) xs)
    ∙ ap (λ (u : List ℕ). H ++ u) (ap (λ (m : ℕ). A ++ offs ns m xs) e ∙ all-offs ns bs j ws (at + 2) xs)
offs-open ns bs i (fetch v) at xs = one-part ns bs i (fetch v) at 1 xs bs v
offs-open ns bs i (operate op x y) at xs = two-parts ns bs i (operate op x y) at 2 xs bs bs x y
offs-open ns bs i (assign x y) at xs = two-parts ns bs i (assign x y) at 1 xs bs bs x y
offs-open ns bs i (sequence x y) at xs = two-parts ns bs i (sequence x y) at 1 xs bs bs x y
offs-open ns bs i (choose b x y) at xs = three-parts ns bs i (choose b x y) at 1 xs bs b x y
offs-open ns bs i (while x y) at xs = two-parts ns bs i (while x y) at 1 xs bs bs x y
offs-open ns bs i (new id d c) at xs = one-part ns bs i (new id d c) at 3 xs (a_block id d ∷ bs) c
offs-open ns bs i (procedure id ty ps x y) at xs =
    two-parts ns bs i (procedure id ty ps x y) at 12 xs (inside ps bs) (after id ty ps bs) x y

-- the bytes of a record before its parts
unfoldable pub head_of : Written → List ℕ
head_of skip = 16 ∷ []
head_of (diverge ty) = 17 ∷ ty ∷ []
head_of (truth b) = 18 ∷ b ∷ []
head_of (number b) = 19 ∷ b ∷ []
head_of (call id ws) = 20 ∷ id ∷ []
head_of (fetch v) = 21 ∷ []
head_of (operate op x y) = 22 ∷ op ∷ []
head_of (assign x y) = 23 ∷ []
head_of (sequence x y) = 24 ∷ []
head_of (choose b x y) = 25 ∷ []
head_of (while x y) = 26 ∷ []
head_of (new id d c) = 27 ∷ id ∷ d ∷ []
head_of (procedure id ty ps x y) = 28 ∷ id ∷ ty ∷ length ps ∷ pairs 4 ps

unfoldable pub kind_of : Written → ℕ
kind_of skip = 16
kind_of (diverge ty) = 17
kind_of (truth b) = 18
kind_of (number b) = 19
kind_of (call id ws) = 20
kind_of (fetch v) = 21
kind_of (operate op x y) = 22
kind_of (assign x y) = 23
kind_of (sequence x y) = 24
kind_of (choose b x y) = 25
kind_of (while x y) = 26
kind_of (new id d c) = 27
kind_of (procedure id ty ps x y) = 28

all-bytes : (bs : List Binder) (j : Bool) (ws : Writtens) (xs : List Item) →
    encodes ws ++ bytes_of xs ≡ bytes_of (items j (each bs ws) xs)
unfolding encodes bytes_of items each item piece
all-bytes bs j none xs = refl
all-bytes bs j (more w ws) xs =
    append_assoc (encode w) (encodes ws) (bytes_of xs) ∙ ap (λ (u : List ℕ). encode w ++ u) (all-bytes bs j ws xs)

pub bytes-open : (bs : List Binder) (j : Bool) (W : Written) (xs : List Item) →
    encode W ++ bytes_of xs ≡ head_of W ++ bytes_of (items j (pieces bs W) xs)
unfolding encode bytes_of head_of pieces items item piece
bytes-open bs j skip xs = refl
bytes-open bs j (diverge ty) xs = refl
bytes-open bs j (truth b) xs = refl
bytes-open bs j (number b) xs = refl
bytes-open bs j (call id ws) xs = ap (λ (u : List ℕ). 20 ∷ id ∷ u) (all-bytes bs j ws xs)
bytes-open bs j (fetch v) xs = refl
bytes-open bs j (operate op x y) xs = ap (λ (u : List ℕ). 22 ∷ op ∷ u) (append_assoc (encode x) (encode y) (bytes_of xs))
bytes-open bs j (assign x y) xs = ap (λ (u : List ℕ). 23 ∷ u) (append_assoc (encode x) (encode y) (bytes_of xs))
bytes-open bs j (sequence x y) xs = ap (λ (u : List ℕ). 24 ∷ u) (append_assoc (encode x) (encode y) (bytes_of xs))
bytes-open bs j (choose b x y) xs =
    ap (λ (u : List ℕ). 25 ∷ u) (append_assoc (encode b) (encode x ++ encode y) (bytes_of xs)
    ∙ ap (λ (u : List ℕ). encode b ++ u) (append_assoc (encode x) (encode y) (bytes_of xs)))
bytes-open bs j (while x y) xs = ap (λ (u : List ℕ). 26 ∷ u) (append_assoc (encode x) (encode y) (bytes_of xs))
bytes-open bs j (new id d c) xs = refl
bytes-open bs j (procedure id ty ps x y) xs =
    ap (λ (u : List ℕ). 28 ∷ id ∷ ty ∷ length ps ∷ u)
    (append_assoc (pairs 4 ps) (encode x ++ encode y) (bytes_of xs)
    ∙ ap (λ (u : List ℕ). pairs 4 ps ++ u) (append_assoc (encode x) (encode y) (bytes_of xs)))

-- its length, by the kind
pub head-long : (W : Written) → length (head_of W) ≡ own_width W
unfolding head_of own_width
head-long skip = refl
head-long (diverge ty) = refl
head-long (truth b) = refl
head-long (number b) = refl
head-long (call id ws) = refl
head-long (fetch v) = refl
head-long (operate op x y) = refl
head-long (assign x y) = refl
head-long (sequence x y) = refl
head-long (choose b x y) = refl
head-long (while x y) = refl
head-long (new id d c) = refl
head-long (procedure id ty ps x y) = omega (arith, pairs-length 4 ps)

pub own_body : (W : Written) → own_width W ≡ 1 + body_in (shape_of (kind_of W))
unfolding own_width body_in shape_of kind_of
own_body skip = refl
own_body (diverge ty) = refl
own_body (truth b) = refl
own_body (number b) = refl
own_body (call id ws) = refl
own_body (fetch v) = refl
own_body (operate op x y) = refl
own_body (assign x y) = refl
own_body (sequence x y) = refl
own_body (choose b x y) = refl
own_body (while x y) = refl
own_body (new id d c) = refl
own_body (procedure id ty ps x y) = refl

-- the first byte
pub head-kind : (W : Written) (u : List ℕ) → get_or (encode W ++ u) 0 0 ≡ kind_of W
unfolding encode kind_of
head-kind skip u = refl
head-kind (diverge ty) u = refl
head-kind (truth b) u = refl
head-kind (number b) u = refl
head-kind (call id ws) u = refl
head-kind (fetch v) u = refl
head-kind (operate op x y) u = refl
head-kind (assign x y) u = refl
head-kind (sequence x y) u = refl
head-kind (choose b x y) u = refl
head-kind (while x y) u = refl
head-kind (new id d c) u = refl
head-kind (procedure id ty ps x y) u = refl

total-each : (bs : List Binder) (ws : Writtens) → total (each bs ws) ≡ widths ws
unfolding total each widths piece
total-each bs none = refl
total-each bs (more w ws) = ap (λ (k : ℕ). width w + k) (total-each bs ws)

-- the width of a record is its own and that of its parts
pub width-open : (bs : List Binder) (W : Written) → width W ≡ own_width W + total (pieces bs W)
unfolding width own_width total pieces piece
width-open bs skip = refl
width-open bs (diverge ty) = refl
width-open bs (truth b) = refl
width-open bs (number b) = refl
width-open bs (call id ws) = omega (arith, total-each bs ws)
width-open bs (fetch v) = omega arith
width-open bs (operate op x y) = omega arith
width-open bs (assign x y) = omega arith
width-open bs (sequence x y) = omega arith
width-open bs (choose b x y) = omega arith
width-open bs (while x y) = omega arith
width-open bs (new id d c) = omega arith
width-open bs (procedure id ty ps x y) = omega arith

pub own-some : (W : Written) → 0 < own_width W
own-some W = omega (arith, own_body W)

-- parts that are in order, each in its scope
unfoldable pub FinePieces : Numbers → List Name → List Piece → Type 0
FinePieces N ns [] = Unit
FinePieces N ns (p ∷ ps) = Fine N ns p.around p.term × FinePieces N ns ps

module _ (N : Numbers) (ns : List Name) where
  fine-each : (bs : List Binder) (ws : Writtens) (tys : List ℕ) → FineArgs N ns bs ws tys → FinePieces N ns (each bs ws)
  unfolding FineArgs FinePieces each piece
  fine-each bs none tys F = tt
  fine-each bs (more w ws) [] F = absurd F
  fine-each bs (more w ws) (ty ∷ tys) F = (F.0, fine-each bs ws tys F.2)

  fine-use : (bs : List Binder) (ws : Writtens) (m : Meaning) → FineUse m (ws ≡ none) (λ tys. FineArgs N ns bs ws tys) →
      FinePieces N ns (each bs ws)
  unfolding FineUse FinePieces each
  fine-use bs ws (private k d) F = rw F tt
  fine-use bs ws (argument k ty) F = rw F tt
  fine-use bs ws (routine k ty tys) F = fine-each bs ws tys F
  fine-use bs ws (named often ty tys) F = fine-each bs ws tys F
  fine-use bs ws retired F = absurd F
  fine-use bs ws free F = absurd F

  pub fine-open : (bs : List Binder) (W : Written) → Fine N ns bs W → FinePieces N ns (pieces bs W)
  unfolding Fine FinePieces pieces piece
  fine-open bs skip F = tt
  fine-open bs (diverge ty) F = tt
  fine-open bs (truth b) F = tt
  fine-open bs (number b) F = tt
  fine-open bs (call id ws) F = fine-use bs ws (meaning ns bs id) F.1
  fine-open bs (fetch v) F = (F.0, tt)
  fine-open bs (operate op x y) F = (F.1, (F.3, tt))
  fine-open bs (assign x y) F = (F.0, (F.2, tt))
  fine-open bs (sequence x y) F = (F.0, (F.2, tt))
  fine-open bs (choose b x y) F = (F.0, (F.2, (F.3, tt)))
  fine-open bs (while x y) F = (F.0, (F.2, tt))
  fine-open bs (new id d c) F = (F.4, tt)
  fine-open bs (procedure id ty ps x y) F = (F.5, (F.7, tt))
