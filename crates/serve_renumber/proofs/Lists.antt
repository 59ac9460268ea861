-- Bytes that lie in a sheet, bytes that are written anew, and the list of changes.
use Prim.Native.Nat.{ℕ, zero, suc, ◌+◌, ◌*◌, ◌/◌, ◌%◌, ◌≤◌, ◌<◌}
use native.Mathlib.Omega.{arith}
use mathlib.Core.Path.{◌≡◌, refl, sym, ap, ◌∙◌}
use mathlib.Core.Bool.{Bool, true}
use mathlib.Core.List.{List, [], ◌∷◌, ◌++◌, append_assoc}
use lib.ListN.{length, get_or, set, drop, length-append}
use lib.Seq.{drop-drop, drop-append_seam, get_or-drop, set_at}
use Rattle.sheet_records.specs.Limits.{ids}
use Rattle.sheet_written.specs.Written.{Written}
use Rattle.sheet_written.specs.Renumber.{is_bound, put, Change}
use Rattle.sheet_written.specs.Renumbering.{Gives, Olds, Ascending}
use Rattle.sheet_written.proofs.Places.{ascending-from}
use Rattle.serve_renumber.specs.Outcome.{listed}
use Rattle.serve_renumber.specs.Work.{Lies, Rewrites, note, notes}

-- the byte i of those that lie at a place
pub lies-get : (s xs : List ℕ) (at i : ℕ) (l : Lies s at xs) → get_or s (at + i) 0 ≡ get_or (xs ++ l.rest) i 0
lies-get s xs at i l = sym (get_or-drop at s i 0) ∙ ap (λ (x : List ℕ). get_or x i 0) l.here

pub lies-head : (s xs : List ℕ) (at : ℕ) (l : Lies s at xs) → get_or s at 0 ≡ get_or (xs ++ l.rest) 0 0
lies-head s xs at l = let e : at ≡ at + 0 = omega arith in ap (λ (x : ℕ). get_or s x 0) e ∙ lies-get s xs at 0 l

-- what lies after the first bytes
pub lies-after : (s H T U : List ℕ) (at a : ℕ) → Lies s at (H ++ T) → T ≡ U → a ≡ at + length H → Lies s a U
lies-after s H T U at a l e i = record {
  rest = l.rest;
  here = ap (λ (x : ℕ). drop x s) i ∙ sym (drop-drop (length H) at s)
      ∙ ap (drop (length H)) (l.here ∙ append_assoc H T l.rest) ∙ drop-append_seam H (T ++ l.rest)
      ∙ ap (λ (x : List ℕ). x ++ l.rest) e;
}

pub lies-first : (s T U : List ℕ) (at : ℕ) → Lies s at (T ++ U) → Lies s at T
lies-first s T U at l = record { rest = U ++ l.rest; here = l.here ∙ append_assoc T U l.rest }

-- nothing written
pub rewrites-same : (at : ℕ) (xs b : List ℕ) → Rewrites at xs xs b b
unfolding Rewrites
rewrites-same at xs b = λ X R l e. e

-- the first bytes left as they are
pub rewrites-after : (at a : ℕ) (H xs ys b b' : List ℕ) → a ≡ at + length H → Rewrites a xs ys b b' →
    Rewrites at (H ++ xs) (H ++ ys) b b'
unfolding Rewrites
rewrites-after at a H xs ys b b' i r = λ X R l e.
    let h : length (X ++ H) ≡ a = length-append X H ∙ ap (λ (x : ℕ). x + length H) l ∙ sym i in
    r (X ++ H) R h (e ∙ ap (λ (x : List ℕ). X ++ x) (append_assoc H xs R) ∙ sym (append_assoc X H (xs ++ R)))
    ∙ append_assoc X H (ys ++ R) ∙ ap (λ (x : List ℕ). X ++ x) (sym (append_assoc H ys R))

-- bytes written, and those after them
pub rewrites-then : (at a : ℕ) (xs ys us vs b b₁ b₂ : List ℕ) → length ys ≡ length xs → a ≡ at + length xs →
    Rewrites at xs ys b b₁ → Rewrites a us vs b₁ b₂ → Rewrites at (xs ++ us) (ys ++ vs) b b₂
unfolding Rewrites
rewrites-then at a xs ys us vs b b₁ b₂ m i r q = λ X R l e.
    let f : b₁ ≡ X ++ (ys ++ (us ++ R)) = r X (us ++ R) l (e ∙ ap (λ (x : List ℕ). X ++ x) (append_assoc xs us R)) in
    let h : length (X ++ ys) ≡ a = omega (arith, length-append X ys) in
    q (X ++ ys) R h (f ∙ sym (append_assoc X ys (us ++ R)))
    ∙ append_assoc X ys (vs ++ R) ∙ ap (λ (x : List ℕ). X ++ x) (sym (append_assoc ys vs R))

-- a byte
pub rewrites-byte : (at u v : ℕ) (b b' : List ℕ) → b' ≡ set b at v → Rewrites at (u ∷ []) (v ∷ []) b b'
unfolding Rewrites
rewrites-byte at u v b b' w = λ X R l e. w ∙ ap (λ (x : List ℕ). set x at v) e ∙ set_at X u R v at l

-- changes after others
pub notes-append : (n : ℕ) (cs ds : List Change) (l : List ℕ) → notes n (cs ++ ds) l ≡ notes (n + length cs) ds
    (notes n cs l)
unfolding notes
notes-append n [] ds l = let e : n ≡ n + 0 = omega arith in ap (λ (x : ℕ). notes x ds l) e
notes-append n (c ∷ cs) ds l =
    let e : suc n + length cs ≡ n + suc (length cs) = omega arith in
    notes-append (suc n) cs ds (note n c l) ∙ ap (λ (x : ℕ). notes x ds (notes (suc n) cs (note n c l))) e

-- the bytes of a list of changes
pub listed-length : (cs : List Change) → length (listed cs) ≡ 4 * length cs
unfolding listed
listed-length [] = omega arith
listed-length (c ∷ cs) = omega (arith, listed-length cs)

-- they are below 256, where places are within a sheet
pub listed_small : (cs : List Change) (W : Written) (low high : ℕ) (taken then : ℕ → Bool) → high ≤ 65536 →
    Ascending low high cs → Olds (λ id. (id < ids) × (is_bound W id ≡ true)) cs → Gives taken cs then →
    (i : ℕ) → get_or (listed cs) i 0 < 256
unfolding listed Ascending Olds Gives
listed_small [] W low high taken then h a o g i = omega arith
listed_small (c ∷ cs) W low high taken then h a o g zero = omega arith
listed_small (c ∷ cs) W low high taken then h a o g (suc zero) =
    omega (arith, ascending-from cs (suc c.place) high a.1)
listed_small (c ∷ cs) W low high taken then h a o g (suc (suc zero)) = omega (arith, o.0.0)
listed_small (c ∷ cs) W low high taken then h a o g (suc (suc (suc zero))) = omega (arith, g.1)
listed_small (c ∷ cs) W low high taken then h a o g (suc (suc (suc (suc i)))) =
    listed_small cs W (suc c.place) high (put c.given true taken) then h a.1 o.1 g.2 i

set-inside : (X zs : List ℕ) (i v : ℕ) → set (X ++ zs) (length X + i) v ≡ X ++ set zs i v
set-inside [] zs i v = let e : 0 + i ≡ i = omega arith in ap (λ (x : ℕ). set zs x v) e
set-inside (x ∷ X) zs i v =
    let e : suc (length X) + i ≡ suc (length X + i) = omega arith in
    ap (λ (y : ℕ). set (x ∷ (X ++ zs)) y v) e ∙ ap (λ (y : List ℕ). x ∷ y) (set-inside X zs i v)

set_here : (X zs : List ℕ) (i v k : ℕ) → k ≡ length X + i → set (X ++ zs) k v ≡ X ++ set zs i v
set_here X zs i v k e = ap (λ (x : ℕ). set (X ++ zs) x v) e ∙ set-inside X zs i v

noted-four : (X Y : List ℕ) (a b d e n : ℕ) (c : Change) → length X ≡ 4 * n →
    note n c (X ++ (a ∷ b ∷ d ∷ e ∷ Y)) ≡ (X ++ listed (c ∷ [])) ++ Y
unfolding note listed
noted-four X Y a b d e n c l =
    let p : ℕ = c.place % 256 in
    let q : ℕ = c.place / 256 in
    let o : ℕ = c.old in
    let g : ℕ = c.given in
    ap (λ (z : List ℕ). set (set (set z (4 * n + 1) q) (4 * n + 2) o) (4 * n + 3) g)
    (set_here X (a ∷ b ∷ d ∷ e ∷ Y) 0 p (4 * n) (omega (arith, l)))
    ∙ ap (λ (z : List ℕ). set (set z (4 * n + 2) o) (4 * n + 3) g)
    (set_here X (p ∷ b ∷ d ∷ e ∷ Y) 1 q (4 * n + 1) (omega (arith, l)))
    ∙ ap (λ (z : List ℕ). set z (4 * n + 3) g) (set_here X (p ∷ q ∷ d ∷ e ∷ Y) 2 o (4 * n + 2) (omega (arith, l)))
    ∙ set_here X (p ∷ q ∷ o ∷ e ∷ Y) 3 g (4 * n + 3) (omega (arith, l))
    ∙ sym (append_assoc X (p ∷ q ∷ o ∷ g ∷ []) Y)

pub notes-listed : (cs : List Change) (n : ℕ) (X Y : List ℕ) → length X ≡ 4 * n → 4 * length cs ≤ length Y →
    notes n cs (X ++ Y) ≡ X ++ (listed cs ++ drop (4 * length cs) Y)
unfolding notes listed
notes-listed [] n X Y l h = refl
notes-listed (c ∷ cs) n X [] l h = absurd (omega (arith, h))
notes-listed (c ∷ cs) n X (a ∷ []) l h = absurd (omega (arith, h))
notes-listed (c ∷ cs) n X (a ∷ b ∷ []) l h = absurd (omega (arith, h))
notes-listed (c ∷ cs) n X (a ∷ b ∷ d ∷ []) l h = absurd (omega (arith, h))
notes-listed (c ∷ cs) n X (a ∷ b ∷ d ∷ e ∷ Y) l h =
    let four : List ℕ = listed (c ∷ []) in
    let m : length (X ++ four) ≡ 4 * suc n = omega (arith, length-append X four, listed-length (c ∷ [])) in
    let i : 4 * suc (length cs) ≡ suc (suc (suc (suc (4 * length cs)))) = omega arith in
    ap (notes (suc n) cs) (noted-four X Y a b d e n c l)
    ∙ notes-listed cs (suc n) (X ++ four) Y m (omega (arith, h))
    ∙ append_assoc X four (listed cs ++ drop (4 * length cs) Y)
    ∙ ap (λ (z : ℕ). X ++ (listed (c ∷ cs) ++ drop z (a ∷ b ∷ d ∷ e ∷ Y))) (sym i)
