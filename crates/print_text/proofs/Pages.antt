-- Writing at a cursor: one text after another.
use Prim.Native.Nat.{ℕ, ◌+◌, ◌≤◌, ◌<◌}
use native.Mathlib.Numerals.{add-one}
use mathlib.Core.Path.{◌≡◌, refl}
use mathlib.Core.List.{List, [], ◌∷◌, ◌++◌}
use lib.ListN.{length, get_or, take, set}
use lib.Seq.{take_all, take-suc}
use borrow.Author.Tests.{lt-ltb, le-ltb}
use Rattle.print_text.specs.Page.{Page, page, pushed, pushes}

-- one byte, where there is room and where there is none
pub pushed_room : (out : List ℕ) (at v : ℕ) → at < length out → page (set out at v) (at + 1) ≡ pushed v (page out at)
unfolding pushed
pushed_room out at v h = rw (lt-ltb at (length out) h)

pub pushed-full : (out : List ℕ) (at v : ℕ) → length out ≤ at → page out at ≡ pushed v (page out at)
unfolding pushed
pushed-full out at v h = rw (le-ltb at (length out) h)

-- one text after another
pub pushes-append : (xs ys : List ℕ) (p : Page) → pushes (xs ++ ys) p ≡ pushes ys (pushes xs p)
unfolding pushes
pushes-append [] ys p = refl
pushes-append (x ∷ xs) ys p = pushes-append xs ys (pushed x p)

pub after : {q r : Page} (p : Page) (xs ys : List ℕ) → q ≡ pushes xs p → r ≡ pushes ys q → r ≡ pushes (xs ++ ys) p
after p xs ys e d = rw (pushes-append xs ys p, ← e) d

-- a byte is a text of one byte
pub one : (p q : Page) (v : ℕ) → q ≡ pushed v p → q ≡ pushes (v ∷ []) p
unfolding pushes
one p q v e = e

-- no byte
pub none : (p : Page) → p ≡ pushes [] p
unfolding pushes
none p = refl

-- the loop over the bytes of a text
pub text-again : {q r : Page} (p : Page) (s : List ℕ) (i : ℕ) → i < length s → q ≡ pushes (take i s) p →
    r ≡ pushed (get_or s i 0) q → r ≡ pushes (take (i + 1) s) p
text-again {q} {r} p s i h e d = rw (add-one, take-suc s i 0) (after p (take i s) (get_or s i 0 ∷ []) e (one q r _ d))

pub text-end : {q : Page} (p : Page) (s : List ℕ) (i : ℕ) → i ≤ length s → length s ≤ i → q ≡ pushes (take i s) p →
    q ≡ pushes s p
text-end p s i h l e = rw take_all at e
