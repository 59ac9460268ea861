-- The lowest id that is not taken, how many are left, and facts on one id more (specs/Renumber, specs/Hiding).
use Prim.Native.Nat.{ℕ, zero, suc, ◌+◌, ◌≤◌, ◌<◌}
use native.Mathlib.Omega.{arith}
use mathlib.Core.Path.{◌≡◌, refl, sym, ap, ◌∙◌}
use mathlib.Core.Bool.{Bool, true, false, ◌||◌}
use mathlib.Core.List.{List, [], ◌∷◌}
use lib.Dec.{eqb}
use borrow.Author.Tests.{eqb-true, eqb-false, eq-eqb, ne_eqb}
use Rattle.sheet_written.specs.Written.{Name, declare, retire}
use Rattle.sheet_written.specs.Meaning.{Binder, id_of, free, declared}
use Rattle.sheet_written.specs.Hiding.{is_held}
use Rattle.sheet_written.specs.Renumber.{put, lowest_from, lowest, left, is_named}
use Rattle.sheet_written.proofs.Tests.{by-test}

pub true-false : {P : Type 0} (t : Bool) → t ≡ true → t ≡ false → P
true-false t e g = let z : ◌≡◌ {A = ℕ} 0 1 = cc in absurd (omega arith)

pub not-true : (t : Bool) → (t ≡ true → ⊥) → t ≡ false
not-true true h = absurd (h refl)
not-true false h = refl

pub or_left : (a b : Bool) → a ≡ true → (a || b) ≡ true
or_left a b e = rw e refl

pub or_right : (a b : Bool) → b ≡ true → (a || b) ≡ true
or_right true b e = refl
or_right false b e = e

pub or_cases : {P : Type 0} (a b : Bool) → (a || b) ≡ true → (a ≡ true → P) → (b ≡ true → P) → P
or_cases true b e f g = f refl
or_cases false b e f g = g e

-- a thing put at an id, and the others
pub put-here : {X : Type 0} (a : ℕ) (x : X) (f : ℕ → X) → put a x f a ≡ x
unfolding put
put-here a x f = rw (eq-eqb a a refl) refl

pub put-past : {X : Type 0} (a : ℕ) (x : X) (f : ℕ → X) (j : ℕ) → (j ≡ a → ⊥) → put a x f j ≡ f j
unfolding put
put-past a x f j n = rw (ne_eqb j a n) refl

-- an id marked, and what was marked before
pub put-true : (a : ℕ) (f : ℕ → Bool) (j : ℕ) → f j ≡ true → put a true f j ≡ true
unfolding put
put-true a f j e = by-test (eqb j a) (λ t. rw t refl) (λ t. rw t e)

-- what holds of a and of the others holds of all
pub by-id : {P : Type 0} (j a : ℕ) → (j ≡ a → P) → ((j ≡ a → ⊥) → P) → P
by-id j a f g = by-test (eqb j a) (λ t. f (eqb-true j a t)) (λ t. g (eqb-false j a t))

-- one binder more
pub held-here : (b : Binder) (bs : List Binder) (j : ℕ) → id_of b ≡ j → is_held (b ∷ bs) j ≡ true
unfolding is_held
held-here b bs j e = or_left (eqb (id_of b) j) (is_held bs j) (eq-eqb (id_of b) j e)

pub held-past : (b : Binder) (bs : List Binder) (j : ℕ) → is_held bs j ≡ true → is_held (b ∷ bs) j ≡ true
unfolding is_held
held-past b bs j e = or_right (eqb (id_of b) j) (is_held bs j) e

pub held-cases : {P : Type 0} (b : Binder) (bs : List Binder) (j : ℕ) → is_held (b ∷ bs) j ≡ true → (id_of b ≡ j → P) →
    (is_held bs j ≡ true → P) → P
unfolding is_held
held-cases b bs j e f g = or_cases (eqb (id_of b) j) (is_held bs j) e (λ t. f (eqb-true (id_of b) j t)) g

-- the lowest id is not taken, and those below it are
lowest-from-free : (taken : ℕ → Bool) (n id : ℕ) → lowest_from taken id n < id + n →
    taken (lowest_from taken id n) ≡ false
unfolding lowest_from
lowest-from-free taken zero id h = absurd (omega arith)
lowest-from-free taken (suc n) id h =
    by-test (taken id)
    (λ t. let h' : lowest_from taken (suc id) n < id + suc n = rw t at h in
    rw t (lowest-from-free taken n (suc id) (omega (arith, h'))))
    (λ t. rw t t)

pub lowest_free : (taken : ℕ → Bool) → lowest taken < 255 → taken (lowest taken) ≡ false
unfolding lowest
lowest_free taken h = lowest-from-free taken 255 _ (omega (arith, h))

lowest-from-least : (taken : ℕ → Bool) (n id j : ℕ) → id ≤ j → j < lowest_from taken id n → taken j ≡ true
unfolding lowest_from
lowest-from-least taken zero id j h g = absurd (omega (arith, h, g))
lowest-from-least taken (suc n) id j h g =
    by-test (taken id)
    (λ t. let g' : j < lowest_from taken (suc id) n = rw t at g in
    by-id j id (λ e. rw e t) (λ n'. lowest-from-least taken n (suc id) j (omega (arith, h, n')) g'))
    (λ t. let g' : j < id = rw t at g in absurd (omega (arith, h, g')))

lowest-least : (taken : ℕ → Bool) (j : ℕ) → j < lowest taken → taken j ≡ true
unfolding lowest
lowest-least taken j h = lowest-from-least taken 255 0 j (omega arith) h

-- how many are left
left-most : (taken : ℕ → Bool) (n : ℕ) → left taken n ≤ n
unfolding left
left-most taken zero = omega arith
left-most taken (suc n) =
    let i : left taken n ≤ n = left-most taken n in
    by-test (taken n) (λ t. rw t (omega (arith, i))) (λ t. rw t (omega (arith, i)))

pub left-some : (taken : ℕ → Bool) (n j : ℕ) → j < n → taken j ≡ true → left taken n < n
unfolding left
left-some taken zero j h e = absurd (omega (arith, h))
left-some taken (suc n) j h e =
    by-id j n
    (λ g. let i : left taken n ≤ n = left-most taken n in
    let e' : taken n ≡ true = ap taken (sym g) ∙ e in
    rw e' (omega (arith, i)))
    (λ g. let i : left taken n < n = left-some taken n j (omega (arith, h, g)) e in
    by-test (taken n) (λ t. rw t (omega (arith, i))) (λ t. rw t (omega (arith, i))))

left-none : (taken : ℕ → Bool) (n : ℕ) → ((j : ℕ) → j < n → taken j ≡ true) → left taken n ≡ 0
unfolding left
left-none taken zero h = refl
left-none taken (suc n) h =
    rw (h n (omega arith), left-none taken n (λ j g. h j (omega (arith, g)))) refl

pub none-lowest : (taken : ℕ → Bool) → 255 ≤ lowest taken → left taken 255 ≡ 0
none-lowest taken h = left-none taken 255 (λ j g. lowest-least taken j (omega (arith, h, g)))

left-beyond : (taken : ℕ → Bool) (n b : ℕ) → n ≤ b → left (put b true taken) n ≡ left taken n
unfolding left
left-beyond taken zero b h = refl
left-beyond taken (suc n) b h =
    rw (put-past b true taken n (λ e. omega (arith, h, e)), left-beyond taken n b (omega (arith, h))) refl

-- one id fewer is left after it was given
pub left-put : (taken : ℕ → Bool) (n b : ℕ) → b < n → taken b ≡ false → 1 + left (put b true taken) n ≡ left taken n
unfolding left
left-put taken zero b h e = absurd (omega (arith, h))
left-put taken (suc n) b h e =
    by-id n b
    (λ g. let e' : taken n ≡ false = ap taken g ∙ e in
    let p : put b true taken n ≡ true = ap (put b true taken) g ∙ put-here b true taken in
    rw (p, e', left-beyond taken n b (omega (arith, g))) (omega arith))
    (λ g. let i : 1 + left (put b true taken) n ≡ left taken n = left-put taken n b (omega (arith, h, g)) e in
    rw (put-past b true taken n g) (omega (arith, i)))

-- an id that is neither declared nor retired means nothing
pub unnamed-free : (ns : List Name) (j : ℕ) → is_named ns j ≡ false → declared ns j ≡ free
unfolding is_named declared
unnamed-free [] j e = refl
unnamed-free (declare often k ty tys ∷ ns) j e =
    by-test (eqb k j)
    (λ t. true-false (eqb k j || is_named ns j) (or_left (eqb k j) (is_named ns j) t) e)
    (λ t. let e' : is_named ns j ≡ false = rw t at e in rw t (unnamed-free ns j e'))
unnamed-free (retire k ∷ ns) j e =
    by-test (eqb k j)
    (λ t. true-false (eqb k j || is_named ns j) (or_left (eqb k j) (is_named ns j) t) e)
    (λ t. let e' : is_named ns j ≡ false = rw t at e in rw t (unnamed-free ns j e'))
