-- Forms without coefficients: a constant that is set, that others are added to, and that is moved.
use Prim.Native.Nat.{ℕ, ◌+◌, ◌-◌, ◌*◌, ◌≤◌, ◌<◌, min}
use native.Mathlib.Omega.{arith}
use mathlib.Core.List.{List}
use mathlib.Core.Path.{◌≡◌, refl, sym, ap, ◌∙◌}
use lib.ListN.{length, get_or, set, length-set}
use lib.Seq.{get_or-set_same, get_or-set_other, set-set}
use borrow.Author.Tests.{le-ltb}
use Rattle.language.specs.Choice.{pick}
use Rattle.sheet_rows.specs.Row.{cell, word}
use Rattle.sheet_written.specs.Held.{held}
use Rattle.weight_theory.specs.Stack.{form_words, spot, form_word, cleared, copied, summed, constant_form, lower_form}
use Rattle.weight_theory.specs.Stack.{widened, added_form}
use Rattle.weight_theory.specs.Shows.{most_parameters}

-- a form that is wide enough stays as it is
widened_same : (t : List ℕ) (to n w : ℕ) → w ≡ form_word t to 0 → n ≤ w → t ≡ widened to n t
unfolding widened
widened_same t to n w e h =
    let l : n ≤ form_word t to 0 = omega (arith, e) in
    sym (ap (λ b. pick b (set (cleared (spot to (2 + form_word t to 0)) (n - form_word t to 0) t) (spot to 0) n) t)
    (le-ltb (form_word t to 0) n l))

held_more : (a z : ℕ) → held (held (held a + z) + 0) ≡ held (a + z)
unfolding held
held_more a z = omega arith

-- the same words
pub constant-held : (row c d : ℕ) (t : List ℕ) → held c ≡ held d → constant_form row c t ≡ constant_form row d t
unfolding constant_form
constant-held row c d t e = ap (λ x. set (set t (spot row 0) 0) (spot row 1) x) e

-- the words of a form that became a constant, and all others
pub constant-long : (row c : ℕ) (t : List ℕ) → length (constant_form row c t) ≡ length t
unfolding constant_form
constant-long row c t = length-set (set t (spot row 0) 0) (spot row 1) (held c) ∙ length-set t (spot row 0) 0

pub constant-width : (row c : ℕ) (t : List ℕ) → spot row 1 < length t → form_word (constant_form row c t) row 0 ≡ 0
unfolding constant_form form_word spot
constant-width row c t h =
    get_or-set_other (set t (spot row 0) 0) (spot row 1) (spot row 0) (held c) 0 (λ e. omega arith)
    ∙ get_or-set_same t (spot row 0) 0 0 (omega arith)

pub constant-word : (row c : ℕ) (t : List ℕ) → spot row 1 < length t → form_word (constant_form row c t) row 1 ≡ held c
unfolding constant_form form_word
constant-word row c t h =
    let l : length (set t (spot row 0) 0) ≡ length t = length-set t (spot row 0) 0 in
    get_or-set_same (set t (spot row 0) 0) (spot row 1) (held c) 0 (omega arith)

pub constant-other : (row c i : ℕ) (t : List ℕ) → i < spot row 0 → get_or (constant_form row c t) i 0 ≡ get_or t i 0
unfolding constant_form spot
constant-other row c i t h =
    get_or-set_other (set t (spot row 0) 0) (spot row 1) i (held c) 0 (λ e. omega arith)
    ∙ get_or-set_other t (spot row 0) i 0 0 (λ e. omega arith)

pub constant-below : (row c other i : ℕ) (t : List ℕ) → other < row → i < form_words →
    form_word (constant_form row c t) other i ≡ form_word t other i
unfolding form_word spot
constant-below row c other i t h g = constant-other row c (spot other i) t (omega arith)

pub constant-row : (row c p i : ℕ) (t : List ℕ) → p < 4096 → i < 9 → word (constant_form row c t) p i ≡ word t p i
unfolding word cell spot
constant-row row c p i t h g = constant-other row c (cell p i) t (omega arith)

-- its constant set once more
constant-again : (row c d : ℕ) (t : List ℕ) → set (constant_form row c t) (spot row 1) (held d) ≡ constant_form row d t
unfolding constant_form
constant-again row c d t = set-set (set t (spot row 0) 0) (spot row 1) (held c) (held d)

-- a form without coefficients below is added
summed-one : (row from c : ℕ) (u : List ℕ) →
    summed row from c 1 u ≡ set u (spot row 1) (held (form_word u row 1 + c * form_word u from 1))
unfolding summed
summed-one row from c u = refl

added_none : (row from c e : ℕ) (u : List ℕ) → form_word u from 0 ≡ 0 →
    added_form row from c e u
    ≡ set (summed row from c 1 u) (spot row 1) (held (form_word (summed row from c 1 u) row 1 + e))
unfolding added_form
added_none row from c e u w =
    let same : u ≡ widened row 0 u = widened_same u row 0 (form_word u row 0) refl (omega arith) in
    ap (λ n. set (summed row from c (1 + n) (widened row n u)) (spot row 1)
    (held (form_word (summed row from c (1 + n) (widened row n u)) row 1 + e))) w
    ∙ ap (λ v. set (summed row from c 1 v) (spot row 1) (held (form_word (summed row from c 1 v) row 1 + e)))
    (sym same)

word_set : (row v : ℕ) (u : List ℕ) → spot row 1 < length u → form_word (set u (spot row 1) v) row 1 ≡ v
unfolding form_word
word_set row v u h = get_or-set_same u (spot row 1) v 0 h

pub added-bare : (row from a c : ℕ) (t : List ℕ) → from < row → spot row 1 < length t → form_word t from 0 ≡ 0 →
    added_form row from c 0 (constant_form row a t) ≡ constant_form row (a + c * form_word t from 1) t
added-bare row from a c t l h w =
    let u : List ℕ = constant_form row a t in
    let y : ℕ = form_word t from 1 in
    let x : ℕ = held (held a + c * y) in
    let long : length u ≡ length t = constant-long row a t in
    let s : summed row from c 1 u ≡ set u (spot row 1) x =
    summed-one row from c u
    ∙ rw (constant-word row a t h, constant-below row a from 1 t l (omega arith)) refl in
    added_none row from c 0 u (constant-below row a from 0 t l (omega arith) ∙ w)
    ∙ ap (λ v. set v (spot row 1) (held (form_word v row 1 + 0))) s
    ∙ ap (λ z. set (set u (spot row 1) x) (spot row 1) (held (z + 0))) (word_set row x u (omega arith))
    ∙ set-set u (spot row 1) x (held (x + 0))
    ∙ ap (λ z. set u (spot row 1) z) (held_more a (c * y))
    ∙ constant-again row a (a + c * y) t

-- it is moved to a form below
constant-set : (row c : ℕ) (t : List ℕ) → set (set t (spot row 0) 0) (spot row 1) (held c) ≡ constant_form row c t
unfolding constant_form
constant-set row c t = refl

copied-one : (to from : ℕ) (u : List ℕ) → copied to from 1 u ≡ set u (spot to 1) (form_word u from 1)
unfolding copied
copied-one to from u = refl

width-set : (to row : ℕ) (u : List ℕ) → to < row → form_word (set u (spot to 0) 0) row 1 ≡ form_word u row 1
unfolding form_word spot
width-set to row u h = get_or-set_other u (spot to 0) (spot row 1) 0 0 (λ e. omega arith)

pub moved-bare : (to row c : ℕ) (t : List ℕ) → to < row → spot row 1 < length t →
    lower_form to row most_parameters (constant_form row c t) ≡ constant_form to c (constant_form row c t)
unfolding lower_form
moved-bare to row c t l h =
    let u : List ℕ = constant_form row c t in
    ap (λ n. copied to row (1 + min most_parameters n) (set u (spot to 0) (min most_parameters n)))
    (constant-width row c t h)
    ∙ copied-one to row (set u (spot to 0) 0)
    ∙ ap (λ x. set (set u (spot to 0) 0) (spot to 1) x) (width-set to row u l ∙ constant-word row c t h)
    ∙ constant-set to c u
