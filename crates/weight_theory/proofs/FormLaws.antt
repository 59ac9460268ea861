-- What the steps of the code make of forms on the stack.
use Prim.Native.Nat.{ℕ, ◌+◌, ◌*◌, ◌-◌, ◌≤◌, ◌<◌, min}
use native.Mathlib.Decide.{ℕ_discrete}
use native.Mathlib.Omega.{arith}
use native.Mathlib.Nat.{mul-zero}
use mathlib.Core.List.{List}
use mathlib.Core.Path.{◌≡◌, refl, sym, ap, ap₂, ◌∙◌}
use lib.Dec.{eqb, ltb}
use lib.ListN.{get_or, set, length}
use borrow.Author.Tests.{ltb-true, ltb-false, lt-ltb, le-ltb, eq-eqb, ne_eqb}
use Rattle.language.specs.Choice.{pick}
use Rattle.sheet_written.specs.Form.{Form, only, unit, plus, times, lower}
use Rattle.sheet_written.specs.Held.{held, SameForm}
use Rattle.sheet_written.proofs.Tests.{by-test}
use Rattle.sheet_written.proofs.Holding.{held-sum, held-held, held-times, held-zero}
use Rattle.weight_theory.specs.Stack.{forms_from, form_words, all_words, spot, form_word, coefficient_of, cleared}
use Rattle.weight_theory.specs.Stack.{summed, constant_form, unit_form, lower_form, widened, added_form}
use Rattle.weight_theory.specs.Shows.{Shows, OnlyForm}
use Rattle.weight_theory.proofs.Spots.{Become, become-one, become-cleared, become-copied, become-summed, word-done}
use Rattle.weight_theory.proofs.Spots.{word_below, word-above, word-unread, only_none, only_then, only-become}

-- numbers that are held
held_one : 1 ≡ held 1
unfolding held
held_one = refl

-- a word and c times another
held-summed : (x y c a b c' : ℕ) → x ≡ held a → y ≡ held b → held c ≡ held c' → held (x + c * y) ≡ held (a + c' * b)
held-summed x y c a b c' p q e =
    let s : held x ≡ held a = ap held p ∙ held-held a in
    let t : held y ≡ held b = ap held q ∙ held-held b in
    let u : held (held c * held y) ≡ held (held c' * held b) = ap₂ (λ m n. held (m * n)) e t in
    held-sum x (c * y) a (c' * b) s (held-times c y ∙ u ∙ sym (held-times c' b))

-- where the other is 0
held-alone : (x c a b c' : ℕ) → x ≡ held a → 0 ≡ held b → held c ≡ held c' → x ≡ held (a + c' * b)
held-alone x c a b c' p q e =
    let z : x ≡ x + c * 0 = rw (mul-zero c) (omega arith) in
    p ∙ sym (held-held a) ∙ ap held (sym p ∙ z) ∙ held-summed x 0 c a b c' p q e

-- a word of one of the forms stands in the table
room : (t : List ℕ) (row i : ℕ) → length t ≡ all_words → row < 100 → i ≤ form_words → spot row i ≤ length t
unfolding spot
room t row i h l g = omega arith

inside : (t : List ℕ) (row i : ℕ) → length t ≡ all_words → row < 100 → i < form_words → spot row i < length t
unfolding spot
inside t row i h l g = omega arith

-- the coefficient s is the word 1 + s after the constant
after-constant : (t : List ℕ) (row s : ℕ) → form_word t row (2 + s) ≡ form_word t row (1 + (1 + s))
after-constant t row s = let e : 2 + s ≡ 1 + (1 + s) = omega arith in ap (λ i. form_word t row i) e

-- a coefficient that a form has, and one that it does not have
has : (t : List ℕ) (row s : ℕ) → s < form_word t row 0 → coefficient_of t row s ≡ form_word t row (2 + s)
unfolding coefficient_of
has t row s h = ap (λ x. pick x (form_word t row (2 + s)) 0) (lt-ltb s (form_word t row 0) h)

lacks : (t : List ℕ) (row s : ℕ) → form_word t row 0 ≤ s → coefficient_of t row s ≡ 0
unfolding coefficient_of
lacks t row s h = ap (λ x. pick x (form_word t row (2 + s)) 0) (le-ltb s (form_word t row 0) h)

-- by the width
has_of : (t : List ℕ) (row s w v : ℕ) → form_word t row 0 ≡ w → s < w → form_word t row (2 + s) ≡ v →
    coefficient_of t row s ≡ v
has_of t row s w v e h q = has t row s (omega arith) ∙ q

lacks-of : (t : List ℕ) (row s w : ℕ) → form_word t row 0 ≡ w → w ≤ s → coefficient_of t row s ≡ 0
lacks-of t row s w e h = lacks t row s (omega arith)

-- a form becomes a constant: its second word, after its width
constant-become : (t : List ℕ) (row c : ℕ) → length t ≡ all_words → row < 100 →
    Become (set t (spot row 0) 0) (constant_form row c t) (spot row 1) 1 (λ i. held c)
unfolding constant_form
constant-become t row c h l =
    let u : List ℕ = set t (spot row 0) 0 in
    let A : Become t u (spot row 0) 1 (λ i. 0) = become-one t (spot row 0) 0 (inside t row 0 h l (omega arith)) in
    become-one u (spot row 1) (held c) (inside u row 1 (A.len ∙ h) l (omega arith))

pub constant-formed : (t : List ℕ) (row c n : ℕ) → length t ≡ all_words → row < 100 → held c ≡ held n →
    Shows (constant_form row c t) row (only n)
unfolding only
constant-formed t row c n h l e =
    let u : List ℕ = set t (spot row 0) 0 in
    let v : List ℕ = constant_form row c t in
    let A : Become t u (spot row 0) 1 (λ i. 0) = become-one t (spot row 0) 0 (inside t row 0 h l (omega arith)) in
    let B : Become u v (spot row 1) 1 (λ i. held c) = constant-become t row c h l in
    let w : form_word v row 0 ≡ 0 = word_below u v row 1 1 (λ i. held c) 0 B (omega arith)
    ∙ word-done t u row 0 1 (λ i. 0) 0 A (omega arith) in
    record {
      few = omega arith;
      constant = word-done u v row 1 1 (λ i. held c) 0 B (omega arith) ∙ e;
      coefficients = λ s. lacks-of v row s 0 w (omega arith) ∙ sym held-zero;
    }

pub constant-only : (t : List ℕ) (row c : ℕ) → length t ≡ all_words → row < 100 → OnlyForm t (constant_form row c t) row
constant-only t row c h l =
    let u : List ℕ = set t (spot row 0) 0 in
    only_then t u (constant_form row c t) row
    (only-become t u row 0 1 (λ i. 0) (omega arith) (become-one t (spot row 0) 0 (inside t row 0 h l (omega arith))))
    (only-become u (constant_form row c t) row 1 1 (λ i. held c) (omega arith) (constant-become t row c h l))

-- it becomes a parameter: its width, words that are 0, and the coefficient that is 1
record UnitSteps (t u v t' : List ℕ) (row s : ℕ) : Type 0 where
  width : Become t u (spot row 0) 1 (λ i. 1 + s)
  clear : Become u v (spot row 1) (1 + s) (λ i. 0)
  own : Become v t' (spot row (2 + s)) 1 (λ i. 1)

unit-steps : (t : List ℕ) (row s : ℕ) → length t ≡ all_words → row < 100 → s < 128 →
    UnitSteps t (set t (spot row 0) (1 + s)) (cleared (spot row 1) (1 + s) (set t (spot row 0) (1 + s)))
    (unit_form row s t) row s
unfolding unit_form spot
unit-steps t row s h l g =
    let u : List ℕ = set t (spot row 0) (1 + s) in
    let v : List ℕ = cleared (spot row 1) (1 + s) u in
    let A : Become t u (spot row 0) 1 (λ i. 1 + s) =
    become-one t (spot row 0) (1 + s) (inside t row 0 h l (omega arith)) in
    let p : length u ≡ all_words = A.len ∙ h in
    let B : Become u v (spot row 1) (1 + s) (λ i. 0) = become-cleared (spot row 1) (1 + s) u (omega arith) in
    record {
      width = A;
      clear = B;
      own = become-one v (spot row (2 + s)) 1 (inside v row (2 + s) (B.len ∙ p) l (omega arith));
    }

unit-coefficient : (t u v t' : List ℕ) (row s x : ℕ) → UnitSteps t u v t' row s → form_word t' row 0 ≡ 1 + s →
    Dec (x ≡ s) → coefficient_of t' row x ≡ held (pick (eqb x s) 1 0)
unit-coefficient t u v t' row s x S w (yes p) =
    let q : form_word t' row (2 + s) ≡ 1 =
    ap (λ k. form_word t' row k) (omega arith) ∙ word-done v t' row (2 + s) 1 (λ i. 1) 0 S.own (omega arith) in
    has_of t' row x (1 + s) 1 w (omega arith) (ap (λ k. form_word t' row (2 + k)) p ∙ q) ∙ held_one
    ∙ sym (ap (λ k. held (pick k 1 0)) (eq-eqb x s p))
unit-coefficient t u v t' row s x S w (no p) =
    let z : coefficient_of t' row x ≡ 0 =
    by-test (ltb x s)
    (λ e. let g : x < s = ltb-true x s e in
    has_of t' row x (1 + s) 0 w (omega arith)
    (word_below v t' row (2 + s) 1 (λ i. 1) (2 + x) S.own (omega arith)
    ∙ after-constant v row x ∙ word-done u v row 1 (1 + s) (λ i. 0) (1 + x) S.clear (omega arith)))
    (λ e. let g : s ≤ x = ltb-false x s e in lacks-of t' row x (1 + s) w (omega arith)) in
    z ∙ sym held-zero ∙ sym (ap (λ k. held (pick k 1 0)) (ne_eqb x s p))

pub unit-formed : (t : List ℕ) (row s : ℕ) → length t ≡ all_words → row < 100 → s < 128 →
    Shows (unit_form row s t) row (unit s)
unfolding unit
unit-formed t row s h l g =
    let u : List ℕ = set t (spot row 0) (1 + s) in
    let v : List ℕ = cleared (spot row 1) (1 + s) u in
    let t' : List ℕ = unit_form row s t in
    let S : UnitSteps t u v t' row s = unit-steps t row s h l g in
    let w : form_word t' row 0 ≡ 1 + s = word_below v t' row (2 + s) 1 (λ i. 1) 0 S.own (omega arith)
    ∙ word_below u v row 1 (1 + s) (λ i. 0) 0 S.clear (omega arith)
    ∙ word-done t u row 0 1 (λ i. 1 + s) 0 S.width (omega arith) in
    record {
      few = omega arith;
      constant = word_below v t' row (2 + s) 1 (λ i. 1) 1 S.own (omega arith)
          ∙ word-done u v row 1 (1 + s) (λ i. 0) 0 S.clear (omega arith) ∙ sym held-zero;
      coefficients = λ x. unit-coefficient t u v t' row s x S w (ℕ_discrete x s);
    }

pub unit-only : (t : List ℕ) (row s : ℕ) → length t ≡ all_words → row < 100 → s < 128 →
    OnlyForm t (unit_form row s t) row
unit-only t row s h l g =
    let u : List ℕ = set t (spot row 0) (1 + s) in
    let v : List ℕ = cleared (spot row 1) (1 + s) u in
    let t' : List ℕ = unit_form row s t in
    let S : UnitSteps t u v t' row s = unit-steps t row s h l g in
    only_then t u t' row (only-become t u row 0 1 (λ i. 1 + s) (omega arith) S.width)
    (only_then u v t' row (only-become u v row 1 (1 + s) (λ i. 0) (omega arith) S.clear)
    (only-become v t' row (2 + s) 1 (λ i. 1) (omega arith) S.own))

-- it becomes another without its coefficients from k on: its width, and the words that are copied
record LowerSteps (t u t' : List ℕ) (to from n : ℕ) : Type 0 where
  width : Become t u (spot to 0) 1 (λ i. n)
  copy : Become u t' (spot to 1) (1 + n) (λ i. form_word u from (1 + i))

lower-steps : (t : List ℕ) (to from k n : ℕ) → length t ≡ all_words → to < 100 → n ≡ min k (form_word t from 0) →
    n ≤ 128 → LowerSteps t (set t (spot to 0) n) (lower_form to from k t) to from n
unfolding lower_form
lower-steps t to from k n h l e g =
    let u : List ℕ = set t (spot to 0) n in
    let A : Become t u (spot to 0) 1 (λ i. n) = become-one t (spot to 0) n (inside t to 0 h l (omega arith)) in
    rw (sym e) (record {
      width = A;
      copy = become-copied to from (1 + n) u (omega arith) (room u to (1 + (1 + n)) (A.len ∙ h) l (omega arith));
    })

lower_word : (t u t' : List ℕ) (to from n i : ℕ) → LowerSteps t u t' to from n → n ≤ 128 → i ≤ n →
    form_word t' to (1 + i) ≡ form_word t from (1 + i)
lower_word t u t' to from n i S h l =
    word-done u t' to 1 (1 + n) (λ j. form_word u from (1 + j)) i S.copy (omega arith)
    ∙ word-unread t u to from 0 1 (λ j. n) (1 + i) S.width (omega arith) (omega arith)

lower-coefficient : (t u t' : List ℕ) (to from k n s : ℕ) (f : Form) → n ≡ min k (form_word t from 0) → n ≤ 128 →
    Shows t from f → LowerSteps t u t' to from n → form_word t' to 0 ≡ n →
    coefficient_of t' to s ≡ held (pick (ltb s k) (f.of s) 0)
lower-coefficient t u t' to from k n s f e h F S w =
    by-test (ltb s k)
    (λ p. let a : s < k = ltb-true s k p in
    let z : coefficient_of t' to s ≡ coefficient_of t from s =
    by-test (ltb s n)
    (λ q. let b : s < n = ltb-true s n q in
    has_of t' to s n (form_word t from (1 + (1 + s))) w b
    (after-constant t' to s ∙ lower_word t u t' to from n (1 + s) S h (omega arith))
    ∙ sym (after-constant t from s) ∙ sym (has t from s (omega arith)))
    (λ q. let b : n ≤ s = ltb-false s n q in
    lacks-of t' to s n w b ∙ sym (lacks t from s (omega arith))) in
    z ∙ F.coefficients s ∙ sym (ap (λ x. held (pick x (f.of s) 0)) p))
    (λ p. let a : k ≤ s = ltb-false s k p in
    lacks-of t' to s n w (omega arith) ∙ sym held-zero ∙ sym (ap (λ x. held (pick x (f.of s) 0)) p))

pub lower-formed : (t : List ℕ) (to from k : ℕ) (f : Form) → length t ≡ all_words → to < 100 → from < 100 →
    (to ≡ from → ⊥) → Shows t from f → Shows (lower_form to from k t) to (lower k f)
unfolding lower
lower-formed t to from k f h l l' d F =
    let n : ℕ = min k (form_word t from 0) in
    let u : List ℕ = set t (spot to 0) n in
    let t' : List ℕ = lower_form to from k t in
    let m : form_word t from 0 ≤ 128 = F.few in
    let g : n ≤ 128 = omega arith in
    let S : LowerSteps t u t' to from n = lower-steps t to from k n h l refl g in
    let w : form_word t' to 0 ≡ n =
    word_below u t' to 1 (1 + n) (λ i. form_word u from (1 + i)) 0 S.copy (omega arith)
    ∙ word-done t u to 0 1 (λ i. n) 0 S.width (omega arith) in
    record {
      few = omega arith;
      constant = lower_word t u t' to from n 0 S g (omega arith) ∙ F.constant;
      coefficients = λ s. lower-coefficient t u t' to from k n s f refl g F S w;
    }

pub lower_only : (t : List ℕ) (to from k : ℕ) (f : Form) → length t ≡ all_words → to < 100 → from < 100 →
    (to ≡ from → ⊥) → Shows t from f → OnlyForm t (lower_form to from k t) to
lower_only t to from k f h l l' d F =
    let n : ℕ = min k (form_word t from 0) in
    let u : List ℕ = set t (spot to 0) n in
    let t' : List ℕ = lower_form to from k t in
    let m : form_word t from 0 ≤ 128 = F.few in
    let S : LowerSteps t u t' to from n = lower-steps t to from k n h l refl (omega arith) in
    only_then t u t' to (only-become t u to 0 1 (λ i. n) (omega arith) S.width)
    (only-become u t' to 1 (1 + n) (λ i. form_word u from (1 + i)) (omega arith) S.copy)

-- a form on the stack has no more than 128 coefficients
pub lower-all : (t t' : List ℕ) (from to : ℕ) (f : Form) → Shows t from f → Shows t' to (lower 128 f) → Shows t' to f
unfolding lower
lower-all t t' from to f F G = record {
  few = G.few;
  constant = G.constant;
  coefficients = λ s. G.coefficients s ∙
      by-test (ltb s 128)
      (λ e. ap (λ x. held (pick x (f.of s) 0)) e)
      (λ e. let b : 128 ≤ s = ltb-false s 128 e in
      let m : form_word t from 0 ≤ 128 = F.few in
      ap (λ x. held (pick x (f.of s) 0)) e ∙ held-zero ∙ sym (lacks t from s (omega arith)) ∙ F.coefficients s);
}

-- another way to write a form
pub shows_same : (t : List ℕ) (row : ℕ) (f g : Form) → SameForm f g → Shows t row f → Shows t row g
shows_same t row f g e S = record {
  few = S.few;
  constant = S.constant ∙ ap held e.constants;
  coefficients = λ s. S.coefficients s ∙ ap held (e.coefficients s);
}

-- a coefficient by the words of its form
same-coefficient : (t t' : List ℕ) (row s : ℕ) → form_word t' row 0 ≡ form_word t row 0 →
    (s < form_word t row 0 → form_word t' row (2 + s) ≡ form_word t row (2 + s)) →
    coefficient_of t' row s ≡ coefficient_of t row s
same-coefficient t t' row s e h =
    by-test (ltb s (form_word t row 0))
    (λ p. let l : s < form_word t row 0 = ltb-true s (form_word t row 0) p in
    has_of t' row s (form_word t row 0) (form_word t row (2 + s)) e l (h l) ∙ sym (has t row s l))
    (λ p. let l : form_word t row 0 ≤ s = ltb-false s (form_word t row 0) p in
    lacks-of t' row s (form_word t row 0) e l ∙ sym (lacks t row s l))

-- where its words are as they were
pub shows_kept : (t t' : List ℕ) (row : ℕ) (f : Form) →
    ((i : ℕ) → i < form_words → form_word t' row i ≡ form_word t row i) → Shows t row f → Shows t' row f
shows_kept t t' row f k S =
    let m : form_word t row 0 ≤ 128 = S.few in
    let w : form_word t' row 0 ≡ form_word t row 0 = k 0 (omega arith) in
    record {
      few = omega arith;
      constant = k 1 (omega arith) ∙ S.constant;
      coefficients = λ s. same-coefficient t t' row s w (λ l. k (2 + s) (omega arith)) ∙ S.coefficients s;
    }

-- all words before the forms
pub only-low : (t t' : List ℕ) (row : ℕ) → OnlyForm t t' row → (i : ℕ) → i < forms_from → get_or t' i 0 ≡ get_or t i 0
unfolding spot
only-low t t' row O i h = O.before i (omega arith)

-- numbers that differ
apart : (r row : ℕ) → (r ≡ row → ⊥) → row ≤ r → row < r
apart r row d l = go (ℕ_discrete r row)
  where
    go : Dec (r ≡ row) → row < r
    go (yes p) = absurd (d p)
    go (no p) = omega arith

-- the words of another form
pub only-form : (t t' : List ℕ) (row r i : ℕ) → OnlyForm t t' row → (r ≡ row → ⊥) → i < form_words →
    form_word t' r i ≡ form_word t r i
unfolding form_word spot
only-form t t' row r i O d h =
    by-test (ltb r row)
    (λ p. let l : r < row = ltb-true r row p in O.before (spot r i) (omega arith))
    (λ p. let l : row ≤ r = ltb-false r row p in
    let g : row < r = apart r row d l in O.after (spot r i) (omega arith))

-- it gets at least n coefficients, and the new ones are 0
record Widened (t t' : List ℕ) (to n : ℕ) (f : Form) : Type 0 where
  shows : Shows t' to f
  wide : n ≤ form_word t' to 0
  same : OnlyForm t t' to

widen-coefficient : (t u v : List ℕ) (to n s : ℕ) →
    Become t u (spot to (2 + form_word t to 0)) (n - form_word t to 0) (λ i. 0) →
    Become u v (spot to 0) 1 (λ i. n) → form_word v to 0 ≡ n → form_word t to 0 < n →
    coefficient_of v to s ≡ coefficient_of t to s
widen-coefficient t u v to n s A B e b =
    let w : ℕ = form_word t to 0 in
    by-test (ltb s w)
    (λ p. let l : s < w = ltb-true s w p in
    has_of v to s n (form_word t to (2 + s)) e (omega arith)
    (word-above u v to 0 1 (λ i. n) (2 + s) B (omega arith)
    ∙ word_below t u to (2 + w) (n - w) (λ i. 0) (2 + s) A (omega arith))
    ∙ sym (has t to s l))
    (λ p. let l : w ≤ s = ltb-false s w p in
    by-test (ltb s n)
    (λ q. let g : s < n = ltb-true s n q in
    let z : 2 + s ≡ 2 + w + (s - w) = omega arith in
    has_of v to s n 0 e g (word-above u v to 0 1 (λ i. n) (2 + s) B (omega arith)
    ∙ ap (λ i. form_word u to i) z
    ∙ word-done t u to (2 + w) (n - w) (λ i. 0) (s - w) A (omega arith)) ∙ sym (lacks t to s l))
    (λ q. lacks-of v to s n e (ltb-false s n q) ∙ sym (lacks t to s l)))

widen : (t : List ℕ) (to n : ℕ) (f : Form) → length t ≡ all_words → to < 100 → n ≤ 128 → form_word t to 0 < n →
    Shows t to f →
    Widened t (set (cleared (spot to (2 + form_word t to 0)) (n - form_word t to 0) t) (spot to 0) n) to n f
unfolding spot
widen t to n f h l g b F =
    let w : ℕ = form_word t to 0 in
    let m : ℕ = n - w in
    let u : List ℕ = cleared (spot to (2 + w)) m t in
    let v : List ℕ = set u (spot to 0) n in
    let A : Become t u (spot to (2 + w)) m (λ i. 0) = become-cleared (spot to (2 + w)) m t (omega arith) in
    let B : Become u v (spot to 0) 1 (λ i. n) =
    become-one u (spot to 0) n (inside u to 0 (A.len ∙ h) l (omega arith)) in
    let e : form_word v to 0 ≡ n = word-done u v to 0 1 (λ i. n) 0 B (omega arith) in
    record {
      shows = record {
        few = omega arith;
        constant = word-above u v to 0 1 (λ i. n) 1 B (omega arith)
            ∙ word_below t u to (2 + w) m (λ i. 0) 1 A (omega arith) ∙ F.constant;
        coefficients = λ s. widen-coefficient t u v to n s A B e b ∙ F.coefficients s;
      };
      wide = omega arith;
      same = only_then t u v to (only-become t u to (2 + w) m (λ i. 0) (omega arith) A)
          (only-become u v to 0 1 (λ i. n) (omega arith) B);
    }

widened_is : (t : List ℕ) (to n : ℕ) (f : Form) → length t ≡ all_words → to < 100 → n ≤ 128 → Shows t to f →
    Widened t (widened to n t) to n f
unfolding widened
widened_is t to n f h l g F =
    by-test (ltb (form_word t to 0) n)
    (λ p. rw p (widen t to n f h l g (ltb-true (form_word t to 0) n p) F))
    (λ p. rw p (record { shows = F; wide = ltb-false (form_word t to 0) n p; same = only_none t to }))

-- c times another is added
sum-coefficient : (t t' : List ℕ) (to from c c' n s : ℕ) (f g : Form) → n ≡ form_word t from 0 → n ≤ form_word t to 0 →
    Shows t to f → Shows t from g → held c ≡ held c' →
    Become t t' (spot to 1) (1 + n) (λ i. held (form_word t to (1 + i) + c * form_word t from (1 + i))) →
    form_word t' to 0 ≡ form_word t to 0 → coefficient_of t' to s ≡ held (f.of s + c' * g.of s)
sum-coefficient t t' to from c c' n s f g e h F G q B w =
    by-test (ltb s n)
    (λ p. let l : s < n = ltb-true s n p in
    let x : ℕ = form_word t to (1 + (1 + s)) in
    let y : ℕ = form_word t from (1 + (1 + s)) in
    let a : x ≡ held (f.of s) =
    sym (after-constant t to s) ∙ sym (has t to s (omega arith)) ∙ F.coefficients s in
    let b : y ≡ held (g.of s) =
    sym (after-constant t from s) ∙ sym (has t from s (omega arith)) ∙ G.coefficients s in
    has_of t' to s (form_word t to 0) (held (x + c * y)) w (omega arith) (after-constant t' to s
    ∙ word-done t t' to 1 (1 + n) (λ i. held (form_word t to (1 + i) + c * form_word t from (1 + i))) (1 + s) B
    (omega arith))
    ∙ held-summed x y c (f.of s) (g.of s) c' a b q)
    (λ p. let l : n ≤ s = ltb-false s n p in
    same-coefficient t t' to s w (λ k.
    word-above t t' to 1 (1 + n) (λ i. held (form_word t to (1 + i) + c * form_word t from (1 + i))) (2 + s) B
    (omega arith))
    ∙ held-alone (coefficient_of t to s) c (f.of s) (g.of s) c' (F.coefficients s)
    (sym (lacks t from s (omega arith)) ∙ G.coefficients s) q)

summed-is : (t t' : List ℕ) (to from c c' n : ℕ) (f g : Form) → n ≡ form_word t from 0 → n ≤ form_word t to 0 →
    Shows t to f → Shows t from g → held c ≡ held c' →
    Become t t' (spot to 1) (1 + n) (λ i. held (form_word t to (1 + i) + c * form_word t from (1 + i))) →
    Shows t' to (plus f (times c' g))
unfolding plus times
summed-is t t' to from c c' n f g e h F G q B =
    let m : ℕ → ℕ = λ i. held (form_word t to (1 + i) + c * form_word t from (1 + i)) in
    let w : form_word t' to 0 ≡ form_word t to 0 = word_below t t' to 1 (1 + n) m 0 B (omega arith) in
    let x : form_word t to 0 ≤ 128 = F.few in
    record {
      few = omega arith;
      constant = word-done t t' to 1 (1 + n) m 0 B (omega arith)
          ∙ held-summed (form_word t to 1) (form_word t from 1) c f.constant g.constant c' F.constant
          G.constant q;
      coefficients = λ s. sum-coefficient t t' to from c c' n s f g e h F G q B w;
    }

-- and a constant
constant-more : (t t' : List ℕ) (to e e' : ℕ) (f : Form) → Shows t to f → held e ≡ held e' →
    Become t t' (spot to 1) 1 (λ i. held (form_word t to 1 + e)) → Shows t' to (plus f (only e'))
unfolding plus only
constant-more t t' to e e' f F q B =
    let m : ℕ → ℕ = λ i. held (form_word t to 1 + e) in
    let w : form_word t' to 0 ≡ form_word t to 0 = word_below t t' to 1 1 m 0 B (omega arith) in
    let x : form_word t to 0 ≤ 128 = F.few in
    record {
      few = omega arith;
      constant = word-done t t' to 1 1 m 0 B (omega arith)
          ∙ held-sum (form_word t to 1) e f.constant e' (ap held F.constant ∙ held-held f.constant) q;
      coefficients = λ s. same-coefficient t t' to s w (λ k. word-above t t' to 1 1 m (2 + s) B (omega arith))
          ∙ F.coefficients s ∙ (let z : f.of s ≡ f.of s + 0 = omega arith in ap held z);
    }

record Added (t t' : List ℕ) (to : ℕ) (f : Form) : Type 0 where
  shows : Shows t' to f
  same : OnlyForm t t' to

added_is : (t : List ℕ) (to from c e c' e' : ℕ) (f g : Form) → length t ≡ all_words → to < 100 →
    (to ≡ from → ⊥) → Shows t to f → Shows t from g → held c ≡ held c' → held e ≡ held e' →
    Added t (added_form to from c e t) to (plus (plus f (times c' g)) (only e'))
unfolding added_form
added_is t to from c e c' e' f g h l d F G q r =
    let n : ℕ = form_word t from 0 in
    let v : List ℕ = widened to n t in
    let u : List ℕ = summed to from c (1 + n) v in
    let t' : List ℕ = set u (spot to 1) (held (form_word u to 1 + e)) in
    let b : n ≤ 128 = G.few in
    let W : Widened t v to n f = widened_is t to n f h l b F in
    let k : (i : ℕ) → i < form_words → form_word v from i ≡ form_word t from i =
    λ i g. only-form t v to from i W.same (λ z. d (sym z)) g in
    let p : length v ≡ all_words = W.same.long ∙ h in
    let m : ℕ → ℕ = λ i. held (form_word v to (1 + i) + c * form_word v from (1 + i)) in
    let B : Become v u (spot to 1) (1 + n) m =
    become-summed to from c (1 + n) v (omega arith) (room v to (1 + (1 + n)) p l (omega arith)) in
    let S : Shows u to (plus f (times c' g)) =
    summed-is v u to from c c' n f g (sym (k 0 (omega arith))) W.wide W.shows
    (shows_kept t v from g k G) q B in
    let C : Become u t' (spot to 1) 1 (λ i. held (form_word u to 1 + e)) =
    become-one u (spot to 1) (held (form_word u to 1 + e)) (inside u to 1 (B.len ∙ p) l (omega arith)) in
    record {
      shows = constant-more u t' to e e' (plus f (times c' g)) S r C;
      same = only_then t v t' to W.same
          (only_then v u t' to (only-become v u to 1 (1 + n) m (omega arith) B)
          (only-become u t' to 1 1 (λ i. held (form_word u to 1 + e)) (omega arith) C));
    }

pub added-formed : (t : List ℕ) (to from c e c' e' : ℕ) (f g : Form) → length t ≡ all_words → to < 100 →
    from < 100 → (to ≡ from → ⊥) → Shows t to f → Shows t from g → held c ≡ held c' → held e ≡ held e' →
    Shows (added_form to from c e t) to (plus (plus f (times c' g)) (only e'))
added-formed t to from c e c' e' f g h l l' d F G q r = (added_is t to from c e c' e' f g h l d F G q r).shows

pub added-only : (t : List ℕ) (to from c e c' e' : ℕ) (f g : Form) → length t ≡ all_words → to < 100 →
    from < 100 → (to ≡ from → ⊥) → Shows t to f → Shows t from g → held c ≡ held c' → held e ≡ held e' →
    OnlyForm t (added_form to from c e t) to
added-only t to from c e c' e' f g h l l' d F G q r = (added_is t to from c e c' e' f g h l d F G q r).same
