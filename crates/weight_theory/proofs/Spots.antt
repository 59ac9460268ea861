-- Words that become others: what clearing, copying and adding up leave, word by word.
use Prim.Native.Nat.{ℕ, zero, suc, ◌+◌, ◌*◌, ◌≤◌, ◌<◌}
use native.Mathlib.Decide.{ℕ_discrete}
use native.Mathlib.Omega.{arith}
use mathlib.Core.List.{List}
use mathlib.Core.Path.{◌≡◌, refl, sym, ap, ap₂, ◌∙◌}
use lib.Dec.{ltb}
use lib.ListN.{get_or, set, length, length-set}
use lib.Seq.{get_or-set_same, get_or-set_other}
use borrow.Author.Tests.{ltb-true, ltb-false}
use Rattle.sheet_written.specs.Held.{held}
use Rattle.sheet_written.proofs.Tests.{by-test}
use Rattle.weight_theory.specs.Stack.{form_words, spot, form_word, cleared, copied, summed}
use Rattle.weight_theory.specs.Shows.{OnlyForm}

-- the n words from b on are those of w, and all others are as they were
pub record Become (t t' : List ℕ) (b n : ℕ) (w : ℕ → ℕ) : Type 0 where
  pub len : length t' ≡ length t
  pub done : (i : ℕ) → i < n → get_or t' (b + i) 0 ≡ w i
  pub below : (j : ℕ) → j < b → get_or t' j 0 ≡ get_or t j 0
  pub above : (j : ℕ) → b + n ≤ j → get_or t' j 0 ≡ get_or t j 0

become-none : (t : List ℕ) (b : ℕ) (w : ℕ → ℕ) → Become t t b 0 w
become-none t b w = record {
  len = refl;
  done = λ i h. absurd (omega arith);
  below = λ j h. refl;
  above = λ j h. refl;
}

-- a word more
done_more : (t : List ℕ) (b i v : ℕ) (w : ℕ → ℕ) → b + i < length t → ((j : ℕ) → j < i → get_or t (b + j) 0 ≡ w j) →
    v ≡ w i → (j : ℕ) → Dec (j ≡ i) → j < suc i → get_or (set t (b + i) v) (b + j) 0 ≡ w j
done_more t b i v w h d e j (yes p) l =
    ap (λ x. get_or (set t (b + i) v) (b + x) 0) p ∙ get_or-set_same t (b + i) v 0 h ∙ e ∙ ap w (sym p)
done_more t b i v w h d e j (no p) l =
    get_or-set_other t (b + i) (b + j) v 0 (λ r. p (omega arith)) ∙ d j (omega arith)

become-more : (t u : List ℕ) (b i v : ℕ) (w : ℕ → ℕ) → Become t u b i w → v ≡ w i → b + i < length t →
    Become t (set u (b + i) v) b (suc i) w
become-more t u b i v w B e h =
    let q : length u ≡ length t = B.len in
    let l : b + i < length u = omega arith in
    record {
      len = length-set u (b + i) v ∙ B.len;
      done = λ j g. done_more u b i v w l B.done e j (ℕ_discrete j i) g;
      below = λ j g. get_or-set_other u (b + i) j v 0 (λ r. omega arith) ∙ B.below j g;
      above = λ j g. get_or-set_other u (b + i) j v 0 (λ r. omega arith) ∙ B.above j (omega arith);
    }

pub become-one : (t : List ℕ) (b v : ℕ) → b < length t → Become t (set t b v) b 1 (λ i. v)
become-one t b v h = record {
  len = length-set t b v;
  done = λ i l. let e : b + i ≡ b = omega arith in ap (λ x. get_or (set t b v) x 0) e ∙ get_or-set_same t b v 0 h;
  below = λ j l. get_or-set_other t b j v 0 (λ r. omega arith);
  above = λ j l. get_or-set_other t b j v 0 (λ r. omega arith);
}

pub become-cleared : (at n : ℕ) (t : List ℕ) → at + n ≤ length t → Become t (cleared at n t) at n (λ i. 0)
unfolding cleared
become-cleared at zero t h = become-none t at (λ i. 0)
become-cleared at (suc n) t h =
    become-more t (cleared at n t) at n 0 (λ i. 0) (become-cleared at n t (omega arith)) refl (omega arith)

-- a word of a form among others
spot-next : (row a i : ℕ) → spot row (a + i) ≡ spot row a + i
unfolding spot
spot-next row a i = omega arith

spot-less : (row a b : ℕ) → a < b → spot row a < spot row b
unfolding spot
spot-less row a b h = omega arith

-- the words of a form of which some become others
pub word-done : (t t' : List ℕ) (row a n : ℕ) (w : ℕ → ℕ) (i : ℕ) → Become t t' (spot row a) n w → i < n →
    form_word t' row (a + i) ≡ w i
unfolding form_word
word-done t t' row a n w i B h = ap (λ x. get_or t' x 0) (spot-next row a i) ∙ B.done i h

pub word_below : (t t' : List ℕ) (row a n : ℕ) (w : ℕ → ℕ) (i : ℕ) → Become t t' (spot row a) n w → i < a →
    form_word t' row i ≡ form_word t row i
unfolding form_word
word_below t t' row a n w i B h = B.below (spot row i) (spot-less row i a h)

pub word-above : (t t' : List ℕ) (row a n : ℕ) (w : ℕ → ℕ) (i : ℕ) → Become t t' (spot row a) n w → a + n ≤ i →
    form_word t' row i ≡ form_word t row i
unfolding form_word spot
word-above t t' row a n w i B h = B.above (spot row i) (omega arith)

-- where words of a form before word i are written, word i of each form is as it was
pub word-unread : (t t' : List ℕ) (to from a n : ℕ) (w : ℕ → ℕ) (i : ℕ) → Become t t' (spot to a) n w → a + n ≤ i →
    i < form_words → form_word t' from i ≡ form_word t from i
unfolding form_word spot
word-unread t t' to from a n w i B h l =
    by-test (ltb from to)
    (λ e. let g : from < to = ltb-true from to e in B.below (spot from i) (omega arith))
    (λ e. let g : to ≤ from = ltb-false from to e in B.above (spot from i) (omega arith))

-- n words of a form, from the constant on
pub become-copied : (to from n : ℕ) (t : List ℕ) → n < form_words → spot to (1 + n) ≤ length t →
    Become t (copied to from n t) (spot to 1) n (λ i. form_word t from (1 + i))
unfolding copied
become-copied to from zero t l h = become-none t (spot to 1) (λ i. form_word t from (1 + i))
become-copied to from (suc n) t l h =
    let u : List ℕ = copied to from n t in
    let w : ℕ → ℕ = λ i. form_word t from (1 + i) in
    let s : spot to (1 + n) < spot to (1 + suc n) = spot-less to (1 + n) (1 + suc n) (omega arith) in
    let g : spot to (1 + n) ≤ length t = omega arith in
    let B : Become t u (spot to 1) n w = become-copied to from n t (omega arith) g in
    let e : spot to (1 + n) ≡ spot to 1 + n = spot-next to 1 n in
    let v : ℕ = form_word u from (1 + n) in
    let q : v ≡ w n = word-unread t u to from 1 n w (1 + n) B (omega arith) (omega arith) in
    rw e (become-more t u (spot to 1) n v w B q (omega arith))

pub become-summed : (to from c n : ℕ) (t : List ℕ) → n < form_words → spot to (1 + n) ≤ length t →
    Become t (summed to from c n t) (spot to 1) n (λ i. held (form_word t to (1 + i) + c * form_word t from (1 + i)))
unfolding summed
become-summed to from c zero t l h =
    become-none t (spot to 1) (λ i. held (form_word t to (1 + i) + c * form_word t from (1 + i)))
become-summed to from c (suc n) t l h =
    let u : List ℕ = summed to from c n t in
    let w : ℕ → ℕ = λ i. held (form_word t to (1 + i) + c * form_word t from (1 + i)) in
    let s : spot to (1 + n) < spot to (1 + suc n) = spot-less to (1 + n) (1 + suc n) (omega arith) in
    let g : spot to (1 + n) ≤ length t = omega arith in
    let B : Become t u (spot to 1) n w = become-summed to from c n t (omega arith) g in
    let e : spot to (1 + n) ≡ spot to 1 + n = spot-next to 1 n in
    let v : ℕ = held (form_word u to (1 + n) + c * form_word u from (1 + n)) in
    let q : v ≡ w n = ap₂ (λ x y. held (x + c * y))
    (word-unread t u to to 1 n w (1 + n) B (omega arith) (omega arith))
    (word-unread t u to from 1 n w (1 + n) B (omega arith) (omega arith)) in
    rw e (become-more t u (spot to 1) n v w B q (omega arith))

-- only words of one form
pub only_none : (t : List ℕ) (row : ℕ) → OnlyForm t t row
only_none t row = record { long = refl; before = λ i h. refl; after = λ i h. refl }

pub only_then : (t u v : List ℕ) (row : ℕ) → OnlyForm t u row → OnlyForm u v row → OnlyForm t v row
only_then t u v row A B = record {
  long = B.long ∙ A.long;
  before = λ i h. B.before i h ∙ A.before i h;
  after = λ i h. B.after i h ∙ A.after i h;
}

pub only-become : (t t' : List ℕ) (row a n : ℕ) (w : ℕ → ℕ) → a + n ≤ form_words → Become t t' (spot row a) n w →
    OnlyForm t t' row
unfolding spot
only-become t t' row a n w h B = record {
  long = B.len;
  before = λ i l. B.below i (omega arith);
  after = λ i l. B.above i (omega arith);
}
