-- Rows that stay, and the words of the row that is written. Over plain variables.
use Prim.Native.Nat.{ℕ, zero, suc, ◌+◌, ◌*◌, ◌%◌, ◌/◌, ◌≤◌, ◌<◌, min}
use native.Mathlib.Omega.{arith}
use native.Mathlib.Nat.{add-mul-mod_self_left, mod-eq_of_lt, add-mul-div_left, div-eq_of_lt, mod-lt}
use mathlib.Core.Path.{◌≡◌, refl, sym, ◌∙◌}
use mathlib.Core.Logic.{◌⊎◌, inl, inr}
use mathlib.Core.List.{List, [], ◌∷◌}
use lib.ListN.{length, get_or, set, length-set, get_or-eq_default}
use lib.Seq.{get_or-set_same, get_or-set_other}
use lib.Dec.{ltb}
use borrow.Author.Tests.{ltb-true, ltb-false}
use Rattle.sheet_rows.specs.Row.{cell, word}
use Rattle.sheet_rows.specs.PartKind.{KIND, CLASS, VALUES, WEIGHT}
use Rattle.sheet_written.proofs.Tests.{by-test}
use Rattle.term_closing.specs.Rows.{ROWS, TERM-WORDS}
use Rattle.term_closing.specs.Close.{bit_of, weight_of, detail_of, head_put, parts_put, closed_row}
use Rattle.term_expand.specs.Contract.{Within, Below, Between}

-- a number in two parts
pub lower-part : (y x z : ℕ) → x < y → (x + y * z) % y ≡ x
lower-part y x z h = add-mul-mod_self_left x y z ∙ mod-eq_of_lt h

pub upper-part : (y x z : ℕ) → x < y → (x + y * z) / y ≡ z
upper-part y x z h =
    let e : (x + y * z) / y ≡ x / y + z = add-mul-div_left x z (omega arith) in
    let f : x / y ≡ 0 = div-eq_of_lt h in
    omega (arith, e, f)

-- a bit is 0 or 1
pub bit-cases : (w j : ℕ) → (bit_of w j ≡ 0) ⊎ (bit_of w j ≡ 1)
unfolding bit_of
bit-cases w zero = go (w % 2) (mod-lt w (omega arith))
  where
    go : (b : ℕ) → b < 2 → (b ≡ 0) ⊎ (b ≡ 1)
    go zero h = inl refl
    go (suc zero) h = inr refl
    go (suc (suc b)) h = absurd (omega arith)
bit-cases w (suc j) = bit-cases (w / 2) j

-- rows that stay
pub below-refl : (n : ℕ) (A : List ℕ) → Below n A A
unfolding Below
below-refl n A i h = refl

pub below_again : (n m : ℕ) (A B C : List ℕ) → n ≤ m → Below n A B → Below m B C → Below n A C
unfolding Below
below_again n m A B C l f g i h = g i (omega arith) ∙ f i h

pub between-refl : (n m : ℕ) (A : List ℕ) → Between n m A A
unfolding Between
between-refl n m A i h l = refl

-- a part of the rows that agree
pub between-below : (n m k : ℕ) (A B : List ℕ) → m ≤ k → Below k A B → Between n m A B
unfolding Below Between
between-below n m k A B l f i h g = f i (omega arith)

pub between-again : (n m k l : ℕ) (A B C : List ℕ) → k ≤ n → m ≤ l → Between n m A B → Between k l B C → Between n m A C
unfolding Between
between-again n m k l A B C p q f g i h j = g i (omega arith) (omega arith) ∙ f i h j

pub within_more : (n m a : ℕ) → n ≤ m → Within n a → Within m a
unfolding Within
within_more n m a l f h = omega (arith, f h, l)

pub within-less : (m a : ℕ) → a < m → Within m a
unfolding Within
within-less m a l h = l

pub within_none : (m : ℕ) → Within m ROWS
unfolding Within
within_none m h = absurd (omega arith)

-- what a made row, or none, weighs stays
pub weight-stays : (n a : ℕ) (A B : List ℕ) → Within n a → Below n A B → length A ≡ TERM-WORDS → length B ≡ TERM-WORDS →
    word B a WEIGHT ≡ word A a WEIGHT
unfolding Within Below word cell
weight-stays n a A B f g p q =
    by-test (ltb a ROWS)
    (λ e. g (9 * a + 1) (omega (arith, f (ltb-true a ROWS e))))
    (λ e. get_or-eq_default B 0 (omega (arith, q, ltb-false a ROWS e))
    ∙ sym (get_or-eq_default A 0 (omega (arith, p, ltb-false a ROWS e))))

pub weight-between : (n m a : ℕ) (A B : List ℕ) → n ≤ a → a < m → Between n m A B → word B a WEIGHT ≡ word A a WEIGHT
unfolding Between word cell
weight-between n m a A B p q f = f (9 * a + 1) (omega arith) (omega arith)

word-between : (n m a i : ℕ) (A B : List ℕ) → i < 9 → n ≤ a → a < m → Between n m A B → word B a i ≡ word A a i
unfolding Between word cell
word-between n m a i A B l p q f = f (9 * a + i) (omega arith) (omega arith)

-- words of row n, from word j on
put_from : List ℕ → ℕ → ℕ → List ℕ → List ℕ
put_from T n j [] = T
put_from T n j (v ∷ vs) = put_from (set T (cell n j) v) n (suc j) vs

put-length : (T : List ℕ) (n j : ℕ) (vs : List ℕ) → length (put_from T n j vs) ≡ length T
unfolding put_from
put-length T n j [] = refl
put-length T n j (v ∷ vs) = put-length (set T (cell n j) v) n (suc j) vs ∙ length-set T (cell n j) v

put_other : (T : List ℕ) (n j : ℕ) (vs : List ℕ) (x : ℕ) → ((i : ℕ) → j ≤ i → i < j + length vs → x ≡ cell n i → ⊥) →
    get_or (put_from T n j vs) x 0 ≡ get_or T x 0
unfolding put_from
put_other T n j [] x h = refl
put_other T n j (v ∷ vs) x h =
    put_other (set T (cell n j) v) n (suc j) vs x (λ i p q. h i (omega arith) (omega arith))
    ∙ get_or-set_other T (cell n j) x v 0 (h j (omega arith) (omega arith))

put_word : (T : List ℕ) (n j : ℕ) (vs : List ℕ) (i : ℕ) → i < length vs → n < ROWS → j + length vs ≤ 9 → length T ≡
    TERM-WORDS →
    word (put_from T n j vs) n (j + i) ≡ get_or vs i 0
unfolding put_from word cell
put_word T n j [] i h r l s = absurd (omega arith)
put_word T n j (v ∷ vs) zero h r l s =
    let e : j + 0 ≡ j = omega arith in
    rw e (put_other (set T (cell n j) v) n (suc j) vs (cell n j) (λ i p q e. apart i p e)
    ∙ get_or-set_same T (cell n j) v 0 inside)
  where
    apart : (i : ℕ) → suc j ≤ i → cell n j ≡ cell n i → ⊥
    apart i p e = omega arith

    inside : cell n j < length T
    inside = omega arith
put_word T n j (v ∷ vs) (suc i) h r l s =
    let e : j + suc i ≡ suc j + i = omega arith in
    rw e (put_word (set T (cell n j) v) n (suc j) vs i (omega arith) r (omega arith) (length-set T (cell n j) v ∙ s))

-- the words of the row n
pub record Words (T : List ℕ) (n kind w class v detail a b c d : ℕ) : Type 0 where
  pub kinded : word T n 0 ≡ kind
  pub weighed : word T n 1 ≡ w
  pub classed : word T n 2 ≡ class
  pub valued : word T n 3 ≡ v
  pub detailed : word T n 4 ≡ detail
  pub first : word T n 5 ≡ a
  pub second : word T n 6 ≡ b
  pub third : word T n 7 ≡ c
  pub fourth : word T n 8 ≡ d

module _ (t slots rows : List ℕ) (at n a b c d : ℕ) where
  values-put : List ℕ
  values-put =
      word t at KIND ∷ min (weight_of t rows at a b c d) 4097 ∷ word t at CLASS ∷ word t at VALUES ∷ detail_of t slots at
      ∷ a ∷ b ∷ c ∷ d ∷ []

  closed-put : closed_row t slots rows at n a b c d ≡ put_from rows n 0 values-put
  unfolding closed_row head_put parts_put put_from values-put
  closed-put = refl

  pub closed-length : length rows ≡ TERM-WORDS → length (closed_row t slots rows at n a b c d) ≡ TERM-WORDS
  closed-length e = rw closed-put (put-length rows n 0 values-put ∙ e)

  pub closed-below : Below n rows (closed_row t slots rows at n a b c d)
  unfolding Below values-put cell
  closed-below i h = rw closed-put (put_other rows n 0 values-put i (λ j p q e. omega arith))

  pub closed-above : (m : ℕ) → Between (suc n) m rows (closed_row t slots rows at n a b c d)
  unfolding Between values-put cell
  closed-above m i h l = rw closed-put (put_other rows n 0 values-put i (λ j p q e. omega arith))

  pub closed-words : n < ROWS → length rows ≡ TERM-WORDS →
      Words (closed_row t slots rows at n a b c d) n (word t at KIND) (min (weight_of t rows at a b c d) 4097)
      (word t at CLASS) (word t at VALUES) (detail_of t slots at) a b c d
  unfolding values-put
  closed-words h s = record {
    kinded = at-word 0 (omega arith);
    weighed = at-word 1 (omega arith);
    classed = at-word 2 (omega arith);
    valued = at-word 3 (omega arith);
    detailed = at-word 4 (omega arith);
    first = at-word 5 (omega arith);
    second = at-word 6 (omega arith);
    third = at-word 7 (omega arith);
    fourth = at-word 8 (omega arith);
  }
    where
      at-word : (i : ℕ) → i < 9 → word (closed_row t slots rows at n a b c d) n i ≡ get_or values-put i 0
      at-word i l =
          let z : 0 + i ≡ i = omega arith in
          rw closed-put (rw z at (put_word rows n 0 values-put i l h (omega arith) s))

-- and where they stay
pub words-between : (A B : List ℕ) (n m k w l v e a b c d : ℕ) → n < m → Between n m A B → Words A n k w l v e a b c d →
    Words B n k w l v e a b c d
words-between A B n m k w l v e a b c d h f x = record {
  kinded = word-between n m n 0 A B (omega arith) (omega arith) h f ∙ x.kinded;
  weighed = word-between n m n 1 A B (omega arith) (omega arith) h f ∙ x.weighed;
  classed = word-between n m n 2 A B (omega arith) (omega arith) h f ∙ x.classed;
  valued = word-between n m n 3 A B (omega arith) (omega arith) h f ∙ x.valued;
  detailed = word-between n m n 4 A B (omega arith) (omega arith) h f ∙ x.detailed;
  first = word-between n m n 5 A B (omega arith) (omega arith) h f ∙ x.first;
  second = word-between n m n 6 A B (omega arith) (omega arith) h f ∙ x.second;
  third = word-between n m n 7 A B (omega arith) (omega arith) h f ∙ x.third;
  fourth = word-between n m n 8 A B (omega arith) (omega arith) h f ∙ x.fourth;
}
