-- Numbers and the values that are none, and their codes: a code and a byte give the number back, and a code differs by
-- a multiple of 2Z + 1.
use Prim.Native.Nat.{ℕ, zero, suc, ◌+◌, ◌-◌, ◌*◌, ◌/◌, ◌%◌, ◌≤◌, ◌<◌}
use native.Mathlib.Omega.{arith}
use native.Mathlib.Nat.{mod-eq_of_lt, mod-lt, mod-add-div'}
use mathlib.Core.Path.{◌≡◌, refl, ap, ◌∙◌, sym}
use mathlib.Core.Bool.{Bool, true, false}
use lib.Dec.{eqb, leb, ltb}
use lib.Signed.{lt_z}
use lib.IntN.{ℤ, pos, negsuc, nat_abs, suc_ℤ, ◌+ℤ◌, ◌-ℤ◌, ◌*ℤ◌, neg_ℤ, -ℤ-+ℤ_cancel, +ℤ_assoc, +ℤ_comm, suc_ℤ-*ℤ}
use borrow.Author.Tests.{lt-ltb, le-ltb, le-leb, lt-leb, leb-true, leb-false, ltb-true, ltb-false, eqb-true, eqb-false}
use borrow.Author.Tests.{eq-eqb, ne_eqb}
use Rattle.language.specs.declared.Numbers.{Numbers}
use Rattle.language.specs.Choice.{pick}
use Rattle.language.specs.Number.{finites, extras, numbers, minus_infinity, infinity, not_a_number, special}
use Rattle.language.specs.Number.{modulo, code, signed}

-- a difference below 0
pub minus-below : (a b : ℕ) → a < b → pos a -ℤ pos b ≡ negsuc (b - suc a)
minus-below a zero h = absurd (omega arith)
minus-below a (suc b) h = simp (lt-ltb a (suc b) h)

-- a test is true or false
pub by-test : {P : Type 0} (t : Bool) → (t ≡ true → P) → (t ≡ false → P) → P
by-test true f g = f refl
by-test false f g = g refl

-- the remainder rounded down
pub modulo-below : (v : ℤ) (n : ℕ) → 0 < n → modulo v n < n
unfolding modulo
modulo-below (pos a) n h = mod-lt a h
modulo-below (negsuc a) n h = omega arith

pub modulo-pos : (a n : ℕ) → a < n → modulo (pos a) n ≡ a
unfolding modulo
modulo-pos a n h = mod-eq_of_lt h

modulo-neg : (a n : ℕ) → a < n → modulo (negsuc a) n ≡ n - suc a
unfolding modulo
modulo-neg a n h = ap (λ (m : ℕ). n - suc m) (mod-eq_of_lt h)

pub modulo-multiple : (v : ℤ) (n : ℕ) → 0 < n → (q : ℤ) × (v ≡ pos (modulo v n) +ℤ q *ℤ pos n)
unfolding modulo
modulo-multiple (pos a) n h = (pos (a / n), ap pos (sym (mod-add-div' a n)))
modulo-multiple (negsuc a) n h = (negsuc (a / n), sym e)
  where
    whole : suc (a / n) * n ≡ n + a / n * n
    whole = omega arith

    e : pos (n - suc (a % n)) +ℤ neg_ℤ (pos (suc (a / n) * n)) ≡ negsuc a
    e =
        minus-below (n - suc (a % n)) (suc (a / n) * n) (omega (arith, whole))
        ∙ ap negsuc (omega (arith, whole, mod-add-div' a n, mod-lt a h))

-- how many values there are: the numbers from -Z to Z, and at most three more
pub finites-are : (N : Numbers) → finites N ≡ 2 * N.z + 1
unfolding finites
finites-are N = refl

pub finites-within : (N : Numbers) → finites N ≤ numbers N
unfolding numbers
finites-within N = omega arith

pub numbers-within : (N : Numbers) → numbers N ≤ 2 * N.z + 4
unfolding numbers finites extras
numbers-within N = by-test (eqb N.rule 2) (λ t. rw t (omega arith)) (λ t. rw t (omega arith))

-- there is always the number 0
pub finites-above : (N : Numbers) → 0 < finites N
finites-above N = omega (arith, finites-are N)

pub numbers-above : (N : Numbers) → 0 < numbers N
numbers-above N = omega (arith, finites-above N, finites-within N)

-- a code of a number is below how many there are
pub code-finite : (N : Numbers) (v : ℤ) → code N v < finites N
unfolding code
code-finite N v = modulo-below v (finites N) (finites-above N)

pub code_below : (N : Numbers) (v : ℤ) → code N v < numbers N
code_below N v = omega (arith, code-finite N v, finites-within N)

-- of c below n: c itself, or c minus n
modulo-back : (c n : ℕ) → c < n → modulo (pos c -ℤ pos n) n ≡ c
modulo-back c n h = rw (minus-below c n h) (modulo-neg (n - suc c) n (omega arith) ∙ omega arith)

minus-back : (a n : ℕ) → a < n → pos (n - suc a) -ℤ pos n ≡ negsuc a
minus-back a n h = minus-below (n - suc a) n (omega arith) ∙ ap negsuc (omega arith)

-- what a code stands for: a number from 0 on, one below 0, or a value that is no number
pub data Coded (N : Numbers) (c : ℕ) : Type 0 where
  from-0 : c ≤ N.z → Coded N c
  below-0 : N.z < c → c < finites N → Coded N c
  least : c ≡ special N minus_infinity → Coded N c
  greatest : c ≡ special N infinity → Coded N c
  no_number : c ≡ special N not_a_number → Coded N c

pub coded : (N : Numbers) (c : ℕ) → c < numbers N → Coded N c
unfolding special
coded N c h =
    by-test (leb c N.z) (λ t. from-0 (leb-true c N.z t)) (λ t.
    by-test (ltb c (finites N)) (λ u. below-0 (leb-false c N.z t) (ltb-true c (finites N) u)) (λ u.
    let l = ltb-false c (finites N) u in
    by-test (eqb c (2 * N.z + 1)) (λ w. least (eqb-true c (2 * N.z + 1) w)) (λ w.
    by-test (eqb c (2 * N.z + 2)) (λ x. greatest (eqb-true c (2 * N.z + 2) x)) (λ x.
    let a = eqb-false c (2 * N.z + 1) w in
    let b = eqb-false c (2 * N.z + 2) x in
    no_number (last l a b)))))
  where
    last : finites N ≤ c → (c ≡ 2 * N.z + 1 → ⊥) → (c ≡ 2 * N.z + 2 → ⊥) → c ≡ 2 * N.z + 3
    last l a b = omega (arith, finites-are N, numbers-within N)

-- the number of each
module _ (N : Numbers) where
  pub signed-from-0 : (c : ℕ) → c ≤ N.z → signed N c ≡ pos c
  unfolding signed
  signed-from-0 c h = rw (le-leb c N.z h)

  pub signed-below-0 : (c : ℕ) → N.z < c → c < finites N → signed N c ≡ pos c -ℤ pos (finites N)
  unfolding signed
  signed-below-0 c h k = rw (lt-leb c N.z h, lt-ltb c (finites N) k)

  pub signed-least : signed N (special N minus_infinity) ≡ negsuc 126
  unfolding signed special
  signed-least =
      rw (
        lt-leb (2 * N.z + 1) N.z (omega arith),
        le-ltb (2 * N.z + 1) (finites N) (omega (arith, finites-are N)),
        eq-eqb (2 * N.z + 1) (finites N) (omega (arith, finites-are N)),
      )

  pub signed-greatest : signed N (special N infinity) ≡ pos 126
  unfolding signed special
  signed-greatest =
      rw (
        lt-leb (2 * N.z + 2) N.z (omega arith),
        le-ltb (2 * N.z + 2) (finites N) (omega (arith, finites-are N)),
        ne_eqb (2 * N.z + 2) (finites N) (λ e. omega (arith, finites-are N)),
        eq-eqb (2 * N.z + 2) (finites N + 1) (omega (arith, finites-are N)),
      )

  pub signed-none : signed N (special N not_a_number) ≡ pos 127
  unfolding signed special
  signed-none =
      rw (
        lt-leb (2 * N.z + 3) N.z (omega arith),
        le-ltb (2 * N.z + 3) (finites N) (omega (arith, finites-are N)),
        ne_eqb (2 * N.z + 3) (finites N) (λ e. omega (arith, finites-are N)),
        ne_eqb (2 * N.z + 3) (finites N + 1) (λ e. omega (arith, finites-are N)),
      )

  -- a number is found again by its code, and a code by its number
  pub signed-code : (v : ℤ) → nat_abs v ≤ N.z → signed N (code N v) ≡ v
  unfolding code
  signed-code (pos a) h =
      let l : a < finites N = omega (arith, finites-are N) in
      rw (modulo-pos a (finites N) l) (signed-from-0 a h)
  signed-code (negsuc a) h =
      let l : a < finites N = omega (arith, finites-are N) in
      rw (modulo-neg a (finites N) l)
      (signed-below-0 (finites N - suc a) (omega (arith, finites-are N)) (omega arith) ∙ minus-back a (finites N) l)

  pub code-signed : (c : ℕ) → c < finites N → code N (signed N c) ≡ c
  unfolding code
  code-signed c h =
      by-test (leb c N.z)
      (λ t. rw (signed-from-0 c (leb-true c N.z t)) (modulo-pos c (finites N) h))
      (λ t. rw (signed-below-0 c (leb-false c N.z t) h) (modulo-back c (finites N) h))

  pub signed-within : (c : ℕ) → c < finites N → nat_abs (signed N c) ≤ N.z
  signed-within c h =
      by-test (leb c N.z)
      (λ t. rw (signed-from-0 c (leb-true c N.z t)) (leb-true c N.z t))
      (λ t. rw (signed-below-0 c (leb-false c N.z t) h, minus-below c (finites N) h)
      (omega (arith, leb-false c N.z t, finites-are N)))

  -- the value that a number stands for, and the code of a value is found again by its number
  valued : ℤ → ℕ
  valued v =
      pick (leb (nat_abs v) N.z) (code N v)
      (pick (eqb (nat_abs v) 126) (special N infinity)
      (pick (lt_z v (pos 0)) (special N minus_infinity) (special N not_a_number)))

  valued_signed : N.z ≤ 125 → (c : ℕ) → c < numbers N → valued (signed N c) ≡ c
  unfolding valued
  valued_signed few c h = go (coded N c h)
    where
      found : c < finites N → valued (signed N c) ≡ c
      found l = rw (le-leb (nat_abs (signed N c)) N.z (signed-within c l)) (code-signed c l)

      go : Coded N c → valued (signed N c) ≡ c
      go (from-0 l) = found (omega (arith, finites-are N))
      go (below-0 k l) = found l
      go (least e) = rw (e, signed-least, lt-leb 127 N.z (omega arith))
      go (greatest e) = rw (e, signed-greatest, lt-leb 126 N.z (omega arith))
      go (no_number e) = rw (e, signed-none, lt-leb 127 N.z (omega arith))

  -- values are equal exactly if their codes are
  pub signed-injective : N.z ≤ 125 → (c d : ℕ) → c < numbers N → d < numbers N → signed N c ≡ signed N d → c ≡ d
  signed-injective few c d h k e = sym (valued_signed few c h) ∙ ap valued e ∙ valued_signed few d k

  -- "a multiple of 2Z + 1 is added or taken away until it fits"
  pub code-multiple : (v : ℤ) → (k : ℤ) × (v ≡ signed N (code N v) +ℤ k *ℤ pos (finites N))
  unfolding code
  code-multiple v =
      let (q, e) = modulo-multiple v (finites N) (finites-above N) in
      let l = modulo-below v (finites N) (finites-above N) in
      by-test (leb (modulo v (finites N)) N.z)
      (λ t. rw (signed-from-0 (modulo v (finites N)) (leb-true (modulo v (finites N)) N.z t)) (q, e))
      (λ t. rw (signed-below-0 (modulo v (finites N)) (leb-false (modulo v (finites N)) N.z t) l)
      (suc_ℤ q, e ∙ one_more (pos (modulo v (finites N))) (pos (finites N)) q))
    where
      one_more : (a n q : ℤ) → a +ℤ q *ℤ n ≡ (a -ℤ n) +ℤ suc_ℤ q *ℤ n
      one_more a n q =
          ap (λ (x : ℤ). x +ℤ q *ℤ n) (sym (-ℤ-+ℤ_cancel a n))
          ∙ +ℤ_assoc (a -ℤ n) n (q *ℤ n)
          ∙ ap (λ (x : ℤ). (a -ℤ n) +ℤ x) (+ℤ_comm n (q *ℤ n) ∙ sym (suc_ℤ-*ℤ q n))
