-- Silent steps stay at a state that is not silent, and within n steps such a state is reached or none ever is. So a
-- state settles at one place only. Assumes nothing.
use mathlib.Core.Bool.{cond}
use mathlib.Core.List.{List}
use mathlib.Core.Logic.{◌≢◌}
use mathlib.Core.Path.{◌∙◌, ◌≡◌, ap, refl, sym}
use Prim.Native.Nat.{◌+◌, ◌-◌, ◌<◌, ◌≤◌, suc, zero, ℕ}
use native.Mathlib.Decide.{dec_lt, ℕ_discrete}
use native.Mathlib.Omega.{arith}
use lib.Dec.{eqb}
use lib.ListN.{get_or}
use borrow.Author.Tests.{eq-eqb, ne_eqb}
use Rattle.dfa_silent.specs.Silent.{Settled, Silent, moved, stepped}
use Rattle.dfa.specs.Frame.{SameBelow}
use Rattle.dfa_silent.specs.inner.Settle.{Among}

pub moved-add : (S : List ℕ) (a b x : ℕ) → moved S (a + b) x ≡ moved S a (moved S b x)
unfolding moved
moved-add S zero b x = ap (λ k. moved S k x) {x = zero + b} {y = b} (omega arith)
moved-add S (suc a) b x = ap (λ k. moved S k x) {x = suc a + b} {y = suc (a + b)} (omega arith) ∙ ap (stepped S)
    (moved-add S a b x)

pub stepped-lt : (n : ℕ) (S : List ℕ) (x : ℕ) → Silent n S → x < n → stepped S x < n
stepped-lt n S x s h = go (ℕ_discrete (get_or S x 0) 0)
  where
    go : Dec (get_or S x 0 ≡ 0) → stepped S x < n
    go (yes e) = rw (eq-eqb (get_or S x 0) 0 e) h
    go (no e) = let l = s x h in rw (ne_eqb (get_or S x 0) 0 e) (omega arith)

-- k numbers below N that differ from one another: k is at most N
pigeonhole : (N k : ℕ) (s : ℕ → ℕ) → ((i : ℕ) → i < k → s i < N) → ((i j : ℕ) → i < j → j < k → s i ≢ s j) → k ≤ N
pigeonhole zero zero s low apart = omega arith
pigeonhole zero (suc k) s low apart = absurd (omega (arith, low 0 (omega arith)))
pigeonhole (suc N) zero s low apart = omega arith
pigeonhole (suc N) (suc k) s low apart = omega (arith, pigeonhole N k other other-low other-apart)
  where
    -- the last number stands in for N
    other : ℕ → ℕ
    other i = cond (eqb (s i) N) (s k) (s i)

    is_last : (i : ℕ) → s i ≡ N → other i ≡ s k
    is_last i e = rw (eq-eqb (s i) N e)

    is-own : (i : ℕ) → s i ≢ N → other i ≡ s i
    is-own i e = rw (ne_eqb (s i) N e)

    other-low : (i : ℕ) → i < k → other i < N
    other-low i h = go (ℕ_discrete (s i) N)
      where
        go : Dec (s i ≡ N) → other i < N
        go (yes e) =
            let a = apart i k h (omega arith) in let l = low k (omega arith) in rw (is_last i e) (omega arith)
        go (no e) = let l = low i (omega arith) in rw (is-own i e) (omega arith)

    other-apart : (i j : ℕ) → i < j → j < k → other i ≢ other j
    other-apart i j h l q = go (ℕ_discrete (s i) N) (ℕ_discrete (s j) N)
      where
        go : Dec (s i ≡ N) → Dec (s j ≡ N) → ⊥
        go (yes e) (yes f) = apart i j h (omega arith) (e ∙ sym f)
        go (yes e) (no f) = apart j k l (omega arith) (sym (is-own j f) ∙ sym q ∙ is_last i e)
        go (no e) (yes f) = apart i k (omega arith) (omega arith) (sym (is-own i e) ∙ q ∙ is_last j f)
        go (no e) (no f) = apart i j h (omega arith) (sym (is-own i e) ∙ q ∙ is-own j f)

pub moved-lt : (n : ℕ) (S : List ℕ) (m x : ℕ) → Silent n S → x < n → moved S m x < n
unfolding moved
moved-lt n S zero x s h = h
moved-lt n S (suc m) x s h = stepped-lt n S (moved S m x) s (moved-lt n S m x s h)

-- silent words that agree below n lead to the same states
moved_same : (n : ℕ) (S S' : List ℕ) (m x : ℕ) → Silent n S → SameBelow n S S' → x < n
    → moved S' m x ≡ moved S m x
unfolding moved
moved_same n S S' zero x s e h = refl
moved_same n S S' (suc m) x s e h = ap (stepped S') (moved_same n S S' m x s e h)
    ∙ ap (λ z. cond (eqb z 0) (moved S m x) (z - 1)) (e (moved S m x) (moved-lt n S m x s h))

pub settled_same : (n : ℕ) (S S' : List ℕ) (x y : ℕ) → Silent n S → SameBelow n S S' → x < n → Settled S n x y
    → Settled S' n x y
settled_same n S S' x y s e h t = record {
  steps = t.steps;
  enough = t.enough;
  ends = t.ends ∙ sym (ap (λ z. cond (eqb (get_or S' z 0) 0) z (n - 1)) (moved_same n S S' t.steps x s e h)
      ∙ ap (λ z. cond (eqb z 0) (moved S t.steps x) (n - 1))
      (e (moved S t.steps x) (moved-lt n S t.steps x s h)));
}

-- a state settles where one on its path does
pub settled_back : (S : List ℕ) (n d x y : ℕ) → Settled S n (moved S d x) y → Settled S n x y
settled_back S n d x y t = record {
  steps = t.steps + d;
  enough = omega (arith, t.enough);
  ends = t.ends ∙ ap (λ z. cond (eqb (get_or S z 0) 0) z (n - 1)) (sym (moved-add S t.steps d x));
}

-- a walk of m states that comes back to itself never leaves them
module _ (S : List ℕ) (p m a : ℕ) (a_lt : a < m) (back : moved S m p ≡ moved S a p) where
  round : (e : ℕ) → Among S p m (moved S e p)
  unfolding moved
  round zero = record { after = 0; before = omega arith; is = refl }
  round (suc e) = go (round e)
    where
      go : Among S p m (moved S e p) → Among S p m (moved S (suc e) p)
      go r = pick (dec_lt (suc r.after) m)
        where
          on : moved S (suc e) p ≡ moved S (suc r.after) p
          on = ap (stepped S) r.is

          pick : Dec (suc r.after < m) → Among S p m (moved S (suc e) p)
          pick (yes l) = record { after = suc r.after; before = l; is = on }
          pick (no l) = record {
            after = a;
            before = a_lt;
            is = on ∙ ap (λ k. moved S k p) {x = suc r.after} {y = m} (omega (arith, r.before)) ∙ back;
          }

  -- where they are silent, they settle at the dead state
  pub settled-round : (n i : ℕ) → ((j : ℕ) → j < m → get_or S (moved S j p) 0 ≢ 0) → Settled S n (moved S i p) (n - 1)
  settled-round n i silent = record
      { steps = n; enough = omega arith; ends = sym (rw (ne_eqb (get_or S (moved S n (moved S i p)) 0) 0 still)) }
    where
      still : get_or S (moved S n (moved S i p)) 0 ≢ 0
      still e =
          let r = round (n + i) in
          silent r.after r.before (ap (λ z. get_or S z 0) (sym r.is ∙ moved-add S n i p) ∙ e)

-- a state that is not silent stays
pub stays : (S : List ℕ) (x m : ℕ) → get_or S x 0 ≡ 0 → moved S m x ≡ x
unfolding moved
stays S x zero e = refl
stays S x (suc m) e = ap (stepped S) (stays S x m e) ∙ rw (eq-eqb (get_or S x 0) 0 e)

stays-from : (S : List ℕ) (x j m : ℕ) → get_or S (moved S j x) 0 ≡ 0 → j ≤ m → moved S m x ≡ moved S j x
stays-from S x j m e h =
    ap (λ k. moved S k x) {x = m} {y = (m - j) + j} (omega arith) ∙ moved-add S (m - j) j x
    ∙ stays S (moved S j x) (m - j) e

module _ (n : ℕ) (S : List ℕ) (x : ℕ) (s : Silent n S) (x_lt : x < n) where
  -- a state that comes twice comes again and again
  again : (i d : ℕ) → 0 < d → i ≤ n → moved S i x ≡ moved S (i + d) x → (k : ℕ)
      → (e : ℕ) × ((k ≤ e) × ((n ≤ e) × (moved S e x ≡ moved S n x)))
  again i d h l q zero = (n, (omega arith, (omega arith, refl)))
  again i d h l q (suc k) =
      let r = again i d h l q k in
      let e = r.0 in
      let z = r.1.1.0 in (
        e + d,
        (
          omega (arith, r.1.0),
          (
            omega (arith, z),
            ap (λ k. moved S k x) {x = e + d} {y = (e - i) + (i + d)} (omega arith) ∙ moved-add S (e - i) (i + d) x
                ∙ ap (moved S (e - i)) (sym q) ∙ sym (moved-add S (e - i) i x) ∙ ap (λ k. moved S k x) {x = (e - i) + i} {y = e}
                (omega arith) ∙ r.1.1.1,
          ),
        ),
      )

  -- a state silent after n steps is silent for ever
  for-ever : get_or S (moved S n x) 0 ≢ 0 → (m : ℕ) → get_or S (moved S m x) 0 ≢ 0
  for-ever ne m e = absurd (omega (
    arith,
    pigeonhole n (suc n) (λ i. moved S i x) (λ i h. moved-lt n S i x s x_lt)
        twice,
  ))
    where
      twice : (i j : ℕ) → i < j → j < suc n → moved S i x ≢ moved S j x
      twice i j h l q =
          let r = again i (j - i) (omega arith) (omega arith) (q ∙ ap (λ k. moved S k x) {x = j} {y = i + (j - i)}
          (omega arith)) m in
          let z = stays-from S x m r.0 e r.1.0 in
          ne (ap (λ y. get_or S y 0) (sym r.1.1.1 ∙ z) ∙ e)

  -- a state that reaches one that is not silent settles there
  pub settles : (j y : ℕ) → get_or S (moved S j x) 0 ≡ 0 → Settled S n x y → y ≡ moved S j x
  settles j y e t = go (ℕ_discrete (get_or S (moved S n x) 0) 0)
    where
      at_n : get_or S (moved S n x) 0 ≡ 0 → (k : ℕ) → get_or S (moved S k x) 0 ≡ 0 → moved S k x ≡ moved S n x
      at_n u k v = pick (ℕ_discrete (k - n) 0)
        where
          pick : Dec (k - n ≡ 0) → moved S k x ≡ moved S n x
          pick (yes w) = sym (stays-from S x k n v (omega arith))
          pick (no w) = stays-from S x n k u (omega arith)

      go : Dec (get_or S (moved S n x) 0 ≡ 0) → y ≡ moved S j x
      go (yes u) =
          let w = stays-from S x n t.steps u t.enough in
          t.ends ∙ rw (eq-eqb (get_or S (moved S t.steps x) 0) 0 (ap (λ z. get_or S z 0) w ∙ u)) (w ∙ sym (at_n u j e))
      go (no u) = absurd (for-ever u j e)

  -- a state that reaches none settles at the dead state
  settles-dead : (y : ℕ) → get_or S (moved S n x) 0 ≢ 0 → Settled S n x y → y ≡ n - 1
  settles-dead y ne t = t.ends ∙ rw (ne_eqb (get_or S (moved S t.steps x) 0) 0 (for-ever ne t.steps))

  pub settled-unique : (y z : ℕ) → Settled S n x y → Settled S n x z → y ≡ z
  settled-unique y z a b = go (ℕ_discrete (get_or S (moved S n x) 0) 0)
    where
      go : Dec (get_or S (moved S n x) 0 ≡ 0) → y ≡ z
      go (yes u) = settles n y u a ∙ sym (settles n z u b)
      go (no u) = settles-dead y u a ∙ sym (settles-dead z u b)
