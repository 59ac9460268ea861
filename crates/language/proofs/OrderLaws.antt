-- The values in the order of their signed bytes, and their ranks. What is shown here by cases of the overflow rule the
-- layers above use without looking at it.
use Prim.Native.Nat.{ℕ, zero, suc, ◌+◌, ◌*◌, ◌-◌, ◌≤◌, ◌<◌}
use native.Mathlib.Omega.{arith}
use native.Mathlib.Decide.{dec_lt, ℕ_discrete}
use mathlib.Core.Path.{◌≡◌, refl, sym, ap, ◌∙◌}
use mathlib.Core.Bool.{Bool, true, false}
use lib.Dec.{T, eqb, leb, ltb, ltb→lt, lt→ltb}
use lib.IntN.{pos, negsuc, ◌-ℤ◌}
use lib.Signed.{lt_z, ◌<ℤ◌}
use borrow.Author.Tests.{lt-ltb, le-ltb, le-leb, lt-leb, eq-eqb, ne_eqb}
use Rattle.language.specs.declared.Numbers.{Numbers}
use Rattle.language.specs.Choice.{pick}
use Rattle.language.specs.Number.{finites, extras, numbers, special, signed}
use Rattle.language.specs.Order.{first_number, code_at, rank, unranked, InOrder}
use Rattle.language.proofs.NumberLaws as laws
use Rattle.language.proofs.NumberLaws.{by-test, minus-below, finites-are, Coded, coded}
use Rattle.language.proofs.NumberLaws.{signed-from-0, signed-below-0, signed-least, signed-greatest, signed-none}

-- how many values there are, by how many come before the numbers: the two laws by cases of the rule
first_small : (N : Numbers) → first_number N ≤ 1
unfolding first_number
first_small N = by-test (eqb N.rule 2) (λ t. rw t (omega arith)) (λ t. rw t (omega arith))

numbers-are : (N : Numbers) → numbers N ≡ 2 * N.z + 1 + 3 * first_number N
unfolding numbers finites extras first_number
numbers-are N = by-test (eqb N.rule 2) (λ t. rw t (omega arith)) (λ t. rw t (omega arith))

-- the value at place r: minus infinity, a number below 0, one from 0 on, or one of the last two
data Nth (N : Numbers) (r : ℕ) : Type 0 where
  first : r < first_number N → code_at N r ≡ 2 * N.z + 1 → Nth N r
  below-0 : first_number N ≤ r → r < first_number N + N.z → code_at N r ≡ r - first_number N + N.z + 1 → Nth N r
  from-0 : first_number N + N.z ≤ r → r < first_number N + (2 * N.z + 1) → code_at N r ≡ r - first_number N - N.z →
      Nth N r
  last : first_number N + (2 * N.z + 1) ≤ r → code_at N r ≡ r → Nth N r

nth : (N : Numbers) (r : ℕ) → Nth N r
unfolding code_at
nth N r = start (dec_lt r (first_number N))
  where
    all : finites N ≡ 2 * N.z + 1
    all = finites-are N

    end : first_number N ≤ r → N.z ≤ r - first_number N → Dec (r - first_number N < finites N) → Nth N r
    end h k (yes l) =
        from-0 (omega arith) (omega (arith, all))
        (rw (
          le-ltb r (first_number N) h,
          le-ltb (r - first_number N) N.z k,
          lt-ltb (r - first_number N) (finites N) l,
        ) refl)
    end h k (no l) =
        last (omega (arith, all))
        (rw (
          le-ltb r (first_number N) h,
          le-ltb (r - first_number N) N.z k,
          le-ltb (r - first_number N) (finites N) (omega arith),
        ) refl)

    middle : first_number N ≤ r → Dec (r - first_number N < N.z) → Nth N r
    middle h (yes l) =
        below-0 h (omega arith) (rw (le-ltb r (first_number N) h, lt-ltb (r - first_number N) N.z l) refl)
    middle h (no l) = end h (omega arith) (dec_lt (r - first_number N) (finites N))

    start : Dec (r < first_number N) → Nth N r
    start (yes l) = first l (rw (lt-ltb r (first_number N) l) all)
    start (no l) = middle (omega arith) (dec_lt (r - first_number N) N.z)

module _ (N : Numbers) where
  -- the values at the places
  pub code-at-below : (r : ℕ) → r < numbers N → code_at N r < numbers N
  code-at-below r h = cases (nth N r)
    where
      cases : Nth N r → code_at N r < numbers N
      cases (first l e) = omega (arith, numbers-are N, first_small N)
      cases (below-0 k l e) = omega (arith, numbers-are N, first_small N)
      cases (from-0 k l e) = omega (arith, numbers-are N, first_small N)
      cases (last l e) = omega (arith, numbers-are N, first_small N)

  pub code-at-each : (v : ℕ) → v < numbers N → (r : ℕ) × (r < numbers N) × (code_at N r ≡ v)
  code-at-each v h = cases (dec_lt v (N.z + 1)) (dec_lt v (2 * N.z + 1)) (dec_lt v (2 * N.z + 2))
    where
      cases : Dec (v < N.z + 1) → Dec (v < 2 * N.z + 1) → Dec (v < 2 * N.z + 2) →
          (r : ℕ) × (r < numbers N) × (code_at N r ≡ v)
      cases (yes l) d f =
          (first_number N + N.z + v, omega (arith, numbers-are N), here (nth N (first_number N + N.z + v)))
        where
          here : Nth N (first_number N + N.z + v) → code_at N (first_number N + N.z + v) ≡ v
          here (first k e) = absurd (omega arith)
          here (below-0 j k e) = absurd (omega arith)
          here (from-0 j k e) = omega arith
          here (last k e) = absurd (omega arith)
      cases (no l) (yes d) f =
          (first_number N + (v - N.z - 1), omega (arith, numbers-are N), here (nth N (first_number N + (v - N.z - 1))))
        where
          here : Nth N (first_number N + (v - N.z - 1)) → code_at N (first_number N + (v - N.z - 1)) ≡ v
          here (first k e) = absurd (omega arith)
          here (below-0 j k e) = omega arith
          here (from-0 j k e) = absurd (omega arith)
          here (last k e) = absurd (omega arith)
      cases (no l) (no d) (yes f) = (0, omega (arith, numbers-are N), here (nth N 0))
        where
          here : Nth N 0 → code_at N 0 ≡ v
          here (first k e) = omega arith
          here (below-0 j k e) = absurd (omega (arith, numbers-are N, first_small N))
          here (from-0 j k e) = absurd (omega (arith, numbers-are N, first_small N))
          here (last k e) = absurd (omega (arith, numbers-are N, first_small N))
      cases (no l) (no d) (no f) = (v, h, here (nth N v))
        where
          here : Nth N v → code_at N v ≡ v
          here (first k e) = absurd (omega (arith, numbers-are N, first_small N))
          here (below-0 j k e) = absurd (omega (arith, numbers-are N, first_small N))
          here (from-0 j k e) = absurd (omega (arith, numbers-are N, first_small N))
          here (last k e) = e

  -- the ranks of values
  rank-from-0 : (v : ℕ) → v ≤ N.z → rank N v ≡ 128 + v
  unfolding rank
  rank-from-0 v h = rw (le-leb v N.z h) refl

  rank-below-0 : (v : ℕ) → N.z < v → v < 2 * N.z + 1 → rank N v ≡ 128 + v - (2 * N.z + 1)
  unfolding rank
  rank-below-0 v h k =
      rw (lt-leb v N.z h, lt-ltb v (finites N) (omega (arith, finites-are N))) (omega (arith, finites-are N))

  rank-least : (v : ℕ) → v ≡ 2 * N.z + 1 → rank N v ≡ 1
  unfolding rank
  rank-least v h =
      rw (
        lt-leb v N.z (omega arith),
        le-ltb v (finites N) (omega (arith, finites-are N)),
        eq-eqb v (finites N) (omega (arith, finites-are N)),
      ) refl

  rank-greatest : (v : ℕ) → v ≡ 2 * N.z + 2 → rank N v ≡ 254
  unfolding rank
  rank-greatest v h =
      rw (
        lt-leb v N.z (omega arith),
        le-ltb v (finites N) (omega (arith, finites-are N)),
        ne_eqb v (finites N) (λ e. omega (arith, finites-are N)),
        eq-eqb v (finites N + 1) (omega (arith, finites-are N)),
      ) refl

  rank-none : (v : ℕ) → 2 * N.z + 3 ≤ v → rank N v ≡ 255
  unfolding rank
  rank-none v h =
      rw (
        lt-leb v N.z (omega arith),
        le-ltb v (finites N) (omega (arith, finites-are N)),
        ne_eqb v (finites N) (λ e. omega (arith, finites-are N)),
        ne_eqb v (finites N + 1) (λ e. omega (arith, finites-are N)),
      ) refl

  -- ranks rise with the places: at place r the rank is from `bound r` up to, but not including, `bound (r + 1)`
  pub bound : ℕ → ℕ
  bound r =
      pick (ltb r (first_number N)) 0
      (pick (ltb r (first_number N + (2 * N.z + 2))) (128 + r - first_number N - N.z)
      (254 + r - (first_number N + (2 * N.z + 1))))

  bound-low : (r : ℕ) → r < first_number N → bound r ≡ 0
  unfolding bound
  bound-low r h = rw (lt-ltb r (first_number N) h) refl

  bound-middle :
      (r : ℕ) → first_number N ≤ r → r < first_number N + (2 * N.z + 2) → bound r ≡ 128 + r - first_number N - N.z
  unfolding bound
  bound-middle r h k = rw (le-ltb r (first_number N) h, lt-ltb r (first_number N + (2 * N.z + 2)) k) refl

  bound-high : (r : ℕ) → first_number N + (2 * N.z + 2) ≤ r → bound r ≡ 254 + r - (first_number N + (2 * N.z + 1))
  unfolding bound
  bound-high r h = rw (le-ltb r (first_number N) (omega arith), le-ltb r (first_number N + (2 * N.z + 2)) h) refl

  pub code-rank : (r : ℕ) → r < numbers N → N.z ≤ 125 →
      (bound r ≤ rank N (code_at N r)) × (rank N (code_at N r) < bound (suc r))
  code-rank r h few = cases (nth N r)
    where
      cases : Nth N r → (bound r ≤ rank N (code_at N r)) × (rank N (code_at N r) < bound (suc r))
      cases (first l e) =
          let k = rank-least (code_at N r) e in
          let a = bound-low r l in
          let b = bound-middle (suc r) (omega (arith, first_small N)) (omega (arith, first_small N)) in
          (omega arith, omega (arith, first_small N))
      cases (below-0 j l e) =
          let k = rank-below-0 (code_at N r) (omega arith) (omega arith) in
          let a = bound-middle r j (omega arith) in
          let b = bound-middle (suc r) (omega arith) (omega arith) in
          (omega arith, omega arith)
      cases (from-0 j l e) =
          let k = rank-from-0 (code_at N r) (omega arith) in
          let a = bound-middle r (omega arith) (omega arith) in
          let b = bound-middle (suc r) (omega arith) (omega arith) in
          (omega arith, omega arith)
      cases (last l e) = final (dec_lt r (2 * N.z + 3))
        where
          final : Dec (r < 2 * N.z + 3) → (bound r ≤ rank N (code_at N r)) × (rank N (code_at N r) < bound (suc r))
          final (yes x) =
              let k = rank-greatest (code_at N r) (omega (arith, numbers-are N, first_small N)) in
              let a = bound-middle r (omega arith) (omega (arith, numbers-are N, first_small N)) in
              let b = bound-high (suc r) (omega (arith, numbers-are N, first_small N)) in
              (omega (arith, numbers-are N, first_small N), omega (arith, numbers-are N, first_small N))
          final (no x) =
              let k = rank-none (code_at N r) (omega arith) in
              let a = bound-high r (omega (arith, numbers-are N, first_small N)) in
              let b = bound-high (suc r) (omega (arith, numbers-are N, first_small N)) in
              (omega (arith, numbers-are N, first_small N), omega (arith, numbers-are N, first_small N))

  pub bound-last : N.z ≤ 125 → bound (numbers N) ≤ 256
  bound-last few = cases (dec_lt (first_number N) 1)
    where
      cases : Dec (first_number N < 1) → bound (numbers N) ≤ 256
      cases (yes l) =
          omega (
            arith,
            numbers-are N,
            bound-middle (numbers N) (omega (arith, numbers-are N)) (omega (arith, numbers-are N)),
          )
      cases (no l) =
          omega (
            arith,
            numbers-are N,
            first_small N,
            bound-high (numbers N) (omega (arith, numbers-are N, first_small N)),
          )

  -- the place of the value 0
  pub zero_at : ℕ
  zero_at = first_number N + N.z

  pub zero-at : (r : ℕ) → code_at N r < 1 → r ≡ zero_at
  unfolding zero_at
  zero-at r h = cases (nth N r)
    where
      cases : Nth N r → r ≡ first_number N + N.z
      cases (first l e) = absurd (omega arith)
      cases (below-0 k l e) = absurd (omega arith)
      cases (from-0 k l e) = omega arith
      cases (last l e) = absurd (omega arith)

  -- the place of a value
  place_of : ℕ → ℕ
  place_of v =
      pick (leb v N.z) (first_number N + N.z + v)
      (pick (ltb v (finites N)) (first_number N + v - (N.z + 1)) (pick (eqb v (finites N)) 0 v))

  place-again : (r : ℕ) → r < numbers N → place_of (code_at N r) ≡ r
  unfolding place_of
  place-again r h = cases (nth N r)
    where
      all : finites N ≡ 2 * N.z + 1
      all = finites-are N

      cases : Nth N r → place_of (code_at N r) ≡ r
      cases (first l e) =
          rw (
            e,
            lt-leb (2 * N.z + 1) N.z (omega arith),
            le-ltb (2 * N.z + 1) (finites N) (omega (arith, all)),
            eq-eqb (2 * N.z + 1) (finites N) (omega (arith, all)),
          ) (omega (arith, first_small N))
      cases (below-0 k l e) =
          let v = r - first_number N + N.z + 1 in
          rw (e, lt-leb v N.z (omega arith), lt-ltb v (finites N) (omega (arith, all))) (omega arith)
      cases (from-0 k l e) = rw (e, le-leb (r - first_number N - N.z) N.z (omega arith)) (omega arith)
      cases (last l e) =
          rw (
            e,
            lt-leb r N.z (omega arith),
            le-ltb r (finites N) (omega (arith, all)),
            ne_eqb r (finites N) (λ d. omega (arith, all, numbers-are N, first_small N)),
          )

  -- at different places stand different values
  code-at-injective : (r s : ℕ) → r < numbers N → s < numbers N → code_at N r ≡ code_at N s → r ≡ s
  code-at-injective r s h k e = sym (place-again r h) ∙ ap place_of e ∙ place-again s k

  -- how many of the first r values have codes below c
  unfoldable pub count_below : ℕ → ℕ → ℕ
  count_below c zero = 0
  count_below c (suc r) = count_below c r + pick (ltb (code_at N r) c) 1 0

  -- one whose code is not c counts no more below c + 1 than below c
  as-much : (c v : ℕ) → (v ≡ c → ⊥) → pick (ltb v (suc c)) 1 0 ≤ pick (ltb v c) 1 0
  as-much c v f = go (dec_lt v c)
    where
      go : Dec (v < c) → pick (ltb v (suc c)) 1 0 ≤ pick (ltb v c) 1 0
      go (yes l) = rw (lt-ltb v (suc c) (omega arith), lt-ltb v c l) (omega arith)
      go (no l) = rw (le-ltb v (suc c) (omega arith)) (omega arith)

  none_more : (c r : ℕ) → ((s : ℕ) → s < r → code_at N s ≡ c → ⊥) → count_below (suc c) r ≤ count_below c r
  unfolding count_below
  none_more c zero f = omega arith
  none_more c (suc r) f =
      omega (arith, none_more c r (λ s l. f s (omega arith)), as-much c (code_at N r) (f r (omega arith)))

  one_more : (c r : ℕ) → r ≤ numbers N → count_below (suc c) r ≤ suc (count_below c r)
  unfolding count_below
  one_more c zero h = omega arith
  one_more c (suc r) h = go (one_more c r (omega arith)) (ℕ_discrete (code_at N r) c)
    where
      at_most : (b : Bool) → pick b 1 0 ≤ 1
      at_most true = omega arith
      at_most false = omega arith

      go : count_below (suc c) r ≤ suc (count_below c r) → Dec (code_at N r ≡ c) →
          count_below (suc c) r + pick (ltb (code_at N r) (suc c)) 1 0 ≤
          suc (count_below c r + pick (ltb (code_at N r) c) 1 0)
      go l (yes e) =
          omega (
            arith,
            at_most (ltb (code_at N r) (suc c)),
            none_more c r (λ s k d. omega (arith, code-at-injective s r (omega arith) h (d ∙ sym e))),
          )
      go l (no f) = omega (arith, as-much c (code_at N r) f)

  none_below : (r : ℕ) → count_below 0 r ≤ 0
  unfolding count_below
  none_below zero = omega arith
  none_below (suc r) = rw (le-ltb (code_at N r) 0 (omega arith)) (omega (arith, none_below r))

  -- THEOREM: at most c values have codes below c
  pub few-below : (c : ℕ) → count_below c (numbers N) ≤ c
  few-below zero = none_below (numbers N)
  few-below (suc c) = omega (arith, one_more c (numbers N) (omega arith), few-below c)

pub rank-small : (N : Numbers) → N.z ≤ 125 → (v : ℕ) → v < numbers N → rank N v < 256
rank-small N few v h = cases (coded N v h)
  where
    cases : Coded N v → rank N v < 256
    cases (laws.from-0 l) = omega (arith, rank-from-0 N v l)
    cases (laws.below-0 k l) = omega (arith, finites-are N, rank-below-0 N v k (omega (arith, finites-are N)))
    cases (laws.least e) = omega (arith, rank-least N v (unfold special in e))
    cases (laws.greatest e) = omega (arith, rank-greatest N v (unfold special in e))
    cases (laws.no_number e) = omega (arith, rank-none N v (unfold special in omega (arith, e)))

-- ranks as signed numbers
from-128 : (a : ℕ) → pos (128 + a) -ℤ pos 128 ≡ pos a
from-128 a = simp (le-ltb (128 + a) 128 (omega arith)) (ap pos (omega arith))

pub up-128 : (c : ℕ) → 128 ≤ c → pos c -ℤ pos 128 ≡ pos (c - 128)
up-128 c h = ap (λ (x : ℕ). pos x -ℤ pos 128) {x = c} {y = 128 + (c - 128)} (omega arith) ∙ from-128 (c - 128)

-- and the order of signed numbers is that of ranks
order-128 : (a b : ℕ) → T (lt_z (pos a -ℤ pos 128) (pos b -ℤ pos 128)) → a < b
order-128 a b t = cases (dec_lt a 128) (dec_lt b 128)
  where
    up : (c : ℕ) → (c < 128 → ⊥) → pos c -ℤ pos 128 ≡ pos (c - 128)
    up c h = up-128 c (omega arith)

    cases : Dec (a < 128) → Dec (b < 128) → a < b
    cases (yes h) (yes k) =
        let u : T (lt_z (negsuc (128 - suc a)) (negsuc (128 - suc b))) =
        rw (minus-below a 128 h, minus-below b 128 k) at t in
        omega (arith, ltb→lt (128 - suc b) (128 - suc a) u)
    cases (yes h) (no k) = omega arith
    cases (no h) (yes k) = absurd (rw (up a h, minus-below b 128 k) at t)
    cases (no h) (no k) =
        let u : T (lt_z (pos (a - 128)) (pos (b - 128))) = rw (up a h, up b k) at t in
        omega (arith, ltb→lt (a - 128) (b - 128) u)

rank-128 : (a b : ℕ) → a < b → T (lt_z (pos a -ℤ pos 128) (pos b -ℤ pos 128))
rank-128 a b l = cases (dec_lt a 128) (dec_lt b 128)
  where
    cases : Dec (a < 128) → Dec (b < 128) → T (lt_z (pos a -ℤ pos 128) (pos b -ℤ pos 128))
    cases (yes h) (yes k) =
        rw (minus-below a 128 h, minus-below b 128 k) (lt→ltb (128 - suc b) (128 - suc a) (omega arith))
    cases (yes h) (no k) = rw (minus-below a 128 h, up-128 b (omega arith)) tt
    cases (no h) (yes k) = absurd (omega arith)
    cases (no h) (no k) =
        rw (up-128 a (omega arith), up-128 b (omega arith)) (lt→ltb (a - 128) (b - 128) (omega arith))

module _ (N : Numbers) (few : N.z ≤ 125) where
  -- a rank is the signed value plus 128
  pub signed-rank : (v : ℕ) → v < numbers N → signed N v ≡ pos (rank N v) -ℤ pos 128
  unfolding special
  signed-rank v h = cases (coded N v h)
    where
      cases : Coded N v → signed N v ≡ pos (rank N v) -ℤ pos 128
      cases (laws.from-0 l) = rw (signed-from-0 N v l, rank-from-0 N v l) (sym (from-128 v))
      cases (laws.below-0 k l) =
          let m : v < 2 * N.z + 1 = omega (arith, finites-are N) in
          rw (
            signed-below-0 N v k l,
            rank-below-0 N v k m,
            minus-below v (finites N) l,
            minus-below (128 + v - (2 * N.z + 1)) 128 (omega arith),
          )
          (ap negsuc (omega (arith, finites-are N)))
      cases (laws.least e) = rw (rank-least N v e) (ap (signed N) e ∙ signed-least N)
      cases (laws.greatest e) = rw (rank-greatest N v e) (ap (signed N) e ∙ signed-greatest N)
      cases (laws.no_number e) = rw (rank-none N v (omega arith)) (ap (signed N) e ∙ signed-none N)

  -- ranks are in the order of signed values
  pub rank-order : (x y : ℕ) → x < numbers N → y < numbers N → signed N x <ℤ signed N y → rank N x < rank N y
  rank-order x y hx hy l =
      order-128 (rank N x) (rank N y) (rw (signed-rank x hx, signed-rank y hy) at l.lt)

  -- a value is found again by its rank
  pub unrank : (v : ℕ) → v < numbers N → unranked N (rank N v) ≡ v
  unfolding unranked special
  unrank v h = cases (coded N v h)
    where
      other : (r : ℕ) → (r ≡ 1 → ⊥) → (r ≡ 254 → ⊥) → (r ≡ 255 → ⊥) → unranked N r ≡
          pick (leb 128 r) (r - 128) (r + finites N - 128)
      other r a b c = rw (ne_eqb r 1 a, ne_eqb r 254 b, ne_eqb r 255 c) refl

      cases : Coded N v → unranked N (rank N v) ≡ v
      cases (laws.from-0 l) =
          rw (rank-from-0 N v l)
          (other (128 + v) (λ e. omega arith) (λ e. omega arith) (λ e. omega arith) ∙
          rw (le-leb 128 (128 + v) (omega arith)) (omega arith))
      cases (laws.below-0 k l) =
          let m : v < 2 * N.z + 1 = omega (arith, finites-are N) in
          let r = 128 + v - (2 * N.z + 1) in
          rw (rank-below-0 N v k m)
          (other r (λ e. omega arith) (λ e. omega arith) (λ e. omega arith) ∙
          rw (lt-leb 128 r (omega arith)) (omega (arith, finites-are N)))
      cases (laws.least e) = rw (rank-least N v e) (omega (arith, finites-are N))
      cases (laws.greatest e) = rw (rank-greatest N v e) (omega (arith, finites-are N))
      cases (laws.no_number e) = rw (rank-none N v (omega arith)) (omega (arith, finites-are N))

  -- ranks rise with the places
  climbs : (r s : ℕ) → r < s → s < numbers N → rank N (code_at N r) < rank N (code_at N s)
  climbs r zero l h = absurd (omega arith)
  climbs r (suc s) l h =
      let (a, b) = code-rank N s (omega arith) few in
      let (c, d) = code-rank N (suc s) h few in
      go b c (ℕ_discrete r s) (λ n. climbs r s n (omega arith))
    where
      go : rank N (code_at N s) < bound N (suc s) → bound N (suc s) ≤ rank N (code_at N (suc s)) → Dec (r ≡ s) →
          (r < s → rank N (code_at N r) < rank N (code_at N s)) → rank N (code_at N r) < rank N (code_at N (suc s))
      go b c (yes e) f = rw e (omega arith)
      go b c (no n) f = omega (arith, f (omega arith))

  -- THEOREM: this is the order of values
  pub in_order : InOrder N
  in_order = record {
    value = code-at-below N;
    place = code-at-each N;
    rising = λ r s l h. record { lt = rising r s l h };
    ranked = signed-rank;
    byte = rank-small N few;
    again = unrank;
  }
    where
      rising : (r s : ℕ) → r < s → s < numbers N → T (lt_z (signed N (code_at N r)) (signed N (code_at N s)))
      rising r s l h =
          rw (
            signed-rank (code_at N r) (code-at-below N r (omega arith)),
            signed-rank (code_at N s) (code-at-below N s h),
          )
          (rank-128 (rank N (code_at N r)) (rank N (code_at N s)) (climbs r s l h))
