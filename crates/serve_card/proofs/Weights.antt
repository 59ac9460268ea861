-- Weights of different numbers below a bound, and that numbered classes are no more than the states.
use mathlib.Core.Bool.{cond}
use mathlib.Core.Logic.{◌≢◌}
use mathlib.Core.Path.{◌≡◌, ap, refl}
use Prim.Native.Nat.{◌+◌, ◌-◌, ◌<◌, ◌≤◌, suc, zero, ℕ}
use native.Mathlib.Decide.{ℕ_discrete}
use native.Mathlib.Omega.{arith}
use lib.Dec.{eqb}
use borrow.Author.Tests.{eq-eqb, ne_eqb}
use Rattle.dfa_smallest.specs.Numbered.{Numbered}
use Rattle.dfa_smallest.proofs.Pigeons.{pigeons}

-- w 0 and so on up to w (n - 1), together
unfoldable pub sum : (ℕ → ℕ) → ℕ → ℕ
sum w zero = 0
sum w (suc n) = w n + sum w n

unfoldable except : (ℕ → ℕ) → ℕ → ℕ → ℕ
except w a p = cond (eqb p a) 0 (w p)

except-here : (w : ℕ → ℕ) (a p : ℕ) → p ≡ a → except w a p ≡ 0
unfolding except
except-here w a p e = rw (eq-eqb p a e)

except-other : (w : ℕ → ℕ) (a p : ℕ) → p ≢ a → except w a p ≡ w p
unfolding except
except-other w a p e = rw (ne_eqb p a e)

sum_same : (u v : ℕ → ℕ) (n : ℕ) → ((k : ℕ) → k < n → u k ≡ v k) → sum u n ≡ sum v n
unfolding sum
sum_same u v zero e = refl
sum_same u v (suc n) e =
    let h = sum_same u v n (λ k l. e k (omega arith)) in
    omega (arith, h, e n (omega arith))

pub sum-least : (u v : ℕ → ℕ) (n : ℕ) → ((k : ℕ) → k < n → u k ≤ v k) → sum u n ≤ sum v n
unfolding sum
sum-least u v zero e = omega arith
sum-least u v (suc n) e =
    let h = sum-least u v n (λ k l. e k (omega arith)) in
    omega (arith, h, e n (omega arith))

sum-except : (w : ℕ → ℕ) (a n : ℕ) → a < n → sum w n ≡ sum (except w a) n + w a
unfolding sum
sum-except w a zero h = absurd (omega arith)
sum-except w a (suc n) h = go (ℕ_discrete n a) (λ l. sum-except w a n l)
  where
    go : Dec (n ≡ a) → (a < n → sum w n ≡ sum (except w a) n + w a)
        → w n + sum w n ≡ except w a n + sum (except w a) n + w a
    go (yes e) ih =
        let s : sum (except w a) n ≡ sum w n =
        sum_same (except w a) w n (λ k l. except-other w a k (λ q. omega (arith, q, e, l))) in
        omega (arith, s, except-here w a n e, ap w e)
    go (no e) ih =
        let i = ih (omega arith) in
        omega (arith, i, except-other w a n e)

-- different numbers below n have together at most the weight of all
pub weights : (c n : ℕ) (f : ℕ → ℕ) → ((i : ℕ) → i < c → f i < n) → ((i j : ℕ) → i < c → j < c → f i ≡ f j → i ≡ j)
    → (w : ℕ → ℕ) → sum (λ k. w (f k)) c ≤ sum w n
unfolding sum
weights zero n f low one w = omega arith
weights (suc c) n f low one w =
    let a = f c in
    let h = weights c n f (λ i l. low i (omega arith)) (λ i j l m e. one i j (omega arith) (omega arith) e)
    (except w a) in
    let s : sum (λ k. except w a (f k)) c ≡ sum (λ k. w (f k)) c =
    sum_same (λ k. except w a (f k)) (λ k. w (f k)) c (λ k l. except-other w a (f k)
    (λ e. omega (arith, one k c (omega arith) (omega arith) e, l))) in
    omega (arith, h, s, sum-except w a n (low c (omega arith)))

pub sum_first : (w : ℕ → ℕ) (n : ℕ) → sum w (suc n) ≡ w 0 + sum (λ k. w (suc k)) n
unfolding sum
sum_first w zero = omega arith
sum_first w (suc n) = let h = sum_first w n in omega (arith, h)

-- classes that are numbered, the last state dead
module _ (δ : ℕ → ℕ → ℕ) (n : ℕ) (cls : ℕ → ℕ) (start count : ℕ) (state number : ℕ → ℕ)
    (M : Numbered δ n (n - 1) cls start count state number) where
  state-one : (i j : ℕ) → i < count → j < count → state i ≡ state j → i ≡ j
  state-one i j h k e =
      omega (arith, M.numbers i h, M.numbers j k, ap (λ p. number (cls p)) e)

  state-low : (k : ℕ) → k < count → state k < n - 1
  state-low k h = go (ℕ_discrete (state k) (n - 1))
    where
      go : Dec (state k ≡ n - 1) → state k < n - 1
      go (yes e) = absurd (M.live k h (ap cls e))
      go (no e) = omega (arith, M.low k h)

  -- THEOREM: no more positions than states that are not dead
  pub few-positions : count ≤ n - 1
  few-positions = pigeons (n - 1) count state state-low state-one
