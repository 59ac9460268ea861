-- A walk on the silent steps that gives its states another end: the loop of replace, and its measure. Assumes nothing.
use mathlib.Core.Bool.{cond}
use mathlib.Core.List.{List}
use mathlib.Core.Logic.{◌≢◌, ◌⊎◌, inl, inr}
use mathlib.Core.Path.{◌∙◌, ◌≡◌, ap, refl, sym}
use Prim.Native.Nat.{◌+◌, ◌-◌, ◌<◌, ◌≤◌, suc, zero, ℕ}
use native.Mathlib.Decide.{ℕ_discrete}
use native.Mathlib.Omega.{arith}
use lib.Dec.{eqb}
use lib.ListN.{get_or, length, set}
use lib.Seq.{get_or-set_other, get_or-set_same}
use borrow.Author.Tests.{eq-eqb, ne_eqb}
use Rattle.dfa_silent.specs.Silent.{moved, stepped}
use Rattle.dfa.specs.Frame.{SameBelow}
use Rattle.dfa_silent.specs.inner.Settle.{Among, Only, Replaced, Replacing, Steps, differs, unlike}
use Rattle.dfa_silent.proofs.laws.Only.{only_none, only_set}
use Rattle.dfa_silent.proofs.laws.Silent.{stepped-lt}

-- each turn has one state less of another end than the new one
module _ (n : ℕ) (ws : List ℕ) (x v : ℕ) (room : n + x < length ws) where
  stored : (k : ℕ) → k ≡ x → differs (get_or (set ws (n + x) v) (n + k) 0) v ≡ 0
  stored k q = rw (q, get_or-set_same ws (n + x) v 0 room, eq-eqb v v refl)

  other : (k : ℕ) → k ≢ x
      → differs (get_or (set ws (n + x) v) (n + k) 0) v ≡ differs (get_or ws (n + k) 0) v
  other k q = ap (λ a. differs a v) (get_or-set_other ws (n + x) (n + k) v 0 (λ e. q (omega arith)))

  unlike-le : (k : ℕ) → unlike (set ws (n + x) v) n v k ≤ unlike ws n v k
  unfolding unlike
  unlike-le zero = omega arith
  unlike-le (suc k) = go (unlike-le k) (ℕ_discrete k x)
    where
      go : unlike (set ws (n + x) v) n v k ≤ unlike ws n v k → Dec (k ≡ x)
          → unlike (set ws (n + x) v) n v (suc k) ≤ unlike ws n v (suc k)
      go ih (yes q) = omega (arith, stored k q)
      go ih (no q) = omega (arith, other k q)

  unlike-less : get_or ws (n + x) 0 ≢ v → (k : ℕ) → x < k → unlike (set ws (n + x) v) n v k < unlike ws n v k
  unfolding unlike
  unlike-less ne zero h = absurd (omega arith)
  unlike-less ne (suc k) h = go (unlike-less ne k) (ℕ_discrete k x)
    where
      go : (x < k → unlike (set ws (n + x) v) n v k < unlike ws n v k) → Dec (k ≡ x)
          → unlike (set ws (n + x) v) n v (suc k) < unlike ws n v (suc k)
      go ih (yes q) = omega (arith, stored k q, unlike-le k, was)
        where
          was : differs (get_or ws (n + k) 0) v ≡ 1
          was = rw (q, ne_eqb (get_or ws (n + x) 0) v ne)
      go ih (no q) = omega (arith, other k q, ih (omega arith))

pub replace-first : (n p old new : ℕ) (ws : List ℕ) → p < n → Replacing n p old new p ws ws
unfolding moved
replace-first n p old new ws h = record {
  only = only_none n ws;
  below = h;
  from = λ S e. record {
    steps = 0;
    here = refl;
    was = λ i l. absurd (omega arith);
    got = λ i l. absurd (omega arith);
    apart = λ i j u l. absurd (omega arith);
    each = λ q. inl refl;
  };
}

module _ (n p old new x : ℕ) (ws₀ ws ws' : List ℕ) (st : Steps n ws₀) (ne : old ≢ new)
    (l : Replacing n p old new x ws₀ ws) (had : get_or ws (n + x) 0 ≡ old) (e : ws' ≡ set ws (n + x) new) where
  room : n + x < length ws
  room = omega (arith, st.room, l.only.len, l.below)

  pub replace-only : Only n ws₀ ws'
  replace-only = rw e (only_set n x new ws₀ ws l.below l.only)

  same : get_or ws' (n + x) 0 ≡ new
  same = ap (λ v. get_or v (n + x) 0) e ∙ get_or-set_same ws (n + x) new 0 room

  others : (q : ℕ) → q ≢ x → get_or ws' (n + q) 0 ≡ get_or ws (n + q) 0
  others q d = ap (λ v. get_or v (n + q) 0) e ∙ get_or-set_other ws (n + x) (n + q) new 0 (λ z. d (omega arith))

  step : stepped ws' x ≡ stepped ws₀ x
  step = ap (λ z. cond (eqb z 0) x (z - 1)) (replace-only.low x l.below)

  pub replace-less : unlike ws' n new n < unlike ws n new n
  replace-less = rw e (unlike-less n ws x new room (λ z. ne (sym had ∙ z)) n l.below)

  replace-lt : stepped ws' x < n
  replace-lt = rw step (stepped-lt n ws₀ x st.small l.below)

  module _ (S : List ℕ) (agree : SameBelow n S ws₀) where
    d : Replaced S n p old new x ws₀ ws
    d = l.from S agree

    more : Replaced S n p old new (stepped ws' x) ws₀ ws'
    unfolding moved
    more = record {
      steps = suc d.steps;
      here = step ∙ ap (λ z. cond (eqb z 0) x (z - 1)) (agree x l.below) ∙ ap (stepped S) d.here;
      was = λ i u. was i u (ℕ_discrete i d.steps);
      got = λ i u. got i u (ℕ_discrete (moved S i p) x);
      apart = λ i j u v. apart i j u v (ℕ_discrete j d.steps);
      each = λ q. each q (ℕ_discrete q x);
    }
      where
        -- the state at x had the old end from the beginning
        first : (get_or ws (n + x) 0 ≡ get_or ws₀ (n + x) 0) ⊎ Among S p d.steps x → get_or ws₀ (n + x) 0 ≡ old
        first (inl k) = sym k ∙ had
        first (inr a) = absurd (ne (sym had ∙ ap (λ z. get_or ws (n + z) 0) a.is ∙ d.got a.after a.before))

        was : (i : ℕ) → i < suc d.steps → Dec (i ≡ d.steps) → get_or ws₀ (n + moved S i p) 0 ≡ old
        was i u (yes q) = ap (λ k. get_or ws₀ (n + moved S k p) 0) q ∙ ap (λ z. get_or ws₀ (n + z) 0) (sym d.here)
            ∙ first (d.each x)
        was i u (no q) = d.was i (omega arith)

        got : (i : ℕ) → i < suc d.steps → Dec (moved S i p ≡ x) → get_or ws' (n + moved S i p) 0 ≡ new
        got i u (yes q) = ap (λ z. get_or ws' (n + z) 0) q ∙ same
        got i u (no q) = others (moved S i p) q ∙ d.got i (before (ℕ_discrete i d.steps))
          where
            before : Dec (i ≡ d.steps) → i < d.steps
            before (yes z) = absurd (q (ap (λ k. moved S k p) z ∙ sym d.here))
            before (no z) = omega arith

        apart : (i j : ℕ) → i < j → j < suc d.steps → Dec (j ≡ d.steps) → moved S i p ≢ moved S j p
        apart i j u v (no q) z = d.apart i j u (omega arith) z
        apart i j u v (yes q) z = ne (sym had
            ∙ ap (λ k. get_or ws (n + k) 0) (d.here ∙ ap (λ k. moved S k p) (sym q) ∙ sym z) ∙ d.got i (omega arith))

        each : (q : ℕ) → Dec (q ≡ x) → (get_or ws' (n + q) 0 ≡ get_or ws₀ (n + q) 0) ⊎ Among S p (suc d.steps) q
        each q (yes z) = inr (record { after = d.steps; before = omega arith; is = z ∙ d.here })
        each q (no z) = pick (d.each q)
          where
            pick : (get_or ws (n + q) 0 ≡ get_or ws₀ (n + q) 0) ⊎ Among S p d.steps q
                → (get_or ws' (n + q) 0 ≡ get_or ws₀ (n + q) 0) ⊎ Among S p (suc d.steps) q
            pick (inl k) = inl (others q z ∙ k)
            pick (inr a) = inr (record { after = a.after; before = omega (arith, a.before); is = a.is })

  pub replace-again : (y : ℕ) → y ≡ stepped ws' x → Replacing n p old new y ws₀ ws'
  replace-again y ey = rw ey (record { only = replace-only; below = replace-lt; from = more })
