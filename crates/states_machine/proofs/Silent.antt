-- Silent steps: of N states at most N follow one another before a move, an exit or nothing, unless they loop.
use mathlib.Core.Path.{◌≡◌, refl, sym, ap, subst, ◌∙◌}
use mathlib.Core.HLevel.{Σ_prop_path}
use mathlib.Core.List.{List, [], ◌∷◌}
use Prim.Native.Nat.{ℕ, zero, suc, ◌≤◌, ◌<◌}
use native.Mathlib.Bridge.{le_prop}
use native.Mathlib.Omega.{arith}
use lib.ListN.{length}
use Rattle.language.specs.Move.{Word}
use Rattle.states_machine.specs.Action.{Next, to, out, dead, Action, go, say, hear}
use Rattle.states_machine.specs.Settle.{Index}
use Rattle.states_machine.proofs.Execution.{Rest, After, Case, Runs, Exec}
use Rattle.states_machine.proofs.EdgeLaws.{Visible}
use Rattle.states_machine.proofs.Pigeonhole.{All, All-map, Distinct, pigeonhole}

module _ {N : ℕ} {A : Type 0} (step : Index N → Action (Index N) A) where
  -- a state that makes or hears a move, an exit, or nothing
  unfoldable pub Stops : Next (Index N) A → Type 0
  Stops (to s) = Visible (step s)
  Stops (out a) = Unit
  Stops dead = Unit

  -- exactly c silent steps, then a stop
  pub data Rank : ℕ → Next (Index N) A → Type 0 where
    stop : {n : Next (Index N) A} → Stops n → Rank zero n
    silent : {c : ℕ} {s : Index N} {n : Next (Index N) A} → step s ≡ go n → Rank c n → Rank (suc c) (to s)

  -- what reaches an exit has a rank
  rank-next : (k : ℕ) (w : Word) (P : A → Rest) → ((s : Index N) → Runs step k s w P → (c : ℕ) × Rank c (to s)) →
      (n : Next (Index N) A) → Exec step k n w P → (c : ℕ) × Rank c n
  unfolding Exec Case Stops
  rank-next k w P rec (to s) e = rec s e
  rank-next k w P rec (out a) e = (0, stop tt)
  rank-next k w P rec dead e = absurd e

  -- from a state, by what it does
  rank-at : (k : ℕ) (w : Word) (P : A → Rest) → ((s : Index N) → Runs step k s w P → (c : ℕ) × Rank c (to s)) →
      (s : Index N) (o : Action (Index N) A) → step s ≡ o → After o w (λ n v. Exec step k n v P) → (c : ℕ) × Rank c (to s)
  unfolding After Stops Visible
  rank-at k w P rec s (go n) f e = let r = rank-next k w P rec n e in (suc r.0, silent f r.1)
  rank-at k w P rec s (say m n) f e = (0, stop {n = to s} (rw f tt))
  rank-at k w P rec s (hear l h) f e = (0, stop {n = to s} (rw f tt))

  -- from a state
  rank-runs : (k : ℕ) (w : Word) (P : A → Rest) (s : Index N) → Runs step k s w P → (c : ℕ) × Rank c (to s)
  unfolding Runs Exec
  rank-runs zero w P s e = absurd e
  rank-runs (suc k) w P s e = rank-at k w P (λ t x. rank-runs k w P t x) s (step s) refl e

  -- from wherever a transition leads
  pub rank-of : (k : ℕ) (n : Next (Index N) A) (w : Word) (P : A → Rest) → Exec step k n w P → (c : ℕ) × Rank c n
  rank-of k n w P e = rank-next k w P (rank-runs k w P) n e

  -- and only one: a stop makes no silent step
  stops-silent : (n x : Next (Index N) A) (s : Index N) → n ≡ to s → step s ≡ go x → Stops n → ⊥
  unfolding Stops Visible
  stops-silent n x s e f h = rw (e, f) at h

  -- two ranks are the same
  rank-unique : {c d : ℕ} {n m : Next (Index N) A} → n ≡ m → Rank c n → Rank d m → c ≡ d
  rank-unique e (stop h) (stop k) = refl
  rank-unique {n = n} e (stop h) (silent {s = s} {n = x} f r) = absurd (stops-silent n x s e f h)
  rank-unique {m = m} e (silent {s = s} {n = x} f r) (stop h) = absurd (stops-silent m x s (sym e) f h)
  rank-unique e (silent {n = x} f r) (silent {n = y} g t) = let same : x ≡ y = cc in ap suc (rank-unique same r t)

  -- the states on the way
  chain : {c : ℕ} {n : Next (Index N) A} → Rank c n → List ℕ
  chain (stop h) = []
  chain (silent {s = s} f r) = s.0 ∷ chain r

  -- the state with the number y has a rank of at most c
  abbrev On : ℕ → ℕ → Type 0
  On c y = (t : Index N) × (t.0 ≡ y) × (d : ℕ) × (d ≤ c) × Rank d (to t)

  -- there are c of them
  chain_length : {c : ℕ} {n : Next (Index N) A} (r : Rank c n) → length (chain r) ≡ c
  unfolding chain
  chain_length (stop h) = refl
  chain_length (silent f r) = ap suc (chain_length r)

  -- each has a rank of at most c
  chain-on : {c : ℕ} {n : Next (Index N) A} (r : Rank c n) → All (On c) (chain r)
  unfolding chain All
  chain-on (stop h) = tt
  chain-on (silent {c} {s} f r) = (
    (s, refl, suc c, omega arith, silent f r),
    All-map (λ y o. (o.0, o.1, o.2, omega arith, o.4)) (chain r) (chain-on r),
  )

  -- no state comes twice: it would have two ranks
  apart : (c : ℕ) (s : Index N) → Rank (suc c) (to s) → (y : ℕ) → On c y → s.0 ≡ y → ⊥
  apart c s r y (t, et, d, h, x) e =
      let same : s ≡ t = Σ_prop_path (λ k. le_prop) (e ∙ sym et) in
      let q : suc c ≡ d = rank-unique (ap to same) r x in
      omega arith

  -- so they are distinct
  chain-distinct : {c : ℕ} {n : Next (Index N) A} (r : Rank c n) → Distinct (chain r)
  unfolding chain Distinct
  chain-distinct (stop h) = tt
  chain-distinct (silent {c} {s} f r) =
      (All-map (λ y o. apart c s (silent f r) y o) (chain r) (chain-on r), chain-distinct r)

  -- and no more than there are states
  pub rank-bound : {c : ℕ} {n : Next (Index N) A} → Rank c n → c ≤ N
  rank-bound r =
      let below = All-map (λ y o. subst (λ k. k < N) o.1 o.0.1) (chain r) (chain-on r) in
      omega (arith, chain_length r, pigeonhole N (chain r) (chain-distinct r) below)
