-- Silent steps of a machine, one by one: where they stop, settling stops there; where they go on for ever, settling
-- is dead.
use mathlib.Core.Path.{◌≡◌, refl, sym, ap, ◌∙◌}
use mathlib.Core.Logic.{◌⊎◌, inl, inr}
use Prim.Native.Nat.{ℕ, zero, suc, ◌+◌, ◌-◌, ◌≤◌}
use native.Mathlib.Omega.{arith}
use Rattle.states_machine.specs.Action.{Next, to, out, dead, Action, go, say, hear}
use Rattle.states_machine.specs.Settle.{Index, skipped, settle}
use Rattle.states_machine.proofs.EdgeLaws.{Visible}
use Rattle.states_machine.proofs.Silent.{Stops, Rank, stop, silent, rank-bound}

module _ {K : ℕ} {A : Type 0} (step : Index K → Action (Index K) A) where
  -- one silent step; a stop stays
  unfoldable pub advance : Next (Index K) A → Next (Index K) A
  advance (to s) = skipped (step s) (λ x. x) (to s)
  advance (out a) = out a
  advance dead = dead

  unfoldable pub advances : ℕ → Next (Index K) A → Next (Index K) A
  advances zero x = x
  advances (suc k) x = advances k (advance x)

  pub advances-last : (k : ℕ) (x : Next (Index K) A) → advances (suc k) x ≡ advance (advances k x)
  unfolding advances
  advances-last zero x = refl
  advances-last (suc k) x = advances-last k (advance x)

  advances-sum : (c d : ℕ) (x : Next (Index K) A) → advances (c + d) x ≡ advances d (advances c x)
  unfolding advances
  advances-sum zero d x = ap (λ (k : ℕ). advances k x) {x = zero + d} {y = d} (omega arith)
  advances-sum (suc c) d x =
      ap (λ (k : ℕ). advances k x) {x = suc c + d} {y = suc (c + d)} (omega arith) ∙ advances-sum c d (advance x)

  -- by what a state does
  pub data View : Next (Index K) A → Type 0 where
    stops : {x : Next (Index K) A} → Stops step x → View x
    goes : {s : Index K} {x : Next (Index K) A} → step s ≡ go x → View (to s)

  view-at : (s : Index K) (o : Action (Index K) A) → step s ≡ o → View (to s)
  unfolding Stops Visible
  view-at s (go x) e = goes e
  view-at s (say m x) e = stops {x = to s} (rw e tt)
  view-at s (hear l k) e = stops {x = to s} (rw e tt)

  pub view : (x : Next (Index K) A) → View x
  unfolding Stops
  view (to s) = view-at s (step s) refl
  view (out a) = stops {x = out a} tt
  view dead = stops {x = dead} tt

  skip-visible : (o : Action (Index K) A) (F : Next (Index K) A → Next (Index K) A) (x : Next (Index K) A) → Visible o
      →
      skipped o F x ≡ x
  unfolding skipped Visible
  skip-visible (go y) F x v = absurd v
  skip-visible (say m y) F x v = refl
  skip-visible (hear l k) F x v = refl

  pub advance-stop : (x : Next (Index K) A) → Stops step x → advance x ≡ x
  unfolding advance Stops
  advance-stop (to s) h = skip-visible (step s) _ _ h
  advance-stop (out a) h = refl
  advance-stop dead h = refl

  pub advance-go : {s : Index K} {x : Next (Index K) A} → step s ≡ go x → advance (to s) ≡ x
  unfolding advance skipped
  advance-go e = rw e

  stays : (j : ℕ) (x : Next (Index K) A) → Stops step x → advances j x ≡ x
  unfolding advances
  stays zero x h = refl
  stays (suc j) x h = rw (advance-stop x h) (stays j x h)

  pub go-not-stop : {s : Index K} {x : Next (Index K) A} → step s ≡ go x → Stops step (to s) → ⊥
  unfolding Stops Visible
  go-not-stop e h = rw e at h

  -- within k steps there is a stop, or the steps go on
  abbrev Going : ℕ → Next (Index K) A → Type 0
  Going k x = (j : ℕ) → j ≤ k → Stops step (advances j x) → ⊥

  abbrev Either : ℕ → Next (Index K) A → Type 0
  Either k x = ((c : ℕ) × (c ≤ k) × Rank step c x) ⊎ Going k x

  none_left : (x : Next (Index K) A) → View x → Either 0 x
  unfolding advances
  none_left x (stops h) = inl (0, omega arith, stop h)
  none_left x (goes {s = s} e) = inr at-0
    where
      at-0 : Going 0 (to s)
      at-0 zero l h = go-not-stop e h
      at-0 (suc j) l h = absurd (omega arith)

  some_left : (k : ℕ) → ((y : Next (Index K) A) → Either k y) → (x : Next (Index K) A) → View x → Either (suc k) x
  unfolding advances
  some_left k rec x (stops h) = inl (0, omega arith, stop h)
  some_left k rec x (goes {s = s} {x = y} e) = on (rec y)
    where
      on : Either k y → Either (suc k) (to s)
      on (inl (c, l, r)) = inl (suc c, omega arith, silent e r)
      on (inr g) = inr more
        where
          more : Going (suc k) (to s)
          more zero l h = go-not-stop e h
          more (suc j) l h = g j (omega arith) (rw (advance-go e) at h)

  ranked-or : (k : ℕ) (x : Next (Index K) A) → Either k x
  ranked-or zero x = none_left x (view x)
  ranked-or (suc k) x = let rec = ranked-or k in some_left k rec x (view x)

  rank-stops : {c : ℕ} {x : Next (Index K) A} → Rank step c x → Stops step (advances c x)
  unfolding advances
  rank-stops (stop h) = h
  rank-stops (silent e r) = rw (advance-go e) (rank-stops r)

  pub settle-stop : (k : ℕ) (x : Next (Index K) A) → Stops step x → settle step k x ≡ x
  unfolding settle Stops
  settle-stop zero (to s) h = skip-visible (step s) _ _ h
  settle-stop zero (out a) h = refl
  settle-stop zero dead h = refl
  settle-stop (suc k) (to s) h = skip-visible (step s) _ _ h
  settle-stop (suc k) (out a) h = refl
  settle-stop (suc k) dead h = refl

  pub settle-dead : (k : ℕ) → settle step k dead ≡ dead
  unfolding settle
  settle-dead zero = refl
  settle-dead (suc k) = refl

  rank-settles : {c : ℕ} {x : Next (Index K) A} → Rank step c x → (k : ℕ) → c ≤ k → settle step k x ≡ advances c x
  unfolding advances settle skipped
  rank-settles {x = x} (stop h) k l = settle-stop k x h
  rank-settles (silent e r) zero l = absurd (omega arith)
  rank-settles (silent e r) (suc k) l = rw (advance-go e) (rw e (rank-settles r k (omega arith)))

  going-none : (x : Next (Index K) A) → View x → Going 0 x → settle step 0 x ≡ dead
  unfolding settle skipped advances
  going-none x (stops h) g = absurd (g 0 (omega arith) h)
  going-none x (goes e) g = rw e

  going_more : (k : ℕ) → ((y : Next (Index K) A) → Going k y → settle step k y ≡ dead) → (x : Next (Index K) A) → View
      x →
      Going (suc k) x → settle step (suc k) x ≡ dead
  unfolding settle skipped advances
  going_more k rec x (stops h) g = absurd (g 0 (omega arith) h)
  going_more k rec x (goes {x = y} e) g =
      rw e (rec y (λ j l h. g (suc j) (omega arith) (rw (advance-go e) h)))

  going-settles : (k : ℕ) (x : Next (Index K) A) → Going k x → settle step k x ≡ dead
  going-settles zero x g = going-none x (view x) g
  going-settles (suc k) x g = let rec = going-settles k in going_more k rec x (view x) g

  -- THEOREM: after at least as many steps as there are states, a stop is where settling ends
  pub stopped : (m : ℕ) (x : Next (Index K) A) → K ≤ m → Stops step (advances m x) → advances m x ≡ settle step K x
  stopped m x l h = go_on (ranked-or m x)
    where
      go_on : ((c : ℕ) × (c ≤ m) × Rank step c x) ⊎ Going m x → advances m x ≡ settle step K x
      go_on (inl (c, k, r)) =
          let b = rank-bound step r in
          let e : c + (m - c) ≡ m = omega arith in
          ap (λ (j : ℕ). advances j x) (sym e) ∙ advances-sum c (m - c) x ∙ stays (m - c) (advances c x)
          (rank-stops r)
          ∙ sym (rank-settles r K b)
      go_on (inr g) = absurd (g m (omega arith) h)

  -- THEOREM: where there is no stop by then, settling is dead
  pub unstopped : (m : ℕ) (x : Next (Index K) A) → K ≤ m → (Stops step (advances m x) → ⊥) → settle step K x ≡ dead
  unstopped m x l h = go_on (ranked-or K x)
    where
      go_on : ((c : ℕ) × (c ≤ K) × Rank step c x) ⊎ Going K x → settle step K x ≡ dead
      go_on (inl (c, k, r)) =
          let e : c + (m - c) ≡ m = omega arith in
          let same = ap (λ (j : ℕ). advances j x) (sym e) ∙ advances-sum c (m - c) x
          ∙ stays (m - c) (advances c x) (rank-stops r) in
          absurd (h (rw same (rank-stops r)))
      go_on (inr g) = going-settles K x g
