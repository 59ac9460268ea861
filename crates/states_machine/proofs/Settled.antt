-- Following silent steps changes nothing, and a word is accepted exactly if it is executed to an exit.
use mathlib.Core.Path.{◌≡◌, refl, sym, ap, subst}
use mathlib.Core.Logic.{◌↔◌}
use mathlib.Core.List.{[], ◌∷◌}
use Prim.Native.Nat.{ℕ, zero, suc, ◌≤◌}
use native.Mathlib.Omega.{arith}
use Rattle.language.specs.Move.{Word}
use Rattle.states_machine.specs.Action.{Next, to, out, dead, Action, go, say, hear}
use Rattle.states_machine.specs.Edge.{edge}
use Rattle.states_machine.specs.Settle.{Index, skipped, settle, next, run}
use Rattle.states_machine.proofs.Iff.{◌▸◌}
use Rattle.states_machine.proofs.Execution.{Rest, Reads, After, Reaches, Reaches-dead, ends_at, stepped}
use Rattle.states_machine.proofs.EdgeLaws.{Visible, edge-iff}
use Rattle.states_machine.proofs.Silent.{Stops, Rank, stop, silent, rank-of, rank-bound}

-- an action that is not silent is not followed
skipped-visible : {S A : Type 0} (o : Action S A) (F : Next S A → Next S A) (x : Next S A) → Visible o →
    skipped o F x ≡ x
unfolding skipped Visible
skipped-visible (go n) F x v = absurd v
skipped-visible (say m n) F x v = refl
skipped-visible (hear l k) F x v = refl

-- without a move nothing visible happens
visible-empty : {S A : Type 0} (o : Action S A) (P : Next S A → Rest) → Visible o → After o [] P → ⊥
unfolding Visible After Reads
visible-empty (go n) P v a = v
visible-empty (say m n) P v a = a
visible-empty (hear l k) P v a = a.2

module _ {N : ℕ} {A : Type 0} (step : Index N → Action (Index N) A) where
  -- settling ends at a stop
  skipped-stops : (s : Index N) (o : Action (Index N) A) → step s ≡ o →
      (F : Next (Index N) A → Next (Index N) A) → ((n : Next (Index N) A) → Stops step (F n)) →
      Stops step (skipped o F (to s))
  unfolding skipped Stops Visible
  skipped-stops s (go n) e F h = h n
  skipped-stops s (say m n) e F h = rw e tt
  skipped-stops s (hear l k) e F h = rw e tt

  pub settle-stops : (k : ℕ) (n : Next (Index N) A) → Stops step (settle step k n)
  unfolding settle Stops
  settle-stops zero (to s) = skipped-stops s (step s) refl (λ n. dead) (λ n. tt)
  settle-stops zero (out a) = tt
  settle-stops zero dead = tt
  settle-stops (suc k) (to s) = skipped-stops s (step s) refl (λ n. settle step k n) (λ n. settle-stops k n)
  settle-stops (suc k) (out a) = tt
  settle-stops (suc k) dead = tt

  -- a stop stays
  settle-stopped : (k : ℕ) (n : Next (Index N) A) → Stops step n → settle step k n ≡ n
  unfolding settle Stops
  settle-stopped zero (to s) h = skipped-visible (step s) _ _ h
  settle-stopped zero (out a) h = refl
  settle-stopped zero dead h = refl
  settle-stopped (suc k) (to s) h = skipped-visible (step s) _ _ h
  settle-stopped (suc k) (out a) h = refl
  settle-stopped (suc k) dead h = refl

  -- a silent step is followed
  settle-silent : (k : ℕ) (s : Index N) (n : Next (Index N) A) → step s ≡ go n →
      settle step (suc k) (to s) ≡ settle step k n
  unfolding settle skipped
  settle-silent k s n f = rw f refl

  module _ (w : Word) (P : A → Rest) where
    -- a silent step reads nothing
    silent-iff : (s : Index N) (n : Next (Index N) A) → step s ≡ go n →
        Reaches step (to s) w P ↔ Reaches step n w P
    unfolding After
    silent-iff s n f =
        let both = stepped step s w P in
        let G : Action (Index N) A → Type 0 = λ o. After o w (λ n v. Reaches step n v P) in
        (λ r. subst G f (both.0 r), λ r. both.1 (subst G (sym f) r))

    -- what is reached from n is reached from where n settles, given enough steps
    settle-complete : (k : ℕ) {c : ℕ} {n : Next (Index N) A} → c ≤ k → Rank step c n →
        Reaches step n w P → Reaches step (settle step k n) w P
    settle-complete k {n = n} h (stop g) r = rw (settle-stopped k n g) r
    settle-complete zero h (silent f g) r = absurd (omega arith)
    settle-complete (suc k) h (silent {s = s} {n = n} f g) r =
        rw (settle-silent k s n f) (settle-complete k (omega arith) g ((silent-iff s n f).0 r))

    -- what is reached after following a silent step is reached before
    skipped-sound : (s : Index N) (o : Action (Index N) A) → step s ≡ o →
        (F : Next (Index N) A → Next (Index N) A) →
        ((n : Next (Index N) A) → Reaches step (F n) w P → Reaches step n w P) →
        Reaches step (skipped o F (to s)) w P → Reaches step (to s) w P
    unfolding skipped
    skipped-sound s (go n) e F h r = (silent-iff s n e).1 (h n r)
    skipped-sound s (say m n) e F h r = r
    skipped-sound s (hear l k) e F h r = r

    -- and back
    settle-sound : (k : ℕ) (n : Next (Index N) A) → Reaches step (settle step k n) w P → Reaches step n w P
    unfolding settle
    settle-sound zero (to s) r = skipped-sound s (step s) refl (λ n. dead) (λ n x. absurd (Reaches-dead step w P x)) r
    settle-sound zero (out a) r = r
    settle-sound zero dead r = r
    settle-sound (suc k) (to s) r = skipped-sound s (step s) refl (λ n. settle step k n) (λ n. settle-sound k n) r
    settle-sound (suc k) (out a) r = r
    settle-sound (suc k) dead r = r

    -- silent steps end within as many steps as there are states, or never
    pub settle-iff : (n : Next (Index N) A) → Reaches step n w P ↔ Reaches step (settle step N n) w P
    settle-iff n = (
      λ r.
          let c = rank-of step r.0 n w P r.1 in
          settle-complete N (rank-bound step c.1) c.1 r,
      settle-sound N n,
    )

  -- nothing is accepted from nowhere
  run-dead : (w : Word) (a : A) → run step dead w ≡ out a → ⊥
  unfolding run next
  run-dead [] a e = let z : ◌≡◌ {A = ℕ} 0 1 = cc in omega arith
  run-dead (m ∷ w) a e = run-dead w a e

  -- the automaton accepts what is executed to the exit with nothing left
  pub run-iff : (w : Word) (a : A) (n : Next (Index N) A) → Stops step n →
      Reaches step n w (λ b v. (b ≡ a) × (v ≡ [])) ↔ (run step n w ≡ out a)
  unfolding run next Stops
  run-iff [] a (to s) h = (
    λ r. absurd (visible-empty (step s) _ h ((stepped step s [] _).0 r)),
    λ e. absurd (let z : ◌≡◌ {A = ℕ} 0 1 = cc in omega arith),
  )
  run-iff [] a (out b) h = ends_at step b [] _ ▸ (λ r. ap out r.0, λ e. (cc, refl))
  run-iff [] a dead h =
      (λ r. absurd (Reaches-dead step [] _ r), λ e. absurd (let z : ◌≡◌ {A = ℕ} 0 1 = cc in omega arith))
  run-iff (m ∷ w) a (to s) h =
      let P : A → Rest = λ b v. (b ≡ a) × (v ≡ []) in
      let n = edge (step s) m in
      stepped step s (m ∷ w) P
      ▸ edge-iff (λ n v. Reaches step n v P) (λ v. Reaches-dead step v P) (step s) h m w
      ▸ settle-iff w P n
      ▸ run-iff w a (settle step N n) (settle-stops N n)
  run-iff (m ∷ w) a (out b) h = (
    λ r. absurd (let e = ((ends_at step b (m ∷ w) _).0 r).1 in let z : ◌≡◌ {A = ℕ} 0 1 = cc in omega arith),
    λ e. absurd (run-dead w a e),
  )
  run-iff (m ∷ w) a dead h = (λ r. absurd (Reaches-dead step (m ∷ w) _ r), λ e. absurd (run-dead w a e))
