-- A machine inside another: an execution of the whole from a state of the part is an execution of the part and then the
-- rest, which is shorter; and back.
use mathlib.Core.Path.{◌≡◌, refl}
use mathlib.Core.Logic.{◌↔◌}
use Prim.Native.Nat.{ℕ, zero, suc}
use Rattle.language.specs.Move.{Word}
use Rattle.states_machine.specs.Action.{Next, to, out, dead, Action, go, say, hear, map_next, map_action}
use Rattle.states_machine.proofs.Execution.{Rest, After, Case, Runs, Exec, Reaches, After-map, Reaches-map}
use Rattle.states_machine.proofs.Execution.{Exec-more, step-on, ends_at}

-- one step of a part, seen in the whole
After-mapAction : {T B S A : Type 0} (f : T → S) (h : B → Next S A) (o : Action T B) (w : Word) (P : Next S A → Rest) →
    After (map_action f h o) w P ≡ After o w (λ n. P (map_next f h n))
unfolding After map_action
After-mapAction f h (go n) w P = refl
After-mapAction f h (say m n) w P = refl
After-mapAction f h (hear l k) w P = refl

-- from wherever a transition of the part leads, given the same from its states
module _ {T B S A : Type 0} (part : T → Action T B) (whole : S → Action S A) (f : T → S) (h : B → Next S A) where
  -- from the whole to the part
  split-next : (k : ℕ) (P : A → Rest) →
      ((t : T) (w : Word) → Exec whole k (to (f t)) w P → Reaches part (to t) w (λ b v. Exec whole k (h b) v P)) →
      (n : Next T B) (w : Word) → Exec whole k (map_next f h n) w P → Reaches part n w (λ b v. Exec whole k (h b) v P)
  unfolding Exec map_next
  split-next k P rec (to t) w e = rec t w e
  split-next k P rec (out b) w e = (0, e)
  split-next k P rec dead w e = absurd e

  -- the same where the rest may be one step longer
  split-longer : (k : ℕ) (P : A → Rest) →
      ((t : T) (w : Word) → Exec whole (suc k) (to (f t)) w P → Reaches part (to t) w (λ b v. Exec whole k (h b) v P)) →
      (n : Next T B) (w : Word) → Exec whole (suc k) (map_next f h n) w P →
      Reaches part n w (λ b v. Exec whole (suc k) (h b) v P)
  split-longer k P rec =
      split-next (suc k) P (λ s v x. Reaches-map part (to s) v (λ b u. Exec-more whole k (h b) u P) (rec s v x))

-- and back
join-next : {T B S A : Type 0} (whole : S → Action S A) (f : T → S) (h : B → Next S A) (P : A → Rest) (F : T → Rest) →
    ((t : T) (w : Word) → F t w → Reaches whole (to (f t)) w P) → (n : Next T B) (w : Word) →
    Case n (λ t. F t w) (λ b. Reaches whole (h b) w P) → Reaches whole (map_next f h n) w P
unfolding Case map_next
join-next whole f h P F rec (to t) w e = rec t w e
join-next whole f h P F rec (out b) w e = e
join-next whole f h P F rec dead w e = absurd e

-- the part stands in the whole: its states through f, its exits through h
module _ {T B S A : Type 0} (part : T → Action T B) (whole : S → Action S A) (f : T → S) (h : B → Next S A)
    (embeds : (t : T) → whole (f t) ≡ map_action f h (part t)) where
  -- one step
  down : (t : T) (w : Word) (Q : Next S A → Rest) → After (whole (f t)) w Q → After (part t) w (λ n. Q (map_next f h n))
  down t w Q e = rw (← After-mapAction f h (part t) w Q, ← embeds t) e

  -- and back
  up : (t : T) (w : Word) (Q : Next S A → Rest) → After (part t) w (λ n. Q (map_next f h n)) → After (whole (f t)) w Q
  up t w Q e = rw (embeds t, After-mapAction f h (part t) w Q) e

  -- an execution of the whole is one of the part and then the rest, which is shorter
  pub split : (k : ℕ) (t : T) (w : Word) (P : A → Rest) → Exec whole (suc k) (to (f t)) w P →
      Reaches part (to t) w (λ b v. Exec whole k (h b) v P)
  unfolding Exec Runs
  split zero t w P e =
      let next = split-next part whole f h zero P (λ s v x. absurd x) in
      step-on part t w _ (After-map (part t) w next (down t w _ e))
  split (suc k) t w P e =
      let next = split-longer part whole f h k P (λ s v x. split k s v P x) in
      step-on part t w _ (After-map (part t) w next (down t w _ e))

  -- the same from wherever a transition leads, where the rest need not be shorter
  pub split-any : (k : ℕ) (n : Next T B) (w : Word) (P : A → Rest) → Exec whole k (map_next f h n) w P →
      Reaches part n w (λ b v. Exec whole k (h b) v P)
  unfolding Exec Runs
  split-any zero n w P e = split-next part whole f h zero P (λ s v x. absurd x) n w e
  split-any (suc k) n w P e = split-longer part whole f h k P (λ s v x. split k s v P x) n w e

  -- an execution of the part, then one of the whole, is one of the whole
  join_runs : (k : ℕ) (P : A → Rest) (t : T) (w : Word) → Runs part k t w (λ b v. Reaches whole (h b) v P) →
      Reaches whole (to (f t)) w P
  unfolding Runs
  join_runs zero P t w e = absurd e
  join_runs (suc k) P t w e =
      let next = join-next whole f h P (λ s v. Runs part k s v _) (λ s v x. join_runs k P s v x) in
      step-on whole (f t) w P (up t w _ (After-map (part t) w next e))

  -- executions of the whole are executions of the part and then of the whole, from wherever a transition leads
  pub parts-any : (n : Next T B) (w : Word) (P : A → Rest) →
      Reaches whole (map_next f h n) w P ↔ Reaches part n w (λ b v. Reaches whole (h b) v P)
  unfolding Exec
  parts-any n w P = (
    λ r. Reaches-map part n w (λ b v x. (r.0, x)) (split-any r.0 n w P r.1),
    λ r. join-next whole f h P _ (join_runs r.0 P) n w r.1,
  )

  -- and from a state
  pub parts : (t : T) (w : Word) (P : A → Rest) →
      Reaches whole (to (f t)) w P ↔ Reaches part (to t) w (λ b v. Reaches whole (h b) v P)
  unfolding map_next
  parts t w P = parts-any (to t) w P

-- a part whose exits are the whole's
module _ {T B S A : Type 0} (part : T → Action T B) (whole : S → Action S A) (f : T → S) (g : B → A)
    (embeds : (t : T) → whole (f t) ≡ map_action f (λ b. out (g b)) (part t)) where
  -- executions of the whole are those of the part, from wherever a transition leads
  pub ends-any : (n : Next T B) (w : Word) (P : A → Rest) →
      Reaches whole (map_next f (λ b. out (g b)) n) w P ↔ Reaches part n w (λ b. P (g b))
  ends-any n w P =
      let both = parts-any part whole f (λ b. out (g b)) embeds n w P in (
        λ r. Reaches-map part n w (λ b v. (ends_at whole (g b) v P).0) (both.0 r),
        λ r. both.1 (Reaches-map part n w (λ b v. (ends_at whole (g b) v P).1) r),
      )

  -- and from a state
  pub ends : (t : T) (w : Word) (P : A → Rest) → Reaches whole (to (f t)) w P ↔ Reaches part (to t) w (λ b. P (g b))
  unfolding map_next
  ends t w P = ends-any (to t) w P
