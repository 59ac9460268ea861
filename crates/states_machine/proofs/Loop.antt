-- Correctness of a loop.
use mathlib.Core.Path.{◌≡◌, refl}
use mathlib.Core.Logic.{inl, inr}
use mathlib.Core.List.{[], ◌++◌, append_assoc, append-nil}
use mathlib.Core.Bool.{Bool, true, false}
use Prim.Native.Nat.{ℕ, zero, suc}
use Rattle.language.specs.Choice.{pick}
use Rattle.language.specs.Operator.{truth}
use Rattle.language.specs.Ty.{Question, run, ask, Answer, done, value}
use Rattle.language.specs.Move.{Word}
use Rattle.language.specs.Term.{Term, while}
use Rattle.language.specs.Play.{Cat, Star, end, more, Plays}
use Rattle.states_machine.specs.Action.{to, out, Action, map_next}
use Rattle.states_machine.specs.Position.{Context, Store, entry, State, Exit}
use Rattle.states_machine.specs.Step.{left, right, step}
use Rattle.states_machine.proofs.Iff.{◌▸◌}
use Rattle.states_machine.proofs.Execution.{Rest, Case, Runs, Exec, Reaches, Exec-dead, Reaches-dead, ends_at}
use Rattle.states_machine.proofs.Embedding.{split, split-any, parts}
use Rattle.states_machine.proofs.Outcome.{done-iff, truth-iff}
use Rattle.states_machine.proofs.Thread.{Thread, Thread-map, Thread-split}
use Rattle.states_machine.proofs.Means.{Language, Means, Means-map, Means-iff, weaken, unit, then, after}
use Rattle.states_machine.proofs.Machine.{machine, Correct}

module _ (B C : Term) where
  -- one round
  abbrev Round : Word → Type 0
  Round = Cat (Plays B ask (value 1)) (Plays C run done)

  -- the whole loop
  abbrev Loop : Language
  Loop a u = (a ≡ done) × Cat (Star Round) (Plays B ask (value 0)) u

  -- what follows the test
  Goes : Bool → Language
  Goes true a u = Cat (Plays C run done) (Loop a) u
  Goes false a u = (a ≡ done) × (u ≡ [])

  -- a test and what follows it make the loop
  unroll : (a : Answer) (u : Word) (t : Bool) → Cat (Plays B ask (value (truth t))) (Goes t a) u → Loop a u
  unfolding Goes truth
  unroll a u true (l, r, e, pb, (l₂, r₂, e₂, pc, (ea, (s, f, e₃, st, pf)))) =
      (ea, (l ++ l₂ ++ s, f, rw (e, e₂, e₃) (simp append_assoc), more (l, l₂, refl, pb, pc) st, pf))
  unroll a u false (l, r, e, pb, (ea, er)) = (ea, ([], l, rw (e, er) (append-nil l), end, pb))

module _ (B C : Term) (n : Context) (q : Question) where
  -- the loop's machine
  abbrev Wh : State n (while B C) → Action (State n (while B C)) (Exit n)
  Wh = machine (while B C) n q

  -- from executions to plays, by the number of steps
  arm-sound : Correct C → (k : ℕ) (P : Exit n → Rest) →
      ((σ : Store n) (w : Word) → Exec Wh k (to (σ, inl (entry B))) w P → Means n (Loop B C) σ w P) →
      (d : Exit n) (v : Word) (t : Bool) → Exec Wh k (pick t (to (d.0, inr (entry C))) (out (d.0, done))) v P →
      Means n (Goes B C t) d.0 v P
  unfolding step Goes Exec Case map_next
  arm-sound h_c k P rec d v true x =
      (after done).0
      (Means-map
      (λ e u y.
      let z = (done-iff (λ x. Exec Wh k x u P) (Exec-dead Wh k u P) e.1 _).0 y in
      (z.0, rec e.0 u z.1))
      ((h_c n run d.0 v _).0
      (split-any (machine C n run) Wh right _ (λ t. refl) k (to (d.0, entry C)) v P x)))
  arm-sound h_c k P rec d v false x = (unit done P).0 x

  -- the test, then its arm
  loop-sound : Correct B → Correct C → (k : ℕ) (σ : Store n) (w : Word) (P : Exit n → Rest) →
      Exec Wh k (to (σ, inl (entry B))) w P → Means n (Loop B C) σ w P
  unfolding step Exec Runs
  loop-sound h_b h_c zero σ w P e = absurd e
  loop-sound h_b h_c (suc k) σ w P e =
      weaken (λ a u p. unroll B C a u p.0 p.1)
      ((then (λ t. value (truth t)) {R = Goes B C}).0
      (Means-map
      (λ d v x.
      let y = (truth-iff (λ x. Exec Wh k x v P) (Exec-dead Wh k v P) d.1 _ _).0 x in
      (y.0, y.1, arm-sound h_c k P (λ τ u. loop-sound h_b h_c k τ u P) d v y.0 y.2))
      ((h_b n ask σ w _).0 (split (machine B n ask) Wh left _ (λ t. refl) k (σ, entry B) w P e))))

  -- from plays to executions, by the number of rounds
  test-complete : Correct B → (σ : Store n) (w : Word) (P : Exit n → Rest) →
      Means n (Plays B ask) σ w (λ d v. (t : Bool) × (d.1 ≡ value (truth t)) ×
      Reaches Wh (pick t (to (d.0, inr (entry C))) (out (d.0, done))) v P) →
      Reaches Wh (to (σ, inl (entry B))) w P
  unfolding step
  test-complete h_b σ w P =
      (parts (machine B n ask) Wh left _ (λ t. refl) (σ, entry B) w P
      ▸ h_b n ask σ w _
      ▸ Means-iff (λ d v. truth-iff (λ x. Reaches Wh x v P) (Reaches-dead Wh v P) d.1 _ _)).1

  -- the body, then the test
  body-complete : Correct C → (σ : Store n) (w : Word) (P : Exit n → Rest) →
      Means n (Plays C run) σ w (λ d v. (d.1 ≡ done) × Reaches Wh (to (d.0, inl (entry B))) v P) →
      Reaches Wh (to (σ, inr (entry C))) w P
  unfolding step
  body-complete h_c σ w P =
      (parts (machine C n run) Wh right _ (λ t. refl) (σ, entry C) w P
      ▸ h_c n run σ w _
      ▸ Means-iff (λ d v. done-iff (λ x. Reaches Wh x v P) (Reaches-dead Wh v P) d.1 _)).1

  -- all rounds
  loop-complete : Correct B → Correct C → {s : Word} → Star (Round B C) s → (f : Word) → Plays B ask (value 0) f →
      (σ : Store n) (w : Word) (P : Exit n → Rest) → Thread n (s ++ f) σ w (λ τ v. P (τ, done) v) →
      Reaches Wh (to (σ, inl (entry B))) w P
  unfolding truth
  loop-complete h_b h_c end f pf σ w P t =
      test-complete h_b σ w P (record {
        answer = value 0;
        word = f;
        plays = pf;
        thread = Thread-map n f σ w (λ τ v x. (false, refl, (ends_at Wh (τ, done) v P).1 x)) t;
      })
  loop-complete h_b h_c (more {u} {v} (l, r, e, pb, pc) st) f pf σ w P t =
      let t₁ : Thread n (l ++ (r ++ (v ++ f))) σ w (λ τ v. P (τ, done) v) =
      rw (e, append_assoc l r v, append_assoc l (r ++ v) f, append_assoc r v f) at t in
      test-complete h_b σ w P (record {
        answer = value 1;
        word = l;
        plays = pb;
        thread = Thread-map n l σ w
            (λ τ x y. (
              true,
              refl,
              body-complete h_c τ x P (record {
                answer = done;
                word = r;
                plays = pc;
                thread = Thread-map n r τ x (λ τ₂ x₂ y₂. (refl, loop-complete h_b h_c st f pf τ₂ x₂ P y₂))
                    (Thread-split n r (v ++ f) τ x _ y);
              }),
            ))
            (Thread-split n l (r ++ (v ++ f)) σ w _ t₁);
      })

-- a loop
pub while-correct : (B C : Term) → Correct B → Correct C → Correct (while B C)
unfolding entry Plays
while-correct B C h_b h_c n q σ w P = (
  λ r. loop-sound B C n q h_b h_c r.0 σ w P r.1,
  λ m.
      let (ea, (s, f, e, st, pf)) = m.plays in
      loop-complete B C n q h_b h_c st f pf σ w P (rw (ea, e) at m.thread),
)
