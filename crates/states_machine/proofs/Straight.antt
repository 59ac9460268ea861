-- Correctness of the terms without a loop, a variable or a name.
use Rattle.std.specs.Prelude.{Some}
use mathlib.Core.Path.{◌≡◌, refl}
use mathlib.Core.Logic.{inl, inr, ◌↔◌}
use mathlib.Core.Bool.{Bool, true, false}
use Prim.Native.Nat.{ℕ}
use Rattle.language.specs.Choice.{pick}
use Rattle.language.specs.Operator.{truth}
use Rattle.language.specs.Ty.{run, ask, read, write, Answer, done, ok, value}
use Rattle.language.specs.Move.{Word}
use Rattle.language.specs.Term.{Term, skip, diverge, const, fetch, operate, assign, seq, cond, Operation, apply}
use Rattle.language.specs.Play.{Val, Cat, Plays}
use Rattle.states_machine.specs.Action.{to, Action}
use Rattle.states_machine.specs.Position.{entry, State, Exit}
use Rattle.states_machine.specs.Step.{left, right, copy, step}
use Rattle.states_machine.proofs.Iff.{◌▸◌, each, over}
use Rattle.states_machine.proofs.Execution.{After, Reaches, Reaches-dead, ends_at, stepped}
use Rattle.states_machine.proofs.Embedding.{parts, ends}
use Rattle.states_machine.proofs.Outcome.{done-iff, ok-iff, value-iff, some-iff, truth-iff}
use Rattle.states_machine.proofs.Means.{Means, Means-iff, same_plays, unit, then, after, relabel}
use Rattle.states_machine.proofs.Machine.{machine, Correct}

-- an answer at once
pub skip-correct : Correct skip
unfolding entry Plays step After
skip-correct n q σ w P =
    stepped (machine skip n q) (σ, tt) w P ▸ ends_at (machine skip n q) (σ, done) w P ▸ unit done P

pub const-correct : (x : ℕ) → Correct (const x)
unfolding entry Plays step After
const-correct x n q σ w P =
    stepped (machine (const x) n q) (σ, tt) w P ▸ ends_at (machine (const x) n q) (σ, value x) w P ▸ unit (value x) P

-- no answer
pub diverge-correct : Correct diverge
unfolding entry Plays step After
diverge-correct n q σ w P = (
  λ r. absurd (Reaches-dead (machine diverge n q) w P ((stepped (machine diverge n q) (σ, tt) w P).0 r)),
  λ m. absurd m.plays,
)

-- another question
pub fetch-correct : (X : Term) → Correct X → Correct (fetch X)
unfolding entry Plays step
fetch-correct X h_x n q σ w P = h_x n read σ w P

-- one part after another
pub seq-correct : (C M : Term) → Correct C → Correct M → Correct (seq C M)
unfolding entry Plays step
seq-correct C M h_c h_m n q σ w P =
    parts (machine C n run) W left _ (λ t. refl) (σ, entry C) w P
    ▸ h_c n run σ w _
    ▸ Means-iff (λ e v.
    done-iff (λ x. Reaches W x v P) (Reaches-dead W v P) e.1 _
    ▸ each (λ d.
    ends (machine M n q) W right (λ b. b) (λ t. refl) (e.0, entry M) v P ▸ h_m n q e.0 v P))
    ▸ after done
  where
    W : State n (seq C M) → Action (State n (seq C M)) (Exit n)
    W = machine (seq C M) n q

-- two operands, then the result
pub operate-correct : (m : ℕ) (o : Operation) (L R : Term) → Correct L → Correct R → Correct (operate m o L R)
unfolding entry Plays step
operate-correct m o L R hL hR n q σ w P =
    parts (machine L n ask) W left _ (λ t. refl) (σ, entry L) w P
    ▸ hL n ask σ w _
    ▸ Means-iff (λ e v. value-iff (λ x. Reaches W x v P) (Reaches-dead W v P) m e.1 _ ▸ over (λ x.
    parts (machine R n ask) W (copy x) _ (λ t. refl) (e.0, entry R) v P
    ▸ hR n ask e.0 v _
    ▸ Means-iff (λ d u.
    value-iff (λ x. Reaches W x u P) (Reaches-dead W u P) m d.1 _
    ▸ over (λ y.
    some-iff (λ x. Reaches W x u P) (Reaches-dead W u P) (apply o x.0 y.0) _
    ▸ over (λ z. ends_at W _ u P))
    ▸ shuffle x d u)
    ▸ relabel (λ y. value y.0.0) (λ y. value y.1)))
    ▸ then (λ x. value x.0)
    ▸ same_plays (λ a u. (
      λ p. let (x, (l, r, e, pl, (y, ea, pr))) = p in (x, y.0, y.1, y.2, ea, (l, r, e, pl, pr)),
      λ p. let (x, y, z, eo, ea, (l, r, e, pl, pr)) = p in (x, (l, r, e, pl, ((y, z, eo), ea, pr))),
    ))
  where
    W : State n (operate m o L R) → Action (State n (operate m o L R)) (Exit n)
    W = machine (operate m o L R) n q

    Result : Val m → Type 0
    Result x = (y : Val m) × (z : ℕ) × (apply o x.0 y.0 ≡ Some z)

    shuffle : (x : Val m) (d : Exit n) (u : Word) →
        ((y : Val m) × (d.1 ≡ value y.0) × ((z : ℕ) × (apply o x.0 y.0 ≡ Some z) × P (d.0, value z) u)) ↔
        ((y : Result x) × (d.1 ≡ value y.0.0) × P (d.0, value y.1) u)
    shuffle x d u =
        (λ p. ((p.0, p.2.0, p.2.1), p.1, p.2.2), λ p. (p.0.0, p.1, (p.0.1, p.0.2, p.2)))

-- the value, then the write
pub assign-correct : (m : ℕ) (X E : Term) → Correct X → Correct E → Correct (assign m X E)
unfolding entry Plays step
assign-correct m X E h_x h_e n q σ w P =
    parts (machine E n ask) W left _ (λ t. refl) (σ, entry E) w P
    ▸ h_e n ask σ w _
    ▸ Means-iff (λ e v. value-iff (λ x. Reaches W x v P) (Reaches-dead W v P) m e.1 _ ▸ over (λ x.
    parts (machine X n (write x.0)) W (copy x) _ (λ t. refl) (e.0, entry X) v P
    ▸ h_x n (write x.0) e.0 v _
    ▸ Means-iff (λ d u.
    ok-iff (λ x. Reaches W x u P) (Reaches-dead W u P) d.1 _
    ▸ each (λ y. ends_at W _ u P)
    ▸ (λ p. (tt, p.0, p.1), λ p. (p.1, p.2)))
    ▸ relabel {X = Unit {0}} (λ y. ok) (λ y. done)))
    ▸ then (λ x. value x.0)
    ▸ same_plays (λ a u. (
      λ p. let (x, (l, r, e, pl, (y, ea, pr))) = p in (ea, x, (l, r, e, pl, pr)),
      λ p. let (ea, x, (l, r, e, pl, pr)) = p in (x, (l, r, e, pl, (tt, ea, pr))),
    ))
  where
    W : State n (assign m X E) → Action (State n (assign m X E)) (Exit n)
    W = machine (assign m X E) n q

-- one of two parts, by a truth
pub cond-correct : (B M N : Term) → Correct B → Correct M → Correct N → Correct (cond B M N)
unfolding entry Plays step truth
cond-correct B M N h_b h_m h_n n q σ w P =
    parts (machine B n ask) W left _ (λ t. refl) (σ, entry B) w P
    ▸ h_b n ask σ w _
    ▸ Means-iff (λ e v. truth-iff (λ x. Reaches W x v P) (Reaches-dead W v P) e.1 _ _ ▸ over (arm e v))
    ▸ then (λ t. value (truth t))
    ▸ same_plays (λ a u. (λ p. forth a u p.0 p.1, λ p. back a u p))
  where
    W : State n (cond B M N) → Action (State n (cond B M N)) (Exit n)
    W = machine (cond B M N) n q

    arm : (e : Exit n) (v : Word) (t : Bool) →
        Reaches W (pick t (to (e.0, inr (inl (entry M)))) (to (e.0, inr (inr (entry N))))) v P ↔
        Means n (Plays (pick t M N) q) e.0 v P
    arm e v true =
        ends (machine M n q) W (λ s. right (left s)) (λ b. b) (λ t. refl) (e.0, entry M) v P ▸ h_m n q e.0 v P
    arm e v false =
        ends (machine N n q) W (λ s. right (right s)) (λ b. b) (λ t. refl) (e.0, entry N) v P ▸ h_n n q e.0 v P

    forth : (a : Answer) (u : Word) (t : Bool) →
        Cat (Plays B ask (value (truth t))) (Plays (pick t M N) q a) u → Plays (cond B M N) q a u
    forth a u true p = inl p
    forth a u false p = inr p

    back : (a : Answer) (u : Word) → Plays (cond B M N) q a u →
        (t : Bool) × Cat (Plays B ask (value (truth t))) (Plays (pick t M N) q a) u
    back a u (inl p) = (true, p)
    back a u (inr p) = (false, p)
