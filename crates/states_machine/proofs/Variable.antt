-- Correctness of the use of a private variable, and of a block.
use mathlib.Core.Path.{refl}
use mathlib.Core.Logic.{inl, inr}
use mathlib.Core.List.{[], ◌∷◌}
use Prim.Native.Nat.{ℕ, zero, suc, ◌<◌}
use native.Mathlib.Bridge.{le_prop}
use native.Mathlib.Decide.{dec_lt}
use Rattle.language.specs.Ty.{Question, run, ask, read, write, Answer, ok, value}
use Rattle.language.specs.Move.{question, answer, Word}
use Rattle.language.specs.Term.{Term, private, new}
use Rattle.language.specs.Play.{Plays, VarPair, reading, writing, hide}
use Rattle.states_machine.specs.Action.{Next, dead, out, Action}
use Rattle.states_machine.specs.Position.{Context, Store, entry, State, Exit}
use Rattle.states_machine.specs.Step.{ask_variable, access, step}
use Rattle.states_machine.proofs.Iff.{◌▸◌}
use Rattle.states_machine.proofs.Execution.{After, Reaches, Reaches-dead, ends_at, stepped}
use Rattle.states_machine.proofs.Embedding.{ends}
use Rattle.states_machine.proofs.Outcome.{when-iff}
use Rattle.states_machine.proofs.Thread.{Cell, At, At-map, Moves, Thread}
use Rattle.states_machine.proofs.Block.{aside, beside, Tidy, steady, stable}
use Rattle.states_machine.proofs.Means.{Means}
use Rattle.states_machine.proofs.Machine.{machine, Correct}

-- an access is two events at the variable: the question, and its answer
module _ {S A : Type 0} (F : Next S A → Type 0) (nowhere : F dead → ⊥) where
  access-forth : (n : Context) (i : ℕ) (σ : Store n) (q : Question) (k : Store n → Answer → Next S A) →
      F (access n i σ q k) →
      (a : Answer) × VarPair q a × At n i (question q) σ (λ τ. At n i (answer a) τ (λ τ'. F (k τ' a)))
  unfolding access ask_variable At Cell
  access-forth [] i σ q k x = absurd (nowhere x)
  access-forth (m ∷ n) zero σ run k x = absurd (nowhere x)
  access-forth (m ∷ n) zero σ ask k x = absurd (nowhere x)
  access-forth (m ∷ n) zero σ read k x = (value σ.0.0, reading, (refl, x))
  access-forth (m ∷ n) zero σ (write v) k x =
      let d = (when-iff F nowhere le_prop (dec_lt v m) (λ h. k ((v, h), σ.1) ok)).0 x in
      (ok, writing, (d.0, d.1))
  access-forth (m ∷ n) (suc i) σ q k x = access-forth n i σ.1 q (λ τ. k (σ.0, τ)) x

  -- and back
  access-back : (n : Context) (i : ℕ) (σ : Store n) (q : Question) (a : Answer) (k : Store n → Answer → Next S A) →
      VarPair q a → At n i (question q) σ (λ τ. At n i (answer a) τ (λ τ'. F (k τ' a))) → F (access n i σ q k)
  unfolding access ask_variable At Cell
  access-back [] i σ q a k p x = absurd x
  access-back (m ∷ n) zero σ q a k reading x = rw x.0 at x.1
  access-back (m ∷ n) zero σ q a k (writing {v}) x =
      (when-iff F nowhere le_prop (dec_lt v m) (λ h. k ((v, h), σ.1) ok)).1 (x.0, x.1)
  access-back (m ∷ n) (suc i) σ q a k p x = access-back n i σ.1 q a (λ τ. k (σ.0, τ)) p x

-- the use of a private variable
pub private-correct : (i : ℕ) → Correct (private i)
unfolding entry Plays step After Thread Moves
private-correct i n q σ w P = stepped W (σ, inl tt) w P ▸ stepped W (σ, inr tt) w P ▸ (forth, back)
  where
    W : State n (private i) → Action (State n (private i)) (Exit n)
    W = machine (private i) n q

    F : Next (State n (private i)) (Exit n) → Type 0
    F x = Reaches W x w P

    forth : F (access n i σ q (λ τ a. out (τ, a))) → Means n (Plays (private i) q) σ w P
    forth r =
        let (a, p, x) = access-forth F (Reaches-dead W w P) n i σ q _ r in
        record {
          answer = a;
          word = _;
          plays = (p, refl);
          thread = At-map n i (question q) σ (λ τ. At-map n i (answer a) τ (λ τ'. (ends_at W (τ', a) w P).0)) x;
        }

    back : Means n (Plays (private i) q) σ w P → F (access n i σ q (λ τ a. out (τ, a)))
    back m =
        access-back F (Reaches-dead W w P) n i σ q m.answer _ m.plays.0
        (At-map n i (question q) σ
        (λ τ. At-map n i (answer m.answer) τ (λ τ'. (ends_at W (τ', m.answer) w P).1))
        (rw m.plays.1 at m.thread))

-- a block: the innermost variable is put aside
pub new-correct : (m : ℕ) (h : 0 < m) (C : Term) (d : ℕ) →
    ((q : Question) (a : Answer) (u : Word) → Plays C q a u → Tidy d u) → Correct C → Correct (new m h C)
unfolding entry Plays step
new-correct m h C d tidy h_c n q σ w P =
    ends (machine C (m ∷ n) q) (machine (new m h C) n q) (λ s. (s.0.1, (s.0.0, s.1))) (λ e. (e.0.1, e.1))
    (λ t. refl) (((0, h), σ), entry C) w P
    ▸ h_c (m ∷ n) q ((0, h), σ) w _
    ▸ (
      λ x.
          let p = aside m n x.word (0, h) σ w (λ τ v. P (τ, x.answer) v) x.thread in
          record {
            answer = x.answer;
            word = hide x.word;
            plays = (x.word, x.plays, stable (tidy q _ _ x.plays) m (0, h) p.0, refl);
            thread = p.1;
          },
      λ x.
          let (v, p, s, e) = x.plays in
          record {
            answer = x.answer;
            word = v;
            plays = p;
            thread = beside m n v (0, h) σ w (λ τ y. P (τ, x.answer) y) (steady m h s) (rw e at x.thread);
          },
    )
