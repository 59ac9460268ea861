-- One step on a move leads where the transition of the move does.
use mathlib.Core.Path.{◌≡◌, refl, ap, ◌∙◌}
use mathlib.Core.Logic.{◌↔◌}
use mathlib.Core.List.{◌∷◌}
use mathlib.Core.HLevel.{hedberg}
use Prim.Native.Nat.{ℕ, zero, suc}
use native.Mathlib.Decide.{ℕ_discrete}
use native.Mathlib.Nat.{ℕ_set}
use Rattle.language.specs.Move.{question, answer, at, private, Move, move, Word}
use Rattle.states_machine.specs.Action.{Next, dead, Heard, asked, answered, opened, Listen, who, heard, Hears}
use Rattle.states_machine.specs.Action.{Action, go, say, hear}
use Rattle.states_machine.specs.Decide.{hears?, same-move?}
use Rattle.states_machine.specs.Edge.{received, edge_hear, edge}
use Rattle.states_machine.proofs.Iff.{◌▸◌, each}
use Rattle.states_machine.proofs.Unique.{Hears-prop}
use Rattle.states_machine.proofs.Execution.{Rest, Reads, After}
use Rattle.states_machine.proofs.Outcome.{when-iff}

-- the action is no silent step
unfoldable pub Visible : {S A : Type 0} → Action S A → Type 0
Visible (go n) = ⊥
Visible (say m n) = Unit
Visible (hear l k) = Unit

-- the move of r leads where r does
edge-heard : {S A : Type 0} (l : Listen) (k : (r : Heard) → Hears l r → Next S A) (i : ℕ) (r : Heard) →
    edge_hear l k (heard i r) ≡ received l k i r
unfolding edge_hear heard
edge-heard l k i (asked j q) = refl
edge-heard l k i (answered a) = refl
edge-heard l k i (opened q) = refl

module _ {S A : Type 0} (P : Next S A → Rest) (nowhere : (v : Word) → P dead v → ⊥) where
  -- where r leads, heard at the id i
  received-iff : (l : Listen) (k : (r : Heard) → Hears l r → Next S A) (i : ℕ) (r : Heard) (w : Word) →
      P (received l k i r) w ↔ ((who l ≡ i) × ((h : Hears l r) × P (k r h) w))
  unfolding received
  received-iff l k i r w =
      when-iff (λ n. P n w) (nowhere w) (ℕ_set (who l) i) (ℕ_discrete (who l) i) _
      ▸ each (λ e. when-iff (λ n. P n w) (nowhere w) (Hears-prop l r) (hears? l r) _)

  -- a move that leads somewhere is the move of some r
  caught : (l : Listen) (k : (r : Heard) → Hears l r → Next S A) (m : Move) (w : Word) (i : ℕ) (r : Heard) →
      heard i r ≡ m → P (received l k i r) w → After (hear l k) (m ∷ w) P
  unfolding After Reads
  caught l k m w i r e p =
      let x = (received-iff l k i r w).0 p in
      (r, x.1.0, (ap (λ i. heard i r) x.0 ∙ e, x.1.1))

  -- so a wait for the move
  hear-back : (l : Listen) (k : (r : Heard) → Hears l r → Next S A) (m : Move) (w : Word) →
      P (edge_hear l k m) w → After (hear l k) (m ∷ w) P
  unfolding edge_hear heard
  hear-back l k (move (private i) e) w p = absurd (nowhere w p)
  hear-back l k (move (at i zero) (question q)) w p = caught l k _ w i (opened q) refl p
  hear-back l k (move (at i zero) (answer a)) w p = caught l k _ w i (answered a) refl p
  hear-back l k (move (at i (suc j)) (question q)) w p = caught l k _ w i (asked j q) refl p
  hear-back l k (move (at i (suc j)) (answer a)) w p = absurd (nowhere w p)

  -- after an action that is not silent, a move leads where its transition does
  pub edge-iff : (o : Action S A) → Visible o → (m : Move) (w : Word) → After o (m ∷ w) P ↔ P (edge o m) w
  unfolding Visible After Reads edge
  edge-iff (go n) v m w = absurd v
  edge-iff (say x n) v m w =
      let both = when-iff (λ n. P n w) (nowhere w) (hedberg same-move? x m) (same-move? x m) (λ e. n) in
      (both.1, both.0)
  edge-iff (hear l k) v m w = (
    λ x.
        let (r, h, (e, p)) = x in
        rw (← e, edge-heard l k (who l) r) ((received-iff l k (who l) r w).1 (refl, (h, p))),
    hear-back l k m w,
  )
