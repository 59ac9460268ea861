-- The transition that a move makes: from an action to what follows the move.
use Rattle.std.specs.Prelude.{ℕ, zero, suc}
use Rattle.std.proofs.Math.Decide.{ℕ_discrete}
use Rattle.language.specs.Move.{question, answer, at, private, Move, move}
use Rattle.states_machine.specs.Action.{Next, dead, Heard, asked, answered, opened, Listen, who, Hears}
use Rattle.states_machine.specs.Action.{Action, go, say, hear}
use Rattle.states_machine.specs.Decide.{when, hears?, same-move?}

module _ {S A : Type 0} where
  -- where r leads, heard at the id i
  unfoldable pub received : (l : Listen) → ((r : Heard) → Hears l r → Next S A) → ℕ → Heard → Next S A
  received l k i r = when (ℕ_discrete (who l) i) (λ e. when (hears? l r) (λ h. k r h))

  -- where a move leads from a state that waits
  unfoldable pub edge_hear : (l : Listen) → ((r : Heard) → Hears l r → Next S A) → Move → Next S A
  edge_hear l k (move (private i) e) = dead
  edge_hear l k (move (at i zero) (question q)) = received l k i (opened q)
  edge_hear l k (move (at i zero) (answer a)) = received l k i (answered a)
  edge_hear l k (move (at i (suc j)) (question q)) = received l k i (asked j q)
  edge_hear l k (move (at i (suc j)) (answer a)) = dead

  -- where a move leads from a state that makes one or waits for one
  unfoldable pub edge : Action S A → Move → Next S A
  edge (go n) m = dead
  edge (say x n) m = when (same-move? x m) (λ e. n)
  edge (hear l k) m = edge_hear l k m
