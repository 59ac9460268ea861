-- The automaton of a machine whose states are the numbers below N: silent steps are followed to their end, and a word
-- is read move by move.
use Rattle.std.specs.Prelude.{[], ◌∷◌, ℕ, zero, suc, ◌<◌}
use Rattle.language.specs.Move.{Move, Word}
use Rattle.states_machine.specs.Action.{Next, to, out, dead, Action, go, say, hear}
use Rattle.states_machine.specs.Edge.{edge}

-- the states
abbrev pub Index : ℕ → Type 0
Index N = (k : ℕ) × (k < N)

-- F of what follows where the step is silent, else x
unfoldable pub skipped : {S A : Type 0} → Action S A → (Next S A → Next S A) → Next S A → Next S A
skipped (go n) F x = F n
skipped (say m n) F x = x
skipped (hear l k) F x = x

module _ {N : ℕ} {A : Type 0} (step : Index N → Action (Index N) A) where
  -- at most k silent steps; nowhere if they go on
  unfoldable pub settle : ℕ → Next (Index N) A → Next (Index N) A
  settle zero (to s) = skipped (step s) (λ n. dead) (to s)
  settle zero (out a) = out a
  settle zero dead = dead
  settle (suc k) (to s) = skipped (step s) (λ n. settle k n) (to s)
  settle (suc k) (out a) = out a
  settle (suc k) dead = dead

  -- the transition function: a move, then as many silent steps as there are states
  unfoldable pub next : Next (Index N) A → Move → Next (Index N) A
  next (to s) m = settle N (edge (step s) m)
  next (out a) m = dead
  next dead m = dead

  -- the state after a word
  unfoldable pub run : Next (Index N) A → Word → Next (Index N) A
  run n [] = n
  run n (m ∷ w) = run (next n m) w
