-- How many moves a waiting state takes, and how many edges each state of the explicit automaton has at most.
use Rattle.std.specs.Prelude.{List, [], ◌∷◌, ℕ, zero, suc, ◌+◌}
use Rattle.std.proofs.Math.Decide.{dec_lt}
use Rattle.language.specs.Ty.{Ty, command, expression, variable, Question, run, ask, read, write, questions}
use Rattle.language.specs.Term.{Term}
use Rattle.states_machine.specs.Action.{Listen, calling, opening, Action, go, say, hear}
use Rattle.states_machine.specs.Sheet.{spots, steps}

-- how many answers a question of a type has
unfoldable pub answers_to : Ty → Question → ℕ
answers_to command run = 1
answers_to command ask = 0
answers_to command read = 0
answers_to command (write v) = 0
answers_to (expression m) run = 0
answers_to (expression m) ask = m
answers_to (expression m) read = 0
answers_to (expression m) (write v) = 0
answers_to (variable m) run = 0
answers_to (variable m) ask = 0
answers_to (variable m) read = m
answers_to (variable m) (write v) = 1

-- how many questions arguments of these types have
unfoldable pub asks : List Ty → ℕ
asks [] = 0
asks (T ∷ Ts) = questions T + asks Ts

-- how many moves a waiting state takes
unfoldable pub hearings : Listen → ℕ
hearings (calling i Ts T q) = answers_to T q + asks Ts
hearings (opening i T) = questions T

-- how many edges a state has in the explicit automaton, at most
unfoldable pub degree : {S A : Type 0} → Action S A → ℕ
degree (go n) = 0
degree (say m n) = 1
degree (hear l k) = hearings l

-- the sum of f below n
unfoldable pub total : (ℕ → ℕ) → ℕ → ℕ
total f zero = 0
total f (suc n) = total f n + f n

-- the number f gives where a decision says yes, else 0
unfoldable pub number_if : {X : Type 0} → Dec X → (X → ℕ) → ℕ
number_if (yes x) f = f x
number_if (no n) f = 0

-- the degree of the state k, 0 where there is none
unfoldable pub degree_at : (T : Ty) (M : Term) → ℕ → ℕ
degree_at T M k = number_if (dec_lt k (spots T M)) (λ h. degree (steps T M (k, h)))
