-- What a state of a machine does: a silent step, a move of its own, or waiting for one of the environment's moves.
use Rattle.std.specs.Prelude.{List, [], ◌∷◌, ℕ, zero, suc}
use Rattle.language.specs.Ty.{Ty, Question, Answer, Fits, Answers}
use Rattle.language.specs.Move.{question, answer, at, Move, move}

-- where a transition leads: to a state, out with an exit, or nowhere
pub data Next (S A : Type 0) : Type 0 where
  to : S → Next S A
  out : A → Next S A
  dead : Next S A

-- what the environment may say: a question to argument j of a name, counted from 0; the name's answer; the question to
-- the whole term
pub data Heard : Type 0 where
  asked : ℕ → Question → Heard
  answered : Answer → Heard
  opened : Question → Heard

-- whom a state waits for: `calling i Ts T q` is the name i with arguments of the types Ts and result type T, which has
-- been asked q; `opening i T` is the asker of the whole term, of type T at the place `at i 0`
pub data Listen : Type 0 where
  calling : ℕ → List Ty → Ty → Question → Listen
  opening : ℕ → Ty → Listen

-- the id at whose places the move is heard
unfoldable pub who : Listen → ℕ
who (calling i Ts T q) = i
who (opening i T) = i

-- the move at the id i
unfoldable pub heard : ℕ → Heard → Move
heard i (asked j q) = move (at i (suc j)) (question q)
heard i (answered a) = move (at i 0) (answer a)
heard i (opened q) = move (at i 0) (question q)

-- there is an argument j, and q is a question of its type
unfoldable pub FitsAt : List Ty → ℕ → Question → Type 0
FitsAt [] j q = ⊥
FitsAt (T ∷ Ts) zero q = Fits T q
FitsAt (T ∷ Ts) (suc j) q = FitsAt Ts j q

-- there is an argument j, and a is an answer to the question q of its type
unfoldable pub AnswersAt : List Ty → ℕ → Question → Answer → Type 0
AnswersAt [] j q a = ⊥
AnswersAt (T ∷ Ts) zero q a = Answers T q a
AnswersAt (T ∷ Ts) (suc j) q a = AnswersAt Ts j q a

-- what a waiting state takes: questions to an argument, answers to the name's question, questions to the whole term
unfoldable pub Hears : Listen → Heard → Type 0
Hears (calling i Ts T p) (asked j q) = FitsAt Ts j q
Hears (calling i Ts T p) (answered a) = Answers T p a
Hears (calling i Ts T p) (opened q) = ⊥
Hears (opening i T) (asked j q) = ⊥
Hears (opening i T) (answered a) = ⊥
Hears (opening i T) (opened q) = Fits T q

-- a silent step, a move of the term, or a wait for a move of the environment
pub data Action (S A : Type 0) : Type 0 where
  go : Next S A → Action S A
  say : Move → Next S A → Action S A
  hear : (l : Listen) → ((r : Heard) → Hears l r → Next S A) → Action S A

-- a part's transition, seen in the whole: states through f, exits through h
unfoldable pub map_next : {T B S A : Type 0} → (T → S) → (B → Next S A) → Next T B → Next S A
map_next f h (to t) = to (f t)
map_next f h (out b) = h b
map_next f h dead = dead

-- a part's action, seen in the whole
unfoldable pub map_action : {T B S A : Type 0} → (T → S) → (B → Next S A) → Action T B → Action S A
map_action f h (go n) = go (map_next f h n)
map_action f h (say m n) = say m (map_next f h n)
map_action f h (hear l k) = hear l (λ r s. map_next f h (k r s))
