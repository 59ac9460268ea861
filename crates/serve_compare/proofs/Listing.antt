-- The moves that a state of a machine makes or takes, as a list: every other move leads nowhere.
use mathlib.Core.Path.{◌≡◌, refl, sym, ap, ◌∙◌}
use mathlib.Core.Bool.{Bool, true, false, false≢true, ◌&&◌}
use mathlib.Core.Logic.{◌⊎◌, inl, inr}
use mathlib.Core.List.{List, [], ◌∷◌, ◌++◌, map}
use Prim.Native.Nat.{ℕ, zero, suc, ◌<◌}
use native.Mathlib.Omega.{arith}
use native.Mathlib.Decide.{ℕ_discrete}
use Rattle.language.specs.Ty.{Ty, command, expression, variable, Question, run, ask, read, write}
use Rattle.language.specs.Ty.{Answer, done, ok, value, Fits, fits_run, fits_ask, fits_read, fits_write}
use Rattle.language.specs.Ty.{Answers, to_run, to_ask, to_read, to_write}
use Rattle.language.specs.Move.{question, answer, at, private, Move, move}
use Rattle.states_machine.specs.Action.{Next, to, out, dead, Heard, asked, answered, opened, Listen, calling, opening}
use Rattle.states_machine.specs.Action.{who, heard, FitsAt, Hears, Action, go, say, hear}
use Rattle.states_machine.specs.Decide.{when, hears?, same-move?}
use Rattle.states_machine.specs.Edge.{received, edge_hear, edge}
use Rattle.states_machine.specs.Settle.{Index, settle, next}

-- all members of a list pass a test
unfoldable pub all : {X : Type 0} → (X → Bool) → List X → Bool
all f [] = true
all f (x ∷ xs) = f x && all f xs

-- where two tests are passed, each is
pub both : (a b : Bool) → (a && b) ≡ true → (a ≡ true) × (b ≡ true)
both true b e = (refl, e)
both false b e = absurd (false≢true e)

all_append : {X : Type 0} (f : X → Bool) (xs ys : List X) → all f (xs ++ ys) ≡ true →
    (all f xs ≡ true) × (all f ys ≡ true)
unfolding all
all_append f [] ys e = (refl, e)
all_append f (x ∷ xs) ys e =
    let p = both (f x) (all f (xs ++ ys)) e in
    let q = all_append f xs ys p.1 in
    (rw p.0 q.0, q.1)

all_map : {X Y : Type 0} (f : Y → Bool) (g : X → Y) (xs : List X) → all f (map g xs) ≡ all (λ x. f (g x)) xs
unfolding all
all_map f g [] = refl
all_map f g (x ∷ xs) = ap (λ b. f (g x) && b) (all_map f g xs)

-- what f gives for the numbers below m
unfoldable pub below : {X : Type 0} → (ℕ → X) → ℕ → List X
below f zero = []
below f (suc v) = f v ∷ below f v

below_all : {X : Type 0} (t : X → Bool) (f : ℕ → X) (m v : ℕ) → v < m → all t (below f m) ≡ true → t (f v) ≡ true
unfolding all below
below_all t f zero v h e = absurd (omega arith)
below_all t f (suc m) v h e =
    let p = both (t (f m)) (all t (below f m)) e in
    by (ℕ_discrete v m) p.0 (λ l. below_all t f m v l p.1)
  where
    by : Dec (v ≡ m) → t (f m) ≡ true → (v < m → t (f v) ≡ true) → t (f v) ≡ true
    by (yes i) d rest = rw i d
    by (no i) d rest = rest (omega arith)

-- the questions of a type, and the answers to a question
unfoldable pub questions_of : Ty → List Question
questions_of command = run ∷ []
questions_of (expression m) = ask ∷ []
questions_of (variable m) = read ∷ below write m

unfoldable pub answers_of : Ty → List Answer
answers_of command = done ∷ []
answers_of (expression m) = below value m
answers_of (variable m) = ok ∷ below value m

-- a question of the type is listed, and so is an answer
fits_all : (t : Question → Bool) {T : Ty} {q : Question} → Fits T q → all t (questions_of T) ≡ true → t q ≡ true
unfolding all questions_of
fits_all t fits_run e = (both (t run) true e).0
fits_all t fits_ask e = (both (t ask) true e).0
fits_all t (fits_read {m}) e = (both (t read) (all t (below write m)) e).0
fits_all t (fits_write {m} {v} h) e = below_all t write m v h (both (t read) (all t (below write m)) e).1

answers-all : (t : Answer → Bool) {T : Ty} {q : Question} {a : Answer} → Answers T q a → all t (answers_of T) ≡ true →
    t a ≡ true
unfolding all answers_of
answers-all t to_run e = (both (t done) true e).0
answers-all t (to_ask {m} {v} h) e = below_all t value m v h e
answers-all t (to_read {m} {v} h) e = below_all t value m v h (both (t ok) (all t (below value m)) e).1
answers-all t (to_write {m} h) e = (both (t ok) (all t (below value m)) e).0

-- the same at the next argument
unfoldable pub later : Heard → Heard
later (asked j q) = asked (suc j) q
later (answered a) = answered a
later (opened q) = opened q

-- the questions to arguments of these types
unfoldable pub asked_of : List Ty → List Heard
asked_of [] = []
asked_of (T ∷ Ts) = map (asked 0) (questions_of T) ++ map later (asked_of Ts)

asked-all : (t : Heard → Bool) (Ts : List Ty) (j : ℕ) (q : Question) → FitsAt Ts j q → all t (asked_of Ts) ≡ true →
    t (asked j q) ≡ true
unfolding FitsAt asked_of later
asked-all t [] j q h e = absurd h
asked-all t (T ∷ Ts) zero q h e =
    let p = all_append t (map (asked 0) (questions_of T)) (map later (asked_of Ts)) e in
    fits_all (λ q. t (asked 0 q)) h (sym (all_map t (asked 0) (questions_of T)) ∙ p.0)
asked-all t (T ∷ Ts) (suc j) q h e =
    let p = all_append t (map (asked 0) (questions_of T)) (map later (asked_of Ts)) e in
    asked-all (λ r. t (later r)) Ts j q h (sym (all_map t later (asked_of Ts)) ∙ p.1)

-- what a waiting state takes
unfoldable pub heard_of : Listen → List Heard
heard_of (calling i Ts T q) = map answered (answers_of T) ++ asked_of Ts
heard_of (opening i T) = map opened (questions_of T)

heard_all : (t : Heard → Bool) (l : Listen) (r : Heard) → Hears l r → all t (heard_of l) ≡ true → t r ≡ true
unfolding Hears heard_of
heard_all t (calling i Ts T p) (asked j q) h e =
    asked-all t Ts j q h (all_append t (map answered (answers_of T)) (asked_of Ts) e).1
heard_all t (calling i Ts T p) (answered a) h e =
    answers-all (λ a. t (answered a)) h
    (sym (all_map t answered (answers_of T)) ∙ (all_append t (map answered (answers_of T)) (asked_of Ts) e).0)
heard_all t (calling i Ts T p) (opened q) h e = absurd h
heard_all t (opening i T) (asked j q) h e = absurd h
heard_all t (opening i T) (answered a) h e = absurd h
heard_all t (opening i T) (opened q) h e =
    fits_all (λ q. t (opened q)) h (sym (all_map t opened (questions_of T)) ∙ e)

-- the moves of a state that does this
unfoldable pub moves_of : {S A : Type 0} → Action S A → List Move
moves_of (go n) = []
moves_of (say m n) = m ∷ []
moves_of (hear l k) = map (heard (who l)) (heard_of l)

-- a move leads nowhere, or passes a test that all moves of the state pass
module _ {S A : Type 0} (t : Move → Bool) where
  received-all : (l : Listen) (k : (r : Heard) → Hears l r → Next S A) (i : ℕ) (r : Heard) →
      all t (moves_of (hear l k)) ≡ true → (t (heard i r) ≡ true) ⊎ (received l k i r ≡ dead)
  unfolding moves_of received when
  received-all l k i r e = by (ℕ_discrete (who l) i) (hears? l r)
    where
      by : (d : Dec (who l ≡ i)) (b : Dec (Hears l r)) →
          (t (heard i r) ≡ true) ⊎ (when d (λ e. when b (λ h. k r h)) ≡ dead)
      by (yes d) (yes h) =
          let a = sym (all_map t (heard (who l)) (heard_of l)) ∙ e in
          inl (rw (← d) (heard_all (λ r. t (heard (who l) r)) l r h a))
      by (yes d) (no h) = inr refl
      by (no d) b = inr refl

  said_all : (x m : Move) (n : Next S A) → all t (x ∷ []) ≡ true → (t m ≡ true) ⊎ (edge (say x n) m ≡ dead)
  unfolding all edge when
  said_all x m n e = by (same-move? x m)
    where
      by : (d : Dec (x ≡ m)) → (t m ≡ true) ⊎ (when d (λ e. n) ≡ dead)
      by (yes d) = inl (rw (← d) (both (t x) true e).0)
      by (no d) = inr refl

  edge-all : (o : Action S A) (m : Move) → all t (moves_of o) ≡ true → (t m ≡ true) ⊎ (edge o m ≡ dead)
  unfolding edge edge_hear heard moves_of
  edge-all (go n) m e = inr refl
  edge-all (say x n) m e = said_all x m n e
  edge-all (hear l k) (move (private i) v) e = inr refl
  edge-all (hear l k) (move (at i zero) (question q)) e = received-all l k i (opened q) e
  edge-all (hear l k) (move (at i zero) (answer a)) e = received-all l k i (answered a) e
  edge-all (hear l k) (move (at i (suc j)) (question q)) e = received-all l k i (asked j q) e
  edge-all (hear l k) (move (at i (suc j)) (answer a)) e = inr refl

-- a machine of K states and an end, and where it stands
abbrev pub Machine : ℕ → Type 0
Machine K = Index K → Action (Index K) (Unit {0})

abbrev pub State : ℕ → Type 0
State K = Next (Index K) (Unit {0})

-- the moves of a machine where it stands
unfoldable pub moves_at : {K : ℕ} → Machine K → State K → List Move
moves_at A (to s) = moves_of (A s)
moves_at A (out a) = []
moves_at A dead = []

settle-dead : {K : ℕ} (A : Machine K) (k : ℕ) → settle A k dead ≡ dead
unfolding settle
settle-dead A zero = refl
settle-dead A (suc k) = refl

-- THEOREM: a move leads nowhere, or passes every test that all moves of the machine pass there
pub next-all : {K : ℕ} (A : Machine K) (t : Move → Bool) (x : State K) (m : Move) → all t (moves_at A x) ≡ true →
    (t m ≡ true) ⊎ (next A x m ≡ dead)
unfolding moves_at next
next-all {K} A t (to s) m e = by (edge-all t (A s) m e)
  where
    by : (t m ≡ true) ⊎ (edge (A s) m ≡ dead) → (t m ≡ true) ⊎ (settle A K (edge (A s) m) ≡ dead)
    by (inl p) = inl p
    by (inr p) = inr (rw p (settle-dead A K))
next-all A t (out a) m e = inr refl
next-all A t dead m e = inr refl
