-- The moves that a state of the machine makes or takes are no more than its degree: each has a number below it.
use mathlib.Core.List.{List, [], ◌∷◌}
use mathlib.Core.Path.{◌∙◌, ◌≡◌, ap, refl, sym}
use Prim.Native.Nat.{◌+◌, ◌<◌, suc, zero, ℕ}
use native.Mathlib.Omega.{arith}
use Rattle.language.specs.Ty.{Answer, Answers, Fits, Question, Ty, ask, done, fits_ask, fits_read, fits_run, fits_write}
use Rattle.language.specs.Ty.{ok, questions, read, run, to_ask, to_read, to_run, to_write, value, write}
use Rattle.language.specs.Move.{Move, answer, at, move, private, question}
use Rattle.states_machine.specs.Action.{Action, FitsAt, Heard, Hears, Listen, Next, answered, asked, calling, dead, go, hear}
use Rattle.states_machine.specs.Action.{heard, opened, opening, say, who}
use Rattle.states_machine.specs.Decide.{same-move?, when}
use Rattle.states_machine.specs.Degree.{answers_to, asks, degree, hearings}
use Rattle.states_machine.specs.Edge.{edge}
use Rattle.states_machine.proofs.EdgeLaws.{Visible, edge-iff}
use Rattle.states_machine.proofs.Execution.{After, Reads}

-- the numbers of a question of a type, of one to the arguments, and of an answer
unfoldable pub question_slot : Question → ℕ
question_slot run = 0
question_slot ask = 0
question_slot read = 0
question_slot (write v) = suc v

unfoldable pub ask_slot : List Ty → ℕ → Question → ℕ
ask_slot [] j q = 0
ask_slot (T ∷ Ts) zero q = question_slot q
ask_slot (T ∷ Ts) (suc j) q = questions T + ask_slot Ts j q

unfoldable pub answer_slot : Answer → ℕ
answer_slot done = 0
answer_slot ok = 0
answer_slot (value v) = v

question-low : {T : Ty} {q : Question} → Fits T q → question_slot q < questions T
unfolding question_slot questions
question-low fits_run = omega arith
question-low fits_ask = omega arith
question-low fits_read = omega arith
question-low (fits_write h) = omega (arith, h)

question-one : {T : Ty} {q r : Question} → Fits T q → Fits T r → question_slot q ≡ question_slot r → q ≡ r
unfolding question_slot
question-one fits_run fits_run e = refl
question-one fits_ask fits_ask e = refl
question-one fits_read fits_read e = refl
question-one fits_read (fits_write h) e = absurd (omega (arith, e))
question-one (fits_write h) fits_read e = absurd (omega (arith, e))
question-one (fits_write {v = v} h) (fits_write {v = w} k) e = let f : v ≡ w = omega (arith, e) in ap write f

ask-low : (Ts : List Ty) (j : ℕ) (q : Question) → FitsAt Ts j q → ask_slot Ts j q < asks Ts
unfolding ask_slot asks FitsAt
ask-low [] j q h = absurd h
ask-low (T ∷ Ts) zero q h = omega (arith, question-low h)
ask-low (T ∷ Ts) (suc j) q h = let l = ask-low Ts j q h in omega (arith, l)

ask-one : (Ts : List Ty) (i j : ℕ) (q r : Question) → FitsAt Ts i q → FitsAt Ts j r → ask_slot Ts i q ≡ ask_slot Ts j r
    → asked i q ≡ asked j r
unfolding ask_slot FitsAt
ask-one [] i j q r h k e = absurd h
ask-one (T ∷ Ts) zero zero q r h k e = ap (asked 0) (question-one h k e)
ask-one (T ∷ Ts) zero (suc j) q r h k e = absurd (omega (arith, question-low h, e))
ask-one (T ∷ Ts) (suc i) zero q r h k e = absurd (omega (arith, question-low k, e))
ask-one (T ∷ Ts) (suc i) (suc j) q r h k e =
    let f : ask_slot Ts i q ≡ ask_slot Ts j r = omega (arith, e) in
    ap further (ask-one Ts i j q r h k f)
  where
    further : Heard → Heard
    further (asked n x) = asked (suc n) x
    further (answered a) = answered a
    further (opened x) = opened x

answer-low : {T : Ty} {q : Question} {a : Answer} → Answers T q a → answer_slot a < answers_to T q
unfolding answer_slot answers_to
answer-low to_run = omega arith
answer-low (to_ask h) = h
answer-low (to_read h) = h
answer-low (to_write h) = omega arith

answer-one : {T : Ty} {q : Question} {a b : Answer} → Answers T q a → Answers T q b → answer_slot a ≡ answer_slot b
    → a ≡ b
unfolding answer_slot
answer-one to_run to_run e = refl
answer-one (to_ask h) (to_ask k) e = ap value e
answer-one (to_read h) (to_read k) e = ap value e
answer-one (to_write h) (to_write k) e = refl

-- of what a waiting state takes
unfoldable pub rank : Listen → Heard → ℕ
rank (calling i Ts T p) (asked j q) = answers_to T p + ask_slot Ts j q
rank (calling i Ts T p) (answered a) = answer_slot a
rank (calling i Ts T p) (opened q) = 0
rank (opening i T) (asked j q) = 0
rank (opening i T) (answered a) = 0
rank (opening i T) (opened q) = question_slot q

rank-low : (l : Listen) (r : Heard) → Hears l r → rank l r < hearings l
unfolding rank hearings Hears
rank-low (calling i Ts T p) (asked j q) h = let a = ask-low Ts j q h in omega (arith, a)
rank-low (calling i Ts T p) (answered a) h = omega (arith, answer-low h)
rank-low (calling i Ts T p) (opened q) h = absurd h
rank-low (opening i T) (asked j q) h = absurd h
rank-low (opening i T) (answered a) h = absurd h
rank-low (opening i T) (opened q) h = question-low h

rank-one : (l : Listen) (r s : Heard) → Hears l r → Hears l s → rank l r ≡ rank l s → r ≡ s
unfolding rank Hears
rank-one (calling i Ts T p) (asked j q) (asked k r) g h e =
    let f : ask_slot Ts j q ≡ ask_slot Ts k r = omega (arith, e) in
    ask-one Ts j k q r g h f
rank-one (calling i Ts T p) (asked j q) (answered b) g h e = absurd (omega (arith, answer-low h, e))
rank-one (calling i Ts T p) (asked j q) (opened r) g h e = absurd h
rank-one (calling i Ts T p) (answered a) (asked k r) g h e = absurd (omega (arith, answer-low g, e))
rank-one (calling i Ts T p) (answered a) (answered b) g h e = ap answered (answer-one g h e)
rank-one (calling i Ts T p) (answered a) (opened r) g h e = absurd h
rank-one (calling i Ts T p) (opened q) s g h e = absurd g
rank-one (opening i T) (asked j q) s g h e = absurd g
rank-one (opening i T) (answered a) s g h e = absurd g
rank-one (opening i T) (opened q) (asked k r) g h e = absurd h
rank-one (opening i T) (opened q) (answered b) g h e = absurd h
rank-one (opening i T) (opened q) (opened r) g h e = ap opened (question-one g h e)

-- the same of the move that is heard
unfoldable pub took : Move → Heard
took (move (at i zero) (question q)) = opened q
took (move (at i zero) (answer a)) = answered a
took (move (at i (suc j)) (question q)) = asked j q
took (move (at i (suc j)) (answer a)) = answered a
took (move (private i) (question q)) = opened q
took (move (private i) (answer a)) = answered a

took-heard : (i : ℕ) (r : Heard) → took (heard i r) ≡ r
unfolding took heard
took-heard i (asked j q) = refl
took-heard i (answered a) = refl
took-heard i (opened q) = refl

-- and of a move from any state
unfoldable pub slot : {S A : Type 0} → Action S A → Move → ℕ
slot (go n) m = 0
slot (say x n) m = 0
slot (hear l k) m = rank l (took m)

module _ {S A : Type 0} where
  -- a move leads somewhere
  abbrev pub Leads : Action S A → Move → Type 0
  Leads o m = edge o m ≡ dead → ⊥

  said : (x : Move) (n : Next S A) (m : Move) → Leads (say x n) m → x ≡ m
  unfolding edge when
  said x n m h = by (same-move? x m) h
    where
      by : (d : Dec (x ≡ m)) → (when d (λ e. n) ≡ dead → ⊥) → x ≡ m
      by (yes e) g = e
      by (no e) g = absurd (g refl)

  taken : (l : Listen) (k : (r : Heard) → Hears l r → Next S A) (m : Move) → Leads (hear l k) m
      → (r : Heard) × (Hears l r × (heard (who l) r ≡ m))
  unfolding Visible After Reads
  taken l k m h =
      let x = (edge-iff (λ n w. n ≡ dead → ⊥) (λ v z. z refl) (hear l k) tt m []).1 h in
      (x.0, (x.1, x.2.0))

  -- THEOREM: a move that leads somewhere has a number below the degree, and no other has it
  pub slot-low : (o : Action S A) (m : Move) → Leads o m → slot o m < degree o
  unfolding slot degree edge
  slot-low (go n) m h = absurd (h refl)
  slot-low (say x n) m h = omega arith
  slot-low (hear l k) m h =
      let t = taken l k m h in
      let e : took m ≡ t.0 = ap took (sym t.1.1) ∙ took-heard (who l) t.0 in
      rw e (rank-low l t.0 t.1.0)

  pub slot-one : (o : Action S A) (m n : Move) → Leads o m → Leads o n → slot o m ≡ slot o n → m ≡ n
  unfolding slot edge
  slot-one (go x) m n g h e = absurd (g refl)
  slot-one (say x y) m n g h e = sym (said x y m g) ∙ said x y n h
  slot-one (hear l k) m n g h e =
      let t = taken l k m g in
      let u = taken l k n h in
      let a : took m ≡ t.0 = ap took (sym t.1.1) ∙ took-heard (who l) t.0 in
      let b : took n ≡ u.0 = ap took (sym u.1.1) ∙ took-heard (who l) u.0 in
      let f : t.0 ≡ u.0 = rank-one l t.0 u.0 t.1.0 u.1.0 (ap (rank l) (sym a) ∙ e ∙ ap (rank l) b) in
      sym t.1.1 ∙ ap (heard (who l)) f ∙ u.1.1
