-- Correctness of a name with its arguments.
use mathlib.Core.Path.{◌≡◌, refl, subst}
use mathlib.Core.Logic.{inl}
use mathlib.Core.List.{List, [], ◌∷◌, ◌++◌, append_assoc, append-nil}
use Prim.Native.Nat.{ℕ, zero, suc}
use Rattle.language.specs.Ty.{Ty, Question, Answer, Answers}
use Rattle.language.specs.Move.{question, answer, at, move, Word}
use Rattle.language.specs.Term.{Term, name, Often, freely, once, Args, no_args, arg}
use Rattle.language.specs.Play.{Cat, Star, end, more, none, one, AsOften, Use, Plays, PlaysArg}
use Rattle.states_machine.specs.Action.{to, asked, answered, opened, who, heard, FitsAt, AnswersAt, Hears, Action}
use Rattle.states_machine.specs.Decide.{answers?, fits_of}
use Rattle.states_machine.specs.Position.{Context, Store, types, start, wait, spent, reply, entry, State, Exit}
use Rattle.states_machine.specs.Position.{StateArgs, ExitArgs}
use Rattle.states_machine.specs.Step.{right, later, enter, inside, listen, again, closing, closes, step, step_args}
use Rattle.states_machine.proofs.Iff.{◌▸◌, each}
use Rattle.states_machine.proofs.Unique.{Answers-prop}
use Rattle.states_machine.proofs.Execution.{Rest, After, Case, Runs, Exec, Reaches, Reads-map, Exec-more}
use Rattle.states_machine.proofs.Execution.{Reaches-dead, ends_at, stepped}
use Rattle.states_machine.proofs.Embedding.{split-any, parts, parts-any, ends-any}
use Rattle.states_machine.proofs.Outcome.{when-iff}
use Rattle.states_machine.proofs.Thread.{Moves, Thread, Thread-map, Thread-split}
use Rattle.states_machine.proofs.Means.{Language, Means, Means-map, Means-iff, weaken, then, said, noted}
use Rattle.states_machine.proofs.Machine.{machine, Correct, machine_args, CorrectArgs}

-- the arguments, one by one
pub no-args-correct : CorrectArgs no_args
unfolding FitsAt types
no-args-correct n j q σ w P h = absurd h

-- the first argument, or one of the others
pub arg-correct : (T : Ty) (M : Term) (args : Args) → Correct M → CorrectArgs args → CorrectArgs (arg T M args)
unfolding FitsAt AnswersAt types enter PlaysArg step_args
arg-correct T M args h_m hs n zero q σ w P fits =
    parts (machine M n q) W (λ s. (s.0, inl ((q, fits), s.1))) _ (λ t. refl) (σ, entry M) w P
    ▸ h_m n q σ w _
    ▸ Means-iff (λ e v.
    when-iff (λ x. Reaches W x v P) (Reaches-dead W v P) Answers-prop (answers? T q e.1) _
    ▸ each (λ h. ends_at W _ v P))
    ▸ (λ m. noted (λ e v x. x.0) m, λ m. weaken (λ a u y. y.1) m)
  where
    W : StateArgs n (arg T M args) → Action (StateArgs n (arg T M args)) (ExitArgs n (types (arg T M args)))
    W = machine_args (arg T M args) n
arg-correct T M args h_m hs n (suc j) q σ w P fits =
    ends-any (machine_args args n) (machine_args (arg T M args) n) right (later n T (types args)) (λ t. refl)
    (enter args n σ j q fits) w P
    ▸ hs n j q σ w _ fits

-- a play of an argument answers its question
plays-answer : (args : Args) (j : ℕ) (q : Question) (a : Answer) (u : Word) → PlaysArg args j q a u →
    AnswersAt (types args) j q a
unfolding PlaysArg AnswersAt types
plays-answer no_args j q a u p = p
plays-answer (arg T M args) zero q a u p = p.0
plays-answer (arg T M args) (suc j) q a u p = plays-answer args j q a u p

-- so the question fits
answer-fits : (Ts : List Ty) (j : ℕ) (q : Question) (a : Answer) → AnswersAt Ts j q a → FitsAt Ts j q
unfolding AnswersAt FitsAt
answer-fits [] j q a h = h
answer-fits (T ∷ Ts) zero q a h = fits_of h
answer-fits (T ∷ Ts) (suc j) q a h = answer-fits Ts j q a h

-- the uses that are left after one
unfoldable Left : Often → (Word → Type 0) → Word → Type 0
Left freely L u = Star L u
Left once L u = u ≡ []

-- no use at all, and a use and those that are left after it
no_uses : (o : Often) (L : Word → Type 0) → AsOften o L []
unfolding AsOften
no_uses freely L = end
no_uses once L = none

with-use : (o : Often) (L : Word → Type 0) (u v : Word) → L u → Left o L v → AsOften o L (u ++ v)
unfolding AsOften Left
with-use freely L u v x y = more x y
with-use once L u v x y = rw (y, append-nil u) (one x)

module _ (i : ℕ) (T : Ty) (args : Args) (q : Question) where
  -- what follows the question at the name, where U has the uses of its arguments
  abbrev Tail : (Word → Type 0) → Language
  Tail U a u = Answers T q a × (v : Word) × U v × (u ≡ v ++ (move (at i 0) (answer a) ∷ []))

  -- what follows an argument's play, with the answer b
  abbrev Replied : (Word → Type 0) → ℕ → Answer → Language
  Replied U j b a u = (r : Word) × (u ≡ move (at i (suc j)) (answer b) ∷ r) × Tail U a r

  -- a question, a play of the argument, its answer and the rest
  regroup : (o : Often) (j : ℕ) (p : Question) (a : Answer) (u : Word) →
      ((r : Word) × (u ≡ move (at i (suc j)) (question p) ∷ r) ×
      ((b : Answer) × Cat (PlaysArg args j p b) (Replied (Left o (Use i (PlaysArg args))) j b a) r)) →
      Tail (AsOften o (Use i (PlaysArg args))) a u
  regroup o j p a u (r, e, (b, (l, s, e₂, pl, (t, e₃, (ans, v, st, e₄))))) = (
    ans,
    (move (at i (suc j)) (question p) ∷ (l ++ (move (at i (suc j)) (answer b) ∷ []))) ++ v,
    with-use o (Use i (PlaysArg args)) _ v (j, p, b, l, pl, refl) st,
    rw (e, e₂, e₃, e₄) (simp append_assoc),
  )

-- after its one question a name answers
spent-sound : (i : ℕ) (T : Ty) (args : Args) (n : Context) (q : Question) (k : ℕ) (σ : Store n) (w : Word)
    (P : Exit n → Rest) → Exec (machine (name i once T args) n q) k (to (σ, spent tt)) w P →
    Means n (Tail i T args q (λ v. v ≡ [])) σ w P
unfolding step closes Exec Runs After Hears heard who closing Case Thread Moves FitsAt
spent-sound i T args n q zero σ w P e = absurd e
spent-sound i T no_args n q (suc k) σ w P e = absurd e
spent-sound i T (arg A M args) n q (suc k) σ w P (answered a, h, x) =
    record { answer = a; word = move (at i 0) (answer a) ∷ []; plays = (h, [], refl, refl); thread = x }
spent-sound i T (arg A M args) n q (suc k) σ w P (opened p, h, x) = absurd h
spent-sound i T (arg A M args) n q (suc k) σ w P (asked j p, h, x) = absurd h

-- and it does: it has an argument, since that was played
spent-complete : (i : ℕ) (T : Ty) (args : Args) (n : Context) (q : Question) (j : ℕ) (p : Question) (b : Answer)
    (l : Word) → PlaysArg args j p b l → (a : Answer) → Answers T q a → (σ : Store n) (w : Word) (P : Exit n → Rest) →
    Thread n (move (at i 0) (answer a) ∷ []) σ w (λ τ x. P (τ, a) x) →
    Reaches (machine (name i once T args) n q) (to (σ, spent tt)) w P
unfolding step closes After Hears heard who closing Thread Moves PlaysArg
spent-complete i T no_args n q j p b l pl a h σ w P t = absurd pl
spent-complete i T (arg A M args) n q j p b l pl a h σ w P t =
    let W = machine (name i once T (arg A M args)) n q in
    (stepped W (σ, spent tt) w P).1 (answered a, h, Reads-map _ w (λ v x. (ends_at W (σ, a) v P).1 x) t)

module _ (i : ℕ) (o : Often) (T : Ty) (args : Args) (n : Context) (q : Question) where
  -- the machine of the name
  abbrev Na : State n (name i o T args) → Action (State n (name i o T args)) (Exit n)
  Na = machine (name i o T args) n q

  -- the use of an argument
  abbrev Using : Word → Type 0
  Using = Use i (PlaysArg args)

  -- from executions to plays, by the number of steps
  replied : (j : ℕ) (p : Question) (b : Answer) (h : AnswersAt (types args) j p b) (k : ℕ) (P : Exit n → Rest) →
      ((σ : Store n) (w : Word) → Exec Na k (to (σ, again o)) w P → Means n (Tail i T args q (Left o Using)) σ w P) →
      (σ : Store n) (w : Word) → Exec Na k (to (σ, reply (j, p, b, h))) w P →
      Means n (Replied i T args q (Left o Using) j b) σ w P
  unfolding step Exec Runs After
  replied j p b h zero P rec σ w e = absurd e
  replied j p b h (suc k) P rec σ w e =
      said i (suc j) (answer b) (Reads-map _ w (λ v x. rec σ v (Exec-more Na k (to (σ, again o)) v P x)) e)

-- after an argument's answer
again-sound : (i : ℕ) (o : Often) (T : Ty) (args : Args) (n : Context) (q : Question) (k : ℕ) (P : Exit n → Rest) →
    ((σ : Store n) (w : Word) → Exec (machine (name i o T args) n q) k (to (σ, wait)) w P →
    Means n (Tail i T args q (AsOften o (Use i (PlaysArg args)))) σ w P) →
    (σ : Store n) (w : Word) → Exec (machine (name i o T args) n q) k (to (σ, again o)) w P →
    Means n (Tail i T args q (Left o (Use i (PlaysArg args)))) σ w P
unfolding again Left AsOften
again-sound i freely T args n q k P rec σ w e = rec σ w e
again-sound i once T args n q k P rec σ w e = spent-sound i T args n q k σ w P e

module _ (i : ℕ) (o : Often) (T : Ty) (args : Args) (n : Context) (q : Question) where
  -- an answer ends, a question enters an argument
  wait-sound : CorrectArgs args → (k : ℕ) (σ : Store n) (w : Word) (P : Exit n → Rest) →
      Exec (Na i o T args n q) k (to (σ, wait)) w P →
      Means n (Tail i T args q (AsOften o (Use i (PlaysArg args)))) σ w P
  unfolding step Exec Runs After Hears heard who listen Case Thread Moves
  wait-sound hs zero σ w P e = absurd e
  wait-sound hs (suc k) σ w P (answered a, h, x) =
      record {
        answer = a;
        word = move (at i 0) (answer a) ∷ [];
        plays = (h, [], no_uses o (Use i (PlaysArg args)), refl);
        thread = x;
      }
  wait-sound hs (suc k) σ w P (opened p, h, x) = absurd h
  wait-sound hs (suc k) σ w P (asked j p, h, x) =
      weaken (regroup i T args q o j p)
      (said i (suc j) (question p)
      (Reads-map _ w
      (λ v y.
      (then (λ b. b)).0
      (Means-map
      (λ e u z. (
        e.1,
        refl,
        replied i o T args n q j p e.1 z.0 k P
            (again-sound i o T args n q k P (λ τ t. wait-sound hs k τ t P)) e.0 u z.1,
      ))
      ((hs n j p σ v _ h).0
      (split-any (machine_args args n) (Na i o T args n q) inside _ (λ t. refl) k (enter args n σ j p h)
      v P y))))
      x))

  -- from plays to executions: an answer
  answer-complete : (a : Answer) → Answers T q a → (σ : Store n) (w : Word) (P : Exit n → Rest) →
      Thread n (move (at i 0) (answer a) ∷ []) σ w (λ τ x. P (τ, a) x) →
      Reaches (Na i o T args n q) (to (σ, wait)) w P
  unfolding step After Hears heard who listen Thread Moves
  answer-complete a h σ w P t =
      (stepped (Na i o T args n q) (σ, wait) w P).1
      (answered a, h, Reads-map _ w (λ v x. (ends_at (Na i o T args n q) (σ, a) v P).1 x) t)

  -- a use of an argument, and what follows it
  use-complete : CorrectArgs args → {u : Word} → Use i (PlaysArg args) u → (v : Word) (a : Answer) →
      (σ : Store n) (w : Word) (P : Exit n → Rest) →
      ((τ : Store n) (x : Word) → Thread n (v ++ (move (at i 0) (answer a) ∷ [])) τ x (λ τ y. P (τ, a) y) →
      Reaches (Na i o T args n q) (to (τ, again o)) x P) →
      Thread n ((u ++ v) ++ (move (at i 0) (answer a) ∷ [])) σ w (λ τ x. P (τ, a) x) →
      Reaches (Na i o T args n q) (to (σ, wait)) w P
  unfolding step After Hears heard who listen Thread Moves
  use-complete hs {u} (j, p, b, l, pl, e) v a σ w P on t =
      let W = Na i o T args n q in
      let z : Word = v ++ (move (at i 0) (answer a) ∷ []) in
      let eq : (u ++ v) ++ (move (at i 0) (answer a) ∷ []) ≡
      move (at i (suc j)) (question p) ∷ (l ++ (move (at i (suc j)) (answer b) ∷ z)) =
      rw e (simp append_assoc) in
      let c : AnswersAt (types args) j p b = plays-answer args j p b l pl in
      let f : FitsAt (types args) j p = answer-fits (types args) j p b c in
      (stepped W (σ, wait) w P).1 (
        asked j p,
        f,
        Reads-map _ w
            (λ x y.
            (parts-any (machine_args args n) W inside _ (λ t. refl) (enter args n σ j p f) x P).1
            ((hs n j p σ x _ f).1 (record {
              answer = b;
              word = l;
              plays = pl;
              thread = Thread-map n l σ x
                  (λ τ x₂ y₂.
                  (c, (stepped W (τ, reply (j, p, b, c)) x₂ P).1 (Reads-map _ x₂ (λ x₃ y₃. on τ x₃ y₃) y₂)))
                  (Thread-split n l (move (at i (suc j)) (answer b) ∷ z) σ x _ y);
            })))
            (subst (λ x. Thread n x σ w (λ τ x. P (τ, a) x)) eq t),
      )

-- any number of uses, by their number
freely-complete : (i : ℕ) (T : Ty) (args : Args) (n : Context) (q : Question) → CorrectArgs args → {v : Word} →
    Star (Use i (PlaysArg args)) v → (a : Answer) → Answers T q a → (σ : Store n) (w : Word) (P : Exit n → Rest) →
    Thread n (v ++ (move (at i 0) (answer a) ∷ [])) σ w (λ τ x. P (τ, a) x) →
    Reaches (machine (name i freely T args) n q) (to (σ, wait)) w P
unfolding again
freely-complete i T args n q hs end a h σ w P t = answer-complete i freely T args n q a h σ w P t
freely-complete i T args n q hs (more {u} {v} x st) a h σ w P t =
    use-complete i freely T args n q hs x v a σ w P (λ τ y s. freely-complete i T args n q hs st a h τ y P s) t

-- as many as the name may have
wait-complete : (i : ℕ) (o : Often) (T : Ty) (args : Args) (n : Context) (q : Question) → CorrectArgs args →
    (v : Word) → AsOften o (Use i (PlaysArg args)) v → (a : Answer) → Answers T q a → (σ : Store n) (w : Word)
    (P : Exit n → Rest) →
    Thread n (v ++ (move (at i 0) (answer a) ∷ [])) σ w (λ τ x. P (τ, a) x) →
    Reaches (machine (name i o T args) n q) (to (σ, wait)) w P
unfolding AsOften again
wait-complete i freely T args n q hs v x a h σ w P t = freely-complete i T args n q hs x a h σ w P t
wait-complete i once T args n q hs v none a h σ w P t = answer-complete i once T args n q a h σ w P t
wait-complete i once T args n q hs v (one {u} x) a h σ w P t =
    use-complete i once T args n q hs x [] a σ w P
    (λ τ y s. spent-complete i T args n q x.0 x.1 x.2 x.3 x.4 a h τ y P s) (rw (append-nil u) t)

-- a name: its question, the uses of its arguments, its answer
pub name-correct : (i : ℕ) (o : Often) (T : Ty) (args : Args) → CorrectArgs args → Correct (name i o T args)
unfolding entry Plays step After Thread Moves
name-correct i o T args hs n q σ w P =
    stepped (machine (name i o T args) n q) (σ, start) w P
    ▸ (
      λ x.
          weaken (λ a u y. let (r, e, (h, v, st, e₂)) = y in (h, v, st, rw (e, e₂)))
          (said i 0 (question q) (Reads-map _ w (λ v r. wait-sound i o T args n q hs r.0 σ v P r.1) x)),
      λ m.
          let (h, v, st, e) = m.plays in
          Reads-map (move (at i 0) (question q)) w
          (λ x y. wait-complete i o T args n q hs v st m.answer h σ x P y)
          (subst (λ x. Thread n x σ w (λ τ y. P (τ, m.answer) y)) e m.thread),
    )
