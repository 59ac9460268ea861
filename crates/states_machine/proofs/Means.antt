-- What a language of plays, each with its answer, does from a store on a word; and how the operations on languages act.
use mathlib.Core.Path.{◌≡◌, refl}
use mathlib.Core.Logic.{◌↔◌}
use mathlib.Core.List.{[], ◌∷◌, ◌++◌}
use Prim.Native.Nat.{ℕ}
use Rattle.language.specs.Ty.{Answer}
use Rattle.language.specs.Move.{Event, at, move, Word}
use Rattle.language.specs.Play.{Cat}
use Rattle.states_machine.specs.Position.{Context, Store, Exit}
use Rattle.states_machine.proofs.Execution.{Rest, Reads, Reads-map, Reads-pull}
use Rattle.states_machine.proofs.Thread.{Moves, Thread, Thread-map, Thread-pull, Thread-join, Thread-split}

-- the plays of each answer
abbrev pub Language : Type 1
Language = Answer → Word → Type 0

-- some play of L, followed from σ with its visible moves read from w, ends in a store where P holds of that store, the
-- play's answer and the rest of w
pub record Means (n : Context) (L : Language) (σ : Store n) (w : Word) (P : Exit n → Rest) : Type 0 where
  pub answer : Answer
  pub word : Word
  pub plays : L answer word
  pub thread : Thread n word σ w (λ τ v. P (τ, answer) v)

module _ {n : Context} {σ : Store n} {w : Word} where
  -- in the predicate
  pub Means-map : {L : Language} {P Q : Exit n → Rest} → ((e : Exit n) (v : Word) → P e v → Q e v) →
      Means n L σ w P → Means n L σ w Q
  Means-map f m = record {
    answer = m.answer;
    word = m.word;
    plays = m.plays;
    thread = Thread-map n m.word σ w (λ τ. f (τ, m.answer)) m.thread;
  }

  pub Means-iff : {L : Language} {P Q : Exit n → Rest} → ((e : Exit n) (v : Word) → P e v ↔ Q e v) →
      Means n L σ w P ↔ Means n L σ w Q
  Means-iff f = (Means-map (λ e v. (f e v).0), Means-map (λ e v. (f e v).1))

  -- in the language
  pub weaken : {L L' : Language} {P : Exit n → Rest} → ((a : Answer) (u : Word) → L a u → L' a u) →
      Means n L σ w P → Means n L' σ w P
  weaken f m = record { answer = m.answer; word = m.word; plays = f _ _ m.plays; thread = m.thread }

  pub same_plays : {L L' : Language} {P : Exit n → Rest} → ((a : Answer) (u : Word) → L a u ↔ L' a u) →
      Means n L σ w P ↔ Means n L' σ w P
  same_plays f = (weaken (λ a u. (f a u).0), weaken (λ a u. (f a u).1))

  -- the answer b at once
  pub unit : (b : Answer) (P : Exit n → Rest) → P (σ, b) w ↔ Means n (λ a u. (a ≡ b) × (u ≡ [])) σ w P
  unfolding Thread
  unit b P = (
    λ p. record { answer = b; word = []; plays = (refl, refl); thread = p },
    λ m. rw (m.plays.0, m.plays.1) at m.thread,
  )

  -- first L with the answer c x for some x, then R x
  pub then : {X : Type 0} (c : X → Answer) {L : Language} {R : X → Language} {P : Exit n → Rest} →
      Means n L σ w (λ e v. (x : X) × (e.1 ≡ c x) × Means n (R x) e.0 v P) ↔
      Means n (λ a u. (x : X) × Cat (L (c x)) (R x a) u) σ w P
  then {X} c {L} {R} {P} = (forth, back)
    where
      forth : Means n L σ w (λ e v. (x : X) × (e.1 ≡ c x) × Means n (R x) e.0 v P) →
          Means n (λ a u. (x : X) × Cat (L (c x)) (R x a) u) σ w P
      forth m =
          let Y : Type 0 = (x : X) × (m.answer ≡ c x) × (a : Answer) × (u : Word) × R x a u in
          let Q : Y → Store n → Rest = λ y τ v. Thread n y.3 τ v (λ τ' v'. P (τ', y.2) v') in
          let p : (y : Y) × Thread n m.word σ w (Q y) =
          Thread-pull n m.word σ w Q
          (Thread-map n m.word σ w
          (λ τ v y. ((y.0, y.1, y.2.answer, y.2.word, y.2.plays), y.2.thread)) m.thread) in
          record {
            answer = p.0.2;
            word = m.word ++ p.0.3;
            plays = (p.0.0, (m.word, p.0.3, refl, rw p.0.1 at m.plays, p.0.4));
            thread = Thread-join n m.word p.0.3 σ w (λ τ v. P (τ, p.0.2) v) p.1;
          }

      back : Means n (λ a u. (x : X) × Cat (L (c x)) (R x a) u) σ w P →
          Means n L σ w (λ e v. (x : X) × (e.1 ≡ c x) × Means n (R x) e.0 v P)
      back m =
          let (x, (l, r, e, y, z)) = m.plays in
          record {
            answer = c x;
            word = l;
            plays = y;
            thread =
                Thread-map n l σ w
                (λ τ v t. (x, refl, record { answer = m.answer; word = r; plays = z; thread = t }))
                (Thread-split n l r σ w _ (rw (← e) m.thread));
          }

  -- first L with the answer c, then R
  pub after : (c : Answer) {L R : Language} {P : Exit n → Rest} →
      Means n L σ w (λ e v. (e.1 ≡ c) × Means n R e.0 v P) ↔ Means n (λ a u. Cat (L c) (R a) u) σ w P
  after c {L} {R} {P} = (
    λ m. weaken (λ a u y. y.1) ((then {X = Unit {0}} (λ x. c)).0 (Means-map (λ e v y. (tt, y.0, y.1)) m)),
    λ m. Means-map (λ e v y. (y.1, y.2)) ((then {X = Unit {0}} (λ x. c)).1 (weaken (λ a u y. (tt, y)) m)),
  )

  -- L with the answer c x for some x, answered as d x
  pub relabel : {X : Type 0} (c d : X → Answer) {L : Language} {P : Exit n → Rest} →
      Means n L σ w (λ e v. (x : X) × (e.1 ≡ c x) × P (e.0, d x) v) ↔
      Means n (λ a u. (x : X) × (a ≡ d x) × L (c x) u) σ w P
  relabel {X} c d {L} {P} = (forth, back)
    where
      forth : Means n L σ w (λ e v. (x : X) × (e.1 ≡ c x) × P (e.0, d x) v) →
          Means n (λ a u. (x : X) × (a ≡ d x) × L (c x) u) σ w P
      forth m =
          let Y : Type 0 = (x : X) × (m.answer ≡ c x) in
          let Q : Y → Store n → Rest = λ y τ v. P (τ, d y.0) v in
          let p : (y : Y) × Thread n m.word σ w (Q y) =
          Thread-pull n m.word σ w Q
          (Thread-map n m.word σ w (λ τ v y. ((y.0, y.1), y.2)) m.thread) in
          record {
            answer = d p.0.0;
            word = m.word;
            plays = (p.0.0, refl, rw p.0.1 at m.plays);
            thread = p.1;
          }

      back : Means n (λ a u. (x : X) × (a ≡ d x) × L (c x) u) σ w P →
          Means n L σ w (λ e v. (x : X) × (e.1 ≡ c x) × P (e.0, d x) v)
      back m =
          let (x, e, l) = m.plays in
          record {
            answer = c x;
            word = m.word;
            plays = l;
            thread = Thread-map n m.word σ w (λ τ v t. (x, refl, rw e at t)) m.thread;
          }

  -- a visible move, then L
  pub said : (i j : ℕ) (e : Event) {L : Language} {P : Exit n → Rest} →
      Reads (move (at i j) e) w (λ v. Means n L σ v P) →
      Means n (λ a u. (r : Word) × (u ≡ move (at i j) e ∷ r) × L a r) σ w P
  unfolding Thread Moves
  said i j e {L} {P} x =
      let Y : Type 0 = (a : Answer) × (u : Word) × L a u in
      let Q : Y → Rest = λ y v. Thread n y.1 σ v (λ τ v'. P (τ, y.0) v') in
      let p : (y : Y) × Reads (move (at i j) e) w (Q y) =
      Reads-pull (move (at i j) e) w Q
      (Reads-map (move (at i j) e) w (λ v m. ((m.answer, m.word, m.plays), m.thread)) x) in
      record {
        answer = p.0.0;
        word = move (at i j) e ∷ p.0.1;
        plays = (p.0.1, refl, p.0.2);
        thread = p.1;
      }

  -- what the end shows of the answer
  pub noted : {G : Answer → Type 0} {L : Language} {P : Exit n → Rest} →
      ((e : Exit n) (v : Word) → P e v → G e.1) → Means n L σ w P → Means n (λ a u. G a × L a u) σ w P
  noted {G} {L} {P} f m =
      let p : (g : G m.answer) × Thread n m.word σ w (λ τ v. P (τ, m.answer) v) =
      Thread-pull n m.word σ w (λ g τ v. P (τ, m.answer) v)
      (Thread-map n m.word σ w (λ τ v x. (f (τ, m.answer) v x, x)) m.thread) in
      record { answer = m.answer; word = m.word; plays = (p.0, m.plays); thread = p.1 }
