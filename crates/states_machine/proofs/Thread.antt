-- A word followed from a store: its private moves act on the store, its visible moves are read from another word.
use mathlib.Core.List.{[], ◌∷◌, ◌++◌}
use mathlib.Core.Path.{◌≡◌}
use Prim.Native.Nat.{ℕ, zero, suc, ◌<◌}
use Rattle.language.specs.Ty.{run, ask, read, write, done, ok, value}
use Rattle.language.specs.Move.{Event, question, answer, at, private, Move, move, Word}
use Rattle.language.specs.Play.{Val}
use Rattle.states_machine.specs.Position.{Context, Store}
use Rattle.states_machine.proofs.Execution.{Rest, Reads, Reads-map, Reads-pull}

-- an event at a variable of m values that holds v
unfoldable pub Cell : (m : ℕ) → Val m → Event → (Val m → Type 0) → Type 0
Cell m v (question run) P = ⊥
Cell m v (question ask) P = ⊥
Cell m v (question read) P = P v
Cell m v (question (write x)) P = (h : x < m) × P (x, h)
Cell m v (answer done) P = ⊥
Cell m v (answer ok) P = P v
Cell m v (answer (value x)) P = (x ≡ v.0) × P v

-- an event at the variable of the enclosing block i
unfoldable pub At : (n : Context) → ℕ → Event → Store n → (Store n → Type 0) → Type 0
At [] i e σ P = ⊥
At (m ∷ n) zero e σ P = Cell m σ.0 e (λ v. P (v, σ.1))
At (m ∷ n) (suc i) e σ P = At n i e σ.1 (λ τ. P (σ.0, τ))

-- a move
unfoldable pub Moves : (n : Context) → Move → Store n → Word → (Store n → Rest) → Type 0
Moves n (move (at i j) e) σ w P = Reads (move (at i j) e) w (P σ)
Moves n (move (private i) e) σ w P = At n i e σ (λ τ. P τ w)

-- a word
unfoldable pub Thread : (n : Context) → Word → Store n → Word → (Store n → Rest) → Type 0
Thread n [] σ w P = P σ w
Thread n (m ∷ u) σ w P = Moves n m σ w (λ τ v. Thread n u τ v P)

-- Each is monotone, and an existential in its predicate can be pulled out.
pub Cell-map : (m : ℕ) (v : Val m) (e : Event) {P Q : Val m → Type 0} → ((x : Val m) → P x → Q x) →
    Cell m v e P → Cell m v e Q
unfolding Cell
Cell-map m v (question run) f c = c
Cell-map m v (question ask) f c = c
Cell-map m v (question read) f c = f v c
Cell-map m v (question (write x)) f c = (c.0, f (x, c.0) c.1)
Cell-map m v (answer done) f c = c
Cell-map m v (answer ok) f c = f v c
Cell-map m v (answer (value x)) f c = (c.0, f v c.1)

pub Cell-pull : {X : Type 0} (m : ℕ) (v : Val m) (e : Event) (Q : X → Val m → Type 0) →
    Cell m v e (λ y. (x : X) × Q x y) → (x : X) × Cell m v e (Q x)
unfolding Cell
Cell-pull m v (question run) Q c = absurd c
Cell-pull m v (question ask) Q c = absurd c
Cell-pull m v (question read) Q c = c
Cell-pull m v (question (write x)) Q c = (c.1.0, (c.0, c.1.1))
Cell-pull m v (answer done) Q c = absurd c
Cell-pull m v (answer ok) Q c = c
Cell-pull m v (answer (value x)) Q c = (c.1.0, (c.0, c.1.1))

pub At-map : (n : Context) (i : ℕ) (e : Event) (σ : Store n) {P Q : Store n → Type 0} → ((τ : Store n) → P τ → Q τ) →
    At n i e σ P → At n i e σ Q
unfolding At
At-map [] i e σ f c = c
At-map (m ∷ n) zero e σ f c = Cell-map m σ.0 e (λ v. f (v, σ.1)) c
At-map (m ∷ n) (suc i) e σ f c = At-map n i e σ.1 (λ τ. f (σ.0, τ)) c

pub At-pull : {X : Type 0} (n : Context) (i : ℕ) (e : Event) (σ : Store n) (Q : X → Store n → Type 0) →
    At n i e σ (λ τ. (x : X) × Q x τ) → (x : X) × At n i e σ (Q x)
unfolding At
At-pull [] i e σ Q c = absurd c
At-pull (m ∷ n) zero e σ Q c = Cell-pull m σ.0 e (λ x v. Q x (v, σ.1)) c
At-pull (m ∷ n) (suc i) e σ Q c = At-pull n i e σ.1 (λ x τ. Q x (σ.0, τ)) c

module _ (n : Context) where
  Moves-map : (m : Move) (σ : Store n) (w : Word) {P Q : Store n → Rest} →
      ((τ : Store n) (v : Word) → P τ v → Q τ v) → Moves n m σ w P → Moves n m σ w Q
  unfolding Moves
  Moves-map (move (at i j) e) σ w f c = Reads-map _ w (f σ) c
  Moves-map (move (private i) e) σ w f c = At-map n i e σ (λ τ. f τ w) c

  Moves-pull : {X : Type 0} (m : Move) (σ : Store n) (w : Word) (Q : X → Store n → Rest) →
      Moves n m σ w (λ τ v. (x : X) × Q x τ v) → (x : X) × Moves n m σ w (Q x)
  unfolding Moves
  Moves-pull (move (at i j) e) σ w Q c = Reads-pull _ w (λ x. Q x σ) c
  Moves-pull (move (private i) e) σ w Q c = At-pull n i e σ (λ x τ. Q x τ w) c

  pub Thread-map : (u : Word) (σ : Store n) (w : Word) {P Q : Store n → Rest} →
      ((τ : Store n) (v : Word) → P τ v → Q τ v) → Thread n u σ w P → Thread n u σ w Q
  unfolding Thread
  Thread-map [] σ w f t = f σ w t
  Thread-map (m ∷ u) σ w f t = Moves-map m σ w (λ τ v. Thread-map u τ v f) t

  pub Thread-pull : {X : Type 0} (u : Word) (σ : Store n) (w : Word) (Q : X → Store n → Rest) →
      Thread n u σ w (λ τ v. (x : X) × Q x τ v) → (x : X) × Thread n u σ w (Q x)
  unfolding Thread
  Thread-pull [] σ w Q t = t
  Thread-pull (m ∷ u) σ w Q t =
      Moves-pull m σ w (λ x τ v. Thread n u τ v (Q x)) (Moves-map m σ w (λ τ v. Thread-pull u τ v Q) t)

  -- one word after another
  pub Thread-join : (u v : Word) (σ : Store n) (w : Word) (P : Store n → Rest) →
      Thread n u σ w (λ τ x. Thread n v τ x P) → Thread n (u ++ v) σ w P
  unfolding Thread
  Thread-join [] v σ w P t = t
  Thread-join (m ∷ u) v σ w P t = Moves-map m σ w (λ τ x. Thread-join u v τ x P) t

  -- and back
  pub Thread-split : (u v : Word) (σ : Store n) (w : Word) (P : Store n → Rest) →
      Thread n (u ++ v) σ w P → Thread n u σ w (λ τ x. Thread n v τ x P)
  unfolding Thread
  Thread-split [] v σ w P t = t
  Thread-split (m ∷ u) v σ w P t = Moves-map m σ w (λ τ x. Thread-split u v τ x P) t
