-- Executions of a machine against a word, as predicate transformers: an execution reaches an exit, and a predicate
-- holds of the exit and of what is left of the word.
use mathlib.Core.Path.{◌≡◌}
use mathlib.Core.Logic.{◌↔◌}
use mathlib.Core.List.{[], ◌∷◌}
use Prim.Native.Nat.{ℕ, zero, suc}
use Rattle.language.specs.Move.{Move, Word}
use Rattle.states_machine.specs.Action.{Next, to, out, dead, Heard, who, heard, Hears, Action, go, say, hear}

-- a predicate on what is left of the word
abbrev pub Rest : Type 1
Rest = Word → Type 0

-- the word begins with m, and P holds of the rest
unfoldable pub Reads : Move → Word → Rest → Type 0
Reads m [] P = ⊥
Reads m (x ∷ w) P = (m ≡ x) × P w

-- one step that does o on the word w, then P
unfoldable pub After : {S A : Type 0} → Action S A → Word → (Next S A → Rest) → Type 0
After (go n) w P = P n w
After (say m n) w P = Reads m w (P n)
After (hear l k) w P = (r : Heard) × (h : Hears l r) × Reads (heard (who l) r) w (P (k r h))

-- F of a state, G of an exit
unfoldable pub Case : {S A : Type 0} → Next S A → (S → Type 0) → (A → Type 0) → Type 0
Case (to s) F G = F s
Case (out a) F G = G a
Case dead F G = ⊥

-- at most k steps from a state reach an exit where P holds
unfoldable pub Runs : {S A : Type 0} → (S → Action S A) → ℕ → S → Word → (A → Rest) → Type 0
Runs step zero s w P = ⊥
Runs step (suc k) s w P = After (step s) w (λ n v. Case n (λ x. Runs step k x v P) (λ a. P a v))

-- the same from wherever a transition leads
unfoldable pub Exec : {S A : Type 0} → (S → Action S A) → ℕ → Next S A → Word → (A → Rest) → Type 0
unfolding Case
Exec step k n w P = Case n (λ x. Runs step k x w P) (λ a. P a w)

-- some number of steps
abbrev pub Reaches : {S A : Type 0} → (S → Action S A) → Next S A → Word → (A → Rest) → Type 0
Reaches step n w P = (k : ℕ) × Exec step k n w P

-- Each transformer is monotone, and an existential in its predicate can be pulled out.
pub Reads-map : (m : Move) (w : Word) {P Q : Rest} → ((v : Word) → P v → Q v) → Reads m w P → Reads m w Q
unfolding Reads
Reads-map m [] f r = r
Reads-map m (x ∷ w) f r = (r.0, f w r.1)

pub Reads-pull : {X : Type 0} (m : Move) (w : Word) (Q : X → Rest) → Reads m w (λ v. (x : X) × Q x v) →
    (x : X) × Reads m w (Q x)
unfolding Reads
Reads-pull m [] Q r = absurd r
Reads-pull m (x ∷ w) Q r = (r.1.0, (r.0, r.1.1))

pub After-map : {S A : Type 0} (o : Action S A) (w : Word) {P Q : Next S A → Rest} →
    ((n : Next S A) (v : Word) → P n v → Q n v) → After o w P → After o w Q
unfolding After
After-map (go n) w f r = f n w r
After-map (say m n) w f r = Reads-map m w (f n) r
After-map (hear l k) w f r = (r.0, r.1, Reads-map _ w (f (k r.0 r.1)) r.2)

After-pull : {X S A : Type 0} (o : Action S A) (w : Word) (Q : X → Next S A → Rest) →
    After o w (λ n v. (x : X) × Q x n v) → (x : X) × After o w (Q x)
unfolding After
After-pull (go n) w Q r = r
After-pull (say m n) w Q r = Reads-pull m w (λ x. Q x n) r
After-pull (hear l k) w Q r =
    let p = Reads-pull _ w (λ x. Q x (k r.0 r.1)) r.2 in
    (p.0, (r.0, r.1, p.1))

Case-map : {S A : Type 0} (n : Next S A) {F F' : S → Type 0} {G G' : A → Type 0} →
    ((s : S) → F s → F' s) → ((a : A) → G a → G' a) → Case n F G → Case n F' G'
unfolding Case
Case-map (to s) f g c = f s c
Case-map (out a) f g c = g a c
Case-map dead f g c = c

module _ {S A : Type 0} (step : S → Action S A) where
  -- monotone in the predicate
  Runs-map : (k : ℕ) (s : S) (w : Word) {P Q : A → Rest} → ((a : A) (v : Word) → P a v → Q a v) →
      Runs step k s w P → Runs step k s w Q
  unfolding Runs
  Runs-map zero s w f e = e
  Runs-map (suc k) s w f e = After-map (step s) w (λ n v. Case-map n (λ x. Runs-map k x v f) (λ a. f a v)) e

  Exec-map : (k : ℕ) (n : Next S A) (w : Word) {P Q : A → Rest} → ((a : A) (v : Word) → P a v → Q a v) →
      Exec step k n w P → Exec step k n w Q
  unfolding Exec
  Exec-map k n w f e = Case-map n (λ x. Runs-map k x w f) (λ a. f a w) e

  pub Reaches-map : (n : Next S A) (w : Word) {P Q : A → Rest} → ((a : A) (v : Word) → P a v → Q a v) →
      Reaches step n w P → Reaches step n w Q
  Reaches-map n w f r = (r.0, Exec-map r.0 n w f r.1)

  -- one step more is allowed
  Runs-more : (k : ℕ) (s : S) (w : Word) (P : A → Rest) → Runs step k s w P → Runs step (suc k) s w P
  unfolding Runs
  Runs-more zero s w P e = absurd e
  Runs-more (suc k) s w P e = After-map (step s) w (λ n v. Case-map n (λ x. Runs-more k x v P) (λ a c. c)) e

  pub Exec-more : (k : ℕ) (n : Next S A) (w : Word) (P : A → Rest) → Exec step k n w P → Exec step (suc k) n w P
  unfolding Exec
  Exec-more k n w P e = Case-map n (λ x. Runs-more k x w P) (λ a c. c) e

  -- nothing is reached from nowhere
  pub Exec-dead : (k : ℕ) (w : Word) (P : A → Rest) → Exec step k dead w P → ⊥
  unfolding Exec Case
  Exec-dead k w P e = e

  pub Reaches-dead : (w : Word) (P : A → Rest) → Reaches step dead w P → ⊥
  Reaches-dead w P r = Exec-dead r.0 w P r.1

  -- at an exit there is no step to make
  pub ends_at : (a : A) (w : Word) (P : A → Rest) → Reaches step (out a) w P ↔ P a w
  unfolding Exec Case
  ends_at a w P = (λ r. r.1, λ p. (0, p))

  -- at a state there is one step, and what follows it
  pub step-on : (s : S) (w : Word) (P : A → Rest) → After (step s) w (λ n v. Reaches step n v P) →
      Reaches step (to s) w P
  unfolding Exec Runs
  step-on s w P r =
      let p = After-pull (step s) w (λ k n v. Exec step k n v P) r in
      (suc p.0, p.1)

  -- an execution from a state is a step and an execution from there
  pub stepped : (s : S) (w : Word) (P : A → Rest) →
      Reaches step (to s) w P ↔ After (step s) w (λ n v. Reaches step n v P)
  unfolding Exec Runs
  stepped s w P = (λ r. forth r.0 r.1, step-on s w P)
    where
      forth : (k : ℕ) → Exec step k (to s) w P → After (step s) w (λ n v. Reaches step n v P)
      forth zero e = absurd e
      forth (suc k) e = After-map (step s) w (λ n v x. (k, x)) e
