-- The variable of a block: the innermost variable put aside, and what the moves at it agree with.
use mathlib.Core.Path.{◌≡◌, refl}
use mathlib.Core.List.{List, [], ◌∷◌, ◌++◌}
use Prim.Native.Nat.{ℕ, zero, suc, ◌<◌}
use native.Mathlib.Omega.{arith}
use Rattle.language.specs.Ty.{Question, Answer}
use Rattle.language.specs.Move.{Event, question, answer, at, private, move, Word}
use Rattle.language.specs.Play.{Val, kept, hide, Stable, quiet, reads, writes, VarPair, reading, writing}
use Rattle.states_machine.specs.Position.{Context, Store}
use Rattle.states_machine.proofs.Execution.{Rest, Reads-map, Reads-pull}
use Rattle.states_machine.proofs.Thread.{Cell, Cell-map, Cell-pull, At, At-map, At-pull, Moves, Thread}

-- the events at a variable agree with its value, one by one
unfoldable pub Steady : (m : ℕ) → Val m → List Event → Type 0
Steady m v [] = Unit
Steady m v (e ∷ es) = Cell m v e (λ x. Steady m x es)

-- a word followed from a store is its moves at the innermost variable and the others, each by itself
module _ (m : ℕ) (n : Context) where
  pub aside : (u : Word) (v : Val m) (σ : Store n) (w : Word) (P : Store n → Rest) →
      Thread (m ∷ n) u (v, σ) w (λ τ x. P τ.1 x) → Steady m v (kept u) × Thread n (hide u) σ w P
  unfolding Thread Moves At Steady kept hide
  aside [] v σ w P t = (tt, t)
  aside (move (at i j) e ∷ u) v σ w P t =
      Reads-pull _ w (λ s x. Thread n (hide u) σ x P) (Reads-map _ w (λ x. aside u v σ x P) t)
  aside (move (private zero) e ∷ u) v σ w P t =
      let p =
      Cell-pull m v e (λ h x. Steady m x (kept u))
      (Cell-map m v e (λ x y. let z = aside u x σ w P y in (z.1, z.0)) t) in
      (p.1, p.0)
  aside (move (private (suc i)) e ∷ u) v σ w P t =
      At-pull n i e σ (λ s τ. Thread n (hide u) τ w P) (At-map n i e σ (λ τ. aside u v τ w P) t)

  -- and back
  pub beside : (u : Word) (v : Val m) (σ : Store n) (w : Word) (P : Store n → Rest) →
      Steady m v (kept u) → Thread n (hide u) σ w P → Thread (m ∷ n) u (v, σ) w (λ τ x. P τ.1 x)
  unfolding Thread Moves At Steady kept hide
  beside [] v σ w P s t = t
  beside (move (at i j) e ∷ u) v σ w P s t = Reads-map _ w (λ x. beside u v σ x P s) t
  beside (move (private zero) e ∷ u) v σ w P s t = Cell-map m v e (λ x y. beside u x σ w P y t) s
  beside (move (private (suc i)) e ∷ u) v σ w P s t = At-map n i e σ (λ τ. beside u v τ w P s) t

-- private moves come in pairs, a question and its answer, at the blocks below d
pub data Tidy : ℕ → Word → Type 0 where
  clear : {d : ℕ} → Tidy d []
  seen : {d i j : ℕ} {e : Event} {u : Word} → Tidy d u → Tidy d (move (at i j) e ∷ u)
  used : {d i : ℕ} {q : Question} {a : Answer} {u : Word} → i < d → VarPair q a → Tidy d u →
      Tidy d (move (private i) (question q) ∷ move (private i) (answer a) ∷ u)

-- one tidy word after another
pub Tidy-append : {d : ℕ} {u v : Word} → Tidy d u → Tidy d v → Tidy d (u ++ v)
Tidy-append clear s = s
Tidy-append (seen t) s = seen (Tidy-append t s)
Tidy-append (used h p t) s = used h p (Tidy-append t s)

-- a tidy word without the innermost variable
pub Tidy-hide : (d : ℕ) {c : ℕ} {u : Word} → c ≡ suc d → Tidy c u → Tidy d (hide u)
unfolding hide
Tidy-hide d g clear = clear
Tidy-hide d g (seen t) = seen (Tidy-hide d g t)
Tidy-hide d g (used {i = zero} h p t) = Tidy-hide d g t
Tidy-hide d g (used {i = suc i} h p t) = used {d = d} {i = i} (omega arith) p (Tidy-hide d g t)

-- on such words `Steady` is the language's `Stable`
pub steady : (m : ℕ) {v : ℕ} (h : v < m) {es : List Event} → Stable m v es → Steady m (v, h) es
unfolding Steady Cell
steady m h quiet = tt
steady m h (reads s) = (refl, steady m h s)
steady m h (writes b s) = (b, steady m b s)

-- and back
pub stable : {d : ℕ} {u : Word} → Tidy d u → (m : ℕ) (v : Val m) → Steady m v (kept u) → Stable m v.0 (kept u)
unfolding Steady Cell kept
stable clear m v s = quiet
stable (seen t) m v s = stable t m v s
stable (used {i = zero} h reading t) m v s = rw s.0 (reads (stable t m v s.1))
stable (used {i = zero} h writing t) m v s = writes s.0 (stable t m _ s.1)
stable (used {i = suc i} h p t) m v s = stable t m v s
