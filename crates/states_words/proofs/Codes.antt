-- The moves and letters that the code makes.
use mathlib.Core.Path.{◌≡◌, refl, sym, ap, ◌∙◌}
use Prim.Native.Nat.{ℕ, zero, suc, ◌≤◌, ◌<◌}
use native.Mathlib.Omega.{arith}
use native.Mathlib.Nat.{mod-eq_of_lt}
use lib.Dec.{eqb}
use Rattle.language.specs.declared.Numbers.{Numbers}
use Rattle.language.specs.Choice.{pick}
use Rattle.language.specs.Number.{numbers}
use Rattle.language.proofs.NumberLaws.{numbers-within, numbers-above}
use Rattle.language.proofs.OrderLaws.{rank-small}
use Rattle.language.specs.Ty.{run, ask, read, write, done, ok, value}
use Rattle.language.specs.Move.{Event, question, answer, at, private, Move, move, kind, value_of}
use Rattle.states_words.specs.Letter.{ranked, letter, Values, Small}
use Rattle.states_positions.specs.declared.Move.{Move as Record}
use Rattle.states_step.specs.walk.Shows.{kind_q, value_q, kind_a, value_a, move_of}
use Rattle.states_words.specs.inner.Moves.{place_of, letter_of}

module _ (N : Numbers) where
  -- THEOREM: the code's letter of a move is its letter
  pub letter-of : N.z ≤ 125 → (m : Move) → Small N m → letter_of N (move_of m) ≡ letter N m
  unfolding letter_of place_of move_of letter Small Values kind_q value_q kind_a value_a kind value_of ranked
  letter-of few (move (at i j) (question run)) h = omega (arith, h.0, h.1)
  letter-of few (move (at i j) (question ask)) h = omega (arith, h.0, h.1)
  letter-of few (move (at i j) (question read)) h = omega (arith, h.0, h.1)
  letter-of few (move (at i j) (question (write v))) h =
      let low : v < 65536 = omega (arith, h.2, numbers-within N) in
      rw (mod-eq_of_lt low) (omega (arith, h.0, h.1))
  letter-of few (move (at i j) (answer done)) h = omega (arith, h.0, h.1)
  letter-of few (move (at i j) (answer ok)) h = omega (arith, h.0, h.1)
  letter-of few (move (at i j) (answer (value v))) h =
      let low : v < 65536 = omega (arith, h.2, numbers-within N) in
      rw (mod-eq_of_lt low) (omega (arith, h.0, h.1))
  letter-of few (move (private i) e) h = absurd h

-- what happens in a move of a kind and a value
unfoldable pub event_by : ℕ → ℕ → Event
event_by k v =
    pick (eqb k 0) (question run)
    (pick (eqb k 1) (answer done)
    (pick (eqb k 2) (question ask)
    (pick (eqb k 3) (question read)
    (pick (eqb k 4) (answer ok)
    (pick (eqb k 5) (answer (value v)) (question (write v)))))))

event-again : (i j : ℕ) (e : Event) →
    event_by (move_of (move (at i j) e)).kind (move_of (move (at i j) e)).value ≡ e
unfolding event_by move_of kind_q value_q kind_a value_a
event-again i j (question run) = refl
event-again i j (question ask) = refl
event-again i j (question read) = refl
event-again i j (question (write v)) = refl
event-again i j (answer done) = refl
event-again i j (answer ok) = refl
event-again i j (answer (value v)) = refl

-- a move as the code has it is of one move
pub move-again : (i j i' j' : ℕ) (e e' : Event) → move_of (move (at i j) e) ≡ move_of (move (at i' j') e') →
    move (at i j) e ≡ move (at i' j') e'
move-again i j i' j' e e' h =
    let a : i ≡ i' = sym (id-of i j e) ∙ ap (λ (m : Record). m.id) h ∙ id-of i' j' e' in
    let b : j ≡ j' = sym (arg-of i j e) ∙ ap (λ (m : Record). m.arg) h ∙ arg-of i' j' e' in
    let c : e ≡ e' = sym (event-again i j e) ∙ ap (λ (m : Record). event_by m.kind m.value) h
    ∙ event-again i' j' e' in
    rw (a, b, c) refl
  where
    id-of : (i j : ℕ) (e : Event) → (move_of (move (at i j) e)).id ≡ i
    id-of i j (question q) = unfold move_of in refl
    id-of i j (answer a) = unfold move_of in refl

    arg-of : (i j : ℕ) (e : Event) → (move_of (move (at i j) e)).arg ≡ j
    arg-of i j (question q) = unfold move_of in refl
    arg-of i j (answer a) = unfold move_of in refl

-- the move of a kind and a value; only the kinds 5 and 6 carry one
pub move-by : (k i j v : ℕ) → k < 7 → (k < 5 → v ≡ 0) →
    move_of (move (at i j) (event_by k v)) ≡ record { kind = k; id = i; arg = j; value = v }
unfolding event_by move_of kind_q value_q kind_a value_a
move-by zero i j v l h = rw (h (omega arith)) refl
move-by (suc zero) i j v l h = rw (h (omega arith)) refl
move-by (suc (suc zero)) i j v l h = rw (h (omega arith)) refl
move-by (suc (suc (suc zero))) i j v l h = rw (h (omega arith)) refl
move-by (suc (suc (suc (suc zero)))) i j v l h = rw (h (omega arith)) refl
move-by (suc (suc (suc (suc (suc zero))))) i j v l h = refl
move-by (suc (suc (suc (suc (suc (suc zero)))))) i j v l h = refl
move-by (suc (suc (suc (suc (suc (suc (suc k))))))) i j v l h = absurd (omega arith)

-- it has a letter
pub small_by : (N : Numbers) (k i j v : ℕ) → k < 7 → i < 256 → j < 256 → v < numbers N →
    Small N (move (at i j) (event_by k v))
unfolding Small event_by Values value_of
small_by N zero i j v l a b h = (a, b, tt)
small_by N (suc zero) i j v l a b h = (a, b, tt)
small_by N (suc (suc zero)) i j v l a b h = (a, b, tt)
small_by N (suc (suc (suc zero))) i j v l a b h = (a, b, tt)
small_by N (suc (suc (suc (suc zero)))) i j v l a b h = (a, b, tt)
small_by N (suc (suc (suc (suc (suc zero))))) i j v l a b h = (a, b, h)
small_by N (suc (suc (suc (suc (suc (suc zero)))))) i j v l a b h = (a, b, h)
small_by N (suc (suc (suc (suc (suc (suc (suc k))))))) i j v l a b h = absurd (omega arith)

-- a move's kind is below 7
pub kind_small : (i j : ℕ) (e : Event) → (move_of (move (at i j) e)).kind < 7
unfolding move_of kind_q kind_a
kind_small i j (question run) = omega arith
kind_small i j (question ask) = omega arith
kind_small i j (question read) = omega arith
kind_small i j (question (write v)) = omega arith
kind_small i j (answer done) = omega arith
kind_small i j (answer ok) = omega arith
kind_small i j (answer (value v)) = omega arith

-- the value of a move that has a letter, and its letter
pub value_small : (N : Numbers) (m : Move) → Small N m → (move_of m).value < numbers N
unfolding move_of value_q value_a Small Values value_of
value_small N (move (at i j) (question run)) h = numbers-above N
value_small N (move (at i j) (question ask)) h = numbers-above N
value_small N (move (at i j) (question read)) h = numbers-above N
value_small N (move (at i j) (question (write v))) h = h.2
value_small N (move (at i j) (answer done)) h = numbers-above N
value_small N (move (at i j) (answer ok)) h = numbers-above N
value_small N (move (at i j) (answer (value v))) h = h.2
value_small N (move (private i) e) h = absurd h

pub letter-small : (N : Numbers) → N.z ≤ 125 → (m : Move) → Small N m → letter N m < 134217728
unfolding letter Small Values kind value_of ranked
letter-small N few (move (at i j) (question run)) h = omega (arith, h.0, h.1)
letter-small N few (move (at i j) (question ask)) h = omega (arith, h.0, h.1)
letter-small N few (move (at i j) (question read)) h = omega (arith, h.0, h.1)
letter-small N few (move (at i j) (question (write v))) h = omega (arith, h.0, h.1, rank-small N few v h.2)
letter-small N few (move (at i j) (answer done)) h = omega (arith, h.0, h.1)
letter-small N few (move (at i j) (answer ok)) h = omega (arith, h.0, h.1)
letter-small N few (move (at i j) (answer (value v))) h = omega (arith, h.0, h.1, rank-small N few v h.2)
letter-small N few (move (private i) e) h = absurd h
