-- A move for which a state that waits has no edge leads nowhere.
use mathlib.Core.Path.{◌≡◌, refl, sym, ap, ap₂, ◌∙◌}
use mathlib.Core.List.{List}
use Prim.Native.Nat.{ℕ, zero, suc, ◌≤◌, ◌<◌}
use native.Mathlib.Omega.{arith}
use native.Mathlib.Decide.{ℕ_discrete}
use Rattle.language.specs.declared.Numbers.{Numbers}
use Rattle.language.specs.Move.{question, answer, at, private, Move, move}
use Rattle.states_words.specs.Letter.{letter, Small}
use Rattle.states_machine.specs.Action.{Next, dead, Heard, asked, answered, opened, Listen, who, heard, Hears}
use Rattle.states_machine.specs.Decide.{when, hears?}
use Rattle.states_machine.specs.Edge.{received, edge_hear}
use Rattle.states_step.specs.walk.Shows.{move_of}
use Rattle.states_step.proofs.Sums.{when-no}
use Rattle.states_words.specs.declared.Wait.{Wait}
use Rattle.states_path.specs.declared.Site.{Site}
use Rattle.states_words.specs.inner.Moves.{letter_of, edge_by, heard_edges}
use Rattle.language.specs.Order.{code_at}
use Rattle.language.proofs.OrderLaws.{code-at-each}
use Rattle.states_words.proofs.Codes.{letter-of}
use Rattle.states_words.proofs.Codes.{kind_small, value_small}
use Rattle.states_words.proofs.EdgeLists.{Absent}
use Rattle.states_words.proofs.Heard.{Heeds}
use Rattle.states_words.proofs.HeardEdges.{of-heard}

-- a move that is not heard leads nowhere
unheard : {S A : Type 0} (l : Listen) (k : (r : Heard) → Hears l r → Next S A) (i : ℕ) (r : Heard) →
    (who l ≡ i → Hears l r → ⊥) → received l k i r ≡ dead
unfolding received when
unheard l k i r h = cases (ℕ_discrete (who l) i)
  where
    cases : (d : Dec (who l ≡ i)) → when d (λ e. when (hears? l r) (λ x. k r x)) ≡ dead
    cases (yes e) = when-no (hears? l r) (λ x. k r x) (h e)
    cases (no n) = refl

dead-unless : {S A : Type 0} (l : Listen) (k : (r : Heard) → Hears l r → Next S A) (m : Move) →
    ((r : Heard) → heard (who l) r ≡ m → Hears l r → ⊥) → edge_hear l k m ≡ dead
unfolding edge_hear heard
dead-unless l k (move (private i) e) h = refl
dead-unless l k (move (at i zero) (question q)) h =
    unheard l k i (opened q) (λ e. h (opened q) (ap (λ (x : ℕ). move (at x 0) (question q)) e))
dead-unless l k (move (at i zero) (answer a)) h =
    unheard l k i (answered a) (λ e. h (answered a) (ap (λ (x : ℕ). move (at x 0) (answer a)) e))
dead-unless l k (move (at i (suc j)) (question q)) h =
    unheard l k i (asked j q) (λ e. h (asked j q) (ap (λ (x : ℕ). move (at x (suc j)) (question q)) e))
dead-unless l k (move (at i (suc j)) (answer a)) h = refl

-- the id and the kind of a move that is heard
heard-id : (i : ℕ) (r : Heard) → (move_of (heard i r)).id ≡ i
unfolding heard move_of
heard-id i (asked j q) = refl
heard-id i (answered a) = refl
heard-id i (opened q) = refl

heard-kind : (i : ℕ) (r : Heard) → (move_of (heard i r)).kind < 7
unfolding heard
heard-kind i (asked j q) = kind_small i (suc j) (question q)
heard-kind i (answered a) = kind_small i 0 (answer a)
heard-kind i (opened q) = kind_small i 0 (question q)

module _ (N : Numbers) (few : N.z ≤ 125) (t : List ℕ) (s : Site) (l : Listen) where
  -- the edge of a move that is heard is there
  present : (wait : Wait) → Heeds t l wait → (r : Heard) → Hears l r → Small N (heard (who l) r) →
      Absent (letter N (heard (who l) r)) (heard_edges t N s wait 35) → ⊥
  unfolding edge_by
  present wait h r f small d =
      let m = heard (who l) r in
      let (c, x, e) = code-at-each N (move_of m).value (value_small N m small) in
      let same : wait.id ≡ (move_of m).id = sym h.same ∙ sym (heard-id (who l) r) in
      let a = heard-kind (who l) r in
      let b = h.near r f in
      let of : ℕ → ℕ → ℕ =
      λ i v. letter_of N (record { kind = (move_of m).kind; id = i; arg = (move_of m).arg; value = v }) in
      let found : of wait.id (code_at N c) ≡ letter N m = ap₂ of same e ∙ letter-of N few m small in
      of-heard t N s wait (λ y. y.letter ≡ letter N m → ⊥) (move_of m).kind (move_of m).arg c b x
      (rw e (h.below r f)) 35 (omega arith) d found

  -- THEOREM: a move without an edge leads nowhere
  pub left_out : {S A : Type 0} (k : (r : Heard) → Hears l r → Next S A) (wait : Wait) → Heeds t l wait → (m : Move) →
      Small N m → Absent (letter N m) (heard_edges t N s wait 35) → edge_hear l k m ≡ dead
  left_out k wait h m small d = dead-unless l k m (λ r e f. present wait h r f (rw e small) (rw e d))
