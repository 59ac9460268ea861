-- The graph with its targets settled has the transitions of the machine's automaton.
use mathlib.Core.Path.{◌≡◌, refl, sym, ap, ◌∙◌}
use mathlib.Core.Bool.{Bool, true, false, cond}
use mathlib.Core.List.{List, [], ◌∷◌}
use Prim.Native.Nat.{ℕ, zero, suc, ◌+◌, ◌-◌, ◌≤◌, ◌<◌}
use native.Mathlib.Omega.{arith}
use lib.ListN.{get_or}
use lib.Dec.{eqb}
use borrow.Author.Tests.{eq-eqb, ne_eqb}
use Rattle.language.specs.declared.Numbers.{Numbers}
use Rattle.language.specs.Move.{Move, Word}
use Rattle.states_machine.specs.Action.{Next, to, out, dead, Action, go, say, hear}
use Rattle.states_machine.specs.Edge.{edge}
use Rattle.states_machine.specs.Settle.{Index, settle, next, run}
use Rattle.states_machine.proofs.EdgeLaws.{Visible}
use Rattle.states_machine.proofs.Silent.{Stops}
use Rattle.dfa.specs.Graph as graph
use Rattle.dfa.specs.Graph.{δ, look, target, Graph}
use Rattle.dfa_silent.specs.Silent.{stepped, moved, Settled, Settling}
use Rattle.dfa_silent.proofs.laws.Settle.{rising}
use Rattle.dfa_silent.proofs.laws.Settled.{settled_here}
use Rattle.states_words.specs.Letter.{letter, Small, AllSmall, along}
use Rattle.states_words.specs.Explicit.{packed, silent_word, Explicit}
use Rattle.states_words.proofs.Advance.{advance, advances, advances-last, View, stops, goes, view, advance-stop}
use Rattle.states_words.proofs.Advance.{advance-go, go-not-stop, settle-dead, stopped, unstopped}

-- a visible action has no silent step
quiet : (o n : ℕ) {K : ℕ} (a : Action (Index K) (Unit {0})) → Visible a → silent_word o n a ≡ 0
unfolding silent_word Visible
quiet o n (go x) v = absurd v
quiet o n (say m x) v = refl
quiet o n (hear l k) v = refl

module _ {N : Numbers} {S G : List ℕ} {n o K : ℕ} {step : Index K → Action (Index K) (Unit {0})}
    (E : Explicit N S G n o step) where
  -- the silent words: 0 at a stop, else 1 more than the next state
  word-stop : (x : Next (Index K) (Unit {0})) → Stops step x → get_or S (packed o n x) 0 ≡ 0
  unfolding packed Stops
  word-stop (to s) h = E.silent s ∙ quiet o n (step s) h
  word-stop (out a) h = E.end_stays
  word-stop dead h = E.dead_stays

  word-go : {s : Index K} {x : Next (Index K) (Unit {0})} → step s ≡ go x →
      get_or S (packed o n (to s)) 0 ≡ suc (packed o n x)
  unfolding packed silent_word
  word-go {s} e = E.silent s ∙ rw e

  -- one silent step, and m of them
  one-step : (x : Next (Index K) (Unit {0})) → stepped S (packed o n x) ≡ packed o n (advance step x)
  one-step x = by x (view step x)
    where
      by : (x : Next (Index K) (Unit {0})) → View step x → stepped S (packed o n x) ≡ packed o n (advance step x)
      by x (stops h) = rw (advance-stop step x h, eq-eqb _ _ (word-stop x h))
      by x (goes {s = s} {x = y} e) =
          rw (advance-go step e, word-go e, ne_eqb (suc (packed o n y)) 0 (λ z. omega arith)) (omega arith)

  steps_on : (m : ℕ) (x : Next (Index K) (Unit {0})) → moved S m (packed o n x) ≡ packed o n (advances step m x)
  unfolding moved advances
  steps_on zero x = refl
  steps_on (suc m) x =
      rw (steps_on m x) (one-step (advances step m x) ∙ ap (packed o n) (sym (advances-last step m x)))

  -- a state settles where the machine settles
  pub settles : (x : Next (Index K) (Unit {0})) {y : ℕ} → Settled S n (packed o n x) y → y ≡ packed o n
      (settle step K x)
  unfolding packed
  settles x R =
      let m = R.steps in
      let l : K ≤ m = omega (arith, R.enough, E.room) in
      R.ends ∙ rw (steps_on m x) (by (view step (advances step m x)) m l refl)
    where
      by : {z : Next (Index K) (Unit {0})} → View step z → (m : ℕ) → K ≤ m → advances step m x ≡ z →
          cond (eqb (get_or S (packed o n z) 0) 0) (packed o n z) (n - 1) ≡ packed o n (settle step K x)
      by {z} (stops h) m l e =
          rw (eq-eqb _ _ (word-stop z h)) (ap (packed o n) (sym e ∙ stopped step m x l (rw e h)))
      by (goes {s = s} {x = y} f) m l e =
          rw (word-go f, ne_eqb (suc (packed o n y)) 0 (λ z. omega arith))
          (ap (packed o n) (sym (unstopped step m x l (λ h. go-not-stop step f (rw e at h)))))

module _ {S G G' : List ℕ} {n : ℕ} (g : Graph G n) (R : Settling n S G G') (rest : get_or S (n - 1) 0 ≡ 0) where
  -- the first edges rise
  to_last : (d p : ℕ) → p + d ≡ n → get_or G p 0 ≤ get_or G n 0
  to_last zero p h = ap-le (omega arith)
    where
      ap-le : p ≡ n → get_or G p 0 ≤ get_or G n 0
      ap-le e = rw e (omega arith)
  to_last (suc d) p h =
      let a = to_last d (p + 1) (omega arith) in
      let b : get_or G p 0 ≤ get_or G (p + 1) 0 = (g.edges p (omega arith)).le in
      omega arith

  -- where a letter leads, before and after
  looked : (m k i : ℕ) → get_or G 0 0 ≤ i → i + k ≤ get_or G n 0 → Settled S n (look G n m k i) (look G' n m k i)
  unfolding look
  looked m zero i l h = settled_here S n (n - 1) rest
  looked m (suc k) i l h =
      let later = looked m k (suc i) (omega arith) (omega arith) in
      rw (R.letters i) (by (eqb (graph.letter G n i) m) later)
    where
      by : (b : Bool) → Settled S n (look G n m k (suc i)) (look G' n m k (suc i)) →
          Settled S n (cond b (target G n i) (look G n m k (suc i))) (cond b (target G' n i) (look G' n m k (suc i)))
      by true s = R.targets i l (omega arith)
      by false s = s

  pub leads : (p m : ℕ) → p < n → Settled S n (δ G n p m) (δ G' n p m)
  leads p m h =
      let a = rising G n g p (omega arith) in
      let b = to_last (n - (p + 1)) (p + 1) (omega arith) in
      let c = (g.edges p h).le in
      rw (R.first p (omega arith), R.first (p + 1) (omega arith))
      (looked m (get_or G (p + 1) 0 - get_or G p 0) (get_or G p 0) a (omega arith))

module _ {N : Numbers} {S G G' : List ℕ} {n o K : ℕ} {step : Index K → Action (Index K) (Unit {0})}
    (E : Explicit N S G n o step) (g : Graph G n) (R : Settling n S G G') where
  -- THEOREM: a letter leads where the automaton's transition leads
  pub transition : (x : Next (Index K) (Unit {0})) (m : Move) → Small N m →
      δ G' n (packed o n x) (letter N m) ≡ packed o n (next step x m)
  unfolding packed next
  transition (to s) m h =
      let r = leads g R E.dead_stays (o + s.0) (letter N m) (omega (arith, s.1, E.room)) in
      settles E (edge (step s) m) (rw (E.edges s m h) at r)
  transition (out a) m h =
      let r = leads g R E.dead_stays (o + K) (letter N m) (omega (arith, E.room)) in
      settles E dead (rw (E.end_edges (letter N m)) at r) ∙ ap (packed o n) (settle-dead step K)
  transition dead m h =
      let r = leads g R E.dead_stays (n - 1) (letter N m) (omega (arith, E.room)) in
      settles E dead (rw (E.dead_edges (letter N m)) at r) ∙ ap (packed o n) (settle-dead step K)

  -- THEOREM: a word leads where the automaton's run leads
  pub runs : (u : Word) → AllSmall N u → (x : Next (Index K) (Unit {0})) →
      along (δ G' n) N (packed o n x) u ≡ packed o n (run step x u)
  unfolding along run AllSmall
  runs [] h x = refl
  runs (m ∷ u) h x = rw (transition x m h.0) (runs u h.1 (next step x m))

  -- the end is the state o + K
  pub ended : (x : Next (Index K) (Unit {0})) → packed o n x ≡ o + K → x ≡ out tt
  unfolding packed
  ended (to s) e = absurd (omega (arith, s.1))
  ended (out tt) e = refl
  ended dead e = absurd (omega (arith, E.room))
