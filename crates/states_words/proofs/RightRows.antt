-- The row that the code makes for a state shows the state's action.
use mathlib.Core.Path.{◌≡◌, refl, sym, ap, ◌∙◌}
use mathlib.Core.Logic.{inl, inr}
use mathlib.Core.List.{List, []}
use Prim.Native.Nat.{ℕ, suc, ◌+◌, ◌-◌, ◌≤◌, ◌<◌}
use native.Mathlib.Omega.{arith}
use lib.ListN.{length}
use Rattle.language.specs.declared.Numbers.{Numbers}
use Rattle.language.specs.Number.{numbers}
use Rattle.language.specs.Move.{Event, at, Move, move}
use Rattle.states_words.specs.Letter.{letter, Small}
use Rattle.states_machine.specs.Action.{Next, to, out, dead, Heard, Listen, Hears}
use Rattle.states_machine.specs.Action.{Action, go, say, hear}
use Rattle.states_machine.specs.Decide.{when, same-move?}
use Rattle.states_machine.specs.Edge.{edge_hear, edge}
use Rattle.states_machine.specs.Settle.{Index}
use Rattle.states_machine.specs.Degree.{hearings, degree}
use Rattle.states_positions.specs.declared.Move.{Move as Record}
use Rattle.states_positions.specs.declared.Out.{Out}
use Rattle.states_positions.specs.declared.Out.TheVariants.{Say, Hear}
use Rattle.states_positions.specs.Row.{sum_of}
use Rattle.states_step.specs.walk.Shows.{move_of, GivenMove}
use Rattle.states_step.proofs.Sums.{sum-small, when-no}
use Rattle.states_words.specs.declared.Wait.{Wait}
use Rattle.states_path.specs.declared.Site.{Site}
use Rattle.states_words.specs.Explicit.{packed, silent_word}
use Rattle.states_path.specs.States.{sheet_at, target_of}
use Rattle.states_words.specs.inner.Moves.{letter_of, limit_of, wait_of, visible_of, silent_of}
use Rattle.states_words.specs.inner.Moves.{edge_by, heard_edges}
use Rattle.states_words.specs.inner.Moves.{edges_of, row_for, row_of}
use Rattle.states_words.specs.inner.Acts.{Waits, Leads, SaysMove, Listens, waits, leads, Acts}
use Rattle.states_words.specs.inner.Ranged.{ActionIn}
use Rattle.states_words.specs.inner.Shown.{Right}
use Rattle.language.specs.Order.{code_at}
use Rattle.language.proofs.OrderLaws.{code-at-below}
use Rattle.states_words.proofs.Codes.{letter-of, event_by, move-again, move-by, small_by}
use Rattle.states_words.proofs.Codes.{kind_small, letter-small}
use Rattle.states_words.proofs.EdgeLists.{Each, Climbs}
use Rattle.states_words.proofs.Heard.{Heeds, heeds, wait-state, limit-one}
use Rattle.states_words.proofs.HeardEdges.{candidate, each-heard}
use Rattle.states_words.proofs.HeardCount.{heard-few}
use Rattle.states_words.proofs.HeardLetters.{heard-climbs}
use Rattle.states_words.proofs.LeftOut.{left_out}
use Rattle.states_words.proofs.SoundRows.{Sound, right_by}

-- a decision that holds
when-same : {X S A : Type 0} (d : Dec X) (x : Next S A) → X → when d (λ h. x) ≡ x
unfolding when
when-same (yes y) x h = refl
when-same (no n) x h = absurd (n h)

-- no move is given
abbrev none : Record
none = record { kind = 255; id = 0; arg = 0; value = 0 }

-- whom a state waits for, where no move is given
data Waiting (N : Numbers) (t : List ℕ) (l : Listen) (y : Out) : Type 0 where
  waiting : {node q x c : ℕ} → Waits N t l node q x c → y ≡ Hear node q x c → Waiting N t l y

no_move : (i j : ℕ) (e : Event) → 255 ≡ (move_of (move (at i j) e)).kind → ⊥
no_move i j e h = omega (arith, kind_small i j e)

waited : {N : Numbers} {t : List ℕ} {K : ℕ} {l : Listen} {k : (r : Heard) → Hears l r → Next (Index K) (Unit {0})}
    {y : Out} → Listens N t none l k y → Waiting N t l y
waited (waits e w h) = waiting w h
waited (leads i j e h d) = absurd (no_move i j e (ap (λ (m : Record). m.kind) h))

-- where a silent step leads
module _ (s : Site) {K : ℕ} (room : s.o + K + 1 < s.n) (most : s.n ≤ 8193) where
  leads-target : (x : Next (Index K) (Unit {0})) (y : Out) → Leads x y → target_of s y ≡ packed s.o s.n x
  unfolding Leads target_of packed
  leads-target (to i) y (l, u, e) = rw e (sum-small s.o i.0 (omega (arith, i.1)))
  leads-target (out a) y h = absurd h
  leads-target dead y h = rw h refl

  leads-silent : (x : Next (Index K) (Unit {0})) (y : Out) → Leads x y → silent_of s y ≡ suc (packed s.o s.n x)
  unfolding Leads visible_of target_of silent_of packed
  leads-silent (to i) y (l, u, e) =
      let a = sum-small s.o i.0 (omega (arith, i.1)) in
      rw (e, a, sum-small (s.o + i.0) 1 (omega (arith, i.1))) (omega arith)
  leads-silent (out a) y h = absurd h
  leads-silent dead y h = rw (h, sum-small (s.n - 1) 1 (omega arith)) (omega arith)

-- the edges of a silent step, and of a move that is said
module _ (t : List ℕ) (N : Numbers) (s : Site) (state : ℕ) {K : ℕ} where
  leads-edges : (x : Next (Index K) (Unit {0})) (y : Out) → Leads x y → edges_of t N s state y ≡ []
  unfolding Leads edges_of
  leads-edges (to i) y (l, u, e) = rw e refl
  leads-edges (out a) y h = absurd h
  leads-edges dead y h = rw h refl

  one-said : (m : Move) (x : Next (Index K) (Unit {0})) (y : Out) → SaysMove m x y → length (edges_of t N s state y) ≤ 1
  unfolding SaysMove edges_of
  one-said m (to i) y h = rw h (omega arith)
  one-said m (out a) y h = rw h (omega arith)
  one-said m dead y h = absurd h

module _ (N : Numbers) (few : N.z ≤ 125) (t : List ℕ) (s : Site) {K : ℕ} (room : s.o + K + 1 < s.n)
    (most : s.n ≤ 8193) (state : ℕ) where
  -- a silent step
  go-row : (x : Next (Index K) (Unit {0})) (y : Out) → Leads x y →
      Right N s.n s.o (go x) (row_for t N s state y)
  unfolding row_for silent_word edge
  go-row x y h =
      right_by N s.o s.n few room (go x) (row_for t N s state y) (leads-silent s room most x y h)
      (rw (leads-edges t N s state x y h) (unfold Climbs in omega arith))
      (rw (leads-edges t N s state x y h) (unfold Each in tt)) (λ m _ _. refl)

  -- a move that is said
  said_row : (m : Move) (x : Next (Index K) (Unit {0})) (next : ℕ) → sum_of s.o next ≡ packed s.o s.n x →
      Small N m → Right N s.n s.o (say m x) (row_for t N s state (Say (move_of m) next))
  unfolding row_for visible_of silent_of edges_of silent_word edge Climbs Each Sound
  said_row m x next e h =
      right_by N s.o s.n few room (say m x) (row_for t N s state (Say (move_of m) next)) refl
      (omega arith, rw (letter-of N few m h) (letter-small N few m h)) (
        (
          m,
          h,
          sym (letter-of N few m h),
          e ∙ ap (packed s.o s.n) (sym (when-same (same-move? m m) x refl)),
        ),
        tt,
      )
      (λ y _ d. when-no (same-move? m y) (λ _. x) (λ q. d.0 (letter-of N few m h ∙ ap (letter N) q)))

  say-row : (m : Move) (x : Next (Index K) (Unit {0})) (y : Out) → SaysMove m x y → Small N m →
      Right N s.n s.o (say m x) (row_for t N s state y)
  unfolding SaysMove packed
  say-row m (to i) y h r =
      rw h (said_row m (to i) i.0 (sum-small s.o i.0 (omega (arith, i.1))) r)
  say-row m (out a) y h r = rw h (said_row m (out a) K (sum-small s.o K (omega arith)) r)
  say-row m dead y h r = absurd h

  -- a wait
  module _ (l : Listen) (k : (r : Heard) → Hears l r → Next (Index K) (Unit {0})) (wait : Wait) (h : Heeds t l wait)
      (here : wait.state ≡ state)
      (acts : (m : Record) → GivenMove m → Listens N t m l k (sheet_at t N s.root state m)) where
    shown : (i j : ℕ) (e : Event) (y : Out) → Listens N t (move_of (move (at i j) e)) l k y →
        target_of s y ≡ packed s.o s.n (edge_hear l k (move (at i j) e))
    shown i j e y (waits f w g) = absurd (no_move i j e (sym f))
    shown i j e y (leads i' j' e' f g) =
        leads-target s room most (edge_hear l k (move (at i' j') e')) y g
        ∙ ap (λ (m : Move). packed s.o s.n (edge_hear l k m)) (sym (move-again i j i' j' e e' f))

    sound : (a b r : ℕ) → a < 7 → b < 5 → r < numbers N → code_at N r < limit_of t wait a b →
        Sound N s.o s.n (hear l k) (edge_by t N s wait.state (candidate N wait a b r))
    unfolding Sound edge_by edge
    sound a b r x y z w =
        let m = move (at wait.id b) (event_by a (code_at N r)) in
        let small = small_by N a wait.id b (code_at N r) x h.byte (omega arith) (code-at-below N r z) in
        let same = move-by a wait.id b (code_at N r) x (λ q. omega (arith, limit-one t wait a b q)) in
        let given = acts (move_of m) (inr (wait.id, b, _, refl)) in (
          m,
          small,
          sym (letter-of N few m small) ∙ ap (letter_of N) same,
          rw (here, ← same) (shown wait.id b (event_by a (code_at N r)) _ given),
        )

    hear-row : Right N s.n s.o (hear l k) (record { silent = 0; edges = heard_edges t N s wait 35 })
    unfolding silent_word edge
    hear-row =
        right_by N s.o s.n few room (hear l k) _ refl (heard-climbs t N s wait few h.byte)
        (each-heard t N s wait (Sound N s.o s.n (hear l k)) sound 35 (omega arith))
        (λ m small d. left_out N few t s l k wait h m small d)

-- THEOREM: the row that the code makes for a state shows the state's action
pub right-row : (N : Numbers) → N.z ≤ 125 → (t : List ℕ) (s : Site) {K : ℕ} (a : Action (Index K) (Unit {0})) (k : ℕ) →
    s.o + K + 1 < s.n → s.n ≤ 8193 →
    ((m : Record) → GivenMove m → Acts N t m a (sheet_at t N s.root k m)) → ActionIn N a →
    Right N s.n s.o a (row_of t N s k)
unfolding row_of Acts ActionIn
right-row N few t s (go x) k room most h i = go-row N few t s room most k x _ (h none (inl refl))
right-row N few t s (say m x) k room most h i = say-row N few t s room most k m x _ (h none (inl refl)) i
right-row N few t s {K} (hear l f) k room most h i = cases (waited (h none (inl refl)))
  where
    cases : {y : Out} → Waiting N t l y → Right N s.n s.o (hear l f) (row_for t N s k y)
    cases (waiting {node = node} {q = q} {x = x} {c = c} w e) =
        rw e (unfold row_for visible_of silent_of edges_of in
        hear-row N few t s room most k l f (wait_of t k node q x c) (heeds t k w) (wait-state t k node q x c) h)

-- THEOREM: it has at most as many edges as the degree of the action
pub few-row : (N : Numbers) (t : List ℕ) (s : Site) {K : ℕ} (a : Action (Index K) (Unit {0})) (k : ℕ) →
    ((m : Record) → GivenMove m → Acts N t m a (sheet_at t N s.root k m)) →
    length (row_of t N s k).edges ≤ degree a
unfolding row_of row_for Acts degree
few-row N t s (go x) k h = rw (leads-edges t N s k x _ (h none (inl refl))) (omega arith)
few-row N t s (say m x) k h = one-said t N s k m x _ (h none (inl refl))
few-row N t s (hear l f) k h = cases (waited (h none (inl refl)))
  where
    cases : {y : Out} → Waiting N t l y → length (edges_of t N s k y) ≤ hearings l
    cases (waiting {node = node} {q = q} {x = x} {c = c} w e) =
        rw e (unfold edges_of in omega (arith, heard-few t N s (wait_of t k node q x c), (heeds t k w).few))
