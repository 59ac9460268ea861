-- The length rules (demand 3) for closed terms: two terms that differ in a play differ in a short one, and a term
-- with a complete play has a short one.
use Prim.Native.Nat.{ℕ, ◌+◌, ◌-◌, ◌≤◌, ◌<◌}
use native.Mathlib.Omega.{arith}
use native.Mathlib.Decide.{dec_lt}
use native.Mathlib.Bridge.{le_prop}
use mathlib.Core.HLevel.{Σ_prop_path}
use mathlib.Core.Path.{◌≡◌, refl, sym, ap, ◌∙◌}
use mathlib.Core.Bool.{Bool, true, false, cond}
use mathlib.Core.Logic.{◌↔◌, ◌⊎◌, inl, inr}
use mathlib.Core.List.{[], ◌∷◌}
use lib.Dec.{eqb, ltb}
use lib.ListN.{length}
use borrow.Author.Tests.{eqb-true, eq-eqb, lt-ltb, le-ltb}
use Rattle.language.specs.declared.Numbers.{Numbers}
use Rattle.language.specs.Choice.{pick}
use Rattle.language.specs.Ty.{Ty}
use Rattle.language.specs.Term.{Term}
use Rattle.language.specs.Typing.{Typed}
use Rattle.language.specs.Move.{Move, Word}
use Rattle.language.specs.Play.{Complete}
use Rattle.language.specs.Weight.{size}
use Rattle.states_machine.specs.Range.{TyIn, InRange}
use Rattle.states_machine.specs.Action.{Next, to, out, dead, Action}
use Rattle.states_machine.specs.Settle.{Index, next, run}
use Rattle.states_machine.specs.Sheet.{spots, steps, begin}
use Rattle.states_machine.proofs.Scope.{scoped_of}
use Rattle.states_machine.proofs.Accepts.{spots-size, language}
use Rattle.dfa.specs.Word.{accepting}
use Rattle.states_words.specs.Explicit.{packed}
use Rattle.states_words.proofs.Spelling.{complete-small}
use Rattle.serve_compare.proofs.Trips.{trip, Closed, Recognizes, in_first, in_second, SameOrShort}
use Rattle.serve_compare.proofs.Trips.{none-recognized, same-or-short}

-- the state k, if there is one
unfoldable state_at : {K : ℕ} (k : ℕ) → Dec (k < K) → Next (Index K) (Unit {0})
state_at k (yes l) = to (k, l)
state_at k (no l) = dead

state-at : {K : ℕ} (s : Index K) (k : ℕ) → k ≡ s.0 → (d : Dec (k < K)) → state_at k d ≡ to s
unfolding state_at
state-at s k e (yes l) = ap to (Σ_prop_path (λ k. le_prop) e)
state-at s k e (no l) = absurd (l (rw e s.1))

state-none : {K : ℕ} (k : ℕ) → K ≤ k → (d : Dec (k < K)) → state_at k d ≡ dead
unfolding state_at
state-none k h (yes l) = absurd (omega arith)
state-none k h (no l) = refl

-- the accepting states
accepting-first : (f g : ℕ) → accepting f g f ≡ true
accepting-first f g = rw (eq-eqb f f refl)

accepting-second : (f g : ℕ) → accepting f g g ≡ true
accepting-second f g = by (eqb g f)
  where
    by : (b : Bool) → cond b true (eqb g g) ≡ true
    by true = refl
    by false = eq-eqb g g refl

accepting-one : (f g x : ℕ) → accepting f g x ≡ true → (x ≡ f) ⊎ (x ≡ g)
accepting-one f g x = by (eqb x f) refl
  where
    by : (b : Bool) → eqb x f ≡ b → cond b true (eqb x g) ≡ true → (x ≡ f) ⊎ (x ≡ g)
    by true e h = inl (eqb-true x f e)
    by false e h = inr (eqb-true x g h)

-- the states of a machine are the numbers from o on, then comes its end; n - 1 is the dead state
module _ {K : ℕ} (o n : ℕ) (room : o + K + 1 < n) where
  packed-below : (x : Next (Index K) (Unit {0})) → packed o n x < n
  unfolding packed
  packed-below (to s) = omega (arith, s.1)
  packed-below (out a) = omega arith
  packed-below dead = omega arith

  -- the end is the state o + K
  ended : (x : Next (Index K) (Unit {0})) → packed o n x ≡ o + K → x ≡ out tt
  unfolding packed
  ended (to s) e = absurd (omega (arith, s.1))
  ended (out tt) e = refl
  ended dead e = absurd (omega arith)

module _ {K : ℕ} (step : Index K → Action (Index K) (Unit {0})) (o n : ℕ) where
  -- where a move leads
  unfoldable moved : ℕ → Move → ℕ
  moved p m = packed o n (next step (state_at (p - o) (dec_lt (p - o) K)) m)

  -- σ moves in these states as the machine does
  abbrev Moves : (ℕ → Move → ℕ) → Type 0
  Moves σ = (x : Next (Index K) (Unit {0})) (m : Move) → σ (packed o n x) m ≡ packed o n (next step x m)

  -- and a word leads where its run leads
  trips : (σ : ℕ → Move → ℕ) → Moves σ → (u : Word) (x : Next (Index K) (Unit {0})) →
      trip σ (packed o n x) u ≡ packed o n (run step x u)
  unfolding trip run
  trips σ h [] x = refl
  trips σ h (m ∷ u) x = ap (λ (p : ℕ). trip σ p u) (h x m) ∙ trips σ h u (next step x m)

  -- a move leads where the machine's automaton leads
  moved-below : o + K + 1 < n → (p : ℕ) (m : Move) → moved p m < n
  unfolding moved
  moved-below room p m = packed-below o n room (next step (state_at (p - o) (dec_lt (p - o) K)) m)

  moved-moves : o + K + 1 < n → Moves moved
  unfolding moved packed next
  moved-moves room (to s) m = rw (state-at s (o + s.0 - o) (omega arith) (dec_lt (o + s.0 - o) K))
  moved-moves room (out a) m = rw (state-none (o + K - o) (omega arith) (dec_lt (o + K - o) K))
  moved-moves room dead m = rw (state-none (n - 1 - o) (omega arith) (dec_lt (n - 1 - o) K))

-- the machine of a term recognizes its complete plays, where o + spots T M is its only accepting state
module _ (N : Numbers) (T : Ty) (M : Term) (t : Typed [] M T) (b : TyIn N T) (r : InRange N M) where
  plays-recognized : (o n : ℕ) → o + spots T M + 1 < n → (σ : ℕ → Move → ℕ) → Moves (steps T M) o n σ →
      (fin : ℕ → Bool) → fin (o + spots T M) ≡ true →
      ((x : Next (Index (spots T M)) (Unit {0})) → fin (packed o n x) ≡ true → packed o n x ≡ o + spots T M) →
      Recognizes N σ fin (packed o n (begin T M)) (Complete T M)
  unfolding packed
  plays-recognized o n room σ h fin yes-end only_end = record {
    small = complete-small N T M b r (scoped_of M t);
    accepts = λ u s.
        let e = trips (steps T M) o n σ h u (begin T M) in
        let x = run (steps T M) (begin T M) u in
        let l = language T M t u in (
          (λ f. l.0 (ended o n room x (only_end x (ap fin (sym e) ∙ f)))),
          (λ c. ap fin (e ∙ ap (packed o n) (l.1 c)) ∙ yes-end),
        );
  }

-- one machine, in spots T M + 2 states
module _ (T : Ty) (M : Term) where
  -- its states, moves and accepting state
  abbrev n : ℕ
  n = spots T M + 2

  abbrev σ : ℕ → Move → ℕ
  σ = moved (steps T M) 0 n

  abbrev fin : ℕ → Bool
  fin = accepting (0 + spots T M) (0 + spots T M)

  room : 0 + spots T M + 1 < n
  room = omega arith

  -- the end is the only accepting state
  only_end : (x : ℕ) → fin x ≡ true → x ≡ 0 + spots T M
  only_end x e = by (accepting-one (0 + spots T M) (0 + spots T M) x e)
    where
      by : (x ≡ 0 + spots T M) ⊎ (x ≡ 0 + spots T M) → x ≡ 0 + spots T M
      by (inl h) = h
      by (inr h) = h

  -- no move leads out of the states, or out of the dead state
  closed : Closed n σ
  unfolding packed next
  closed = record {
    some = omega arith;
    below = λ p m h. moved-below (steps T M) 0 n room p m;
    stays = λ m. moved-moves (steps T M) 0 n room dead m;
  }

  -- a term has no complete play, or one of at most size - 1 moves
  none-or-short : (N : Numbers) → N.z ≤ 125 → Typed [] M T → TyIn N T → InRange N M →
      ((u : Word) → Complete T M u → ⊥) ⊎ ((v : Word) × (Complete T M v × (length v ≤ size T M - 1)))
  none-or-short N few t b r =
      by (same-or-short N few n σ closed fin (packed 0 n (begin T M)) (n - 1)
      (packed-below 0 n room (begin T M)) (omega arith) (Complete T M) (λ v. ⊥)
      (plays-recognized N T M t b r 0 n room σ (moved-moves (steps T M) 0 n room) fin
      (accepting-first (0 + spots T M) (0 + spots T M)) (λ x. only_end (packed 0 n x)))
      (none-recognized N closed fin (λ e. omega (arith, only_end (n - 1) e))))
    where
      by : SameOrShort n (Complete T M) (λ v. ⊥) →
          ((u : Word) → Complete T M u → ⊥) ⊎ ((v : Word) × (Complete T M v × (length v ≤ size T M - 1)))
      by (inl h) = inl (λ u c. (h u).0 c)
      by (inr (v, l, in_first d f)) = inr (v, (d, omega (arith, spots-size T M)))
      by (inr (v, l, in_second d f)) = absurd d

  -- THEOREM: a term with a complete play has one of at most size - 1 moves
  pub play-short : (N : Numbers) → N.z ≤ 125 → Typed [] M T → TyIn N T → InRange N M →
      (u : Word) → Complete T M u → (v : Word) × (Complete T M v × (length v ≤ size T M - 1))
  play-short N few t b r u c = by (none-or-short N few t b r)
    where
      by : ((u : Word) → Complete T M u → ⊥) ⊎ ((v : Word) × (Complete T M v × (length v ≤ size T M - 1))) →
          (v : Word) × (Complete T M v × (length v ≤ size T M - 1))
      by (inl h) = absurd (h u c)
      by (inr p) = p

  -- a term has a complete play or none
  pub play-or-none : (N : Numbers) → N.z ≤ 125 → Typed [] M T → TyIn N T → InRange N M →
      ((u : Word) × Complete T M u) ⊎ ((u : Word) → Complete T M u → ⊥)
  play-or-none N few t b r = by (none-or-short N few t b r)
    where
      by : ((u : Word) → Complete T M u → ⊥) ⊎ ((v : Word) × (Complete T M v × (length v ≤ size T M - 1))) →
          ((u : Word) × Complete T M u) ⊎ ((u : Word) → Complete T M u → ⊥)
      by (inl h) = inr h
      by (inr (v, (d, l))) = inl (v, d)

-- two machines one after the other: the first with its end in the states below `middle`, then the second with its
-- end, and the dead state
module _ (T : Ty) (M M' : Term) where
  -- their states, moves and accepting states
  abbrev middle : ℕ
  middle = spots T M + 1

  abbrev total : ℕ
  total = middle + spots T M' + 2

  abbrev both : ℕ → Move → ℕ
  both p m = pick (ltb p middle) (moved (steps T M) 0 total p m) (moved (steps T M') middle total p m)

  abbrev ends : ℕ → Bool
  ends = accepting (0 + spots T M) (middle + spots T M')

  room-first : 0 + spots T M + 1 < total
  room-first = omega arith

  room-second : middle + spots T M' + 1 < total
  room-second = omega arith

  -- below the middle the first machine moves, from the middle on the second
  both_first : (p : ℕ) (m : Move) → p < middle → both p m ≡ moved (steps T M) 0 total p m
  both_first p m h = rw (lt-ltb p middle h)

  both-second : (p : ℕ) (m : Move) → middle ≤ p → both p m ≡ moved (steps T M') middle total p m
  both-second p m h = rw (le-ltb p middle h)

  -- no move leads out of the dead state
  both-dead : (m : Move) → both (total - 1) m ≡ total - 1
  unfolding packed next
  both-dead m =
      both-second (total - 1) m (omega arith) ∙ moved-moves (steps T M') middle total room-second dead m

  -- each machine moves in its states
  moves-first : Moves (steps T M) 0 total both
  unfolding packed next
  moves-first (to s) m =
      both_first (0 + s.0) m (omega (arith, s.1)) ∙ moved-moves (steps T M) 0 total room-first (to s) m
  moves-first (out a) m =
      both_first (0 + spots T M) m (omega arith) ∙ moved-moves (steps T M) 0 total room-first (out a) m
  moves-first dead m = both-dead m

  moves-second : Moves (steps T M') middle total both
  unfolding packed next
  moves-second (to s) m =
      both-second (middle + s.0) m (omega arith) ∙ moved-moves (steps T M') middle total room-second (to s) m
  moves-second (out a) m =
      both-second (middle + spots T M') m (omega arith) ∙ moved-moves (steps T M') middle total room-second (out a) m
  moves-second dead m = both-dead m

  -- no move leads out of the states
  both-closed : Closed total both
  both-closed = record { some = omega arith; below = λ p m h. by (ltb p middle) p m; stays = both-dead }
    where
      by : (c : Bool) (p : ℕ) (m : Move) →
          pick c (moved (steps T M) 0 total p m) (moved (steps T M') middle total p m) < total
      by true p m = moved-below (steps T M) 0 total room-first p m
      by false p m = moved-below (steps T M') middle total room-second p m

  -- each machine has one accepting state
  end-first : (x : Next (Index (spots T M)) (Unit {0})) → ends (packed 0 total x) ≡ true →
      packed 0 total x ≡ 0 + spots T M
  unfolding packed
  end-first x e = by x (accepting-one (0 + spots T M) (middle + spots T M') (packed 0 total x) e)
    where
      by : (x : Next (Index (spots T M)) (Unit {0})) →
          (packed 0 total x ≡ 0 + spots T M) ⊎ (packed 0 total x ≡ middle + spots T M') →
          packed 0 total x ≡ 0 + spots T M
      by x (inl h) = h
      by (to s) (inr h) = absurd (omega (arith, s.1))
      by (out a) (inr h) = refl
      by dead (inr h) = absurd (omega arith)

  end-second : (x : Next (Index (spots T M')) (Unit {0})) → ends (packed middle total x) ≡ true →
      packed middle total x ≡ middle + spots T M'
  unfolding packed
  end-second x e = by x (accepting-one (0 + spots T M) (middle + spots T M') (packed middle total x) e)
    where
      by : (x : Next (Index (spots T M')) (Unit {0})) →
          (packed middle total x ≡ 0 + spots T M) ⊎ (packed middle total x ≡ middle + spots T M') →
          packed middle total x ≡ middle + spots T M'
      by x (inr h) = h
      by (to s) (inl h) = absurd (omega arith)
      by (out a) (inl h) = absurd (omega arith)
      by dead (inl h) = absurd (omega arith)

  -- THEOREM: terms of which neither has a complete play of at most size + size - 1 moves that the other has not have the
  -- same complete plays
  pub differ-short : (N : Numbers) → N.z ≤ 125 → Typed [] M T → Typed [] M' T → TyIn N T → InRange N M →
      InRange N M' →
      ((u : Word) → length u ≤ size T M + size T M' - 1 → Complete T M u → (Complete T M' u → ⊥) → ⊥) →
      ((u : Word) → length u ≤ size T M + size T M' - 1 → Complete T M' u → (Complete T M u → ⊥) → ⊥) →
      (u : Word) → Complete T M u ↔ Complete T M' u
  differ-short N few t t' b r r' None-first none-second u =
      by (same-or-short N few total both both-closed ends (packed 0 total (begin T M))
      (packed middle total (begin T M')) (packed-below 0 total room-first (begin T M))
      (packed-below middle total room-second (begin T M')) (Complete T M) (Complete T M')
      (plays-recognized N T M t b r 0 total room-first both moves-first ends
      (accepting-first (0 + spots T M) (middle + spots T M')) end-first)
      (plays-recognized N T M' t' b r' middle total room-second both moves-second ends
      (accepting-second (0 + spots T M) (middle + spots T M')) end-second))
    where
      short : (v : Word) → length v + 2 ≤ total → length v ≤ size T M + size T M' - 1
      short v l = omega (arith, spots-size T M, spots-size T M')

      by : SameOrShort total (Complete T M) (Complete T M') → Complete T M u ↔ Complete T M' u
      by (inl h) = h u
      by (inr (v, l, in_first c f)) = absurd (None-first v (short v l) c f)
      by (inr (v, l, in_second c f)) = absurd (none-second v (short v l) c f)
