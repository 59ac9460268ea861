-- The words of letters that lead an explicit automaton from its first state to its end are those of complete plays.
use mathlib.Core.Path.{◌≡◌, refl, sym, ap, ap₂, ◌∙◌}
use mathlib.Core.Logic.{◌↔◌, ◌⊎◌, inl, inr}
use mathlib.Core.List.{List, [], ◌∷◌}
use Prim.Native.Nat.{ℕ, ◌+◌, ◌-◌, ◌≤◌, ◌<◌}
use native.Mathlib.Omega.{arith}
use Rattle.language.specs.declared.Numbers.{Numbers}
use Rattle.language.specs.Ty.{Ty}
use Rattle.language.specs.Term.{Term}
use Rattle.language.specs.Typing.{Typed}
use Rattle.language.specs.Move.{Move, Word}
use Rattle.states_words.specs.Letter.{letter}
use Rattle.language.specs.Play.{Complete}
use Rattle.states_words.specs.Letter.{Small}
use Rattle.states_machine.specs.Action.{Next, to, out, dead, Action}
use Rattle.states_machine.specs.Range.{TyIn, InRange}
use Rattle.states_machine.specs.Settle.{Index, next, run}
use Rattle.states_machine.specs.Sheet.{spots, steps, begin}
use Rattle.states_machine.proofs.Scope.{scoped_of}
use Rattle.dfa.specs.Graph.{δ, Graph}
use Rattle.dfa.specs.Reading.{walk}
use Rattle.dfa_silent.specs.Silent.{Settling}
use Rattle.states_words.specs.Explicit.{packed, Explicit}
use Rattle.states_words.proofs.Advance.{settle-dead}
use Rattle.states_words.proofs.Language.{from_start, explicit-language}
use Rattle.states_words.specs.Letter.{AllSmall}
use Rattle.states_words.proofs.Settling.{settles, leads, transition, runs}
use Rattle.states_words.proofs.Spelling.{complete-small}
use Rattle.play_records.specs.Spell.{letters}
use Rattle.serve_compare.proofs.Unletter.{Unletter, of, none, unletter}
use Rattle.serve_compare.proofs.Letters.{walk-letters}

-- the states of an automaton of K states from o on, with its end, and the dead state
abbrev Own : ℕ → ℕ → ℕ → ℕ → Type 0
Own n o K p = (p ≡ n - 1) ⊎ ((o ≤ p) × (p ≤ o + K))

own : (n o : ℕ) {K : ℕ} (x : Next (Index K) (Unit {0})) → Own n o K (packed o n x)
unfolding packed
own n o (to s) = inr (omega arith, omega (arith, s.1))
own n o (out a) = inr (omega arith, omega arith)
own n o dead = inl refl

-- the letters w are those of a word of moves, or lead from p to the dead state
abbrev Spelled : Numbers → List ℕ → ℕ → ℕ → List ℕ → Type 0
Spelled N G n p w = ((u : Word) × AllSmall N u × (letters N u ≡ w)) ⊎ (walk (δ G n) p w ≡ n - 1)

module _ {N : Numbers} {S G G' : List ℕ} {n o K : ℕ} {step : Index K → Action (Index K) (Unit {0})}
    (E : Explicit N S G n o step) (g : Graph G n) (R : Settling n S G G') where
  -- a letter that leads to the dead state leads there after settling
  still-dead : (p l : ℕ) → p < n → δ G n p l ≡ n - 1 → δ G' n p l ≡ n - 1
  unfolding packed
  still-dead p l h e =
      settles E dead (rw e at (leads g R E.dead_stays p l h)) ∙ ap (packed o n) (settle-dead step K)

  -- a letter of no move leads to the dead state
  never : (x : Next (Index K) (Unit {0})) (l : ℕ) → ((m : Move) → Small N m → letter N m ≡ l → ⊥) →
      δ G' n (packed o n x) l ≡ n - 1
  unfolding packed
  never (to s) l c =
      still-dead (o + s.0) l (omega (arith, s.1, E.room)) (E.others s l c)
  never (out a) l c = still-dead (o + K) l (omega (arith, E.room)) (E.end_edges l)
  never dead l c = still-dead (n - 1) l (omega (arith, E.room)) (E.dead_edges l)

  -- no word leads out of the dead state
  dead-walk : (w : List ℕ) → walk (δ G' n) (n - 1) w ≡ n - 1
  dead-walk [] = refl
  dead-walk (l ∷ w) = rw (still-dead (n - 1) l (omega (arith, E.room)) (E.dead_edges l)) (dead-walk w)

  -- every word of letters
  spelled : N.z ≤ 125 → (w : List ℕ) (x : Next (Index K) (Unit {0})) → Spelled N G' n (packed o n x) w
  unfolding letters AllSmall
  spelled few [] x = inl ([], tt, refl)
  spelled few (l ∷ w) x = by (unletter N (omega arith) l) (λ y. spelled few w y)
    where
      on : (m : Move) → Small N m → letter N m ≡ l → Spelled N G' n (packed o n (next step x m)) w →
          Spelled N G' n (packed o n x) (l ∷ w)
      on m s e (inl (u, h, f)) = inl (m ∷ u, (s, h), ap₂ (λ a b. a ∷ b) e f)
      on m s e (inr h) = inr (rw (← e, transition E g R x m s) h)

      by : Unletter N l →
          ((y : Next (Index K) (Unit {0})) → Spelled N G' n (packed o n y) w) → Spelled N G' n (packed o n x) (l ∷ w)
      by (none c) f = inr (rw (never x l c) (dead-walk w))
      by (of m s e) f = on m s e (f (next step x m))

  -- a walk stays among the states of the automaton
  own-walk : N.z ≤ 125 → (w : List ℕ) (x : Next (Index K) (Unit {0})) → Own n o K (walk (δ G' n) (packed o n x) w)
  own-walk few w x = by (spelled few w x)
    where
      by : Spelled N G' n (packed o n x) w → Own n o K (walk (δ G' n) (packed o n x) w)
      by (inl (u, h, e)) =
          rw (← e, walk-letters (δ G' n) N (packed o n x) u, runs E g R u h x) (own n o (run step x u))
      by (inr h) = inl h

-- THEOREM: every move of a complete play of a closed term has a letter
pub plays-small : (N : Numbers) {T : Ty} {M : Term} → Typed [] M T → TyIn N T → InRange N M → (u : Word) →
    Complete T M u → AllSmall N u
plays-small N {T} {M} t b r u c = complete-small N T M b r (scoped_of M t) u c

-- the automaton of a closed term
module _ {T : Ty} {M : Term} {N : Numbers} {S G G' : List ℕ} {n o : ℕ} (t : Typed [] M T)
    (E : Explicit N S G n o (steps T M)) (g : Graph G n) (R : Settling n S G G') where
  -- THEOREM: a word of moves leads to the end exactly if it is a complete play
  pub plays-walk : (u : Word) → AllSmall N u → (walk (δ G' n) o (letters N u) ≡ o + spots T M) ↔ Complete T M u
  plays-walk u h =
      let l = explicit-language T M t E g R u h in
      let e = walk-letters (δ G' n) N o u in
      ((λ a. l.0 (sym e ∙ a)), (λ c. e ∙ l.1 c))

  -- THEOREM: the letters of a complete play lead to the end
  pub play-walks : TyIn N T → InRange N M → (u : Word) → Complete T M u →
      walk (δ G' n) o (letters N u) ≡ o + spots T M
  play-walks b r u c = (plays-walk u (plays-small N t b r u c)).1 c

  -- THEOREM: a word of letters that leads to the end spells a complete play
  pub walk-plays : N.z ≤ 125 → (w : List ℕ) → walk (δ G' n) o w ≡ o + spots T M →
      (u : Word) × ((letters N u ≡ w) × Complete T M u)
  walk-plays few w a = by (rw (from_start T M t E g R) at (spelled E g R few w (begin T M)))
    where
      by : Spelled N G' n o w → (u : Word) × ((letters N u ≡ w) × Complete T M u)
      by (inl (u, h, e)) = (u, (e, (plays-walk u h).0 (rw e a)))
      by (inr h) = absurd (omega (arith, E.room))

  -- THEOREM: a walk stays among the states of the automaton
  pub stays-in : N.z ≤ 125 → (w : List ℕ) → (walk (δ G' n) o w ≡ n - 1) ⊎
      ((o ≤ walk (δ G' n) o w) × (walk (δ G' n) o w ≤ o + spots T M))
  stays-in few w = rw (from_start T M t E g R) at (own-walk E g R few w (begin T M))
