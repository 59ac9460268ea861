-- The words of letters after which the end of an explicit automaton is in reach are those that begin a complete play.
use mathlib.Core.Path.{◌≡◌, refl, sym, ◌∙◌}
use mathlib.Core.Logic.{◌↔◌}
use mathlib.Core.List.{List, [], ◌∷◌, ◌++◌}
use Prim.Native.Nat.{ℕ, ◌-◌, ◌≤◌}
use native.Mathlib.Omega.{arith}
use lib.ListN.{get_or}
use Rattle.language.specs.declared.Numbers.{Numbers}
use Rattle.language.specs.Ty.{Ty}
use Rattle.language.specs.Term.{Term}
use Rattle.language.specs.Typing.{Typed}
use Rattle.language.specs.Move.{Word}
use Rattle.language.specs.Play.{Complete}
use Rattle.states_machine.specs.Action.{Action}
use Rattle.states_machine.specs.Range.{TyIn, InRange}
use Rattle.states_machine.specs.Settle.{Index}
use Rattle.states_machine.specs.Sheet.{spots, steps}
use Rattle.dfa.specs.Graph.{δ, Graph}
use Rattle.dfa.specs.Live.{Single, Live}
use Rattle.dfa.specs.Reading.{walk}
use Rattle.dfa_silent.specs.Silent.{Silent, Settling}
use Rattle.dfa.proofs.laws.Edges.{live-walk}
use Rattle.dfa_silent.proofs.laws.Settled.{settled-graph}
use Rattle.states_words.specs.Explicit.{Explicit}
use Rattle.play_records.specs.Spell.{letters}
use Rattle.serve_compare.proofs.OnePlay.{play-walks, walk-plays}

-- a word after a word
walk-append : (d : ℕ → ℕ → ℕ) (p : ℕ) (w x : List ℕ) → walk d p (w ++ x) ≡ walk d (walk d p w) x
walk-append d p [] x = refl
walk-append d p (m ∷ w) x = walk-append d (d p m) w x

module _ {T : Ty} {M : Term} {N : Numbers} {S G G' : List ℕ} {n : ℕ} (few : N.z ≤ 125) (t : Typed [] M T)
    (E : Explicit N S G n 0 (steps T M)) (g : Graph G n) (R : Settling n S G G') (b : TyIn N T)
    (r : InRange N M) where
  -- THEOREM: after the letters w the end is in reach exactly if w begins the letters of a complete play
  pub live-begins : (w : List ℕ) → Live G' n (spots T M) (walk (δ G' n) 0 w) ↔
      ((u : Word) × (x : List ℕ) × (letters N u ≡ w ++ x) × Complete T M u)
  live-begins w =
      let l = live-walk G' n (spots T M) (walk (δ G' n) 0 w) in
      ((λ a. begins (l.0 a).0 (l.0 a).1), (λ (u, x, e, c). l.1 (x, reached u x e c)))
    where
      begins : (x : List ℕ) → walk (δ G' n) (walk (δ G' n) 0 w) x ≡ spots T M →
          (u : Word) × (x : List ℕ) × (letters N u ≡ w ++ x) × Complete T M u
      begins x e =
          let found = walk-plays t E g R few (w ++ x) (walk-append (δ G' n) 0 w x ∙ omega arith) in
          (found.0, x, found.1.0, found.1.1)

      reached : (u : Word) (x : List ℕ) → letters N u ≡ w ++ x → Complete T M u →
          walk (δ G' n) (walk (δ G' n) 0 w) x ≡ spots T M
      reached u x e c =
          sym (walk-append (δ G' n) 0 w x) ∙ (rw e at (play-walks t E g R b r u c)) ∙ omega arith

-- THEOREM: the settled automaton has one accepting state, and no edges at its dead state
pub single-end : {N : Numbers} {S G G' : List ℕ} {n K : ℕ} {step : Index K → Action (Index K) (Unit {0})} →
    Explicit N S G n 0 step → Graph G n → Silent n S → Settling n S G G' → get_or G (n - 1) 0 ≡ get_or G n 0 →
    Single G' n K
single-end {S = S} {G = G} {G' = G'} {n = n} {K = K} E g s R e = record {
  graph = settled-graph S G G' n g s R;
  empty = R.first (n - 1) (omega arith) ∙ e ∙ sym (R.first n (omega arith));
  other = omega (arith, E.room);
}
