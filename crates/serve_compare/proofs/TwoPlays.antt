-- Two explicit automata in the same words: what their walks say of the complete plays of their terms.
use mathlib.Core.Path.{◌≡◌, refl, sym, ap, ◌∙◌}
use mathlib.Core.Bool.{Bool, true, false, cond}
use mathlib.Core.Logic.{◌↔◌, ◌≢◌, ◌⊎◌, inl, inr}
use mathlib.Core.List.{List, []}
use Prim.Native.Nat.{ℕ, ◌+◌, ◌-◌, ◌≤◌}
use native.Mathlib.Omega.{arith}
use lib.Dec.{eqb}
use lib.ListN.{length}
use borrow.Author.Tests.{eqb-true, eq-eqb}
use Rattle.language.specs.declared.Numbers.{Numbers}
use Rattle.language.specs.Ty.{Ty}
use Rattle.language.specs.Term.{Term}
use Rattle.language.specs.Typing.{Typed}
use Rattle.language.specs.Move.{Word, Before}
use Rattle.language.specs.Play.{Complete}
use Rattle.states_machine.specs.Range.{TyIn, InRange}
use Rattle.states_machine.specs.Sheet.{spots, steps}
use Rattle.dfa.specs.Graph.{δ, Graph}
use Rattle.dfa.specs.Reading.{walk, FirstWord}
use Rattle.dfa_silent.specs.Silent.{Settling}
use Rattle.dfa.specs.Word.{accepting}
use Rattle.states_words.specs.Explicit.{Explicit}
use Rattle.states_words.specs.Letter.{AllSmall}
use Rattle.play_records.specs.Spell.{letters}
use Rattle.serve_compare.proofs.Letters.{letters-length, letters-before}
use Rattle.serve_compare.proofs.OnePlay.{plays-small, plays-walk, walk-plays, stays-in}

-- the accepting states
accepted : (f h x : ℕ) → accepting f h x ≡ true → (x ≡ f) ⊎ (x ≡ h)
accepted f h x e = by (eqb x f) refl e
  where
    by : (b : Bool) → eqb x f ≡ b → cond b true (eqb x h) ≡ true → (x ≡ f) ⊎ (x ≡ h)
    by true d e = inl (eqb-true x f d)
    by false d e = inr (eqb-true x h e)

accepts-first : (f h x : ℕ) → x ≡ f → accepting f h x ≡ true
accepts-first f h x e = rw (eq-eqb x f e)

accepts-second : (f h x : ℕ) → x ≡ h → accepting f h x ≡ true
accepts-second f h x e = rw (eq-eqb x h e) (by (eqb x f))
  where
    by : (b : Bool) → cond b true true ≡ true
    by true = refl
    by false = refl

-- of two answers that differ, one is true
other : (x y : Bool) → x ≢ y → x ≡ false → y ≡ true
other x true c e = refl
other x false c e = absurd (c e)

-- w spells the first complete play of exactly one of two terms, and the state p tells of which
pub record FoundPlay (N : Numbers) (T : Ty) (M M' : Term) (p : ℕ) (w : List ℕ) : Type 0 where
  pub word : Word
  pub spells : letters N word ≡ w
  pub moves : length word ≡ length w
  pub only : ((p ≡ spots T M) × (Complete T M word × (Complete T M' word → ⊥))) ⊎
      ((p ≢ spots T M) × (Complete T M' word × (Complete T M word → ⊥)))
  pub earlier : (v : Word) → Before N v word → Complete T M v ↔ Complete T M' v

-- the ends accept, where the first automaton stands from 0 on and the second behind its end
abbrev pub ends : Ty → Term → Term → ℕ → Bool
ends T M M' = accepting (spots T M) (spots T M + 1 + spots T M')

module _ {T : Ty} {M M' : Term} {N : Numbers} {S G G' : List ℕ} {n : ℕ} (few : N.z ≤ 125) (t : Typed [] M T)
    (t' : Typed [] M' T) (E : Explicit N S G n 0 (steps T M)) (E' : Explicit N S G n (spots T M + 1) (steps T M'))
    (g : Graph G n) (R : Settling n S G G') where
  -- the first automaton accepts at its end alone, and so does the second
  first-fin : (w : List ℕ) → (ends T M M' (walk (δ G' n) 0 w) ≡ true) ↔ (walk (δ G' n) 0 w ≡ spots T M)
  first-fin w = ((λ e. by (stays-in t E g R few w) (accepted _ _ _ e)), accepts-first _ _ _)
    where
      p : ℕ
      p = walk (δ G' n) 0 w

      by : (p ≡ n - 1) ⊎ ((0 ≤ p) × (p ≤ 0 + spots T M)) → (p ≡ spots T M) ⊎ (p ≡ spots T M + 1 + spots T M') →
          p ≡ spots T M
      by i (inl e) = e
      by (inl i) (inr e) = absurd (omega (arith, E'.room))
      by (inr i) (inr e) = absurd (omega (arith, i.1))

  second-fin : (w : List ℕ) → (ends T M M' (walk (δ G' n) (spots T M + 1) w) ≡ true) ↔
      (walk (δ G' n) (spots T M + 1) w ≡ spots T M + 1 + spots T M')
  second-fin w = ((λ e. by (stays-in t' E' g R few w) (accepted _ _ _ e)), accepts-second _ _ _)
    where
      p : ℕ
      p = walk (δ G' n) (spots T M + 1) w

      by : (p ≡ n - 1) ⊎ ((spots T M + 1 ≤ p) × (p ≤ spots T M + 1 + spots T M')) →
          (p ≡ spots T M) ⊎ (p ≡ spots T M + 1 + spots T M') → p ≡ spots T M + 1 + spots T M'
      by i (inr e) = e
      by (inl i) (inl e) = absurd (omega (arith, E.room))
      by (inr i) (inl e) = absurd (omega (arith, i.0))

  -- a word of moves is accepted exactly if it is a complete play
  first-accepts : (v : Word) → AllSmall N v → (ends T M M' (walk (δ G' n) 0 (letters N v)) ≡ true) ↔ Complete T M v
  first-accepts v s =
      let f = first-fin (letters N v) in
      let l = plays-walk t E g R v s in
      ((λ a. l.0 (omega (arith, f.0 a))), (λ c. f.1 (omega (arith, l.1 c))))

  second-accepts : (v : Word) → AllSmall N v →
      (ends T M M' (walk (δ G' n) (spots T M + 1) (letters N v)) ≡ true) ↔ Complete T M' v
  second-accepts v s =
      let f = second-fin (letters N v) in
      let l = plays-walk t' E' g R v s in
      ((λ a. l.0 (f.0 a)), (λ c. f.1 (l.1 c)))

  module _ (b : TyIn N T) (r : InRange N M) (r' : InRange N M') where
    -- where both agree on the letters of a word, it is a play of both or of neither
    alike : (v : Word) → (AllSmall N v →
        ends T M M' (walk (δ G' n) 0 (letters N v)) ≡ ends T M M' (walk (δ G' n) (spots T M + 1) (letters N v))) →
        Complete T M v ↔ Complete T M' v
    alike v h = (
      (λ c. let s = plays-small N t b r v c in (second-accepts v s).0 (sym (h s) ∙ (first-accepts v s).1 c)),
      (λ c. let s = plays-small N t' b r' v c in (first-accepts v s).0 (h s ∙ (second-accepts v s).1 c)),
    )

    -- THEOREM: where both agree on all words of at most so many letters, the terms have the same complete plays of at
    -- most so many moves
    pub same_plays : (most : ℕ) →
        ((w : List ℕ) → length w ≤ most →
        ends T M M' (walk (δ G' n) 0 w) ≡ ends T M M' (walk (δ G' n) (spots T M + 1) w)) →
        (u : Word) → length u ≤ most → Complete T M u ↔ Complete T M' u
    same_plays most h u l = alike u (λ s. h (letters N u) (omega (arith, letters-length N u)))

    -- the plays before the first word on which they differ
    before : (w : List ℕ) → FirstWord n (δ G' n) (ends T M M') 0 (spots T M + 1) w → (u : Word) → AllSmall N u →
        letters N u ≡ w → (v : Word) → Before N v u → Complete T M v ↔ Complete T M' v
    before w f u s e v h =
        alike v (λ k. f.least (letters N v) (rw e at (letters-before N (omega arith) v u k s h)))

    -- the play of the first term, where the first accepts
    in_first : (w : List ℕ) → FirstWord n (δ G' n) (ends T M M') 0 (spots T M + 1) w →
        ends T M M' (walk (δ G' n) 0 w) ≡ true → FoundPlay N T M M' (walk (δ G' n) 0 w) w
    in_first w f e =
        let p = (first-fin w).0 e in
        let found = walk-plays t E g R few w (omega arith) in
        let u = found.0 in
        let spells = found.1.0 in
        let c = found.1.1 in
        let s = plays-small N t b r u c in
        record {
          word = u;
          spells = spells;
          moves = sym (letters-length N u) ∙ ap length spells;
          only = inl (p, (c, λ d. f.differ (e ∙ sym (rw spells at ((second-accepts u s).1 d)))));
          earlier = before w f u s spells;
        }

    -- the play of the second term, where the first refuses
    in_second : (w : List ℕ) → FirstWord n (δ G' n) (ends T M M') 0 (spots T M + 1) w →
        ends T M M' (walk (δ G' n) 0 w) ≡ false → FoundPlay N T M M' (walk (δ G' n) 0 w) w
    in_second w f e =
        let a = other _ _ f.differ e in
        let found = walk-plays t' E' g R few w ((second-fin w).0 a) in
        let u = found.0 in
        let spells = found.1.0 in
        let c = found.1.1 in
        let s = plays-small N t' b r' u c in
        record {
          word = u;
          spells = spells;
          moves = sym (letters-length N u) ∙ ap length spells;
          only = inr (
            (λ p. f.differ ((first-fin w).1 p ∙ sym a)),
            (c, λ d. f.differ ((rw spells at ((first-accepts u s).1 d)) ∙ sym a)),
          );
          earlier = before w f u s spells;
        }

    -- THEOREM: the first word of letters on which they differ spells the first complete play of exactly one term
    pub first-play : (w : List ℕ) → FirstWord n (δ G' n) (ends T M M') 0 (spots T M + 1) w →
        FoundPlay N T M M' (walk (δ G' n) 0 w) w
    first-play w f = by (ends T M M' (walk (δ G' n) 0 w)) refl
      where
        by : (x : Bool) → ends T M M' (walk (δ G' n) 0 w) ≡ x → FoundPlay N T M M' (walk (δ G' n) 0 w) w
        by true e = in_first w f e
        by false e = in_second w f e
