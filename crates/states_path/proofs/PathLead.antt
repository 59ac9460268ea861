-- Where a silent step leads: counted from the first state of the part, or of the copy of a block whose variable is
-- written.
use mathlib.Core.Path.{◌≡◌, refl, sym, ◌∙◌, ap}
use mathlib.Core.List.{List, [], ◌∷◌}
use Prim.Native.Nat.{ℕ, suc, ◌+◌, ◌<◌}
use native.Mathlib.Omega.{arith}
use native.Mathlib.Decide.{ℕ_discrete}
use lib.ListN.{length}
use borrow.Author.Tests.{eq-eqb, ne_eqb}
use Rattle.language.specs.declared.Numbers.{Numbers}
use Rattle.states_positions.specs.declared.Move.{Move}
use Rattle.states_positions.specs.declared.Frame.{Frame}
use Rattle.states_positions.specs.declared.Out.TheVariants.{Go, Say, Hear, Stuck}
use Rattle.states_positions.specs.Row.{sum_of}
use Rattle.states_rise.specs.Up.{goes_of, rise_of}
use Rattle.states_step.proofs.Sums.{sum-small}
use Rattle.states_path.specs.Path.{rise_all, base_of, Owned, block_in}

-- a frame that is not the block
none_here : (f : Frame) (fs : List Frame) (l : ℕ) → block_in (f ∷ fs) l ≡ 0 →
    (f.role ≡ 7 → f.a ≡ l → ⊥) × (block_in fs l ≡ 0)
unfolding block_in
none_here f fs l e = go (ℕ_discrete f.role 7) (ℕ_discrete l f.a) e
  where
    go : Dec (f.role ≡ 7) → Dec (l ≡ f.a) → block_in (f ∷ fs) l ≡ 0 → (f.role ≡ 7 → f.a ≡ l → ⊥) × (block_in fs l ≡ 0)
    go (yes a) (yes b) e =
        let h : suc (length fs) ≡ 0 = rw (eq-eqb f.role 7 a, eq-eqb l f.a b) at e in absurd (omega arith)
    go (yes a) (no b) e =
        let h : block_in fs l ≡ 0 = rw (eq-eqb f.role 7 a, ne_eqb l f.a b) at e in (λ x y. b (sym y), h)
    go (no a) b e = let h : block_in fs l ≡ 0 = rw (ne_eqb f.role 7 a) at e in (λ x y. a x, h)

-- a silent step that writes no variable of the frame's block
pub goes : (f : Frame) (next l u : ℕ) → (f.role ≡ 7 → f.a ≡ l → ⊥) → f.base + next < 2147483648 →
    goes_of f next l u ≡ Go (f.base + next) l u
unfolding goes_of
goes f next l u own b = go (ℕ_discrete f.role 7)
  where
    go : Dec (f.role ≡ 7) → goes_of f next l u ≡ Go (f.base + next) l u
    go (yes e) = simp (eq-eqb f.role 7 e, ne_eqb l f.a (λ z. own e (sym z)), sum-small f.base next b)
    go (no e) = simp (ne_eqb f.role 7 e, sum-small f.base next b)

-- no block is 0
pub block_none : (fs : List Frame) → Owned fs → block_in fs 0 ≡ 0
unfolding block_in Owned
block_none [] w = refl
block_none (f ∷ fs) w = go (ℕ_discrete f.role 7) (block_none fs w.1)
  where
    go : Dec (f.role ≡ 7) → block_in fs 0 ≡ 0 → block_in (f ∷ fs) 0 ≡ 0
    go (yes e) h = let a : 0 < f.a = w.0 e in
        rw (eq-eqb f.role 7 e, ne_eqb 0 f.a (λ z. omega arith)) h
    go (no e) h = rw (ne_eqb f.role 7 e) h

module _ (N : Numbers) where
  -- THEOREM: a silent step that writes no block's variable is moved by the first state of its part
  pub rise-go : (fs : List Frame) (next l u : ℕ) → block_in fs l ≡ 0 → base_of fs + next < 2147483648 →
      rise_all N fs (Go next l u) ≡ Go (base_of fs + next) l u
  unfolding rise_all base_of rise_of
  rise-go [] next l u z b = ap (λ (y : ℕ). Go y l u) (omega arith)
  rise-go (f ∷ fs) next l u z b =
      let h = none_here f fs l z in
      let e : base_of fs + (f.base + next) ≡ base_of fs + f.base + next = omega arith in
      rw (goes f next l u h.0 (omega arith))
      (rise-go fs (f.base + next) l u h.1 (omega arith) ∙ ap (λ (y : ℕ). Go y l u) e)

  -- a move that is said leads on as a silent step does
  pub rise-say : (fs : List Frame) (said : Move) (next : ℕ) → Owned fs →
      (to : ℕ) × (rise_all N fs (Say said next) ≡ Say said to) × (rise_all N fs (Go next 0 0) ≡ Go to 0 0)
  unfolding rise_all rise_of goes_of Owned
  rise-say [] said next w = (next, refl, refl)
  rise-say (f ∷ fs) said next w =
      let h = rise-say fs said (sum_of f.base next) w.1 in
      (h.0, h.1, go (ℕ_discrete f.role 7) h.2)
    where
      go : {to : ℕ} → Dec (f.role ≡ 7) → rise_all N fs (Go (sum_of f.base next) 0 0) ≡ Go to 0 0 →
          rise_all N (f ∷ fs) (Go next 0 0) ≡ Go to 0 0
      go (yes e) h = let a : 0 < f.a = w.0 e in
          rw (eq-eqb f.role 7 e, ne_eqb 0 f.a (λ z. omega arith)) h
      go (no e) h = rw (ne_eqb f.role 7 e) h

  pub rise-hear : (fs : List Frame) (at kind value count : ℕ) →
      rise_all N fs (Hear at kind value count) ≡ Hear at kind value count
  unfolding rise_all rise_of
  rise-hear [] at kind value count = refl
  rise-hear (f ∷ fs) at kind value count = rise-hear fs at kind value count

  pub rise-stuck : (fs : List Frame) → rise_all N fs Stuck ≡ Stuck
  unfolding rise_all rise_of
  rise-stuck [] = refl
  rise-stuck (f ∷ fs) = rise-stuck fs
