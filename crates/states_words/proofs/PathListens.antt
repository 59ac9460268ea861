-- What the path says of a state that waits: whom it waits for, and where a move leads.
use mathlib.Core.Path.{◌≡◌, refl, sym, ◌∙◌, ap}
use mathlib.Core.List.{List}
use Prim.Native.Nat.{ℕ}
use native.Mathlib.Decide.{ℕ_discrete}
use borrow.Author.Tests.{eq-eqb, ne_eqb}
use Rattle.language.specs.declared.Numbers.{Numbers}
use Rattle.states_positions.specs.declared.Move.{Move}
use Rattle.states_positions.specs.declared.Out.{Out}
use Rattle.states_positions.specs.declared.Out.TheVariants.{Hear}
use Rattle.states_positions.specs.Row.{name_id}
use Rattle.states_names.specs.Name.{no_move, at_wait}
use Rattle.states_path.specs.declared.Site.{Site}
use Rattle.states_path.specs.States.{at_start, sheet_at, target_of}
use Rattle.states_path.specs.Path.{rise_all}
use Rattle.states_path.specs.Levels.{frames_of}
use Rattle.states_path.specs.Kept.{wait_at, Arrived}
use Rattle.states_path.proofs.PathLead.{rise-hear}
use Rattle.states_words.specs.declared.Wait.{Wait}
use Rattle.states_words.specs.inner.Moves.{wait_of}
use Rattle.states_words.specs.inner.Waiting.{Listening}

-- whom a state waits for
abbrev Fields : List ℕ → ℕ → ℕ → ℕ → ℕ → ℕ → Type 0
Fields t k at q x n =
    ((wait_of t k at q x n).state ≡ k) × ((wait_of t k at q x n).at ≡ at) × ((wait_of t k at q x n).kind ≡ q) ×
    ((wait_of t k at q x n).value ≡ x) × ((wait_of t k at q x n).count ≡ n)

wait-fields : (t : List ℕ) (k at q x n : ℕ) → Fields t k at q x n
unfolding wait_of
wait-fields t k at q x n = go (ℕ_discrete q 7)
  where
    go : Dec (q ≡ 7) → Fields t k at q x n
    go (yes e) = rw (eq-eqb q 7 e) (refl, refl, refl, refl, refl)
    go (no e) = rw (ne_eqb q 7 e) (refl, refl, refl, refl, refl)

-- the start waits for the first question
waits-first : (t : List ℕ) (N : Numbers) (root k at q x n : ℕ) (o : Out) → sheet_at t N root k no_move ≡ o →
    o ≡ Hear at q x n → k ≡ 0 → q ≡ 7
unfolding sheet_at at_start
waits-first t N root k at q x n o e w z =
    let h : Hear root 7 0 0 ≡ Hear at q x n = rw z at (e ∙ w) in
    cc

wait-named : (t : List ℕ) (k at q x n : ℕ) → (q ≡ 7 → ⊥) → (wait_of t k at q x n).id ≡ name_id t at
unfolding wait_of
wait-named t k at q x n z = rw (ne_eqb q 7 z)

pub row-listens : (t : List ℕ) (N : Numbers) (root : ℕ) (p : List ℕ) (c k at q x n : ℕ) (out : Out)
    (wait : Wait) → Arrived t root p c k out → out ≡ Hear at q x n → wait ≡ wait_of t k at q x n →
    Listening t N root p c wait
row-listens t N root p c k at q x n out wait A w g = record {
  sound = A.kept.sound;
  hears = λ m. rw (g, f.0, f.1, f.2, f.3, f.4) (A.at.hears N m at q x n w);
  first = rw (g, f.0, f.2) (waits-first t N root k at q x n _ (A.at.does N)
      (ap (λ (y : Out). rise_all N (frames_of p c) y) w ∙ rise-hear N (frames_of p c) at q x n));
  named = rw (g, f.1, f.2) (λ z. wait-named t k at q x n z);
}
  where
    f : Fields t k at q x n
    f = wait-fields t k at q x n

-- where a move leads
pub heard-start : (t : List ℕ) (N : Numbers) (s : Site) (p : List ℕ) (c : ℕ) (wait : Wait) (m : Move) (o : Out)
    (r : ℕ) →
    Listening t N s.root p c wait → wait.state ≡ 0 → o ≡ at_start t s.root m →
    r ≡ target_of s (rise_all N (frames_of p c) o) → r ≡ target_of s (sheet_at t N s.root wait.state m)
unfolding wait_at
heard-start t N s p c wait m o r L z e g =
    let h = rw (eq-eqb wait.state 0 z) at (L.hears m) in
    g ∙ ap (λ (y : Out). target_of s (rise_all N (frames_of p c) y)) e ∙ ap (λ (y : Out). target_of s y) (sym h)

pub heard-later : (t : List ℕ) (N : Numbers) (s : Site) (p : List ℕ) (c : ℕ) (wait : Wait) (m : Move) (o : Out)
    (r : ℕ) →
    Listening t N s.root p c wait → (wait.state ≡ 0 → ⊥) →
    o ≡ at_wait t wait.at wait.kind wait.value wait.count m →
    r ≡ target_of s (rise_all N (frames_of p c) o) → r ≡ target_of s (sheet_at t N s.root wait.state m)
unfolding wait_at
heard-later t N s p c wait m o r L z e g =
    let h = rw (ne_eqb wait.state 0 z) at (L.hears m) in
    g ∙ ap (λ (y : Out). target_of s (rise_all N (frames_of p c) y)) e ∙ ap (λ (y : Out). target_of s y) (sym h)
