-- A row whose edges are those of an action's moves shows the action.
use mathlib.Core.Path.{◌≡◌, sym, ap, ◌∙◌}
use mathlib.Core.Logic.{◌⊎◌, inl, inr}
use Prim.Native.Nat.{ℕ, ◌+◌, ◌-◌, ◌≤◌, ◌<◌}
use native.Mathlib.Omega.{arith}
use Rattle.language.specs.declared.Numbers.{Numbers}
use Rattle.language.specs.Move.{Move}
use Rattle.states_words.specs.Letter.{letter, Small}
use Rattle.states_words.proofs.LetterLaws.{letter-injective}
use Rattle.states_machine.specs.Action.{Next, to, out, dead}
use Rattle.states_machine.specs.Action.{Action, go, say, hear}
use Rattle.states_machine.specs.Edge.{edge}
use Rattle.states_machine.specs.Settle.{Index}
use Rattle.states_words.specs.Explicit.{packed, silent_word}
use Rattle.states_words.specs.inner.Rows.{Edge, StateRow}
use Rattle.states_words.specs.inner.Shown.{lookup, Right}
use Rattle.states_words.proofs.EdgeLists.{Each, each_map, Absent, Climbs, rising, found}

-- states and silent words are in range
module _ (o n : ℕ) {K : ℕ} (room : o + K + 1 < n) where
  packed-below : (x : Next (Index K) (Unit {0})) → packed o n x < n
  unfolding packed
  packed-below (to i) = omega (arith, i.1)
  packed-below (out a) = omega arith
  packed-below dead = omega arith

  silent-below : (a : Action (Index K) (Unit {0})) → silent_word o n a ≤ n
  unfolding silent_word
  silent-below (go x) = packed-below x
  silent-below (say m x) = omega arith
  silent-below (hear l k) = omega arith

module _ (N : Numbers) (o n : ℕ) {K : ℕ} where
  -- the edge is that of a move
  unfoldable pub Sound : Action (Index K) (Unit {0}) → Edge → Type 0
  Sound a e = (m : Move) × Small N m × (letter N m ≡ e.letter) × (e.target ≡ packed o n (edge a m))

  -- THEOREM: a row is right if its letters climb, each edge is that of a move, and the moves that are left out lead
  -- nowhere
  pub right_by : N.z ≤ 125 → o + K + 1 < n → (a : Action (Index K) (Unit {0})) (r : StateRow) →
      r.silent ≡ silent_word o n a → Climbs 0 134217728 r.edges → Each (Sound a) r.edges →
      ((m : Move) → Small N m → Absent (letter N m) r.edges → edge a m ≡ dead) → Right N n o a r
  unfolding Sound packed
  right_by few room a r e c h d = record {
    fine = record {
      silent_state = rw e (silent-below o n room a);
      rising = rising n 0 134217728 r.edges (omega arith) c (each_map (Sound a) _ target_below r.edges h);
    };
    silent_right = e;
    edges_right = λ m s. looked m s (found (Sound a) (n - 1) (letter N m) r.edges h);
    no_others = λ x f. other x f (found (Sound a) (n - 1) x r.edges h);
  }
    where
      target_below : (x : Edge) → Sound a x → x.target < n
      target_below x (m, s, l, t) = rw t (packed-below o n room (edge a m))

      looked : (m : Move) → Small N m →
          ((x : Edge) × Sound a x × (x.letter ≡ letter N m) × (lookup (n - 1) r.edges (letter N m) ≡ x.target)) ⊎
          (Absent (letter N m) r.edges × (lookup (n - 1) r.edges (letter N m) ≡ n - 1)) →
          lookup (n - 1) r.edges (letter N m) ≡ packed o n (edge a m)
      looked m s (inl (x, (m', s', l, t), p, q)) =
          q ∙ t ∙ ap (λ (y : Move). packed o n (edge a y)) (letter-injective N (omega arith) m' m s' s (l ∙ p))
      looked m s (inr (p, q)) = q ∙ ap (packed o n) (sym (d m s p))

      other : (x : ℕ) → ((m : Move) → Small N m → letter N m ≡ x → ⊥) →
          ((y : Edge) × Sound a y × (y.letter ≡ x) × (lookup (n - 1) r.edges x ≡ y.target)) ⊎
          (Absent x r.edges × (lookup (n - 1) r.edges x ≡ n - 1)) →
          lookup (n - 1) r.edges x ≡ n - 1
      other x f (inl (y, (m, s, l, t), p, q)) = absurd (f m s (l ∙ p))
      other x f (inr (p, q)) = q
