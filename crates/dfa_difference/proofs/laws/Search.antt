-- What the loops over the entries of a level, and over the levels, keep. Assumes nothing.
use mathlib.Core.Bool.{Bool, beq, false, true}
use mathlib.Core.List.{List}
use mathlib.Core.Path.{◌∙◌, ◌≡◌, ap₂, refl, subst, sym}
use Prim.Native.Nat.{◌*◌, ◌+◌, ◌<◌, ◌≤◌, suc, ℕ}
use native.Mathlib.Omega.{arith}
use lib.ListN.{length, length-take, take}
use Rattle.dfa.specs.Graph.{rest}
use Rattle.dfa.specs.Word.{accepting}
use Rattle.dfa.proofs.laws.Rest.{front_at}
use Rattle.dfa_difference.specs.Outcome.{Outcome, Setting}
use Rattle.dfa_difference.specs.declared.Task.{Task}
use Rattle.std.specs.Prelude.{Option, Some, None, Ok, Err}
use Rattle.dfa_difference.specs.inner.Level.{Deep, Leveled, Shallow, alike_at}
use Rattle.dfa_difference.specs.inner.Queue.{Grown}
use Rattle.dfa_difference.specs.inner.Search.{Leveling, Runs, Testing}
use Rattle.dfa_difference.specs.inner.State.{Half, State}
use Rattle.dfa_difference.proofs.laws.Level.{deep-next, layer-again, spelled_stays}
use Rattle.dfa_difference.proofs.laws.Run.{last-same, last-told, run_on, run-same, run-told, spells, tail-low}

-- what is said of an entry in all words is said of it in the front
alike-front : (t : Task) (ws : List ℕ) (k : ℕ) → k < t.n
    → alike_at t.n (take (5 * t.n) ws) k t.f t.g ≡ alike_at t.n ws k t.f t.g
alike-front t ws k h = ap₂ (λ a b. beq (accepting t.f t.g a) (accepting t.f t.g b))
    (sym (front_at (5 * t.n) ws (t.n + 4 * k) _ (omega arith) refl))
    (sym (front_at (5 * t.n) ws (t.n + 4 * k + 1) _ (omega arith) refl))

-- what a state in the front leaves of the words
pub record Room (n tail : ℕ) (ws : List ℕ) : Type 0 where
  pub tail-lt : tail < n
  pub few : n ≤ 8193
  pub room : 5 * n ≤ length ws

pub room_of : (t : Task) (ws : List ℕ) (head tail : ℕ) → Setting (rest (5 * t.n) ws) t
    → State (rest (5 * t.n) ws) t (take (5 * t.n) ws) head tail → Room t.n tail ws
room_of t ws head tail s u = record {
  tail-lt = tail-low _ t s _ head tail u;
  few = u.low.few;
  room = omega (arith, u.low.room, length-take (5 * t.n) ws);
}

-- expand_level
module _ (t : Task) (from end : ℕ) (ws₀ ws : List ℕ) (head tail : ℕ) (r : Leveling t from end ws₀ ws head tail) where
  pub level-room : Room t.n tail ws
  level-room = room_of t ws head tail r.set_at r.state

  module _ (h : head < end) where
    here : head < tail
    here = omega (arith, r.layer.more)

    pub level-on : Shallow t.n (take (5 * t.n) ws₀) from end t.most
        → alike_at t.n ws head t.f t.g ≡ true
        → Half (rest (5 * t.n) ws) t (take (5 * t.n) ws) head tail 0
    level-on d e = run_on _ t r.set_at _ head tail r.state here
        (d head r.begun h _ (spelled_stays t.n end _ _ r.layer.stays head _ h
        (spells _ t r.set_at _ head tail r.state head here)))
        (alike-front t ws head (omega (arith, level-room)) ∙ e)

    pub level-told : alike_at t.n ws head t.f t.g ≡ false
        → Leveled (rest (5 * t.n) ws₀) t from end (take (5 * t.n) ws₀) (take (5 * t.n) ws) (Err head)
    level-told e = subst (λ G. Leveled G t from end (take (5 * t.n) ws₀) (take (5 * t.n) ws) (Err head)) r.graph
        (run-told _ t r.set_at _ head tail r.state here (alike-front t ws head (omega (arith, level-room)) ∙ e))

    pub level-again : (ws' : List ℕ) (tail' : ℕ) → length ws' ≡ length ws
        → State (rest (5 * t.n) ws) t (take (5 * t.n) ws') (head + 1) tail'
        × ((rest (5 * t.n) ws' ≡ rest (5 * t.n) ws)
        × Grown t.n head tail tail' (take (5 * t.n) ws) (take (5 * t.n) ws'))
        → Leveling t from end ws₀ ws' (head + 1) tail'
    level-again ws' tail' l e = record {
      state = subst (λ G. State G t (take (5 * t.n) ws') (head + 1) tail') (sym e.1.0) e.0;
      layer = layer-again t.n from end head tail tail' _ _ _ r.layer r.begun h e.1.1;
      begun = omega (arith, r.begun);
      within = omega arith;
      len = l ∙ r.len;
      graph = e.1.0 ∙ r.graph;
      set_at = subst (λ G. Setting G t) (sym e.1.0) r.set_at;
    }

-- test_level
module _ (t : Task) (from end : ℕ) (ws : List ℕ) (s : Setting (rest (5 * t.n) ws) t)
    (u : State (rest (5 * t.n) ws) t (take (5 * t.n) ws) from end)
    (d : Deep t.n (take (5 * t.n) ws) from end t.most) (head : ℕ) (r : Testing t from ws head) where
  at_front : (k : ℕ) → k < end → (b : Bool) → alike_at t.n ws k t.f t.g ≡ b
      → alike_at t.n (take (5 * t.n) ws) k t.f t.g ≡ b
  at_front k h b e = alike-front t ws k (omega (arith, room_of t ws from end s u)) ∙ e

  pub test-told : head < end → alike_at t.n ws head t.f t.g ≡ false
      → Outcome (rest (5 * t.n) ws) t (take (5 * t.n) ws) (Some head)
  test-told h e = last-told _ t s _ from end u d head r.begun h
      (λ k a b. at_front k (omega arith) true (r.alike k a b)) (at_front head h false e)

  pub test-same : end ≤ head → Outcome (rest (5 * t.n) ws) t (take (5 * t.n) ws) None
  test-same h = last-same _ t s _ from end u d (λ k a b. at_front k b true (r.alike k a (omega arith)))

-- run
module _ (t : Task) (ws₀ ws : List ℕ) (head tail left : ℕ) (r : Runs t ws₀ ws head tail left) where
  pub runs-again : (ws' : List ℕ) (left' next : ℕ) → left ≡ suc left' → length ws' ≡ length ws
      → Leveled (rest (5 * t.n) ws) t head tail (take (5 * t.n) ws) (take (5 * t.n) ws') (Ok next)
      → rest (5 * t.n) ws' ≡ rest (5 * t.n) ws → Runs t ws₀ ws' tail next left'
  runs-again ws' left' next q l e g = record {
    state = subst (λ G. State G t (take (5 * t.n) ws') tail next) (sym g) e.0;
    depth = suc r.depth;
    sum = omega (arith, r.sum);
    deep = deep-next t.n head tail next r.depth _ _ e.1 r.deep;
    len = l ∙ r.len;
    graph = g ∙ r.graph;
    set_at = subst (λ G. Setting G t) (sym g) r.set_at;
  }

  pub runs-out : (ws' : List ℕ) (v : Option ℕ) → Outcome (rest (5 * t.n) ws) t (take (5 * t.n) ws') v
      → Outcome (rest (5 * t.n) ws₀) t (take (5 * t.n) ws') v
  runs-out ws' v o = subst (λ G. Outcome G t (take (5 * t.n) ws') v) r.graph o

  pub runs_same : tail ≤ head → Outcome (rest (5 * t.n) ws₀) t (take (5 * t.n) ws) None
  runs_same h = runs-out ws None (λ x l. run-same _ t r.set_at _ head tail r.state h x)
