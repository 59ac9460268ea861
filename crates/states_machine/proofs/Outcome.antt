-- What follows an answer, a result or a decision: a predicate that does not hold of `dead` holds of the transition
-- exactly where the answer, the result or the decision is the one that is waited for.
use Rattle.std.specs.Prelude.{Option, None, Some}
use mathlib.Core.Path.{◌≡◌, refl}
use mathlib.Core.Logic.{◌↔◌}
use mathlib.Core.Bool.{Bool, true, false}
use Prim.Native.Nat.{ℕ, zero, suc}
use native.Mathlib.Bridge.{le_prop}
use native.Mathlib.Decide.{dec_lt}
use Rattle.language.specs.Choice.{pick}
use Rattle.language.specs.Operator.{truth}
use Rattle.language.specs.Ty.{Answer, done, ok, value}
use Rattle.language.specs.Play.{Val}
use Rattle.states_machine.specs.Action.{Next, dead}
use Rattle.states_machine.specs.Decide.{when}
use Rattle.states_machine.specs.Step.{on_done, on_ok, on_value, on_truth, on_some}

-- the transition of a decision that says yes, and of one that says no
when-yes : {X S A : Type 0} → IsProp X → (d : Dec X) (f : X → Next S A) (x : X) → when d f ≡ f x
unfolding when
when-yes h (yes y) f x = rw (h y x)
when-yes h (no n) f x = absurd (n x)

module _ {S A : Type 0} (F : Next S A → Type 0) (nowhere : F dead → ⊥) where
  -- a decision
  pub when-iff : {X : Type 0} → IsProp X → (d : Dec X) (f : X → Next S A) → F (when d f) ↔ ((x : X) × F (f x))
  unfolding when
  when-iff {X} h d f = (forth d, λ r. rw (when-yes h d f r.0) r.1)
    where
      forth : (d : Dec X) → F (when d f) → (x : X) × F (f x)
      forth (yes x) r = (x, r)
      forth (no n) r = absurd (nowhere r)

  -- a command's answer
  pub done-iff : (a : Answer) (x : Next S A) → F (on_done a x) ↔ ((a ≡ done) × F x)
  unfolding on_done
  done-iff a x = (forth a, λ r. rw r.0 r.1)
    where
      forth : (a : Answer) → F (on_done a x) → (a ≡ done) × F x
      forth done r = (refl, r)
      forth ok r = absurd (nowhere r)
      forth (value v) r = absurd (nowhere r)

  -- a written variable's answer
  pub ok-iff : (a : Answer) (x : Next S A) → F (on_ok a x) ↔ ((a ≡ ok) × F x)
  unfolding on_ok
  ok-iff a x = (forth a, λ r. rw r.0 r.1)
    where
      forth : (a : Answer) → F (on_ok a x) → (a ≡ ok) × F x
      forth done r = absurd (nowhere r)
      forth ok r = (refl, r)
      forth (value v) r = absurd (nowhere r)

  -- one of m values
  pub value-iff : (m : ℕ) (a : Answer) (f : Val m → Next S A) →
      F (on_value m a f) ↔ ((x : Val m) × (a ≡ value x.0) × F (f x))
  unfolding on_value
  value-iff m a f =
      (forth a, λ r. rw r.1 ((when-iff le_prop (dec_lt r.0.0 m) (λ h. f (r.0.0, h))).1 (r.0.1, r.2)))
    where
      forth : (a : Answer) → F (on_value m a f) → (x : Val m) × (a ≡ value x.0) × F (f x)
      forth done r = absurd (nowhere r)
      forth ok r = absurd (nowhere r)
      forth (value v) r = let d = (when-iff le_prop (dec_lt v m) (λ h. f (v, h))).0 r in ((v, d.0), refl, d.1)

  -- a result
  pub some-iff : (o : Option ℕ) (f : ℕ → Next S A) → F (on_some o f) ↔ ((z : ℕ) × (o ≡ Some z) × F (f z))
  unfolding on_some
  some-iff o f = (forth o, λ r. rw r.1 r.2)
    where
      forth : (o : Option ℕ) → F (on_some o f) → (z : ℕ) × (o ≡ Some z) × F (f z)
      forth None r = absurd (nowhere r)
      forth (Some z) r = (z, refl, r)

  -- a truth
  pub truth-iff : (a : Answer) (x y : Next S A) →
      F (on_truth a x y) ↔ ((t : Bool) × (a ≡ value (truth t)) × F (pick t x y))
  unfolding on_truth truth
  truth-iff a x y = (forth a, λ r. back r.0 r.1 r.2)
    where
      forth : (a : Answer) → F (on_truth a x y) → (t : Bool) × (a ≡ value (truth t)) × F (pick t x y)
      forth done r = absurd (nowhere r)
      forth ok r = absurd (nowhere r)
      forth (value zero) r = (false, refl, r)
      forth (value (suc zero)) r = (true, refl, r)
      forth (value (suc (suc v))) r = absurd (nowhere r)

      back : (t : Bool) → a ≡ value (truth t) → F (pick t x y) → F (on_truth a x y)
      back true e r = rw e r
      back false e r = rw e r
