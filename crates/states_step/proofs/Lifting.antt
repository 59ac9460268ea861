-- A part's step, seen in the whole.
use Rattle.std.specs.Prelude.{Option, None, Some}
use mathlib.Core.Path.{◌≡◌, refl, sym, ◌∙◌, ap, subst}
use mathlib.Core.Bool.{false}
use mathlib.Core.List.{List}
use Prim.Native.Nat.{ℕ, zero, suc, ◌%◌, ◌<◌}
use native.Mathlib.Omega.{arith}
use native.Mathlib.Decide.{dec_lt}
use native.Mathlib.Nat.{mod-eq_of_lt}
use lib.Dec.{eqb, ltb}
use borrow.Author.Tests.{lt-ltb, le-ltb, ne_eqb}
use Rattle.language.specs.Choice.{pick}
use Rattle.language.specs.Operator as op
use Rattle.language.specs.Ty.{done, ok, value}
use Rattle.language.specs.Move.{at, Move, move}
use Rattle.language.specs.Term.{Term, fetch, Operation, apply}
use Rattle.language.specs.Play.{Val}
use Rattle.language.specs.Weight.{weight}
use Rattle.language.specs.declared.Numbers.{Numbers}
use Rattle.states_machine.specs.Action.{Next, to, out, dead, Action, go, say, hear, map_next, map_action}
use Rattle.states_machine.specs.Decide.{when}
use Rattle.states_machine.specs.Edge.{edge_hear}
use Rattle.states_machine.specs.Position.{Context, Position, State, Exit as ExitOf}
use Rattle.states_machine.specs.Numbering.{numbered}
use Rattle.states_machine.specs.Step.{on_done, on_ok, on_value, on_truth, on_some}
use Rattle.states_positions.specs.declared.Move.{Move as Record}
use Rattle.states_positions.specs.declared.Frame.{Frame}
use Rattle.states_positions.specs.declared.Out.{Out as Did}
use Rattle.states_positions.specs.declared.Out.TheVariants.{Go, Say, Stuck}
use Rattle.states_positions.specs.Row.{sum_of, mul_add_of}
use Rattle.states_names.specs.Name.{framed_of}
use Rattle.states_rise.specs.Up.{exit_done, exit_truth, exit_value, exit_result, exit_operate, exit_assign}
use Rattle.states_rise.specs.Up.{exits_of}
use Rattle.states_rise.specs.Up.{goes_of, rise_of}
use Rattle.states_step.specs.walk.Shows.{kind_a, value_a, move_of, stored, updated, ShowsNext, ShowsSaid, waits}
use Rattle.states_step.specs.walk.Shows.{leads, Shows, Variables}
use Rattle.states_step.proofs.Sums.{map-edge, sum-small}

-- where the part has the same variables
abbrev pub in-part : (n : Context) (L M : Term) → (Position L → Position M) → State n L → State n M
in-part n L M inj s = (s.0, inj s.1)

module _ (K : Numbers) (t : List ℕ) (m : Record) (n : Context) (L M : Term) (F : Frame)
    (inj : Position L → Position M)
    (e : ExitOf n → Next (State n M) (ExitOf n)) (vs : Variables) (role : eqb F.role 7 ≡ false)
    (codes : (p : Position L) → sum_of F.base ((numbered L).code p) ≡ (numbered M).code (inj p))
    (outs : (x : ExitOf n) (l u : ℕ) → stored n x.0 ≡ updated vs l u →
    ShowsNext n M vs (e x) (exits_of K F (kind_a x.1) (value_a x.1) l u)) where
  lift-next : (x : Next (State n L) (ExitOf n)) (o : Did) → ShowsNext n L vs x o →
      ShowsNext n M vs (map_next (in-part n L M inj) e x) (rise_of K F o)
  unfolding ShowsNext map_next rise_of goes_of
  lift-next (to s) o (l, u, h, w) = rw h (l, u, simp (role, codes s.1), w)
  lift-next (out x) o (l, u, h, w) = rw h (outs x l u w)
  lift-next dead o h = rw h refl

  lift-said : (y : Move) (x : Next (State n L) (ExitOf n)) (o : Did) → ShowsSaid n L vs y x o →
      ShowsSaid n M vs y (map_next (in-part n L M inj) e x) (rise_of K F o)
  unfolding ShowsSaid map_next rise_of
  lift-said y (to s) o (h, w) = rw h (ap (λ (k : ℕ). Say (move_of y) k) (codes s.1), w)
  lift-said y (out x) o h = absurd h
  lift-said y dead o h = absurd h

  pub lift : (y : Action (State n L) (ExitOf n)) (o : Did) → Shows K t n L vs m y o →
      Shows K t n M vs m (map_action (in-part n L M inj) e y) (rise_of K F o)
  unfolding Shows map_action rise_of
  lift (go x) o h = lift-next x o h
  lift (say y x) o h = lift-said y x o h
  lift (hear l k) o (waits {node} {q} {x} {c} a w b) = waits {node = node} {q = q} {x = x} {c = c} a w (rw b refl)
  lift (hear l k) o (leads i j d a b) =
      leads i j d a
      (subst (λ (x : Next (State n M) (ExitOf n)). ShowsNext n M vs x (rise_of K F o))
      (sym (map-edge (in-part n L M inj) e l k (move (at i j) d)))
      (lift-next (edge_hear l k (move (at i j) d)) o b))

-- what exits become
module _ (K : Numbers) (n : Context) (M : Term) (vs : Variables) where
  pub out-pass : (base a b c d : ℕ) (x : ExitOf n) (l u : ℕ) → stored n x.0 ≡ updated vs l u →
      ShowsNext n M vs (out x) (exits_of K (framed_of 0 base a b c d) (kind_a x.1) (value_a x.1) l u)
  unfolding ShowsNext exits_of
  out-pass base a b c d x l u w = (l, u, refl, w)

  pub out-done : (base a b c d : ℕ) (p : Position M) → (numbered M).code p ≡ a → (x : ExitOf n) (l u : ℕ) →
      stored n x.0 ≡ updated vs l u →
      ShowsNext n M vs (on_done x.1 (to (x.0, p)))
      (exits_of K (framed_of 1 base a b c d) (kind_a x.1) (value_a x.1) l u)
  unfolding ShowsNext exits_of exit_done on_done kind_a value_a
  out-done base a b c d p e (τ, done) l u w = (l, u, ap (λ (k : ℕ). Go k l u) (sym e), w)
  out-done base a b c d p e (τ, ok) l u w = refl
  out-done base a b c d p e (τ, value v) l u w = refl

  pub out-ok : (base a b c d : ℕ) (x : ExitOf n) (l u : ℕ) → stored n x.0 ≡ updated vs l u →
      ShowsNext n M vs (on_ok x.1 (out (x.0, done)))
      (exits_of K (framed_of 5 base a b c d) (kind_a x.1) (value_a x.1) l u)
  unfolding ShowsNext exits_of exit_assign on_ok kind_a value_a
  out-ok base a b c d (τ, done) l u w = refl
  out-ok base a b c d (τ, ok) l u w = (l, u, refl, w)
  out-ok base a b c d (τ, value v) l u w = refl

  pub out-while : (base a c d : ℕ) (p : Position M) → (numbered M).code p ≡ a → (x : ExitOf n) (l u : ℕ) →
      stored n x.0 ≡ updated vs l u →
      ShowsNext n M vs (on_truth x.1 (to (x.0, p)) (out (x.0, done)))
      (exits_of K (framed_of 2 base a 0 c d) (kind_a x.1) (value_a x.1) l u)
  unfolding ShowsNext exits_of exit_truth on_truth kind_a value_a
  out-while base a c d p e (τ, done) l u w = refl
  out-while base a c d p e (τ, ok) l u w = refl
  out-while base a c d p e (τ, value zero) l u w = (l, u, refl, w)
  out-while base a c d p e (τ, value (suc zero)) l u w = (l, u, ap (λ (k : ℕ). Go k l u) (sym e), w)
  out-while base a c d p e (τ, value (suc (suc v))) l u w =
      simp (ne_eqb (suc (suc v)) 1 (omega arith), ne_eqb (suc (suc v)) 0 (omega arith))

  pub out-cond : (base a b c d : ℕ) (p p' : Position M) → (numbered M).code p ≡ a → (numbered M).code p' ≡ b → 0 < b →
      (x : ExitOf n) (l u : ℕ) → stored n x.0 ≡ updated vs l u →
      ShowsNext n M vs (on_truth x.1 (to (x.0, p)) (to (x.0, p')))
      (exits_of K (framed_of 2 base a b c d) (kind_a x.1) (value_a x.1) l u)
  unfolding ShowsNext exits_of exit_truth on_truth kind_a value_a
  out-cond base a b c d p p' e e' h (τ, done) l u w = refl
  out-cond base a b c d p p' e e' h (τ, ok) l u w = refl
  out-cond base a b c d p p' e e' h (τ, value zero) l u w =
      (l, u, rw (ne_eqb b 0 (omega arith)) (ap (λ (k : ℕ). Go k l u) (sym e')), w)
  out-cond base a b c d p p' e e' h (τ, value (suc zero)) l u w = (l, u, ap (λ (k : ℕ). Go k l u) (sym e), w)
  out-cond base a b c d p p' e e' h (τ, value (suc (suc v))) l u w =
      simp (ne_eqb (suc (suc v)) 1 (omega arith), ne_eqb (suc (suc v)) 0 (omega arith))

  pub out-value : (base a b c d : ℕ) (p : Val c → Position M) →
      ((v : Val c) → mul_add_of v.0 b a ≡ (numbered M).code (p v)) → (x : ExitOf n) (l u : ℕ) →
      stored n x.0 ≡ updated vs l u →
      ShowsNext n M vs (on_value c x.1 (λ v. to (x.0, p v)))
      (exits_of K (framed_of 3 base a b c d) (kind_a x.1) (value_a x.1) l u)
  unfolding ShowsNext exits_of exit_value on_value when kind_a value_a
  out-value base a b c d p e (τ, done) l u w = refl
  out-value base a b c d p e (τ, ok) l u w = refl
  out-value base a b c d p e (τ, value v) l u w = cases (dec_lt v c)
    where
      cases : (x : Dec (v < c)) → ShowsNext n M vs (when x (λ h. to (τ, p (v, h))))
          (pick (ltb v c) (Go (mul_add_of v b a) l u) Stuck)
      cases (yes h) = rw (lt-ltb v c h) (l, u, ap (λ (k : ℕ). Go k l u) (e (v, h)), w)
      cases (no h) = rw (le-ltb v c (omega arith)) refl

  pub out-operate : (base c x d : ℕ) (o : Operation) → o.over ≡ K → o.operator < 256 → x < c → c < 65536 →
      (e : ExitOf n) (l u : ℕ) → stored n e.0 ≡ updated vs l u →
      ShowsNext n M vs (on_value c e.1 (λ y. on_some (apply o x y.0) (λ z. out (e.0, value z))))
      (exits_of K (framed_of 4 base x o.operator c d) (kind_a e.1) (value_a e.1) l u)
  unfolding ShowsNext exits_of exit_operate exit_result on_value when kind_a value_a on_some apply
  out-operate base c x d o over small xc few (τ, done) l u w = refl
  out-operate base c x d o over small xc few (τ, ok) l u w = refl
  out-operate base c x d o over small xc few (τ, value v) l u w = cases (dec_lt v c)
    where
      same : v < c → op.operate K (o.operator % 256) (x % 65536) (v % 65536) ≡ apply o x v
      same h =
          let x₁ : x < 65536 = omega arith in
          let v₁ : v < 65536 = omega arith in
          rw (mod-eq_of_lt small, mod-eq_of_lt x₁, mod-eq_of_lt v₁, over) refl

      result : (r : Option ℕ) → ShowsNext n M vs (on_some r (λ z. out (τ, value z))) (exit_result r l u)
      result None = refl
      result (Some z) = (l, u, refl, w)

      cases : (y : Dec (v < c)) → ShowsNext n M vs (when y (λ h. on_some (apply o x v) (λ z. out (τ, value z))))
          (pick (ltb v c) (exit_result (op.operate K (o.operator % 256) (x % 65536) (v % 65536)) l u) Stuck)
      cases (yes h) = rw (lt-ltb v c h, same h) (result (apply o x v))
      cases (no h) = rw (le-ltb v c (omega arith)) refl

-- a fetch is its variable, asked to be read
module _ (K : Numbers) (t : List ℕ) (m : Record) (n : Context) (X : Term) (vs : Variables)
    (fits : weight X < 65536) where
  same_next : (x : Next (State n X) (ExitOf n)) (o : Did) → ShowsNext n X vs x o →
      ShowsNext n (fetch X) vs x (rise_of K (framed_of 0 0 0 0 0 0) o)
  unfolding ShowsNext rise_of goes_of exits_of numbered
  same_next (to s) o (l, u, h, w) =
      rw h (
        l,
        u,
        ap (λ (j : ℕ). Go j l u)
            (sum-small 0 ((numbered X).code s.1) (omega (arith, (numbered X).bound s.1)) ∙ omega arith),
        w,
      )
  same_next (out x) o (l, u, h, w) = rw h (l, u, refl, w)
  same_next dead o h = rw h refl

  same-said : (y : Move) (x : Next (State n X) (ExitOf n)) (o : Did) → ShowsSaid n X vs y x o →
      ShowsSaid n (fetch X) vs y x (rise_of K (framed_of 0 0 0 0 0 0) o)
  unfolding ShowsSaid rise_of numbered
  same-said y (to s) o (h, w) =
      rw h (
        ap (λ (j : ℕ). Say (move_of y) j)
            (sum-small 0 ((numbered X).code s.1) (omega (arith, (numbered X).bound s.1)) ∙ omega arith),
        w,
      )
  same-said y (out x) o h = absurd h
  same-said y dead o h = absurd h

  pub same : (y : Action (State n X) (ExitOf n)) (o : Did) → Shows K t n X vs m y o →
      Shows K t n (fetch X) vs m y (rise_of K (framed_of 0 0 0 0 0 0) o)
  unfolding Shows rise_of
  same (go x) o h = same_next x o h
  same (say y x) o h = same-said y x o h
  same (hear l k) o (waits {node} {q} {x} {c} a w b) = waits {node = node} {q = q} {x = x} {c = c} a w (rw b refl)
  same (hear l k) o (leads i j d a b) = leads i j d a (same_next (edge_hear l k (move (at i j) d)) o b)
