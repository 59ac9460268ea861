-- Private variables: what the code holds of their values, their steps, and the block's steps seen from outside.
use mathlib.Core.Path.{◌≡◌, refl, sym, ◌∙◌, ap, subst}
use mathlib.Core.Bool.{Bool, true, false}
use mathlib.Core.List.{List, [], ◌∷◌}
use Prim.Native.Nat.{ℕ, suc, ◌+◌, ◌*◌, ◌≤◌, ◌<◌}
use native.Mathlib.Omega.{arith}
use native.Mathlib.Decide.{dec_lt}
use lib.Dec.{eqb}
use borrow.Author.Tests.{lt-ltb, le-ltb, eq-eqb, ne_eqb}
use Rattle.language.specs.Choice.{pick}
use Rattle.language.specs.Ty.{Question, run, ask, read, write, Answer, ok, value}
use Rattle.language.specs.Move.{at, Move, move}
use Rattle.language.specs.Term.{Term, private, new}
use Rattle.language.specs.Typing.{Scope, here, there}
use Rattle.language.specs.Play.{Val}
use Rattle.language.specs.Weight.{weight}
use Rattle.language.specs.declared.Numbers.{Numbers}
use Rattle.states_machine.specs.Action.{Next, to, out, dead, Action, go, say, hear, map_next, map_action}
use Rattle.states_machine.specs.Decide.{when}
use Rattle.states_machine.specs.Edge.{edge_hear}
use Rattle.states_machine.specs.Position.{Context, Store, Position, State, Exit as ExitOf}
use Rattle.states_machine.specs.Numbered.{values, product, product_code}
use Rattle.states_machine.specs.Numbering.{numbered}
use Rattle.states_machine.specs.Step.{ask_variable, access}
use Rattle.sheet_rows.specs.Row.{word}
use Rattle.sheet_rows.specs.Rep.{Fresh}
use Rattle.states_positions.specs.declared.Move.{Move as Record}
use Rattle.states_positions.specs.declared.Frame.{Frame}
use Rattle.states_positions.specs.declared.Out.{Out as Did}
use Rattle.states_positions.specs.declared.Out.TheVariants.{Go, Exit, Say}
use Rattle.states_positions.specs.Row.{sum_of, mul_add_of}
use Rattle.states_step.specs.walk.Store.{with_value}
use Rattle.states_names.specs.Name.{framed_of}
use Rattle.states_step.specs.walk.Down.{in_private}
use Rattle.states_rise.specs.Up.{exit_new, exits_of, goes_of, rise_of}
use Rattle.states_step.specs.walk.Shows.{kind_q, value_q, kind_a, value_a, move_of, stored, held, valued, updated}
use Rattle.states_step.specs.walk.Shows.{Variables, HeldStore, ShowsNext}
use Rattle.states_step.specs.walk.Shows.{ShowsSaid, waits, leads, Shows}
use Rattle.states_step.proofs.Sums.{map-edge, sum-small, mul_add_small, times, under}
use Rattle.states_step.proofs.Parts.{positive}
use Rattle.states_step.proofs.Hearing.{written_none, valued_held, unwritten}

-- the blocks on a path: their rows, each of them once, and the numbers of values of their variables
pub data Blocks : List ℕ → Context → Type 0 where
  outside : Blocks [] []
  inside : {rs : List ℕ} {n : Context} {r m : ℕ} → Fresh rs r → Blocks rs n → Blocks (r ∷ rs) (m ∷ n)

-- the enclosing block i has the row r, and its variable m values
pub data Block : List ℕ → Context → ℕ → ℕ → ℕ → Type 0 where
  own : {r m : ℕ} {rs : List ℕ} {n : Context} → Block (r ∷ rs) (m ∷ n) 0 m r
  outer : {r m k i l : ℕ} {rs : List ℕ} {n : Context} → Block rs n i m r → Block (l ∷ rs) (k ∷ n) (suc i) m r

pub block : {rs : List ℕ} {n : Context} {i m r : ℕ} → Scope rs i r → Scope n i m → Block rs n i m r
block here here = own
block (there a) (there b) = outer (block a b)

block_row : {rs : List ℕ} {n : Context} {i m r : ℕ} → Block rs n i m r → Scope rs i r
block_row own = here
block_row (outer a) = there (block_row a)

-- reading and writing a private variable
read_at : {S A : Type 0} (s : ℕ → ℕ) {rs : List ℕ} {n : Context} {i m r : ℕ} → Block rs n i m r → (σ : Store n) →
    HeldStore s (held rs n σ) → (k : Store n → Answer → Next S A) → access n i σ read k ≡ k σ (value (s r))
unfolding access ask_variable HeldStore held
read_at s own σ h k = ap (λ (v : ℕ). k σ (value v)) (sym h.0)
read_at s (outer a) σ h k = read_at s a σ.1 h.1 (λ τ. k (σ.0, τ))

when-some : {S A : Type 0} (m x : ℕ) (f : x < m → Next S A) (h : x < m) (d : Dec (x < m)) →
    (y : x < m) × (when d f ≡ f y)
unfolding when
when-some m x f h (yes y) = (y, refl)
when-some m x f h (no n) = absurd (n h)

when-none : {S A : Type 0} (m x : ℕ) (f : x < m → Next S A) (h : m ≤ x) (d : Dec (x < m)) → when d f ≡ dead
unfolding when
when-none m x f h (yes y) = absurd (omega arith)
when-none m x f h (no n) = refl

write-at : {S A : Type 0} {rs : List ℕ} {n : Context} {i m r : ℕ} → Block rs n i m r → Blocks rs n → (x : ℕ) →
    x < m → (σ : Store n) → (k : Store n → Answer → Next S A) →
    (τ : Store n) × (access n i σ (write x) k ≡ k τ ok) × (stored n τ ≡ updated (held rs n σ) (suc r) x)
unfolding access ask_variable stored held updated Fresh
write-at (own {r} {m} {rs} {n}) d x b σ k =
    let y = when-some m x (λ h. k ((x, h), σ.1) ok) b (dec_lt x m) in (
      ((x, y.0), σ.1),
      y.1,
      rw (eq-eqb (suc r) (suc r) refl) (ap (λ (z : List ℕ). x ∷ z) (valued_held rs n σ.1)),
    )
write-at (outer {r = r} {k = k₁} {i = i} {l = l} {rs = rs} {n = n} a) (inside f d) x b σ k =
    let w = write-at a d x b σ.1 (λ τ. k (σ.0, τ)) in (
      (σ.0, w.0),
      w.1,
      rw (ne_eqb (suc r) (suc l) (λ e. f i (subst (λ (j : ℕ). Scope rs i j) (omega arith) (block_row a))))
          (ap (λ (z : List ℕ). σ.0.0 ∷ z) w.2),
    )

write-not : {S A : Type 0} {rs : List ℕ} {n : Context} {i m r : ℕ} → Block rs n i m r → (x : ℕ) → m ≤ x → (σ :
    Store n) →
    (k : Store n → Answer → Next S A) → access n i σ (write x) k ≡ dead
unfolding access ask_variable
write-not (own {m = m} {n = n}) x b σ k = when-none m x (λ h. k ((x, h), σ.1) ok) b (dec_lt x m)
write-not (outer a) x b σ k = write-not a x b σ.1 (λ τ. k (σ.0, τ))

no_run : {S A : Type 0} {rs : List ℕ} {n : Context} {i m r : ℕ} → Block rs n i m r → (σ : Store n) →
    (k : Store n → Answer → Next S A) → access n i σ run k ≡ dead
unfolding access ask_variable
no_run own σ k = refl
no_run (outer a) σ k = no_run a σ.1 (λ τ. k (σ.0, τ))

no-ask : {S A : Type 0} {rs : List ℕ} {n : Context} {i m r : ℕ} → Block rs n i m r → (σ : Store n) →
    (k : Store n → Answer → Next S A) → access n i σ ask k ≡ dead
unfolding access ask_variable
no-ask own σ k = refl
no-ask (outer a) σ k = no-ask a σ.1 (λ τ. k (σ.0, τ))

-- the values that are held, one more
held-other : (s : ℕ → ℕ) (r x : ℕ) {rs : List ℕ} {n : Context} → Blocks rs n → (σ : Store n) → Fresh rs r →
    HeldStore s (held rs n σ) → HeldStore (with_value s (suc r) x) (held rs n σ)
unfolding HeldStore held with_value Fresh
held-other s r x outside σ f d = tt
held-other s r x (inside {rs} {n} {r = l} g ds) σ f d = (
  rw (ne_eqb (suc r) (suc l) (λ e. f 0 (subst (λ (j : ℕ). Scope (l ∷ rs) 0 j) (omega arith) here))) d.0,
  held-other s r x ds σ.1 (λ i a. f (suc i) (there a)) d.1,
)

pub held-push : (s : ℕ → ℕ) (r a m : ℕ) {rs : List ℕ} {n : Context} → a ≡ suc r → Blocks rs n → (v : Val m) (σ : Store
    n) →
    Fresh rs r → HeldStore s (held rs n σ) → HeldStore (with_value s a v.0) (held (r ∷ rs) (m ∷ n) (v, σ))
unfolding HeldStore held with_value
held-push s r a m {rs} {n} e ds v σ f d =
    subst (λ (x : ℕ). HeldStore (with_value s x v.0) (held (r ∷ rs) (m ∷ n) (v, σ))) (sym e)
    (rw (eq-eqb (suc r) (suc r) refl) refl, held-other s r v.0 ds σ f d)

-- the exit of a private variable
module _ (t : List ℕ) (node : ℕ) (rs : List ℕ) (n : Context) (i m₀ r₀ : ℕ) (rl : word t node 4 ≡ r₀)
    (rm : word t node 3 ≡ m₀) (a : Block rs n i m₀ r₀) (ds : Blocks rs n) (σ : Store n) (s : ℕ → ℕ)
    (hd : HeldStore s (held rs n σ)) (small : r₀ < 65536) where
  abbrev leave : Store n → Answer → Next (State n (private i)) (ExitOf n)
  leave τ b = out (τ, b)

  abbrev accessed : Question → Next (State n (private i)) (ExitOf n)
  accessed q = access n i σ q leave

  pub private-shows : (q : Question) →
      ShowsNext n (private i) (held rs n σ) (accessed q) (in_private t node (kind_q q) (value_q q) 1 s)
  unfolding ShowsNext in_private kind_q value_q kind_a value_a
  private-shows run = rw (no_run a σ leave) refl
  private-shows ask = rw (no-ask a σ leave) refl
  private-shows read = rw (read_at s a σ hd leave, rl) (0, 0, refl, unwritten rs n σ)
  private-shows (write x) = cases (dec_lt x m₀)
    where
      cases : Dec (x < m₀) →
          ShowsNext n (private i) (held rs n σ) (accessed (write x)) (in_private t node 6 x 1 s)
      cases (yes h) =
          let r = write-at a ds x h σ leave in
          rw (r.1, rl, rm, lt-ltb x m₀ h) (
            suc r₀,
            x,
            rw (sum-small r₀ 1 (omega arith)) (ap (λ (k : ℕ). Exit 4 0 k x) (omega arith)),
            r.2,
          )
      cases (no h) = rw (write-not a x (omega arith) σ leave, rm, le-ltb x m₀ (omega arith)) refl

-- a block's step, seen from outside
cons_head : (v w : ℕ) (vs ws : List ℕ) → ◌≡◌ {A = List ℕ} (v ∷ vs) (w ∷ ws) → v ≡ w
cons_head v w vs ws e = cc

cons_tail : (v w : ℕ) (vs ws : List ℕ) → ◌≡◌ {A = List ℕ} (v ∷ vs) (w ∷ ws) → vs ≡ ws
cons_tail v w vs ws e = cc

module _ (K : Numbers) (t : List ℕ) (m : Record) (n : Context) (k : ℕ) (z : 0 < k) (C : Term) (v : Val k)
    (vs : Variables) (row : ℕ) (fits : k * weight C < 65536) (low : row < 65536) where
  abbrev BlockFrame : Frame
  BlockFrame = framed_of 7 (mul_add_of v.0 (weight C) 0) (sum_of row 1) (weight C) v.0 0

  -- what a change says of the block's variable and of the others
  data Change (x : ℕ) (xs : List ℕ) (l u : ℕ) : Type 0 where
    mine : eqb l (sum_of row 1) ≡ true → x ≡ u → xs ≡ valued vs → Change x xs l u
    other : eqb l (sum_of row 1) ≡ false → x ≡ v.0 → xs ≡ updated vs l u → Change x xs l u

  change : (x : ℕ) (xs : List ℕ) (l u : ℕ) → ◌≡◌ {A = List ℕ} (x ∷ xs) (updated ((row, v.0) ∷ vs) l u) → Change x xs
      l u
  unfolding updated
  change x xs l u w = cases _ refl w
    where
      place : suc row ≡ sum_of row 1
      place = omega (arith, sum-small row 1 (omega arith))

      cases : (b : Bool) → eqb l (suc row) ≡ b →
          ◌≡◌ {A = List ℕ} (x ∷ xs) (pick b (u ∷ valued vs) (v.0 ∷ updated vs l u)) → Change x xs l u
      cases true e h =
          mine (subst (λ (j : ℕ). eqb l j ≡ true) place e) (cons_head x u xs _ h) (cons_tail x u xs _ h)
      cases false e h =
          other (subst (λ (j : ℕ). eqb l j ≡ false) place e) (cons_head x v.0 xs _ h) (cons_tail x v.0 xs _ h)

  size : weight C < 65536
  size = omega (arith, times k (weight C) v.0 v.1)

  low_value : (x : Val k) → x.0 < 65536
  low_value x = omega (arith, under k (weight C) x.0 (positive C) x.1)

  near : (x : Val k) (p : Position C) → x.0 * weight C + (numbered C).code p < 65536
  near x p = omega (arith, times k (weight C) x.0 x.1, (numbered C).bound p)

  written-code : (x : Val k) (u : ℕ) → x.0 ≡ u → (p : Position C) →
      mul_add_of u (weight C) ((numbered C).code p) ≡ x.0 * weight C + (numbered C).code p
  written-code x u e p =
      rw (← e) (mul_add_small x.0 (weight C) ((numbered C).code p) (low_value x) size (omega (arith, near x p)))

  kept-code : (x : Val k) → x.0 ≡ v.0 → (p : Position C) →
      sum_of (mul_add_of v.0 (weight C) 0) ((numbered C).code p) ≡ x.0 * weight C + (numbered C).code p
  kept-code x e p =
      rw (← e, mul_add_small x.0 (weight C) 0 (low_value x) size (omega arith))
      (sum-small (x.0 * weight C + 0) ((numbered C).code p) (omega (arith, near x p)) ∙ omega arith)

  abbrev opened : State (k ∷ n) C → State n (new k z C)
  opened s = (s.0.1, (s.0.0, s.1))

  abbrev closed : ExitOf (k ∷ n) → Next (State n (new k z C)) (ExitOf n)
  closed e = out (e.0.1, e.1)

  new-next : (x : Next (State (k ∷ n) C) (ExitOf (k ∷ n))) (o : Did) → ShowsNext (k ∷ n) C ((row, v.0) ∷ vs) x o →
      ShowsNext n (new k z C) vs (map_next opened closed x) (rise_of K BlockFrame o)
  unfolding ShowsNext map_next rise_of goes_of exits_of exit_new stored numbered product product_code values
  new-next (to s) o (l, u, h, w) = rw h (cases (change _ _ l u w))
    where
      cases : Change s.0.0.0 (stored n s.0.1) l u →
          ShowsNext n (new k z C) vs (to (opened s)) (goes_of BlockFrame ((numbered C).code s.1) l u)
      cases (mine e x y) =
          rw e (0, 0, ap (λ (j : ℕ). Go j 0 0) (written-code s.0.0 u x s.1), y ∙ sym (written_none vs 0))
      cases (other e x y) = rw e (l, u, ap (λ (j : ℕ). Go j l u) (kept-code s.0.0 x s.1), y)
  new-next (out x) o (l, u, h, w) = rw h (cases (change _ _ l u w))
    where
      cases : Change x.0.0.0 (stored n x.0.1) l u →
          ShowsNext n (new k z C) vs (closed x) (exit_new (kind_a x.1) (value_a x.1) BlockFrame l u)
      cases (mine e a b) = rw e (0, 0, refl, b ∙ sym (written_none vs 0))
      cases (other e a b) = rw e (l, u, refl, b)
  new-next dead o h = rw h refl

  new-said : (y : Move) (x : Next (State (k ∷ n) C) (ExitOf (k ∷ n))) (o : Did) →
      ShowsSaid (k ∷ n) C ((row, v.0) ∷ vs) y x o →
      ShowsSaid n (new k z C) vs y (map_next opened closed x) (rise_of K BlockFrame o)
  unfolding ShowsSaid map_next rise_of stored valued numbered product product_code values
  new-said y (to s) o (h, w) =
      rw h (ap (λ (j : ℕ). Say (move_of y) j) (kept-code s.0.0 (cons_head _ _ _ _ w) s.1), cons_tail _ _ _ _ w)
  new-said y (out x) o h = absurd h
  new-said y dead o h = absurd h

  pub lift-new : (y : Action (State (k ∷ n) C) (ExitOf (k ∷ n))) (o : Did) → Shows K t (k ∷ n) C ((row, v.0) ∷ vs) m
      y o →
      Shows K t n (new k z C) vs m (map_action opened closed y) (rise_of K BlockFrame o)
  unfolding Shows map_action rise_of
  lift-new (go x) o h = new-next x o h
  lift-new (say y x) o h = new-said y x o h
  lift-new (hear l k) o (waits {node} {q} {x} {c} a w b) = waits {node = node} {q = q} {x = x} {c = c} a w (rw b refl)
  lift-new (hear l k₁) o (leads i j d a b) =
      leads i j d a
      (subst (λ (x : Next (State n (new k z C)) (ExitOf n)). ShowsNext n (new k z C) vs x (rise_of K BlockFrame o))
      (sym (map-edge opened closed l k₁ (move (at i j) d)))
      (new-next (edge_hear l k₁ (move (at i j) d)) o b))
