-- The ends of the paths are found, those of one walk at a time. Assumes nothing.
use mathlib.Core.List.{List}
use mathlib.Core.Logic.{◌≢◌, ◌⊎◌, inl, inr}
use mathlib.Core.Path.{◌∙◌, ◌≡◌, ap, refl, subst, sym}
use Prim.Native.Nat.{◌+◌, ◌-◌, ◌<◌, ◌^◌, ◌≤◌, ℕ}
use native.Mathlib.Decide.{dec_lt, ℕ_discrete}
use native.Mathlib.Omega.{arith}
use lib.ListN.{get_or}
use borrow.Author.Tests.{eq-eqb, ne_eqb}
use Rattle.dfa_silent.specs.Silent.{Settled, Silent, moved}
use Rattle.dfa_silent.specs.inner.Settle.{Among, Begun, Only, Replaced, Replacing, Steps, Through, PathOf, PathFound}
use Rattle.dfa_silent.specs.inner.Settle.{Paths, Whole, own}
use Rattle.dfa_silent.proofs.laws.Only.{only-both, steps-same}
use Rattle.dfa_silent.proofs.laws.Settled.{settled_here}
use Rattle.dfa_silent.proofs.laws.Silent.{moved-add, moved-lt, settled_back, settled-round, settled_same}

-- the end that a state alone tells, as the code decides
pub own-here : (S : List ℕ) (p : ℕ) → get_or S p 0 ≡ 0 → p + 1 ≡ own S p
own-here S p e = sym (rw (eq-eqb (get_or S p 0) 0 e))

pub own-none : (S : List ℕ) (p : ℕ) → get_or S p 0 ≢ 0 → 0 ≡ own S p
own-none S p e = sym (rw (ne_eqb (get_or S p 0) 0 e))

own-path : (n : ℕ) (S : List ℕ) (p : ℕ) → p < n → PathOf S n p (own S p)
own-path n S p h = go (ℕ_discrete (get_or S p 0) 0)
  where
    go : Dec (get_or S p 0 ≡ 0) → PathOf S n p (own S p)
    go (yes e) = rw (sym (own-here S p e)) (record {
      silent = λ z. absurd (omega arith);
      small = omega arith;
      right = λ z. subst (λ y. Settled S n p y) {x = p} {y = p + 1 - 1} (omega arith) (settled_here S n p e);
    })
    go (no e) = rw (sym (own-none S p e)) (record
        { silent = λ z. e; small = omega arith; right = λ z. absurd (omega arith) })

-- an end is one by the words where only the ends have changed
path-same : (n q v : ℕ) (ws₀ ws : List ℕ) → Silent n ws₀ → Only n ws₀ ws → q < n → PathOf ws₀ n q v → PathOf ws n q v
path-same n q v ws₀ ws s o h w = record {
  silent = λ z. λ e. w.silent z (sym (o.low q h) ∙ e);
  small = w.small;
  right = λ z. settled_same n ws₀ ws q (v - 1) s o.low h (w.right z);
}

pub begun-paths : (n : ℕ) (ws₀ ws : List ℕ) → Steps n ws₀ → Begun n ws₀ ws n → Paths n ws
begun-paths n ws₀ ws s b = record {
  steps = steps-same n ws₀ ws b.only s;
  each = λ x h. path-same n x _ ws₀ ws s.small b.only h (rw (b.done x h) (own-path n ws₀ x h));
}

-- the first walk of find_path, from p to x, which has the end r
module _ (n p x r : ℕ) (ws₀ ws₁ : List ℕ) (w : Paths n ws₀) (h : p < n) (l : Replacing n p 0 n x ws₀ ws₁)
    (f : get_or ws₁ (n + x) 0 ≢ 0) (er : r ≡ get_or ws₁ (n + x) 0) where
  abbrev d : Replaced ws₀ n p 0 n x ws₀ ws₁
  d = l.from ws₀ (λ i u. refl)

  some : r ≢ 0
  some e = f (sym er ∙ e)

  -- where the walk ends on itself, its states go round for ever
  pub reached : (i : ℕ) → i ≤ d.steps → PathOf ws₀ n (moved ws₀ i p) r
  reached i u = go (d.each x)
    where
      go : (get_or ws₁ (n + x) 0 ≡ get_or ws₀ (n + x) 0) ⊎ Among ws₀ p d.steps x → PathOf ws₀ n (moved ws₀ i p) r
      go (inl k) = record {
        silent = λ z. absurd (some z);
        small = rw (er ∙ k) (w.each x l.below).small;
        right = λ z. settled_back ws₀ n (d.steps - i) (moved ws₀ i p) (r - 1)
            (subst (λ y. Settled ws₀ n y (r - 1)) on (rw (er ∙ k) ((w.each x l.below).right
            (λ e. some (er ∙ k ∙ e)))));
      }
        where
          on : x ≡ moved ws₀ (d.steps - i) (moved ws₀ i p)
          on = d.here ∙ ap (λ k. moved ws₀ k p) {x = d.steps} {y = (d.steps - i) + i} (omega arith)
              ∙ moved-add ws₀ (d.steps - i) i p
      go (inr a) = rw dead (record {
        silent = λ z. absurd (omega arith);
        small = omega arith;
        right = λ z. settled-round ws₀ p d.steps a.after a.before (sym d.here ∙ a.is) n i
            (λ j v. (w.each (moved ws₀ j p) (moved-lt n ws₀ j p w.steps.small h)).silent (d.was j v));
      })
        where
          dead : r ≡ n
          dead = er ∙ ap (λ z. get_or ws₁ (n + z) 0) a.is ∙ d.got a.after a.before

  pub found-small : r < 2 ^ 32
  found-small = omega (arith, w.steps.few, (reached 0 (omega arith)).small)

  -- after the walk the end of p is found
  itself : get_or ws₁ (n + p) 0 ≢ 0
  unfolding moved
  itself = go (ℕ_discrete d.steps 0)
    where
      go : Dec (d.steps ≡ 0) → get_or ws₁ (n + p) 0 ≢ 0
      go (yes q) e = f (ap (λ z. get_or ws₁ (n + z) 0) (d.here ∙ ap (λ k. moved ws₀ k p) q) ∙ e)
      go (no q) e = omega (arith, d.got 0 (omega arith), e)

  -- the states of the walk have got the end r, the others have kept theirs
  given : (ws : List ℕ) → Only n ws₀ ws → get_or ws (n + p) 0 ≢ 0 → ((q : ℕ)
      → (get_or ws (n + q) 0 ≡ get_or ws₀ (n + q) 0) ⊎ (Among ws₀ p d.steps q × (get_or ws (n + q) 0 ≡ r)))
      → PathFound n p ws₀ ws
  given ws o own each = record {
    only = o;
    itself = own;
    paths = record {
      steps = steps-same n ws₀ ws o w.steps;
      each = λ q u. path-same n q _ ws₀ ws w.steps.small o u (path q u (each q));
    };
    kept = λ q u z e. kept q z e (each q);
  }
    where
      path : (q : ℕ) → q < n
          → (get_or ws (n + q) 0 ≡ get_or ws₀ (n + q) 0) ⊎ (Among ws₀ p d.steps q × (get_or ws (n + q) 0 ≡ r))
          → PathOf ws₀ n q (get_or ws (n + q) 0)
      path q u (inl k) = rw k (w.each q u)
      path q u (inr a) = rw a.1 (subst (λ y. PathOf ws₀ n y r) (sym a.0.is) (reached a.0.after
          (omega (arith, a.0.before))))

      kept : (q : ℕ) → get_or ws₀ (n + q) 0 ≢ 0 → get_or ws (n + q) 0 ≡ 0
          → (get_or ws (n + q) 0 ≡ get_or ws₀ (n + q) 0) ⊎ (Among ws₀ p d.steps q × (get_or ws (n + q) 0 ≡ r)) → ⊥
      kept q z e (inl k) = z (sym k ∙ e)
      kept q z e (inr a) = some (sym a.1 ∙ e)

  -- the end reached is the dead state: nothing is left to do
  pub found-dead : r ≡ n → PathFound n p ws₀ ws₁
  found-dead e = given ws₁ l.only itself (λ q. go q (d.each q))
    where
      go : (q : ℕ) → (get_or ws₁ (n + q) 0 ≡ get_or ws₀ (n + q) 0) ⊎ Among ws₀ p d.steps q
          → (get_or ws₁ (n + q) 0 ≡ get_or ws₀ (n + q) 0) ⊎ (Among ws₀ p d.steps q × (get_or ws₁ (n + q) 0 ≡ r))
      go q (inl k) = inl k
      go q (inr a) = inr (a, ap (λ z. get_or ws₁ (n + z) 0) a.is ∙ d.got a.after a.before ∙ sym e)

  -- it is another: the second walk gives it to the states of the first
  module _ (ws₂ : List ℕ) (y : ℕ) (ne : r ≢ n) (l₂ : Replacing n p n r y ws₁ ws₂)
      (f₂ : get_or ws₂ (n + y) 0 ≢ n) where
    abbrev d₂ : Replaced ws₀ n p n r y ws₁ ws₂
    d₂ = l₂.from ws₀ l.only.low

    not_more : d.steps < d₂.steps → ⊥
    not_more u = ne (er ∙ ap (λ z. get_or ws₁ (n + z) 0) d.here ∙ d₂.was d.steps u)

    not-less : d₂.steps < d.steps → ⊥
    not-less u = go (d₂.each y)
      where
        go : (get_or ws₂ (n + y) 0 ≡ get_or ws₁ (n + y) 0) ⊎ Among ws₀ p d₂.steps y → ⊥
        go (inl k) = f₂ (k ∙ ap (λ z. get_or ws₁ (n + z) 0) d₂.here ∙ d.got d₂.steps u)
        go (inr a) = d.apart a.after d₂.steps a.before u (sym a.is ∙ d₂.here)

    same-steps : d₂.steps ≡ d.steps
    same-steps = go (dec_lt d.steps d₂.steps) (dec_lt d₂.steps d.steps)
      where
        go : Dec (d.steps < d₂.steps) → Dec (d₂.steps < d.steps) → d₂.steps ≡ d.steps
        go (yes u) b = absurd (not_more u)
        go (no u) (yes v) = absurd (not-less v)
        go (no u) (no v) = omega arith

    has : (q : ℕ) → Among ws₀ p d.steps q → get_or ws₂ (n + q) 0 ≡ r
    has q a = ap (λ z. get_or ws₂ (n + z) 0) a.is ∙ d₂.got a.after (omega (arith, a.before, same-steps))

    pub found-other : PathFound n p ws₀ ws₂
    found-other = given ws₂ (only-both n ws₀ ws₁ ws₂ l.only l₂.only) (own (d₂.each p))
        (λ q. go q (d₂.each q) (d.each q))
      where
        first : (q : ℕ) → Among ws₀ p d₂.steps q → Among ws₀ p d.steps q
        first q a = record { after = a.after; before = omega (arith, a.before, same-steps); is = a.is }

        go : (q : ℕ) → (get_or ws₂ (n + q) 0 ≡ get_or ws₁ (n + q) 0) ⊎ Among ws₀ p d₂.steps q
            → (get_or ws₁ (n + q) 0 ≡ get_or ws₀ (n + q) 0) ⊎ Among ws₀ p d.steps q
            → (get_or ws₂ (n + q) 0 ≡ get_or ws₀ (n + q) 0) ⊎ (Among ws₀ p d.steps q × (get_or ws₂ (n + q) 0 ≡ r))
        go q (inl k) (inl j) = inl (k ∙ j)
        go q (inl k) (inr a) = inr (a, has q a)
        go q (inr a) b = inr (first q a, has q (first q a))

        own : (get_or ws₂ (n + p) 0 ≡ get_or ws₁ (n + p) 0) ⊎ Among ws₀ p d₂.steps p → get_or ws₂ (n + p) 0 ≢ 0
        own (inl k) e = itself (sym k ∙ e)
        own (inr a) e = some (sym (has p (first p a)) ∙ e)

-- the ends found by find_paths
pub whole_of : (n : ℕ) (ws₀ ws : List ℕ) → Through n ws₀ ws n → Whole n ws
whole_of n ws₀ ws t = record {
  few = t.paths.steps.few;
  room = t.paths.steps.room;
  some = λ p h. let z = t.done p h in omega arith;
  below = λ p h. (t.paths.each p h).small;
}
