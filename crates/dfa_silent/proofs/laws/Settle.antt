-- The edges are led to where their targets settle, by the ends of the paths. Assumes nothing.
use mathlib.Core.List.{List}
use mathlib.Core.Path.{◌∙◌, ◌≡◌, ap, refl, subst, sym}
use Prim.Native.Nat.{◌*◌, ◌+◌, ◌-◌, ◌<◌, ◌≤◌, suc, zero, ℕ}
use native.Mathlib.Decide.{dec_lt, ℕ_discrete}
use native.Mathlib.Omega.{arith}
use lib.ListN.{get_or, length, length-set, set}
use lib.Seq.{ext_get_or, get_or-set_other, get_or-set_same}
use Rattle.dfa.specs.Graph.{Graph, rest, target}
use Rattle.dfa_silent.specs.Silent.{Settled, Settling, Silent}
use Rattle.dfa_silent.specs.inner.Settle.{Begun, Only, Redirected, Steps, Through, Whole, ended}
use Rattle.dfa_silent.proofs.laws.Only.{only-both}
use Rattle.dfa.proofs.laws.Rest.{rest_at, rest-length}
use Rattle.dfa_silent.proofs.laws.Silent.{settled_same}

-- every edge from the first state's first to the last state's last is in range
some-edge : (G : List ℕ) (n : ℕ) → Graph G n → (j p : ℕ) → p ≤ n → get_or G 0 0 ≤ j → j < get_or G p 0
    → target G n j < n
some-edge G n g j zero h l m = absurd (omega arith)
some-edge G n g j (suc p) h l m = go (some-edge G n g j p (omega arith) l) (dec_lt j (get_or G p 0))
  where
    go : (j < get_or G p 0 → target G n j < n) → Dec (j < get_or G p 0) → target G n j < n
    go ih (yes u) = ih u
    go ih (no u) = ((g.edges p (omega arith)).small j (omega arith) (subst (λ k. j < get_or G k 0) {x = suc p}
        {y = p + 1} (omega arith) m)).1

-- redirect's loop
pub record Redirectable (n : ℕ) (ws : List ℕ) : Type 0 where
  pub some : 0 < n
  pub few : n ≤ 8193
  pub room : 5 * n + n + 1 + 2 * get_or ws (5 * n + n) 0 ≤ length ws
  pub rises : get_or ws (5 * n) 0 ≤ get_or ws (5 * n + n) 0
  pub targets : (j : ℕ) → get_or ws (5 * n) 0 ≤ j → j < get_or ws (5 * n + n) 0 → get_or ws (5 * n + n + 2 + 2 * j) 0 < n

pub rising : (G : List ℕ) (n : ℕ) → Graph G n → (p : ℕ) → p ≤ n → get_or G 0 0 ≤ get_or G p 0
rising G n g zero h = omega arith
rising G n g (suc p) h =
    let r = rising G n g p (omega arith) in
    let e = (g.edges p (omega arith)).le in
    subst (λ k. get_or G 0 0 ≤ get_or G k 0) {x = p + 1} {y = suc p} (omega arith) (omega arith)

pub scan : (n : ℕ) (ws : List ℕ) → Graph (rest (5 * n) ws) n → Redirectable n ws
scan n ws g =
    let first = rest_at (5 * n) ws 0 ∙ ap (λ k. get_or ws k 0) {x = 5 * n + 0} {y = 5 * n} (omega arith) in
    let last = rest_at (5 * n) ws n in
    let len = rest-length (5 * n) ws in
    let room = (g.edges (n - 1) (omega (arith, g.some))).room in
    let end = ap (λ k. get_or (rest (5 * n) ws) k 0) {x = n - 1 + 1} {y = n} (omega (arith, g.some)) in
    record {
      some = g.some;
      few = g.few;
      room = omega (arith, g.room);
      rises = omega (arith, rising (rest (5 * n) ws) n g n (omega arith));
      targets = λ j a b. subst (λ k. k < n) (rest_at (5 * n) ws (n + 2 + 2 * j) ∙ ap (λ k. get_or ws k 0)
          {x = 5 * n + (n + 2 + 2 * j)} {y = 5 * n + n + 2 + 2 * j} (omega arith))
          (some-edge (rest (5 * n) ws) n g j n (omega arith) (omega arith) (omega arith));
    }

pub redirect-whole : (n i : ℕ) (ws₀ ws : List ℕ) → Whole n ws₀ → Redirected n ws₀ ws i → Whole n ws
redirect-whole n i ws₀ ws w r = record {
  few = w.few;
  room = omega (arith, w.room, r.len);
  some = λ p h. rw (r.low (n + p) (omega arith)) (w.some p h);
  below = λ p h. rw (r.low (n + p) (omega arith)) (w.below p h);
}

pub redirect-target : (n i x : ℕ) (ws₀ ws : List ℕ) → Graph (rest (5 * n) ws₀) n → Redirected n ws₀ ws i
    → i < get_or ws₀ (5 * n + n) 0
    → x ≡ get_or ws (5 * n + n + 2 + 2 * i) 0 → x < n
redirect-target n i x ws₀ ws g r h e = rw (e ∙ r.later i (omega arith)) ((scan n ws₀ g).targets i r.start h)

pub ended-lt : (n x : ℕ) (ws : List ℕ) → Whole n ws → x < n → ended ws n x < n
ended-lt n x ws w h = omega (arith, w.below x h, w.some x h)

pub redirect-again : (n i x y : ℕ) (ws₀ ws ws' : List ℕ) → Graph (rest (5 * n) ws₀) n
    → Redirected n ws₀ ws i → i < get_or ws₀ (5 * n + n) 0
    → x ≡ get_or ws (5 * n + n + 2 + 2 * i) 0 → y ≡ ended ws n x → ws' ≡ set ws (5 * n + n + 2 + 2 * i) y
    → Redirected n ws₀ ws' (i + 1)
redirect-again n i x y ws₀ ws ws' g r h ex ey e' = subst (λ v. Redirected n ws₀ v (i + 1)) (sym e') (record {
  start = omega (arith, r.start);
  le = omega arith;
  len = length-set ws _ y ∙ r.len;
  low = λ j l. get_or-set_other ws _ j y 0 (λ e. omega arith) ∙ r.low j l;
  letters = λ j. get_or-set_other ws _ (5 * n + n + 1 + 2 * j) y 0 (λ e. omega arith) ∙ r.letters j;
  past = λ j a b. was j a b (ℕ_discrete j i);
  later = λ j l. get_or-set_other ws _ (5 * n + n + 2 + 2 * j) y 0 (λ e. omega arith) ∙ r.later j (omega arith);
})
  where
    s : Redirectable n ws₀
    s = scan n ws₀ g

    x-is : x ≡ get_or ws₀ (5 * n + n + 2 + 2 * i) 0
    x-is = ex ∙ r.later i (omega arith)

    x_lt : x < n
    x_lt = rw x-is (s.targets i r.start h)

    same : ended ws n x ≡ ended ws₀ n x
    same = ap (λ z. z - 1) (r.low (n + x) (omega (arith, x_lt)))

    was : (j : ℕ) → get_or ws₀ (5 * n) 0 ≤ j → j < i + 1 → Dec (j ≡ i)
        → get_or (set ws (5 * n + n + 2 + 2 * i) y) (5 * n + n + 2 + 2 * j) 0 ≡ ended ws₀ n
        (get_or ws₀ (5 * n + n + 2 + 2 * j) 0)
    was j a b (yes q) = rw (q, get_or-set_same ws (5 * n + n + 2 + 2 * i) y 0 (omega (arith, s.room, r.len)))
        (ey ∙ same ∙ ap (ended ws₀ n) x-is)
    was j a b (no q) = get_or-set_other ws _ (5 * n + n + 2 + 2 * j) y 0 (λ e. q (omega arith))
        ∙ r.past j a (omega arith)

pub redirect-first : (n i : ℕ) (ws : List ℕ) → Graph (rest (5 * n) ws) n → i ≡ get_or ws (5 * n) 0 → Redirected n ws ws
    i
redirect-first n i ws g e = let s = scan n ws g in record {
  start = omega arith;
  le = omega (arith, s.rises);
  len = refl;
  low = λ j h. refl;
  letters = λ j. refl;
  past = λ j a b. absurd (omega arith);
  later = λ j h. refl;
}

-- settle
pub steps_of : (n : ℕ) (ws : List ℕ) → Graph (rest (5 * n) ws) n → Silent n ws → Steps n ws
steps_of n ws g s = record { few = g.few; room = omega (arith, g.room, rest-length (5 * n) ws); small = s }

same_rest : (n : ℕ) (w₀ w₁ : List ℕ) → Only n w₀ w₁ → rest (5 * n) w₁ ≡ rest (5 * n) w₀
same_rest n w₀ w₁ o = ext_get_or 0 (rest (5 * n) w₁) (rest (5 * n) w₀)
    (rest-length (5 * n) w₁ ∙ ap (λ k. k - 5 * n) o.len ∙ sym (rest-length (5 * n) w₀))
    (λ i h. rest_at (5 * n) w₁ i ∙ o.high (5 * n + i) (omega arith) ∙ sym (rest_at (5 * n) w₀ i))

pub graph-of : (n : ℕ) (w₀ w₁ w₂ : List ℕ) → Graph (rest (5 * n) w₀) n → Begun n w₀ w₁ n → Through n w₁ w₂ n
    → Graph (rest (5 * n) w₂) n
graph-of n w₀ w₁ w₂ g b t = subst (λ G. Graph G n) (sym (same_rest n w₁ w₂ t.only ∙ same_rest n w₀ w₁ b.only)) g

module _ (n : ℕ) (w₀ w₁ w₂ w₃ : List ℕ) (g : Graph (rest (5 * n) w₀) n) (b : Begun n w₀ w₁ n) (t : Through n w₁ w₂ n)
    (d : Redirected n w₂ w₃ (get_or w₂ (5 * n + n) 0)) where
  only : Only n w₀ w₂
  only = only-both n w₀ w₁ w₂ b.only t.only

  high : (i : ℕ) → 5 * n ≤ i → get_or w₂ i 0 ≡ get_or w₀ i 0
  high i h = only.high i (omega arith)

  place : (ws : List ℕ) (k i : ℕ) → get_or (rest (5 * n) ws) (n + k + i) 0 ≡ get_or ws (5 * n + n + k + i) 0
  place ws k i = rest_at (5 * n) ws (n + k + i) ∙ ap (λ j. get_or ws j 0) {x = 5 * n + (n + k + i)}
      {y = 5 * n + n + k + i} (omega arith)

  settled-one : (x : ℕ) → x < n → Settled w₀ n x (ended w₂ n x)
  settled-one x h = settled_same n w₂ w₀ x (ended w₂ n x) t.paths.steps.small (λ i u. sym (only.low i u)) h
      ((t.paths.each x h).right (t.done x h))

  pub settling : Settling n w₀ (rest (5 * n) w₀) (rest (5 * n) w₃)
  settling = record {
    size = rest-length (5 * n) w₃ ∙ omega (arith, d.len, only.len, rest-length (5 * n) w₀);
    first = λ p h. rest_at (5 * n) w₃ p ∙ d.low (5 * n + p) (omega arith) ∙ high (5 * n + p) (omega arith)
        ∙ sym (rest_at (5 * n) w₀ p);
    letters = λ i. place w₃ 1 (2 * i) ∙ d.letters i ∙ high _ (omega arith) ∙ sym (place w₀ 1 (2 * i));
    targets = λ i a b. subst (λ y. Settled w₀ n (target (rest (5 * n) w₀) n i) y)
        (sym (place w₃ 2 (2 * i) ∙ d.past i (rw (high (5 * n) (omega arith)) (omega (arith, first)))
        (rw (high (5 * n + n) (omega arith)) (omega (arith, rest_at (5 * n) w₀ n)))
        ∙ ap (ended w₂ n) (high (5 * n + n + 2 + 2 * i) (omega arith) ∙ sym (place w₀ 2 (2 * i)))))
        (settled-one _ (some-edge (rest (5 * n) w₀) n g i n (omega arith) a b));
  }
    where
      first : get_or (rest (5 * n) w₀) 0 0 ≡ get_or w₀ (5 * n) 0
      first = rest_at (5 * n) w₀ 0 ∙ ap (λ k. get_or w₀ k 0) {x = 5 * n + 0} {y = 5 * n} (omega arith)
