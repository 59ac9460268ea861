-- Two places exchanged. Assumes nothing.
use mathlib.Core.Bool.{cond}
use mathlib.Core.List.{List}
use mathlib.Core.Logic.{◌≢◌, ◌⊎◌, inl, inr}
use mathlib.Core.Path.{◌∙◌, ◌≡◌, ap, refl, sym}
use Prim.Native.Nat.{◌*◌, ◌+◌, ◌<◌, ◌≤◌, ℕ}
use native.Mathlib.Decide.{ℕ_discrete}
use native.Mathlib.Omega.{arith}
use lib.Dec.{eqb}
use lib.ListN.{get_or, length, length-set, set}
use lib.Seq.{get_or-set_other, get_or-set_same}
use borrow.Author.Tests.{eq-eqb, ne_eqb}
use Rattle.dfa_classes.specs.Places.{exchanged, from_at, member_at, place_at, to_at}
use Rattle.dfa_classes.specs.Parted.{Parted}

-- i and j exchanged
unfoldable pub swap : ℕ → ℕ → ℕ → ℕ
swap i j x = cond (eqb x i) j (cond (eqb x j) i x)

pub swap-left : (i j x : ℕ) → x ≡ i → swap i j x ≡ j
unfolding swap
swap-left i j x e = rw (eq-eqb x i e)

pub swap-right : (i j x : ℕ) → x ≡ j → swap i j x ≡ i
unfolding swap
swap-right i j x e = go (ℕ_discrete x i)
  where
    go : Dec (x ≡ i) → cond (eqb x i) j (cond (eqb x j) i x) ≡ i
    go (yes q) = rw (eq-eqb x i q) (sym e ∙ q)
    go (no q) = rw (ne_eqb x i q, eq-eqb x j e)

pub swap-other : (i j x : ℕ) → x ≢ i → x ≢ j → swap i j x ≡ x
unfolding swap
swap-other i j x a b = rw (ne_eqb x i a, ne_eqb x j b)

-- what holds of j where x is i, of i where x is j, and of x elsewhere, holds of x exchanged
pub swap-all : (Φ : ℕ → Type 0) (i j x : ℕ) → (x ≡ i → Φ j) → (x ≡ j → Φ i) → (x ≢ i → x ≢ j → Φ x) → Φ (swap i j x)
swap-all Φ i j x a b o = go (ℕ_discrete x i) (ℕ_discrete x j)
  where
    go : Dec (x ≡ i) → Dec (x ≡ j) → Φ (swap i j x)
    go (yes q) d = rw (swap-left i j x q) (a q)
    go (no q) (yes r) = rw (swap-right i j x r) (b r)
    go (no q) (no r) = rw (swap-other i j x q r) (o q r)

swap-twice : (i j x : ℕ) → swap i j (swap i j x) ≡ x
swap-twice i j x = go (ℕ_discrete x i) (ℕ_discrete x j)
  where
    go : Dec (x ≡ i) → Dec (x ≡ j) → swap i j (swap i j x) ≡ x
    go (yes q) d = ap (swap i j) (swap-left i j x q) ∙ swap-right i j j refl ∙ sym q
    go (no q) (yes r) = ap (swap i j) (swap-right i j x r) ∙ swap-left i j i refl ∙ sym r
    go (no q) (no r) = ap (swap i j) (swap-other i j x q r) ∙ swap-other i j x q r

module _ (n : ℕ) (ws : List ℕ) (own : ℕ → ℕ) (count : ℕ) (P : Parted n ws own count) (room : 5 * n ≤ length ws)
    (i j : ℕ) (a : i < n) (b : j < n) where
  abbrev w₁ : List ℕ
  w₁ = set ws (n + i) (member_at n ws j)

  abbrev w₂ : List ℕ
  w₂ = set w₁ (n + j) (member_at n ws i)

  abbrev w₃ : List ℕ
  w₃ = set w₂ (2 * n + member_at n ws j) i

  pub exchanged-length : length (exchanged n ws i j) ≡ length ws
  exchanged-length = simp length-set

  -- the other words stay
  pub exchanged-other : (x : ℕ) → (x < n) ⊎ (3 * n ≤ x) → get_or (exchanged n ws i j) x 0 ≡ get_or ws x 0
  exchanged-other x h =
      let p = P.member_low i a in let q = P.member_low j b in
      get_or-set_other w₃ (2 * n + member_at n ws i) x j 0 (λ e. away h (omega arith) (omega arith))
      ∙ get_or-set_other w₂ (2 * n + member_at n ws j) x i 0 (λ e. away h (omega arith) (omega arith))
      ∙ get_or-set_other w₁ (n + j) x (member_at n ws i) 0 (λ e. away h (omega arith) (omega arith))
      ∙ get_or-set_other ws (n + i) x (member_at n ws j) 0 (λ e. away h (omega arith) (omega arith))
    where
      away : (x < n) ⊎ (3 * n ≤ x) → n ≤ x → x < 3 * n → ⊥
      away (inl l) u v = omega arith
      away (inr l) u v = omega arith

  pub exchanged-member : (x : ℕ) → x < n → member_at n (exchanged n ws i j) x ≡ member_at n ws (swap i j x)
  exchanged-member x h =
      get_or-set_other w₃ (2 * n + member_at n ws i) (n + x) j 0 (λ e. omega arith)
      ∙ get_or-set_other w₂ (2 * n + member_at n ws j) (n + x) i 0 (λ e. omega arith)
      ∙ go (ℕ_discrete x j) (ℕ_discrete x i)
    where
      go : Dec (x ≡ j) → Dec (x ≡ i) → get_or w₂ (n + x) 0 ≡ member_at n ws (swap i j x)
      go (yes e) d = ap (λ k. get_or w₂ (n + k) 0) e
          ∙ get_or-set_same w₁ (n + j) (member_at n ws i) 0 (rw length-set (omega arith))
          ∙ ap (member_at n ws) (sym (swap-right i j x e))
      go (no e) (yes d) = get_or-set_other w₁ (n + j) (n + x) (member_at n ws i) 0 (λ q. e (omega arith))
          ∙ ap (λ k. get_or w₁ (n + k) 0) d ∙ get_or-set_same ws (n + i) (member_at n ws j) 0 (omega arith)
          ∙ ap (member_at n ws) (sym (swap-left i j x d))
      go (no e) (no d) = get_or-set_other w₁ (n + j) (n + x) (member_at n ws i) 0 (λ q. e (omega arith))
          ∙ get_or-set_other ws (n + i) (n + x) (member_at n ws j) 0 (λ q. d (omega arith))
          ∙ ap (member_at n ws) (sym (swap-other i j x d e))

  pub exchanged-place : (p : ℕ) → p < n → place_at n (exchanged n ws i j) p ≡ swap i j (place_at n ws p)
  exchanged-place p h = go (ℕ_discrete p (member_at n ws i)) (ℕ_discrete p (member_at n ws j))
    where
      q-low : member_at n ws i < n
      q-low = P.member_low i a

      r-low : member_at n ws j < n
      r-low = P.member_low j b

      away : (x v : ℕ) → x < n → get_or (set (set ws (n + i) (member_at n ws j)) (n + j) v) (2 * n + x) 0
          ≡ get_or ws (2 * n + x) 0
      away x v l = get_or-set_other w₁ (n + j) (2 * n + x) v 0 (λ e. omega arith)
          ∙ get_or-set_other ws (n + i) (2 * n + x) (member_at n ws j) 0 (λ e. omega arith)

      go : Dec (p ≡ member_at n ws i) → Dec (p ≡ member_at n ws j)
          → place_at n (exchanged n ws i j) p ≡ swap i j (place_at n ws p)
      go (yes e) d = ap (λ k. get_or (exchanged n ws i j) (2 * n + k) 0) e
          ∙ get_or-set_same w₃ (2 * n + member_at n ws i) j 0 (simp length-set (omega (arith, q-low)))
          ∙ sym (swap-left i j (place_at n ws p) (ap (place_at n ws) e ∙ P.place_member i a))
      go (no e) (yes d) = get_or-set_other w₃ (2 * n + member_at n ws i) (2 * n + p) j 0 (λ q. e (omega arith))
          ∙ ap (λ k. get_or w₃ (2 * n + k) 0) d
          ∙ get_or-set_same w₂ (2 * n + member_at n ws j) i 0 (simp length-set (omega (arith, r-low)))
          ∙ sym (swap-right i j (place_at n ws p) (ap (place_at n ws) d ∙ P.place_member j b))
      go (no e) (no d) = get_or-set_other w₃ (2 * n + member_at n ws i) (2 * n + p) j 0 (λ q. e (omega arith))
          ∙ get_or-set_other w₂ (2 * n + member_at n ws j) (2 * n + p) i 0 (λ q. d (omega arith))
          ∙ away p (member_at n ws i) h
          ∙ sym (swap-other i j (place_at n ws p)
          (λ q. e (sym (P.member_place p h) ∙ ap (member_at n ws) q))
          (λ q. d (sym (P.member_place p h) ∙ ap (member_at n ws) q)))

  -- two members of one class are exchanged
  module _ (same : own (member_at n ws i) ≡ own (member_at n ws j)) where
    in-low : (x : ℕ) → x < n → swap i j x < n
    in-low x h = swap-all (λ y. y < n) i j x (λ e. b) (λ e. a) (λ e d. h)

    from_is : (c : ℕ) → c < n → from_at n (exchanged n ws i j) c ≡ from_at n ws c
    from_is c h = exchanged-other (3 * n + c) (inr (omega arith))

    to_is : (c : ℕ) → c < n → to_at n (exchanged n ws i j) c ≡ to_at n ws c
    to_is c h = exchanged-other (4 * n + c) (inr (omega arith))

    -- the places of a class stay
    from-swap : (p : ℕ) → p < n → from_at n ws (own p) ≤ swap i j (place_at n ws p)
    from-swap p h = swap-all (λ y. from_at n ws (own p) ≤ y) i j (place_at n ws p)
        (λ e. let is = own_of p i h e in
        rw (is, same) (rw (P.place_member j b) at (P.own_from (member_at n ws j) (P.member_low j b))))
        (λ e. let is = own_of p j h e in
        rw (is, ← same) (rw (P.place_member i a) at (P.own_from (member_at n ws i) (P.member_low i a))))
        (λ e d. P.own_from p h)
      where
        own_of : (p k : ℕ) → p < n → place_at n ws p ≡ k → own p ≡ own (member_at n ws k)
        own_of p k h e = ap own (sym (P.member_place p h) ∙ ap (member_at n ws) e)

    to-swap : (p : ℕ) → p < n → swap i j (place_at n ws p) < to_at n ws (own p)
    to-swap p h = swap-all (λ y. y < to_at n ws (own p)) i j (place_at n ws p)
        (λ e. let is = own_of p i h e in
        rw (is, same) (rw (P.place_member j b) at (P.own_to (member_at n ws j) (P.member_low j b))))
        (λ e. let is = own_of p j h e in
        rw (is, ← same) (rw (P.place_member i a) at (P.own_to (member_at n ws i) (P.member_low i a))))
        (λ e d. P.own_to p h)
      where
        own_of : (p k : ℕ) → p < n → place_at n ws p ≡ k → own p ≡ own (member_at n ws k)
        own_of p k h e = ap own (sym (P.member_place p h) ∙ ap (member_at n ws) e)

    own-swap : (x : ℕ) → own (member_at n ws (swap i j x)) ≡ own (member_at n ws x)
    own-swap x = swap-all (λ y. own (member_at n ws y) ≡ own (member_at n ws x)) i j x
        (λ e. sym same ∙ ap (λ k. own (member_at n ws k)) (sym e))
        (λ e. same ∙ ap (λ k. own (member_at n ws k)) (sym e))
        (λ e d. refl)

    pub exchanged-parted : count ≤ n → Parted n (exchanged n ws i j) own count
    exchanged-parted few = record {
      member_low = λ x h. rw (exchanged-member x h) (P.member_low (swap i j x) (in-low x h));
      place_low = λ p h. rw (exchanged-place p h) (in-low (place_at n ws p) (P.place_low p h));
      member_place = λ p h. ap (member_at n (exchanged n ws i j)) (exchanged-place p h)
          ∙ exchanged-member (swap i j (place_at n ws p)) (in-low (place_at n ws p) (P.place_low p h))
          ∙ ap (member_at n ws) (swap-twice i j (place_at n ws p)) ∙ P.member_place p h;
      place_member = λ x h. ap (place_at n (exchanged n ws i j)) (exchanged-member x h)
          ∙ exchanged-place (member_at n ws (swap i j x)) (P.member_low (swap i j x) (in-low x h))
          ∙ ap (swap i j) (P.place_member (swap i j x) (in-low x h)) ∙ swap-twice i j x;
      own_low = P.own_low;
      own_from = λ p h. rw (exchanged-place p h, from_is (own p) (omega (arith, P.own_low p h))) (from-swap p h);
      own_to = λ p h. rw (exchanged-place p h, to_is (own p) (omega (arith, P.own_low p h))) (to-swap p h);
      whole = λ c l x u v.
          let f = from_is c (omega arith) in let t = to_is c (omega arith) in
          let low : x < n = omega (arith, P.top c l) in
          ap own (exchanged-member x low) ∙ own-swap x ∙ P.whole c l x (omega arith) (omega arith);
      some = λ c l. rw (from_is c (omega arith), to_is c (omega arith)) (P.some c l);
      top = λ c l. rw (to_is c (omega arith)) (P.top c l);
    }

-- there are no more classes than states
module _ (n : ℕ) (ws : List ℕ) (own : ℕ → ℕ) (count : ℕ) (P : Parted n ws own count) where
  pub first_member : (c : ℕ) → c < count → own (member_at n ws (from_at n ws c)) ≡ c
  first_member c h = P.whole c h (from_at n ws c) (omega arith) (P.some c h)
