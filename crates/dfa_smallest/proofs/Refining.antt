-- Splitting by one class more keeps what `Refining` says, and once no splitter is left the classes are those of the
-- automaton. Assumes nothing.
use mathlib.Core.Bool.{Bool}
use mathlib.Core.List.{List, [], ◌++◌, ◌∷◌}
use mathlib.Core.Logic.{◌≢◌, ◌⊎◌, inl, inr}
use mathlib.Core.Path.{◌∙◌, ◌≡◌, ap, refl, sym}
use Prim.Native.Nat.{◌<◌, ◌≤◌, suc, ℕ}
use native.Mathlib.Decide.{ℕ_discrete}
use native.Mathlib.Omega.{arith}
use Rattle.dfa.specs.Word.{after}
use Rattle.dfa_smallest.specs.Classes.{Accepting, Classes, Equal, Finite, Into, Refining, Split}

-- a word and then more
pub after-append : (δ : ℕ → ℕ → ℕ) (p : ℕ) (u x : List ℕ) → after δ p (u ++ x) ≡ after δ (after δ p x) u
after-append δ p [] x = refl
after-append δ p (m ∷ u) x = ap (λ q. δ q m) (after-append δ p u x)

-- a letter and then a word
pub after_first : (δ : ℕ → ℕ → ℕ) (p m : ℕ) (u : List ℕ) → after δ (δ p m) u ≡ after δ p (u ++ (m ∷ []))
after_first δ p m u = sym (after-append δ p u (m ∷ []))

pub equal-on : (δ : ℕ → ℕ → ℕ) (fin : ℕ → Bool) (p q m : ℕ) → Equal δ fin p q → Equal δ fin (δ p m) (δ q m)
equal-on δ fin p q m h u = ap fin (after_first δ p m u) ∙ h (u ++ (m ∷ [])) ∙ sym (ap fin (after_first δ q m u))

module _ (δ : ℕ → ℕ → ℕ) (fin : ℕ → Bool) (n dead : ℕ) (F : Finite δ fin n dead) where
  pub after-low : (p : ℕ) (u : List ℕ) → p < n → after δ p u < n
  after-low p [] h = h
  after-low p (m ∷ u) h = F.inside (after δ p u) m (after-low p u h)

  -- classes that are kept by every letter, and by fin, tell states apart
  pub tells-of : (cls : ℕ → ℕ) → ((p q : ℕ) → p < n → q < n → cls p ≡ cls q → fin p ≡ fin q)
      → ((p q : ℕ) → p < n → q < n → cls p ≡ cls q → (m : ℕ) → cls (δ p m) ≡ cls (δ q m))
      → (p q : ℕ) → p < n → q < n → cls p ≡ cls q → Equal δ fin p q
  tells-of cls ends goes p q a b e u = ends (after δ p u) (after δ q u) (after-low p u a) (after-low q u b) (go u)
    where
      go : (u : List ℕ) → cls (after δ p u) ≡ cls (after δ q u)
      go [] = e
      go (m ∷ u) = goes (after δ p u) (after δ q u) (after-low p u a) (after-low q u b) (go u) m

  module _ (cls : ℕ → ℕ) (s count : ℕ) (R : Refining δ fin n dead cls s count) where
    -- no splitter is left
    pub refined : count ≤ s → Classes δ fin n dead cls
    refined h = record {
      tells = tells-of cls R.final goes;
      joins = R.joins;
      live = λ p l ne. R.live p l (λ z. ne (z ∙ sym R.zero));
    }
      where
        goes : (p q : ℕ) → p < n → q < n → cls p ≡ cls q → (m : ℕ) → cls (δ p m) ≡ cls (δ q m)
        goes p q a b e m = go (ℕ_discrete (cls (δ p m)) (cls (δ q m)))
          where
            go : Dec (cls (δ p m) ≡ cls (δ q m)) → cls (δ p m) ≡ cls (δ q m)
            go (yes x) = x
            go (no x) = none (R.stable p q a b e m x)
              where
                none : (s ≤ cls (δ p m)) ⊎ (s ≤ cls (δ q m)) → cls (δ p m) ≡ cls (δ q m)
                none (inl y) = absurd (omega (arith, R.low (δ p m) (F.inside p m a)))
                none (inr y) = absurd (omega (arith, R.low (δ q m) (F.inside q m b)))

    -- the class s is the next splitter
    module _ (some : 0 < s) (left : s < count) (new : ℕ → ℕ) (more : ℕ) (P : Split δ n cls s count new more) where
      -- the dead state goes nowhere but to itself
      dead-out : Into δ cls s dead → ⊥
      dead-out i = omega (arith, R.zero, ap cls (F.stays i.0), i.1)

      zero-kept : new dead ≡ 0
      zero-kept = go (P.number dead F.low)
        where
          go : (new dead ≡ cls dead) ⊎ ((count ≤ new dead) × (Into δ cls s dead ⊎ (cls dead ≢ 0))) → new dead ≡ 0
          go (inl e) = e ∙ R.zero
          go (inr (h, inl i)) = absurd (dead-out i)
          go (inr (h, inr ne)) = absurd (ne R.zero)

      joins-kept : (p q : ℕ) → p < n → q < n → Equal δ fin p q → new p ≡ new q
      joins-kept p q a b e = P.joined p q a b (R.joins p q a b e) (λ m.
          let same = R.joins (δ p m) (δ q m) (F.inside p m a) (F.inside q m b) (equal-on δ fin p q m e) in
          (λ h. sym same ∙ h, λ h. same ∙ h))

      live-kept : (p : ℕ) → p < n → new p ≢ 0 → Accepting δ fin p
      live-kept p a ne = go (P.number p a)
        where
          go : (new p ≡ cls p) ⊎ ((count ≤ new p) × (Into δ cls s p ⊎ (cls p ≢ 0))) → Accepting δ fin p
          go (inl e) = R.live p a (λ z. ne (e ∙ z))
          go (inr (h, inr z)) = R.live p a z
          go (inr (h, inl i)) =
              let m = i.0 in
              let u = R.live (δ p m) (F.inside p m a) (λ z. omega (arith, i.1)) in
              (u.0 ++ (m ∷ []), sym (ap fin (after_first δ p m u.0)) ∙ u.1)

      -- a number is kept, or is above s
      above : (p : ℕ) → p < n → s < cls p → suc s ≤ new p
      above p a h = go (P.number p a)
        where
          go : (new p ≡ cls p) ⊎ ((count ≤ new p) × (Into δ cls s p ⊎ (cls p ≢ 0))) → suc s ≤ new p
          go (inl e) = omega arith
          go (inr h) = omega (arith, h.0)

      -- two states of one class of which one has a new number
      parted : (p q : ℕ) → p < n → q < n → cls p ≡ cls q → new p ≢ new q → (suc s ≤ new p) ⊎ (suc s ≤ new q)
      parted p q a b e ne = go (P.number p a) (P.number q b)
        where
          go : (new p ≡ cls p) ⊎ ((count ≤ new p) × (Into δ cls s p ⊎ (cls p ≢ 0)))
              → (new q ≡ cls q) ⊎ ((count ≤ new q) × (Into δ cls s q ⊎ (cls q ≢ 0))) → (suc s ≤ new p) ⊎ (suc s ≤ new q)
          go (inl x) (inl y) = absurd (ne (x ∙ e ∙ sym y))
          go (inr x) y = inl (omega (arith, x.0))
          go (inl x) (inr y) = inr (omega (arith, y.0))

      stable-kept : (p q : ℕ) → p < n → q < n → new p ≡ new q → (m : ℕ) → new (δ p m) ≢ new (δ q m)
          → (suc s ≤ new (δ p m)) ⊎ (suc s ≤ new (δ q m))
      stable-kept p q a b e m ne = go (ℕ_discrete (cls (δ p m)) (cls (δ q m)))
        where
          x : δ p m < n
          x = F.inside p m a

          y : δ q m < n
          y = F.inside q m b

          go : Dec (cls (δ p m) ≡ cls (δ q m)) → (suc s ≤ new (δ p m)) ⊎ (suc s ≤ new (δ q m))
          go (yes same) = parted (δ p m) (δ q m) x y same ne
          go (no other) = wait (R.stable p q a b (P.finer p q a b e) m other)
            where
              wait : (s ≤ cls (δ p m)) ⊎ (s ≤ cls (δ q m)) → (suc s ≤ new (δ p m)) ⊎ (suc s ≤ new (δ q m))
              wait (inl h) = at (ℕ_discrete (cls (δ p m)) s)
                where
                  at : Dec (cls (δ p m) ≡ s) → (suc s ≤ new (δ p m)) ⊎ (suc s ≤ new (δ q m))
                  at (yes z) = absurd (other (z ∙ sym ((P.apart p q a b e m).0 z)))
                  at (no z) = inl (above (δ p m) x (omega arith))
              wait (inr h) = at (ℕ_discrete (cls (δ q m)) s)
                where
                  at : Dec (cls (δ q m) ≡ s) → (suc s ≤ new (δ p m)) ⊎ (suc s ≤ new (δ q m))
                  at (yes z) = absurd (other ((P.apart p q a b e m).1 z ∙ sym z))
                  at (no z) = inr (above (δ q m) y (omega arith))

      pub refining-on : Refining δ fin n dead new (suc s) more
      refining-on = record {
        zero = zero-kept;
        low = P.low;
        joins = joins-kept;
        live = live-kept;
        final = λ p q a b e. R.final p q a b (P.finer p q a b e);
        stable = stable-kept;
      }
