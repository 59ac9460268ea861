-- Classes numbered breadth first stand in the order of the first words that lead to them: their table is the smallest.
-- Assumes nothing.
use mathlib.Core.Bool.{Bool, false, true}
use mathlib.Core.List.{List, [], ◌++◌, ◌∷◌}
use mathlib.Core.Logic.{◌≢◌, ◌↔◌, ◌⊎◌, inl, inr}
use mathlib.Core.Path.{◌∙◌, ◌≡◌, ap, refl, sym}
use Prim.Native.Nat.{◌+◌, ◌<◌, ◌≤◌, suc, zero, ℕ}
use native.Mathlib.Decide.{ℕ_discrete}
use native.Mathlib.Omega.{arith}
use lib.ListN.{get_or, length}
use Rattle.dfa.specs.Word.{Less, after}
use Rattle.dfa_smallest.specs.Table.{Alike, Begins, Foremost, Has, Leads, Place, Rising, Smallest, nowhere}
use Rattle.dfa_smallest.specs.Classes.{Classes, Finite}
use Rattle.dfa_smallest.specs.Numbered.{Met, Numbered}
use Rattle.dfa_smallest.proofs.Order.{less-irrefl, less-trans}
use Rattle.dfa_smallest.proofs.Refining.{after-append, after-low, equal-on}

-- the words that `start` accepts
abbrev pub AcceptedWord : (ℕ → ℕ → ℕ) → (ℕ → Bool) → ℕ → List ℕ → Type 0
AcceptedWord δ fin start x = fin (after δ start x) ≡ true

same_truth : (a b : Bool) → (a ≡ true → b ≡ true) → (b ≡ true → a ≡ true) → a ≡ b
same_truth true b f g = sym (f refl)
same_truth false true f g = g refl
same_truth false false f g = refl

module _ (δ : ℕ → ℕ → ℕ) (fin : ℕ → Bool) (n dead : ℕ) (F : Finite δ fin n dead) (cls : ℕ → ℕ)
    (C : Classes δ fin n dead cls) (start : ℕ) (begin : start < n) where
  abbrev pub at : List ℕ → ℕ
  at x = after δ start x

  at_low : (x : List ℕ) → at x < n
  at_low x = after-low δ fin n dead F start x begin

  -- one class: the words go on alike
  pub alike_of : (x y : List ℕ) → cls (at x) ≡ cls (at y) → Alike (AcceptedWord δ fin start) x y
  alike_of x y e u =
      let q : fin (after δ start (u ++ x)) ≡ fin (after δ start (u ++ y)) =
      ap fin (after-append δ start u x) ∙ C.tells (at x) (at y) (at_low x) (at_low y) e u
      ∙ sym (ap fin (after-append δ start u y)) in
      (λ h. sym q ∙ h, λ h. q ∙ h)

  pub class-of : (x y : List ℕ) → Alike (AcceptedWord δ fin start) x y → cls (at x) ≡ cls (at y)
  class-of x y h = C.joins (at x) (at y) (at_low x) (at_low y) (λ u.
      same_truth (fin (after δ (at x) u)) (fin (after δ (at y) u))
      (λ t. sym (ap fin (after-append δ start u y)) ∙ (h u).0 (ap fin (after-append δ start u x) ∙ t))
      (λ t. sym (ap fin (after-append δ start u x)) ∙ (h u).1 (ap fin (after-append δ start u y) ∙ t)))

  -- a beginning is a word that leads to a live state
  pub begins-of : (x : List ℕ) → cls (at x) ≢ cls dead → Begins (AcceptedWord δ fin start) x
  begins-of x ne = let a = C.live (at x) (at_low x) ne in (a.0, ap fin (after-append δ start a.0 x) ∙ a.1)

  dead_stays : (u : List ℕ) → after δ dead u ≡ dead
  dead_stays [] = refl
  dead_stays (m ∷ u) = ap (λ q. δ q m) (dead_stays u) ∙ F.stays m

  pub live_of : (x : List ℕ) → Begins (AcceptedWord δ fin start) x → cls (at x) ≢ cls dead
  live_of x b e =
      let z : true ≡ false = sym b.1 ∙ ap fin (after-append δ start b.0 x)
      ∙ C.tells (at x) dead (at_low x) F.low e b.0 ∙ ap fin (dead_stays b.0) ∙ F.ends in
      let c : ◌≡◌ {A = ℕ} 0 1 = cc in omega arith

  -- a letter keeps classes
  class-on : (p q m : ℕ) → p < n → q < n → cls p ≡ cls q → cls (δ p m) ≡ cls (δ q m)
  class-on p q m a b e = C.joins (δ p m) (δ q m) (F.inside p m a) (F.inside q m b)
      (equal-on δ fin p q m (C.tells p q a b e))

  live-before : (p m : ℕ) → p < n → cls (δ p m) ≢ cls dead → cls p ≢ cls dead
  live-before p m a ne e = ne (class-on p dead m a F.low e ∙ ap cls (F.stays m))

  module _ (count : ℕ) (state number : ℕ → ℕ) (N : Numbered δ n dead cls start count state number) where
    -- the word of class k, by k letters at most
    unfoldable pub word_in : ℕ → ℕ → List ℕ
    word_in zero k = []
    word_in (suc fuel) zero = []
    word_in (suc fuel) (suc k) = N.by (suc k) ∷ word_in fuel (N.parent (suc k))

    unfoldable pub word : ℕ → List ℕ
    word k = word_in k k

    enough : (f g k : ℕ) → k ≤ f → k ≤ g → k < count → word_in f k ≡ word_in g k
    unfolding word_in
    enough zero zero k a b h = refl
    enough zero (suc g) zero a b h = refl
    enough zero (suc g) (suc k) a b h = absurd (omega arith)
    enough (suc f) zero zero a b h = refl
    enough (suc f) zero (suc k) a b h = absurd (omega arith)
    enough (suc f) (suc g) zero a b h = refl
    enough (suc f) (suc g) (suc k) a b h =
        let l : N.parent (suc k) < suc k = N.earlier (suc k) (omega arith) h in
        ap (λ x. N.by (suc k) ∷ x) (enough f g (N.parent (suc k)) (omega arith) (omega arith) (omega arith))

    word-zero : word 0 ≡ []
    unfolding word word_in
    word-zero = refl

    word_more : (k : ℕ) → 0 < k → k < count → word k ≡ N.by k ∷ word (N.parent k)
    unfolding word word_in
    word_more zero a h = absurd (omega arith)
    word_more (suc k) a h =
        let l : N.parent (suc k) < suc k = N.earlier (suc k) (omega arith) h in
        ap (λ x. N.by (suc k) ∷ x) (enough k (N.parent (suc k)) (N.parent (suc k)) (omega arith) (omega arith)
        (omega arith))

    -- the word of class k leads to its state
    word-leads : (b k : ℕ) → k < b → k < count → at (word k) ≡ state k
    word-leads zero k l h = absurd (omega arith)
    word-leads (suc b) k l h = go (ℕ_discrete k 0) (λ i u v. word-leads b i u v)
      where
        go : Dec (k ≡ 0) → ((i : ℕ) → i < b → i < count → at (word i) ≡ state i) → at (word k) ≡ state k
        go (yes z) r = rw (z, word-zero) (sym (N.zero (omega arith)))
        go (no z) r =
            let p : N.parent k < k = N.earlier k (omega arith) h in
            ap (after δ start) (word_more k (omega arith) h)
            ∙ ap (λ q. δ q (N.by k)) (r (N.parent k) (omega arith) (omega arith))
            ∙ N.leads k (omega arith) h

    pub leads-to : (k : ℕ) → k < count → at (word k) ≡ state k
    leads-to k h = word-leads (suc k) k (omega arith) h

    -- the words rise
    rises : (b j k : ℕ) → k < b → j < k → k < count → Less (word j) (word k)
    rises zero j k l a h = absurd (omega arith)
    rises (suc b) j k l a h = go (ℕ_discrete j 0) (λ i o u v w. rises b i o u v w)
      where
        go : Dec (j ≡ 0) → ((i o : ℕ) → o < b → i < o → o < count → Less (word i) (word o)) → Less (word j) (word k)
        go (yes z) r = rw (z, word-zero, word_more k (omega arith) h) tt
        go (no z) r = less (N.order j k (omega arith) a h)
          where
            p : N.parent k < k
            p = N.earlier k (omega arith) h

            less : (N.parent j < N.parent k) ⊎ ((N.parent j ≡ N.parent k) × (N.by j < N.by k))
                → Less (word j) (word k)
            less (inl g) = rw (word_more j (omega arith) (omega arith), word_more k (omega arith) h)
                (inl (r (N.parent j) (N.parent k) (omega (arith, p)) g (omega (arith, p))))
            less (inr g) = rw (word_more j (omega arith) (omega arith), word_more k (omega arith) h)
                (inr (ap word g.0, g.1))

    pub word-rises : (j k : ℕ) → j < k → k < count → Less (word j) (word k)
    word-rises j k a h = rises (suc k) j k (omega arith) a h

    -- a class that is met before what j and m give has no later word
    met-before : (x : List ℕ) (j k m : ℕ) → j < count → k < count → (word j ≡ x) ⊎ Less (word j) x
        → Met N.parent N.by k j m → (word k ≡ m ∷ x) ⊎ Less (word k) (m ∷ x)
    met-before x j k m a h le met = go (ℕ_discrete k 0) met
      where
        go : Dec (k ≡ 0) → Met N.parent N.by k j m → (word k ≡ m ∷ x) ⊎ Less (word k) (m ∷ x)
        go (yes z) q = inr (rw (z, word-zero) tt)
        go (no z) (inl q) = absurd (z q)
        go (no z) (inr (inl q)) = inr (rw (word_more k (omega arith) h) (inl (early le)))
          where
            step : Less (word (N.parent k)) (word j)
            step = word-rises (N.parent k) j q a

            early : (word j ≡ x) ⊎ Less (word j) x → Less (word (N.parent k)) x
            early (inl e) = rw e at step
            early (inr l) = less-trans (word (N.parent k)) (word j) x step l
        go (no z) (inr (inr q)) = same le (ℕ_discrete (N.by k) m)
          where
            shape : word k ≡ N.by k ∷ word j
            shape = word_more k (omega arith) h ∙ ap (λ i. N.by k ∷ word i) q.0

            same : (word j ≡ x) ⊎ Less (word j) x → Dec (N.by k ≡ m) → (word k ≡ m ∷ x) ⊎ Less (word k) (m ∷ x)
            same (inl e) (yes b) = inl (shape ∙ ap (λ i. i ∷ word j) b ∙ ap (λ y. m ∷ y) e)
            same (inl e) (no b) = inr (rw shape (inr (e, omega (arith, q.1))))
            same (inr l) b = inr (rw shape (inl l))

    -- the class of a word that leads to a live state is numbered, and its word is not later
    pub numbered-first : (x : List ℕ) → cls (at x) ≢ cls dead
        → (k : ℕ) × ((k < count) × ((cls (at x) ≡ cls (state k)) × ((word k ≡ x) ⊎ Less (word k) x)))
    numbered-first [] ne =
        let h = N.some ne in (0, (h, (ap cls (sym (N.zero h)), inl word-zero)))
    numbered-first (m ∷ x) ne =
        let low : after δ start x < n = at_low x in
        let f = numbered-first x (live-before (after δ start x) m low ne) in
        let j = f.0 in
        let same : cls (δ (after δ start x) m) ≡ cls (δ (state j) m) =
        class-on (after δ start x) (state j) m low (N.low j f.1.0) f.1.1.0 in
        let c = N.closed j f.1.0 m (λ e. ne (same ∙ e)) in (
          c.0,
          (
            c.1.0,
            (
              same ∙ sym c.1.1.0,
              met-before x j c.0 m f.1.0 c.1.0 f.1.1.1 c.1.1.1,
            ),
          ),
        )

    module _ (T : List Place) (size : length T ≡ count)
        (final : (k : ℕ) → k < count → (get_or T k nowhere).final ≡ fin (state k))
        (order : (k : ℕ) → k < count → Rising 0 (get_or T k nowhere).arcs)
        (arcs : (k : ℕ) → k < count → (m j : ℕ) → Has (get_or T k nowhere).arcs m j
        ↔ ((cls (δ (state k) m) ≢ cls dead) × (number (cls (δ (state k) m)) ≡ j + 1))) where
      abbrev L : List ℕ → Type 0
      L = AcceptedWord δ fin start

      live-word : (k : ℕ) → k < count → cls (at (word k)) ≢ cls dead
      live-word k h = rw (leads-to k h) (N.live k h)

      foremost : (k : ℕ) → k < count → Foremost L (word k)
      foremost k h = record { begins = begins-of (word k) (live-word k h); least = least }
        where
          least : (y : List ℕ) → Less y (word k) → Alike L y (word k) → ⊥
          least y l a =
              let e = class-of y (word k) a in
              let f = numbered-first y (λ z. live-word k h (sym e ∙ z)) in
              let same : cls (state f.0) ≡ cls (state k) = sym f.1.1.0 ∙ e ∙ ap cls (leads-to k h) in
              let k-is : f.0 ≡ k = omega (arith, N.numbers k h, N.numbers f.0 f.1.0, ap number same) in
              absurd (go f.0 k-is f.1.1.1)
            where
              go : (j : ℕ) → j ≡ k → (word j ≡ y) ⊎ Less (word j) y → ⊥
              go j e (inl q) = less-irrefl y (rw (← e, q) at l)
              go j e (inr q) = less-irrefl y (less-trans y (word j) y (rw (← e) at l) q)

      leads-here : (k m j : ℕ) → k < count → j < count → cls (δ (state k) m) ≡ cls (state j)
          → cls (at (m ∷ word k)) ≡ cls (at (word j))
      leads-here k m j h g e = ap (λ q. cls (δ q m)) (leads-to k h) ∙ e ∙ ap cls (sym (leads-to j g))

      leads-from : (k m j : ℕ) → k < count → j < count → cls (at (m ∷ word k)) ≡ cls (at (word j))
          → cls (δ (state k) m) ≡ cls (state j)
      leads-from k m j h g e = ap (λ q. cls (δ q m)) (sym (leads-to k h)) ∙ e ∙ ap cls (leads-to j g)

      live_on : (k m : ℕ) → k < count → cls (δ (state k) m) ≢ cls dead → cls (at (m ∷ word k)) ≢ cls dead
      live_on k m h ne e = ne (ap (λ q. cls (δ q m)) (sym (leads-to k h)) ∙ e)

      live_back : (k m : ℕ) → k < count → cls (at (m ∷ word k)) ≢ cls dead → cls (δ (state k) m) ≢ cls dead
      live_back k m h ne e = ne (ap (λ q. cls (δ q m)) (leads-to k h) ∙ e)

      arcs-lead : (k : ℕ) → k < count → (m j : ℕ) → Has (get_or T k nowhere).arcs m j
          ↔ ((j < length T) × Leads L (word k) m (word j))
      arcs-lead k h m j = (
        (λ x.
            let a = (arcs k h m j).0 x in
            let c = N.closed k h m a.0 in
            let is : c.0 ≡ j = omega (arith, N.numbers c.0 c.1.0, ap number c.1.1.0, a.1) in
            let g : j < count = omega (arith, c.1.0) in
            let e : cls (δ (state k) m) ≡ cls (state j) = sym c.1.1.0 ∙ ap (λ i. cls (state i)) is in (
              omega (arith, size),
              record {
                begins = begins-of (m ∷ word k) (live_on k m h a.0);
                alike = alike_of (m ∷ word k) (word j) (leads-here k m j h g e);
              },
            )),
        (λ x.
            let g : j < count = omega (arith, size, x.0) in
            let e = leads-from k m j h g (class-of (m ∷ word k) (word j) x.1.alike) in
            (arcs k h m j).1 (
              live_back k m h (live_of (m ∷ word k) x.1.begins),
              ap number e ∙ N.numbers j g,
            )),
      )

      final-is : (k : ℕ) → k < count → ((get_or T k nowhere).final ≡ true) ↔ L (word k)
      final-is k h = (
        (λ t. ap fin (leads-to k h) ∙ sym (final k h) ∙ t),
        (λ t. final k h ∙ sym (ap fin (leads-to k h)) ∙ t),
      )

      -- the table of the numbered classes is the smallest
      pub numbered-smallest : Smallest (AcceptedWord δ fin start) T
      numbered-smallest = record {
        word = word;
        first = λ k h. foremost k (omega (arith, size));
        rising = λ k j a h. word-rises k j a (omega (arith, size));
        all = λ x b.
            let f = numbered-first x (live_of x b) in (
              f.0,
              (
                omega (arith, size, f.1.0),
                alike_of x (word f.0)
                    (f.1.1.0 ∙ ap cls (sym (leads-to f.0 f.1.0))),
              ),
            );
        final = λ k h. final-is k (omega (arith, size));
        order = λ k h. order k (omega (arith, size));
        arcs = λ k h. arcs-lead k (omega (arith, size));
      }
