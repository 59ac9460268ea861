-- What a step of the comparison keeps, and what it says at the end. Assumes nothing.
use mathlib.Core.Bool.{Bool}
use mathlib.Core.List.{List, [], ◌∷◌}
use mathlib.Core.Logic.{◌≢◌, ◌⊎◌, inl, inr}
use mathlib.Core.Path.{◌∙◌, ◌≡◌, ap, refl, subst, sym}
use Prim.Native.Nat.{◌<◌, ◌≤◌, suc, ℕ}
use native.Mathlib.Decide.{dec_lt, ℕ_discrete}
use native.Mathlib.Omega.{arith}
use lib.ListN.{length}
use borrow.Author.Tests.{eq-eqb, ne_eqb}
use Rattle.dfa.specs.Word.{First, Less, after}
use Rattle.dfa_difference.specs.inner.Comparison.{Tied, Closed, Entry, Inv, Le, Mid, Top, roots, snoc}
use Rattle.dfa_search.specs.Classes.{merge}
use Rattle.dfa_difference.proofs.laws.Merge.{merge-idem, roots-all, roots-merge, roots-pos}
use Rattle.dfa_search.proofs.Merging.{merge_in, merge-out}
use Rattle.dfa_difference.proofs.laws.Merge.{snoc-all, snoc_new, snoc_old}
use Rattle.dfa_difference.proofs.laws.Order.{le-length, le-less, le-snoc, less-irrefl, less-snoc, less-trans}

module _ (n : ℕ) (δ : ℕ → ℕ → ℕ) (fin : ℕ → Bool) (p₀ q₀ : ℕ) where
  pub begin : (E : ℕ → Entry) (head tail : ℕ) (rep : ℕ → ℕ) → Top n δ fin p₀ q₀ E head tail rep → head < tail
      → fin (E head).left ≡ fin (E head).right → Mid n δ fin p₀ q₀ E head tail 0 rep
  begin E head tail rep t h a =
      let i = t.inv in
      record {
        inv = record {
          reach = i.reach;
          classes = i.classes;
          increasing = i.increasing;
          some = i.some;
          start = i.start;
          idem = i.idem;
          bound = i.bound;
          count = i.count;
          deep = i.deep;
          ahead = λ k l u v w. i.ahead k l u (omega arith) w;
        };
        here = h;
        settled = t.settled;
        alike = a;
        tied = λ m l. absurd (omega arith);
        upto = λ k u m l. i.ahead k head u (omega arith) h m;
      }

  pub finish : (E : ℕ → Entry) (head tail lo : ℕ) (rep : ℕ → ℕ) → Mid n δ fin p₀ q₀ E head tail lo rep
      → ((m : ℕ) → lo ≤ m → δ (E head).left m ≡ δ (E head).right m) → Top n δ fin p₀ q₀ E (suc head) tail rep
  finish E head tail lo rep t same = record {
    inv = t.inv;
    within = t.here;
    settled = λ k h. go k h (ℕ_discrete k head);
  }
    where
      one : (m : ℕ) → Dec (m < lo) → Tied E tail (m ∷ (E head).word) (δ (E head).left m) (δ (E head).right m)
      one m (yes h) = t.tied m h
      one m (no h) = λ f g. ap f (same m (omega arith))

      go : (k : ℕ) → k < suc head → Dec (k ≡ head) → Closed n δ fin p₀ q₀ (E k) E tail
      go k h (yes q) = rw q (t.alike, λ m. one m (dec_lt m lo))
      go k h (no q) = t.settled k (omega arith)

  module _ (E : ℕ → Entry) (head tail lo : ℕ) (rep : ℕ → ℕ) (t : Mid n δ fin p₀ q₀ E head tail lo rep)
      (m : ℕ) (lo-m : lo ≤ m)
      (gap : (o : ℕ) → lo ≤ o → o < m → δ (E head).left o ≡ δ (E head).right o) where
    -- the letters below m are tied
    tied-gap : (o : ℕ) → o < m → Dec (o < lo)
        → Tied E tail (o ∷ (E head).word) (δ (E head).left o) (δ (E head).right o)
    tied-gap o h (yes q) = t.tied o q
    tied-gap o h (no q) = λ f g. ap f (gap o (omega arith) h)

    pub skip : rep (δ (E head).left m) ≡ rep (δ (E head).right m) → Mid n δ fin p₀ q₀ E head tail (suc m) rep
    skip eq = record {
      inv = t.inv;
      here = t.here;
      settled = t.settled;
      alike = t.alike;
      tied = λ o h. go o h (ℕ_discrete o m);
      upto = λ k h o l. t.upto k h o (omega arith);
    }
      where
        go : (o : ℕ) → o < suc m → Dec (o ≡ m)
            → Tied E tail (o ∷ (E head).word) (δ (E head).left o) (δ (E head).right o)
        go o h (yes q) = rw q (λ f g. t.inv.classes f (λ k u. g k u (inr (t.upto k u m lo-m))) _ _ eq)
        go o h (no q) = tied-gap o (omega arith) (dec_lt o lo)

    module _ (a b : ℕ) (ab : ((a ≡ δ (E head).left m) × (b ≡ δ (E head).right m)) ⊎ ((a ≡ δ (E head).right m) ×
        (b ≡ δ (E head).left m)))
        (a_lt : a < n) (b_lt : b < n) (ne : rep a ≢ rep b) where
      abbrev fresh : Entry
      fresh = record { left = δ (E head).left m; right = δ (E head).right m; word = m ∷ (E head).word }

      abbrev E⁺ : ℕ → Entry
      E⁺ = snoc E tail fresh

      -- the head's entry stays
      same_head : E⁺ head ≡ E head
      same_head = snoc_old E tail fresh head t.here

      -- what ties all ties the old ones
      down : (f : ℕ → Bool) (C : Entry → Type 0)
          → ((k : ℕ) → k < suc tail → C (E⁺ k) → f (E⁺ k).left ≡ f (E⁺ k).right)
          → (k : ℕ) → k < tail → C (E k) → f (E k).left ≡ f (E k).right
      down f C g k h = subst (λ e. C e → f e.left ≡ f e.right) (snoc_old E tail fresh k h) (g k (omega arith))

      ends : (f : ℕ → Bool) → f (δ (E head).left m) ≡ f (δ (E head).right m) → f a ≡ f b
      ends f e = go ab
        where
          go : ((a ≡ δ (E head).left m) × (b ≡ δ (E head).right m))
              ⊎ ((a ≡ δ (E head).right m) × (b ≡ δ (E head).left m))
              → f a ≡ f b
          go (inl h) = ap f h.0 ∙ e ∙ ap f (sym h.1)
          go (inr h) = ap f h.0 ∙ sym e ∙ ap f (sym h.1)

      newest : (f : ℕ → Bool) → f (E⁺ tail).left ≡ f (E⁺ tail).right
          → f (δ (E head).left m) ≡ f (δ (E head).right m)
      newest f = subst (λ e. f e.left ≡ f e.right) (snoc_new E tail fresh)

      push-classes : (f : ℕ → Bool) → ((k : ℕ) → k < suc tail → f (E⁺ k).left ≡ f (E⁺ k).right) → (x y : ℕ)
          → merge rep a b x ≡ merge rep a b y → f x ≡ f y
      push-classes f g x y h = to x (ℕ_discrete (rep x) (rep a)) ∙ ap f h ∙ sym (to y (ℕ_discrete (rep y) (rep a)))
        where
          old : (x y : ℕ) → rep x ≡ rep y → f x ≡ f y
          old = t.inv.classes f (λ k h. down f (λ e. Unit {0}) (λ k h u. g k h) k h tt)

          to : (z : ℕ) → Dec (rep z ≡ rep a) → f z ≡ f (merge rep a b z)
          to z (yes h) = old z a h ∙ ends f (newest f (g tail (omega arith))) ∙ old b (rep b) (sym (t.inv.idem b))
              ∙ ap f (sym (merge_in rep a b z h))
          to z (no h) = old z (rep z) (sym (t.inv.idem z)) ∙ ap f (sym (merge-out rep a b z h))

      push-bound : (x : ℕ) → x < n → Dec (rep x ≡ rep a) → merge rep a b x < n
      push-bound x h (yes k) = rw (eq-eqb (rep x) (rep a) k) (t.inv.bound b b_lt)
      push-bound x h (no k) = rw (ne_eqb (rep x) (rep a) k) (t.inv.bound x h)

      push-inc : (l : ℕ) → l < suc tail → (k : ℕ) → k < l → Less (E⁺ k).word (E⁺ l).word
      push-inc = snoc-all E tail fresh (λ l e. (k : ℕ) → k < l → Less (E⁺ k).word e.word)
          (λ l u k h. rw (snoc_old E tail fresh k (omega arith)) (t.inv.increasing k l h u))
          (λ k h. rw (snoc_old E tail fresh k h) (t.upto k h m lo-m))

      push-ahead : (l : ℕ) → l < suc tail → suc head ≤ l → (k : ℕ) → k < suc tail → (o : ℕ)
          → Less (E⁺ k).word (o ∷ (E⁺ l).word)
      push-ahead = snoc-all E tail fresh (λ l e. suc head ≤ l → (k : ℕ) → k < suc tail → (o : ℕ)
          → Less (E⁺ k).word (o ∷ e.word))
          (λ l u h. snoc-all E tail fresh (λ k e. (o : ℕ) → Less e.word (o ∷ (E l).word))
          (λ k v o. t.inv.ahead k l v h u o) (λ o. inl (t.inv.increasing head l h u)))
          (λ h. snoc-all E tail fresh (λ k e. (o : ℕ) → Less e.word (o ∷ m ∷ (E head).word))
          (λ k v o. less-trans (E k).word (m ∷ (E head).word) (o ∷ m ∷ (E head).word) (t.upto k v m lo-m)
          (less-snoc o (m ∷ (E head).word)))
          (λ o. less-snoc o (m ∷ (E head).word)))

      push-classesed : (e : Entry) → Closed n δ fin p₀ q₀ e E tail → Closed n δ fin p₀ q₀ e E⁺ (suc tail)
      push-classesed e s = (s.0, λ o f g. s.1 o f (down f (λ c. Le c.word (o ∷ e.word)) g))

      push-tied : (o : ℕ) → o < suc m → Dec (o ≡ m) → Tied E⁺ (suc tail) (o ∷ (E head).word) (δ (E head).left o)
          (δ (E head).right o)
      push-tied o h (yes q) = rw q (λ f g. newest f
          (g tail (omega arith) (inl (ap (λ (e : Entry). e.word) (snoc_new E tail fresh)))))
      push-tied o h (no q) = λ f g. tied-gap o (omega arith) (dec_lt o lo) f
          (down f (λ c. Le c.word (o ∷ (E head).word)) g)

      pub push : Mid n δ fin p₀ q₀ E⁺ head (suc tail) (suc m) (merge rep a b)
      push =
          let i = t.inv in
          let r = roots-merge rep i.idem a b ne n (i.bound a a_lt) in
          record {
            inv = record {
              reach = snoc-all E tail fresh
                  (λ k e. (e.left ≡ after δ p₀ e.word) × (e.right ≡ after δ q₀ e.word)) i.reach
                  (let h = i.reach head t.here in (ap (λ z. δ z m) h.0, ap (λ z. δ z m) h.1));
              classes = push-classes;
              increasing = λ k l h u. push-inc l u k h;
              some = omega arith;
              start = snoc_old E tail fresh 0 i.some ∙ i.start;
              idem = merge-idem rep i.idem a b ne;
              bound = λ x h. push-bound x h (ℕ_discrete (rep x) (rep a));
              count = omega (arith, i.count, r);
              deep = snoc-all E tail fresh (λ k e. length e.word ≤ k) i.deep
                  (omega (arith, i.deep head t.here, t.here));
              ahead = λ k l u h v. push-ahead l v h k u;
            };
            here = omega (arith, t.here);
            settled = λ k h. subst (λ e. Closed n δ fin p₀ q₀ e E⁺ (suc tail))
                (sym (snoc_old E tail fresh k (omega (arith, t.here)))) (push-classesed (E k) (t.settled k h));
            alike = rw same_head t.alike;
            tied = λ o h. rw same_head (push-tied o h (ℕ_discrete o m));
            upto = λ k h o l. rw same_head (snoc-all E tail fresh (λ k e. Less e.word (o ∷ (E head).word))
                (λ k u. t.upto k u o (omega arith)) (inr (refl, l)) k h);
          }

  -- the states after a word are tied, where no entry that is not processed has a shorter one
  cover : (E : ℕ → Entry) (head tail : ℕ) (rep : ℕ → ℕ) → Top n δ fin p₀ q₀ E head tail rep → (x : List ℕ)
      → ((k : ℕ) → head ≤ k → k < tail → length x ≤ length (E k).word)
      → Tied E tail x (after δ p₀ x) (after δ q₀ x)
  cover E head tail rep t [] u f g = subst (λ (e : Entry). f e.left ≡ f e.right) t.inv.start
      (g 0 t.inv.some (inl (ap (λ (e : Entry). e.word) t.inv.start)))
  cover E head tail rep t (m ∷ x) u f g =
      cover E head tail rep t x (λ k h v. omega (arith, u k h v)) (λ z. f (δ z m)) (λ k h l. go k h l (dec_lt k head))
    where
      le-le : (c e : Entry) → Le c.word (m ∷ e.word) → Le e.word x → Le c.word (m ∷ x)
      le-le c e (inl h) l = rw h (le-snoc m e.word x l)
      le-le c e (inr h) (inl l) = inr (rw l at h)
      le-le c e (inr h) (inr l) = inr (less-trans c.word (m ∷ e.word) (m ∷ x) h (inl l))

      go : (k : ℕ) → k < tail → Le (E k).word x → Dec (k < head) → f (δ (E k).left m) ≡ f (δ (E k).right m)
      go k h l (yes q) = (t.settled k q).1 m f (λ c i w. g c i (le-le (E c) (E k) w l))
      go k h l (no q) = absurd (omega (arith, u k (omega arith) h, le-length (E k).word x l))

  -- a word, where no entry that is not processed has a shorter one, and those that are not behind it are alike
  pub agree : (E : ℕ → Entry) (head tail : ℕ) (rep : ℕ → ℕ) → Top n δ fin p₀ q₀ E head tail rep → (x : List ℕ)
      → ((k : ℕ) → head ≤ k → k < tail → length x ≤ length (E k).word)
      → ((k : ℕ) → head ≤ k → k < tail → Le (E k).word x → fin (E k).left ≡ fin (E k).right)
      → fin (after δ p₀ x) ≡ fin (after δ q₀ x)
  agree E head tail rep t x u v = cover E head tail rep t x u fin (λ k h l. go k h l (dec_lt k head))
    where
      go : (k : ℕ) → k < tail → Le (E k).word x → Dec (k < head) → fin (E k).left ≡ fin (E k).right
      go k h l (yes q) = (t.settled k q).0
      go k h l (no q) = v k (omega arith) h l

  pub all_same : (E : ℕ → Entry) (tail : ℕ) (rep : ℕ → ℕ) → Top n δ fin p₀ q₀ E tail tail rep → (x : List ℕ)
      → fin (after δ p₀ x) ≡ fin (after δ q₀ x)
  all_same E tail rep t x = agree E tail tail rep t x (λ k h l. absurd (omega arith)) (λ k h l. absurd (omega arith))

  pub roots-1 : (E : ℕ → Entry) (head tail : ℕ) (rep : ℕ → ℕ) → Inv n δ fin p₀ q₀ E head tail rep
      → p₀ < n → 0 < roots rep n
  roots-1 E head tail rep i h = roots-pos rep (rep p₀) n (i.idem p₀) (i.bound p₀ h)

  -- the first entry from head on whose states differ, where no entry that is not processed has a shorter word
  pub told_at : (E : ℕ → Entry) (head tail : ℕ) (rep : ℕ → ℕ) → Top n δ fin p₀ q₀ E head tail rep → p₀ < n → (j : ℕ)
      → j < tail → ((k : ℕ) → head ≤ k → k < tail → length (E j).word ≤ length (E k).word)
      → ((k : ℕ) → head ≤ k → k < j → fin (E k).left ≡ fin (E k).right)
      → fin (E j).left ≢ fin (E j).right → First n δ fin p₀ q₀ (E j).word
  told_at E head tail rep t p₀-lt j h u v ne = record {
    differ = let r = t.inv.reach j h in rw (← r.0, ← r.1) ne;
    least = λ x l. agree E head tail rep t x
        (λ k a b. omega (arith, u k a b, le-length x (E j).word (inr l)))
        (λ k a b c. v k a (before k b (le-less (E k).word x (E j).word c l) (dec_lt k j)));
    short = omega (arith, roots-1 E head tail rep t.inv p₀-lt, t.inv.count, t.inv.deep j h);
  }
    where
      same : (k : ℕ) → Less (E k).word (E j).word → Dec (j < k) → k < tail → j ≤ k → ⊥
      same k l (yes q) b a = less-irrefl (E k).word
          (less-trans (E k).word (E j).word (E k).word l (t.inv.increasing j k q b))
      same k l (no q) b a =
          let e : k ≡ j = omega arith in
          less-irrefl (E j).word (subst (λ i. Less (E i).word (E j).word) e l)

      before : (k : ℕ) → k < tail → Less (E k).word (E j).word → Dec (k < j) → k < j
      before k b l (yes q) = q
      before k b l (no q) = absurd (same k l (dec_lt j k) b (omega arith))

  pub told : (E : ℕ → Entry) (head tail : ℕ) (rep : ℕ → ℕ) → Top n δ fin p₀ q₀ E head tail rep → p₀ < n → head < tail
      → fin (E head).left ≢ fin (E head).right → First n δ fin p₀ q₀ (E head).word
  told E head tail rep t p₀-lt h ne = told_at E head tail rep t p₀-lt head h
      (λ k a b. le-length (E head).word (E k).word (go k a b (ℕ_discrete k head))) (λ k a b. absurd (omega arith)) ne
    where
      go : (k : ℕ) → head ≤ k → k < tail → Dec (k ≡ head) → Le (E head).word (E k).word
      go k a b (yes q) = inl (ap (λ i. (E i).word) (sym q))
      go k a b (no q) = inr (t.inv.increasing head k (omega arith) b)

  -- the start: one entry, its two states in one class
  pub begun : p₀ < n → q₀ < n → (a b : ℕ) → ((a ≡ p₀) × (b ≡ q₀)) ⊎ ((a ≡ q₀) × (b ≡ p₀)) → a ≢ b
      → Top n δ fin p₀ q₀ (λ k. record { left = p₀; right = q₀; word = [] }) 0 1 (merge (λ x. x) a b)
  begun p_lt q_lt a b ab ne = record {
    within = omega arith;
    settled = λ k h. absurd (omega arith);
    inv = record {
      reach = λ k h. (refl, refl);
      classes = λ f g x y h. to f (g 0 (omega arith)) x (ℕ_discrete x a) ∙ ap f h
          ∙ sym (to f (g 0 (omega arith)) y (ℕ_discrete y a));
      increasing = λ k l h u. absurd (omega arith);
      some = omega arith;
      start = refl;
      idem = merge-idem (λ x. x) (λ x. refl) a b ne;
      bound = λ x h. low x h (ℕ_discrete x a);
      count = omega (arith, roots-merge (λ x. x) (λ x. refl) a b ne n (lt-a ab), roots-all n);
      deep = λ k h. omega arith;
      ahead = λ k l h u v m. tt;
    };
  }
    where
      lt-a : ((a ≡ p₀) × (b ≡ q₀)) ⊎ ((a ≡ q₀) × (b ≡ p₀)) → a < n
      lt-a (inl h) = rw h.0 p_lt
      lt-a (inr h) = rw h.0 q_lt

      lt-b : ((a ≡ p₀) × (b ≡ q₀)) ⊎ ((a ≡ q₀) × (b ≡ p₀)) → b < n
      lt-b (inl h) = rw h.1 q_lt
      lt-b (inr h) = rw h.1 p_lt

      ends : (f : ℕ → Bool) → f p₀ ≡ f q₀ → ((a ≡ p₀) × (b ≡ q₀)) ⊎ ((a ≡ q₀) × (b ≡ p₀)) → f a ≡ f b
      ends f e (inl h) = ap f h.0 ∙ e ∙ ap f (sym h.1)
      ends f e (inr h) = ap f h.0 ∙ sym e ∙ ap f (sym h.1)

      to : (f : ℕ → Bool) → f p₀ ≡ f q₀ → (y : ℕ) → Dec (y ≡ a) → f y ≡ f (merge (λ x. x) a b y)
      to f g y (yes h) = ap f h ∙ ends f g ab ∙ ap f (sym (merge_in (λ x. x) a b y h))
      to f g y (no h) = ap f (sym (merge-out (λ x. x) a b y h))

      low : (x : ℕ) → x < n → Dec (x ≡ a) → merge (λ x. x) a b x < n
      low x h (yes k) = rw (eq-eqb x a k) (lt-b ab)
      low x h (no k) = rw (ne_eqb x a k) h
