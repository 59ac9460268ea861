-- A visit of a pair: an entry more, or none. Assumes nothing.
use mathlib.Core.List.{List, ◌∷◌}
use mathlib.Core.Logic.{◌≢◌, inl, inr}
use mathlib.Core.Path.{◌∙◌, ◌≡◌, ap, refl, subst, sym}
use Prim.Native.Nat.{◌*◌, ◌+◌, ◌<◌, ◌≤◌, suc, ℕ}
use native.Mathlib.Decide.{dec_lt}
use native.Mathlib.Omega.{arith}
use lib.ListN.{get_or, length, length-set, set}
use lib.Seq.{get_or-set_other, get_or-set_same}
use borrow.Author.Tests.{le-ltb, lt-ltb}
use Rattle.dfa_search.specs.Classes.{Found, Low, Rep, linked}
use Rattle.dfa_difference.specs.inner.Comparison.{Entry, snoc}
use Rattle.dfa_search.specs.Classes.{merge}
use Rattle.dfa.specs.Frame.{SameBelow, SameFrom}
use Rattle.dfa_difference.specs.inner.Queue.{Grown, Queue, Visited, entry_of, pushed}
use Rattle.dfa_search.proofs.ClassLaws.{linked-low, linked-rep, low-frame, rep-frame}
use Rattle.dfa.proofs.laws.Frame.{set-from}
use Rattle.dfa_difference.proofs.laws.Merge.{snoc-all, snoc_old}

queue-frame : (n tail : ℕ) (ws ws' : List ℕ) (E : ℕ → Entry) → SameFrom n ws ws' → Queue n ws tail E
    → Queue n ws' tail E
queue-frame n tail ws ws' E s q = record {
  first = λ k h. s (n + 4 * k) (omega arith) ∙ q.first k h;
  second = λ k h. s (n + 4 * k + 1) (omega arith) ∙ q.second k h;
  from = λ k h u. rw (s (n + 4 * k + 2) (omega arith)) (q.from k h u);
  word = λ k h u. rw (s (n + 4 * k + 3) (omega arith), s (n + 4 * k + 2) (omega arith)) (q.word k h u);
}

module _ (n : ℕ) (ws : List ℕ) (k p q f l : ℕ) (room : n + 4 * k + 4 ≤ length ws) where
  abbrev new : List ℕ
  new = pushed ws (n + 4 * k) p q f l

  pub pushed-length : length new ≡ length ws
  pushed-length = simp length-set

  abbrev w₁ : List ℕ
  w₁ = set ws (n + 4 * k) p

  abbrev w₂ : List ℕ
  w₂ = set w₁ (n + 4 * k + 1) q

  abbrev w₃ : List ℕ
  w₃ = set w₂ (n + 4 * k + 2) f

  pub pushed-below : SameBelow (n + 4 * k) ws new
  pushed-below i h =
      get_or-set_other w₃ (n + 4 * k + 3) i l 0 (λ e. omega arith) ∙ get_or-set_other w₂ (n + 4 * k + 2) i f 0
      (λ e. omega arith)
      ∙ get_or-set_other w₁ (n + 4 * k + 1) i q 0 (λ e. omega arith) ∙ get_or-set_other ws (n + 4 * k) i p 0
      (λ e. omega arith)

  pub at-0 : get_or new (n + 4 * k) 0 ≡ p
  at-0 = get_or-set_other w₃ (n + 4 * k + 3) (n + 4 * k) l 0 (λ e. omega arith) ∙ get_or-set_other w₂ (n + 4 * k + 2)
      (n + 4 * k) f 0 (λ e. omega arith)
      ∙ get_or-set_other w₁ (n + 4 * k + 1) (n + 4 * k) q 0 (λ e. omega arith) ∙ get_or-set_same ws
      (n + 4 * k) p 0 (omega arith)

  pub at_1 : get_or new (n + 4 * k + 1) 0 ≡ q
  at_1 = get_or-set_other w₃ (n + 4 * k + 3) (n + 4 * k + 1) l 0 (λ e. omega arith) ∙ get_or-set_other w₂ (n + 4 * k + 2)
      (n + 4 * k + 1) f 0 (λ e. omega arith)
      ∙ get_or-set_same w₁ (n + 4 * k + 1) q 0 (simp length-set (omega arith))

  at-2 : get_or new (n + 4 * k + 2) 0 ≡ f
  at-2 = get_or-set_other w₃ (n + 4 * k + 3) (n + 4 * k + 2) l 0 (λ e. omega arith) ∙ get_or-set_same w₂ (n + 4 * k + 2) f
      0 (simp length-set (omega arith))

  at-3 : get_or new (n + 4 * k + 3) 0 ≡ l
  at-3 = get_or-set_same w₃ (n + 4 * k + 3) l 0 (simp length-set (omega arith))

  abbrev pub entry : (ℕ → Entry) → Entry
  entry E = record { left = p; right = q; word = l ∷ (E f).word }

  pushed-queue : (E : ℕ → Entry) → Queue n ws k E → f < k → Queue n new (suc k) (snoc E k (record {
    left = p;
    right = q;
    word = l ∷ (E f).word;
  }))
  pushed-queue E u h = record {
    first = snoc-all E k (entry E) (λ j c. get_or new (n + 4 * j) 0 ≡ c.left) (λ j g. pushed-below (n + 4 * j)
        (omega arith) ∙ u.first j g) at-0;
    second = snoc-all E k (entry E) (λ j c. get_or new (n + 4 * j + 1) 0 ≡ c.right)
        (λ j g. pushed-below (n + 4 * j + 1) (omega arith) ∙ u.second j g) at_1;
    from = snoc-all E k (entry E) (λ j c. 0 < j → get_or new (n + 4 * j + 2) 0 < j)
        (λ j g z. rw (pushed-below (n + 4 * j + 2) (omega arith)) (u.from j g z)) (λ z. rw at-2 h);
    word = snoc-all E k (entry E) (λ j c. 0 < j → c.word ≡ get_or new (n + 4 * j + 3) 0 ∷ (snoc E k (entry E)
        (get_or new (n + 4 * j + 2) 0)).word)
        (λ j g z. rw (
          pushed-below (n + 4 * j + 3) (omega arith),
          pushed-below (n + 4 * j + 2) (omega arith),
          snoc_old E k (entry E) (get_or ws (n + 4 * j + 2) 0) (omega (arith, u.from j g z)),
        ) (u.word j g z))
        (λ z. rw (at-3, at-2, snoc_old E k (entry E) f h));
  }

pub visit-same : (n tail from letter p q a b : ℕ) (ws w₁ w₂ : List ℕ) → Found n p a ws w₁ → Found n q b w₁ w₂ → a ≡ b
    → Visited n tail from letter p q tail ws w₂
visit-same n tail from letter p q a b ws w₁ w₂ f₁ f₂ e = record {
  low = f₂.low;
  grown = record {
    more = omega arith;
    stays = λ i h l. f₂.keep i h ∙ f₁.keep i h;
    fresh = λ k h l. absurd (omega
        arith);
  };
  cases = λ E rep idem u r. let g₁ = f₁.rep rep r in let g₂ = f₂.rep rep g₁.1 in inl (record {
    stays = refl;
    one = sym g₁.0 ∙ e ∙ g₂.0;
    queue = queue-frame n tail w₁ w₂ E f₂.keep (queue-frame n tail ws w₁ E f₁.keep u);
    reps = g₂.1;
  });
}

module _ (n tail from letter p q a b : ℕ) (ws w₁ w₂ : List ℕ) (f₁ : Found n p a ws w₁) (f₂ : Found n q b w₁ w₂)
    (t-lt : tail < n) (from-lt : from < tail) where
  -- after the link, whichever of the two is the parent
  module _ (w₃ : List ℕ) (low₃ : Low n w₃) (keep₃ : SameFrom n w₂ w₃) where
    abbrev w₄ : List ℕ
    w₄ = pushed w₃ (n + 4 * tail) p q from letter

    room₃ : n + 4 * tail + 4 ≤ length w₃
    room₃ = omega (arith, low₃.room)

    below₄ : SameBelow n w₃ w₄
    below₄ i h = pushed-below n w₃ tail p q from letter room₃ i (omega arith)

    new-low : Low n w₄
    new-low = low-frame n w₃ w₄ below₄ (pushed-length n w₃ tail p q from letter room₃) low₃

    new-grown : Grown n from tail (suc tail) ws w₄
    new-grown = record {
      more = omega arith;
      stays = λ i h l. pushed-below n w₃ tail p q from letter room₃ i l ∙ keep₃ i h ∙ f₂.keep i h ∙ f₁.keep i h;
      fresh = λ k h l. subst (λ j. get_or w₄ (n + 4 * j + 2) 0 ≡ from) {x = tail} {y = k} (omega arith)
          (at-2 n w₃ tail p q from letter room₃);
    }

    new-queue : (E : ℕ → Entry) → Queue n ws tail E → Queue n w₄ (suc tail) (snoc E tail (entry_of p q from letter E))
    new-queue E u = pushed-queue n w₃ tail p q from letter room₃ E
        (queue-frame n tail w₂ w₃ E keep₃ (queue-frame n tail w₁ w₂ E f₂.keep (queue-frame n tail ws w₁ E
        f₁.keep u))) from-lt

    new-reps : (rep : ℕ → ℕ) → Rep n w₃ rep → Rep n w₄ rep
    new-reps rep = rep-frame n w₃ w₄ rep below₄

  visit-down : b < a → Visited n tail from letter p q (suc tail) ws
      (pushed (set w₂ a b) (n + 4 * tail) p q from letter)
  visit-down h =
      let lo = linked-low n w₂ a b h f₁.below f₂.low in
      let ke = set-from n a b w₂ f₁.below in
      record {
        low = new-low (set w₂ a b) lo ke;
        grown = new-grown (set w₂ a b) lo ke;
        cases = λ E rep idem u r. let g₁ = f₁.rep rep r in let g₂ = f₂.rep rep g₁.1 in inr (inl (record {
          grows = refl;
          two = λ e. let z : a ≡ b = g₁.0 ∙ e ∙ sym g₂.0 in omega arith;
          queue = new-queue (set w₂ a b) lo ke E u;
          reps = new-reps (set w₂ a b) lo ke (merge rep p q) (linked-rep n w₂ a b h f₁.below f₂.low rep idem
              g₂.1 p q g₁.0 g₂.0);
        }));
      }

  visit-up : a < b → Visited n tail from letter p q (suc tail) ws (pushed (set w₂ b a) (n + 4 * tail) p q from letter)
  visit-up h =
      let lo = linked-low n w₂ b a h f₂.below f₂.low in
      let ke = set-from n b a w₂ f₂.below in
      record {
        low = new-low (set w₂ b a) lo ke;
        grown = new-grown (set w₂ b a) lo ke;
        cases = λ E rep idem u r. let g₁ = f₁.rep rep r in let g₂ = f₂.rep rep g₁.1 in inr (inr (record {
          grows = refl;
          two = λ e. let z : b ≡ a = g₂.0 ∙ e ∙ sym g₁.0 in omega arith;
          queue = new-queue (set w₂ b a) lo ke E u;
          reps = new-reps (set w₂ b a) lo ke (merge rep q p) (linked-rep n w₂ b a h f₂.below f₂.low rep idem
              g₂.1 q p g₂.0 g₁.0);
        }));
      }

  pub visit-new : (w₃ w₄ : List ℕ) → a ≢ b → w₃ ≡ linked w₂ a b → w₄ ≡ pushed w₃ (n + 4 * tail) p q from letter
      → Visited n tail from letter p q (suc tail) ws w₄
  visit-new w₃ w₄ ne e₃ e₄ = subst (λ v. Visited n tail from letter p q (suc tail) ws v)
      (sym (e₄ ∙ ap (λ v. pushed v (n + 4 * tail) p q from letter) e₃)) (go (dec_lt a b))
    where
      go : Dec (a < b) → Visited n tail from letter p q (suc tail) ws (pushed (linked w₂ a b)
          (n + 4 * tail) p q from letter)
      go (yes h) = rw (lt-ltb a b h) (visit-up h)
      go (no h) = rw (le-ltb a b (omega arith)) (visit-down (omega arith))
