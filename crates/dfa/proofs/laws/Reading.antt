-- A word kept last letter first, and read first letter first: the two orders agree. Assumes nothing.
use mathlib.Core.Bool.{Bool}
use mathlib.Core.List.{List, [], ◌++◌, ◌∷◌}
use mathlib.Core.Logic.{◌⊎◌, inl, inr}
use mathlib.Core.Path.{◌∙◌, ◌≡◌, ap, refl, subst, sym}
use Prim.Native.Nat.{◌<◌, ℕ}
use native.Mathlib.Omega.{arith}
use lib.ListN.{length, length-append}
use Rattle.dfa.specs.Reading.{Before, FirstWord, Lex, reversed, walk}
use Rattle.dfa.specs.Word.{First, Less, after}

pub reversed-length : (x : List ℕ) → length (reversed x) ≡ length x
reversed-length [] = refl
reversed-length (m ∷ x) = length-append (reversed x) (m ∷ []) ∙ omega (arith, reversed-length x)

walk-snoc : (δ : ℕ → ℕ → ℕ) (p : ℕ) (w : List ℕ) (m : ℕ) → walk δ p (w ++ (m ∷ [])) ≡ δ (walk δ p w) m
walk-snoc δ p [] m = refl
walk-snoc δ p (n ∷ w) m = walk-snoc δ (δ p n) w m

pub walk-reversed : (δ : ℕ → ℕ → ℕ) (p : ℕ) (x : List ℕ) → walk δ p (reversed x) ≡ after δ p x
walk-reversed δ p [] = refl
walk-reversed δ p (m ∷ x) = walk-snoc δ p (reversed x) m ∙ ap (λ z. δ z m) (walk-reversed δ p x)

reversed-snoc : (x : List ℕ) (m : ℕ) → reversed (x ++ (m ∷ [])) ≡ m ∷ reversed x
reversed-snoc [] m = refl
reversed-snoc (n ∷ x) m = ap (λ v. v ++ (n ∷ [])) (reversed-snoc x m)

pub reversed-reversed : (w : List ℕ) → reversed (reversed w) ≡ w
reversed-reversed [] = refl
reversed-reversed (m ∷ w) = reversed-snoc (reversed w) m ∙ ap (λ v. m ∷ v) (reversed-reversed w)

lex-snoc : (w v : List ℕ) (m n : ℕ) → length w ≡ length v → Lex (w ++ (m ∷ [])) (v ++ (n ∷ []))
    → Lex w v ⊎ ((w ≡ v) × (m < n))
lex-snoc [] [] m n e (inl h) = inr (refl, h)
lex-snoc [] [] m n e (inr h) = absurd h.1
lex-snoc [] (b ∷ v) m n e h = absurd (omega arith)
lex-snoc (a ∷ w) [] m n e h = absurd (omega arith)
lex-snoc (a ∷ w) (b ∷ v) m n e (inl h) = inl (inl h)
lex-snoc (a ∷ w) (b ∷ v) m n e (inr h) = go (lex-snoc w v m n (omega arith) h.1)
  where
    go : Lex w v ⊎ ((w ≡ v) × (m < n)) → Lex (a ∷ w) (b ∷ v) ⊎ ((a ∷ w ≡ b ∷ v) × (m < n))
    go (inl k) = inl (inr (h.0, k))
    go (inr k) = inr (cc (h.0, k.0), k.1)

-- the two orders agree
lex-less : (x y : List ℕ) → length x ≡ length y → Lex (reversed x) (reversed y) → Less x y
lex-less [] y e h = absurd h
lex-less (m ∷ x) [] e h = absurd (omega arith)
lex-less (m ∷ x) (n ∷ y) e h = go (lex-less x y (omega arith)) (lex-snoc (reversed x) (reversed y) m n
    (reversed-length x ∙ omega (arith, reversed-length y)) h)
  where
    go : (Lex (reversed x) (reversed y) → Less x y)
        → Lex (reversed x) (reversed y) ⊎ ((reversed x ≡ reversed y) × (m < n)) → Less x y ⊎ ((x ≡ y) × (m < n))
    go ih (inl k) = inl (ih k)
    go ih (inr k) = inr (sym (reversed-reversed x) ∙ ap reversed k.0 ∙ reversed-reversed y, k.1)

short-less : (x y : List ℕ) → length x < length y → Less x y
short-less [] [] h = absurd (omega arith)
short-less [] (n ∷ y) h = tt
short-less (m ∷ x) [] h = absurd (omega arith)
short-less (m ∷ x) (n ∷ y) h = inl (short-less x y (omega arith))

before-less : (w : List ℕ) (u : List ℕ) → Before w (reversed u) → Less (reversed w) u
before-less w u (inl h) = short-less (reversed w) u (omega (arith, reversed-length w, reversed-length u))
before-less w u (inr h) = lex-less (reversed w) u (omega (arith, reversed-length w, reversed-length u, h.0))
    (subst (λ v. Lex v (reversed u)) (sym (reversed-reversed w)) h.1)

pub first_word : (n : ℕ) (δ : ℕ → ℕ → ℕ) (fin : ℕ → Bool) (p q : ℕ) (u : List ℕ) → First n δ fin p q u
    → FirstWord n δ fin p q (reversed u)
first_word n δ fin p q u f = record {
  differ = rw (walk-reversed δ p u, walk-reversed δ q u) f.differ;
  least = λ v b. read p v ∙ f.least (reversed v) (before-less v u b) ∙ sym (read q v);
  short = omega (arith, f.short, reversed-length u);
}
  where
    read : (p : ℕ) (v : List ℕ) → fin (walk δ p v) ≡ fin (after δ p (reversed v))
    read p v = ap (λ x. fin (walk δ p x)) (sym (reversed-reversed v)) ∙ ap fin (walk-reversed δ p (reversed v))
