-- Two states that some word tells apart are told apart by the first such word, of at most n - 2 letters; a state that
-- accepts some word accepts one of at most n - 2 letters. Assumes nothing.
use mathlib.Core.Bool.{Bool, false, true}
use mathlib.Core.List.{List, [], ◌∷◌}
use mathlib.Core.Logic.{◌≢◌, ◌⊎◌, inl, inr}
use mathlib.Core.Path.{◌∙◌, ◌≡◌, ap, refl, subst, sym}
use Prim.Native.Nat.{◌+◌, ◌-◌, ◌<◌, ◌^◌, ◌≤◌, suc, zero, ℕ}
use native.Mathlib.Decide.{dec_lt, ℕ_discrete}
use native.Mathlib.Omega.{arith}
use lib.ListN.{get_or, length}
use Rattle.dfa.specs.Graph.{Graph, δ}
use Rattle.dfa.specs.Live.{Accepts, Live, Single}
use Rattle.dfa.specs.Word.{First, accepting, after}
use Rattle.dfa_difference.specs.inner.Comparison.{Entry, Inv, Mid, Top}
use Rattle.dfa_difference.proofs.laws.Comparison.{all_same, begin, begun, finish, push, roots-1, skip, told}
use Rattle.dfa.proofs.laws.Live.{dead-refuses, no_true, told-live}
use Rattle.dfa.proofs.laws.Look.{look_none, δ-lt}

same_or_not : (a b : Bool) → (a ≡ b) ⊎ (a ≢ b)
same_or_not true true = inl refl
same_or_not true false = inr (λ e. no_true (sym e))
same_or_not false true = inr (λ e. no_true e)
same_or_not false false = inl refl

-- the comparison over every letter below L, where the letters from L on tell no states apart
module _ (n : ℕ) (δ : ℕ → ℕ → ℕ) (fin : ℕ → Bool) (p q L : ℕ) (closed : (x m : ℕ) → x < n → δ x m < n)
    (p_lt : p < n) (q_lt : q < n)
    (high : (x y m : ℕ) → x < n → y < n → L ≤ m → δ x m ≡ δ y m) where
  after-low : (x : ℕ) → x < n → (u : List ℕ) → after δ x u < n
  after-low x h [] = h
  after-low x h (m ∷ u) = closed (after δ x u) m (after-low x h u)

  -- entry head with its letters below lo done
  record Done (head lo : ℕ) : Type 0 where
    E : ℕ → Entry
    tail : ℕ
    rep : ℕ → ℕ
    mid : Mid n δ fin p q E head tail lo rep

  low-p : (head lo : ℕ) (d : Done head lo) → (d.E head).left < n
  low-p head lo d = rw (d.mid.inv.reach head d.mid.here).0 (after-low p p_lt (d.E head).word)

  low-q : (head lo : ℕ) (d : Done head lo) → (d.E head).right < n
  low-q head lo d = rw (d.mid.inv.reach head d.mid.here).1 (after-low q q_lt (d.E head).word)

  letter-more : (head lo : ℕ) → Done head lo → Done head (suc lo)
  letter-more head lo d = go (ℕ_discrete (d.rep a) (d.rep b))
    where
      a : ℕ
      a = δ (d.E head).left lo

      b : ℕ
      b = δ (d.E head).right lo

      a_lt : a < n
      a_lt = closed (d.E head).left lo (low-p head lo d)

      b_lt : b < n
      b_lt = closed (d.E head).right lo (low-q head lo d)

      go : Dec (d.rep a ≡ d.rep b) → Done head (suc lo)
      go (yes e) = record {
        E = d.E;
        tail = d.tail;
        rep = d.rep;
        mid = skip n δ fin p q d.E head d.tail lo d.rep d.mid lo (omega arith)
            (λ o h l. absurd (omega arith)) e;
      }
      go (no e) = record {
        E = _;
        tail = suc d.tail;
        rep = _;
        mid = push n δ fin p q d.E head d.tail lo d.rep d.mid lo (omega arith)
            (λ o h l. absurd (omega arith)) a b (inl (refl, refl)) a_lt b_lt e;
      }

  letters : (k head : ℕ) → Done head 0 → Done head k
  letters zero head d = d
  letters (suc k) head d = letter-more head k (letters k head d)

  abbrev Either : Type 0
  Either = ((x : List ℕ) → fin (after δ p x) ≡ fin (after δ q x)) ⊎ ((u : List ℕ) × First n δ fin p q u)

  -- at most n - 1 entries
  few-entries : (E : ℕ → Entry) (head tail : ℕ) (rep : ℕ → ℕ) → Inv n δ fin p q E head tail rep → tail + 1 ≤ n
  few-entries E head tail rep i = omega (arith, roots-1 n δ fin p q E head tail rep i p_lt, i.count)

  compare : (fuel head tail : ℕ) (E : ℕ → Entry) (rep : ℕ → ℕ) → Top n δ fin p q E head tail rep
      → n ≤ fuel + head → Either
  compare zero head tail E rep t h = absurd (omega (arith, few-entries E head tail rep t.inv, t.within))
  compare (suc k) head tail E rep t h = go (λ tail E rep t. compare k (suc head) tail E rep t (omega arith))
      (dec_lt head tail)
    where
      go : ((tail : ℕ) (E : ℕ → Entry) (rep : ℕ → ℕ) → Top n δ fin p q E (suc head) tail rep → Either)
          → Dec (head < tail) → Either
      go rec (no l) = inl (all_same n δ fin p q E tail rep (subst (λ j. Top n δ fin p q E j tail rep) {x = head}
          {y = tail} (omega (arith, t.within)) t))
      go rec (yes l) = pick (same_or_not (fin (E head).left) (fin (E head).right))
        where
          pick : (fin (E head).left ≡ fin (E head).right) ⊎ (fin (E head).left ≢ fin (E head).right) → Either
          pick (inl e) =
              let d = letters L head (record {
                E = E;
                tail = tail;
                rep = rep;
                mid = begin n δ fin p q E head tail rep t l e;
              }) in
              rec d.tail d.E d.rep (finish n δ fin p q d.E head d.tail L d.rep d.mid
              (λ m z. high _ _ m (low-p head L d) (low-q head L d) z))
          pick (inr e) = inr ((E head).word, told n δ fin p q E head tail rep t p_lt l e)

  pub compared : Either
  compared = go (ℕ_discrete p q)
    where
      go : Dec (p ≡ q) → Either
      go (yes e) = inl (λ x. ap (λ z. fin (after δ z x)) e)
      go (no e) = compare n 0 1 _ _ (begun n δ fin p q p_lt q_lt p q (inl (refl, refl)) e) (omega arith)

module _ (G : List ℕ) (n : ℕ) (g : Graph G n) where
  high-dead : (x m : ℕ) → x < n → 2 ^ 27 ≤ m → δ G n x m ≡ n - 1
  high-dead x m h l = look_none G n m (get_or G (x + 1) 0 - get_or G x 0) (get_or G x 0)
      (λ j a b e. let s = g.edges x h in let z = (s.small j a (omega (arith, s.le))).0 in omega arith)

  -- the first difference of two states, or none
  first-difference : (f e p q : ℕ) → p < n → q < n
      → ((x : List ℕ) → accepting f e (after (δ G n) p x) ≡ accepting f e (after (δ G n) q x)) ⊎ ((u : List ℕ) × First n
      (δ G n) (accepting f e) p q u)
  first-difference f e p q p_lt q_lt =
      compared n (δ G n) (accepting f e) p q (2 ^ 27) (λ x m h. δ-lt G n x m g h) p_lt q_lt
      (λ x y m hx hy l. high-dead x m hx l ∙ sym (high-dead y m hy l))

  -- what some word tells apart, a word of at most n - 2 letters tells apart
  apart-short : (f e p q : ℕ) → p < n → q < n → (x : List ℕ) → accepting f e (after (δ G n) p x) ≢ accepting f e
      (after (δ G n) q x)
      → (u : List ℕ) × First n (δ G n) (accepting f e) p q u
  apart-short f e p q p_lt q_lt x ne = go (first-difference f e p q p_lt q_lt)
    where
      go : ((x : List ℕ) → accepting f e (after (δ G n) p x) ≡ accepting f e (after (δ G n) q x)) ⊎
          ((u : List ℕ) × First n (δ G n) (accepting f e) p q u)
          → (u : List ℕ) × First n (δ G n) (accepting f e) p q u
      go (inl h) = absurd (ne (h x))
      go (inr h) = h

-- a state that accepts some word accepts one of at most n - 2 letters
pub live-short : (G : List ℕ) (n f p : ℕ) → Single G n f → p < n → Live G n f p
    → (u : List ℕ) × (Accepts G n f p u × (length u + 2 ≤ n))
live-short G n f p s h l =
    let r = apart-short G n s.graph f f p (n - 1) h (omega (arith, s.graph.some)) l.0
    (λ e. no_true (sym (e ∙ dead-refuses G n f s l.0) ∙ l.1)) in
    (r.0, (told-live G n f s p r.0 r.1.differ, r.1.short))
