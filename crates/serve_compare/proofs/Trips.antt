-- Two sets of words that a transition function on numbers recognizes are equal, or a short word is in exactly one of
-- them.
use Prim.Native.Nat.{ℕ, suc, ◌+◌, ◌-◌, ◌≤◌, ◌<◌, ◌^◌}
use native.Mathlib.Omega.{arith}
use mathlib.Core.Path.{◌≡◌, refl, sym, ap, ap₂, ◌∙◌}
use mathlib.Core.Bool.{Bool, true, false}
use mathlib.Core.Logic.{◌↔◌, ◌⊎◌, inl, inr}
use mathlib.Core.List.{List, [], ◌∷◌}
use lib.ListN.{length}
use Rattle.language.specs.declared.Numbers.{Numbers}
use Rattle.language.specs.Move.{Move, Word}
use Rattle.states_words.specs.Letter.{letter, Small, AllSmall}
use Rattle.states_words.proofs.LetterLaws.{letter-injective}
use Rattle.dfa.specs.Word.{First, after}
use Rattle.dfa.specs.Reading.{walk, reversed}
use Rattle.dfa.proofs.laws.Live.{no_true}
use Rattle.dfa.proofs.laws.Reading.{reversed-length, walk-reversed, reversed-reversed}
use Rattle.dfa_difference.proofs.laws.Short.{compared}
use Rattle.play_records.specs.Spell.{letters}
use Rattle.serve_compare.proofs.Unletter.{Unletter, of, none, unletter, letter-below}

-- the state after a word, where σ p m is the one after the move m in the state p
unfoldable pub trip : (ℕ → Move → ℕ) → ℕ → Word → ℕ
trip σ p [] = p
trip σ p (m ∷ u) = trip σ (σ p m) u

-- the states are the numbers below n, and none is reached from n - 1
pub record Closed (n : ℕ) (σ : ℕ → Move → ℕ) : Type 0 where
  pub some : 0 < n
  pub below : (p : ℕ) (m : Move) → p < n → σ p m < n
  pub stays : (m : Move) → σ (n - 1) m ≡ n - 1

-- from the state p the words of C are accepted, of those whose moves have letters
pub record Recognizes (N : Numbers) (σ : ℕ → Move → ℕ) (fin : ℕ → Bool) (p : ℕ) (C : Word → Type 0) : Type 0 where
  pub small : (u : Word) → C u → AllSmall N u
  pub accepts : (u : Word) → AllSmall N u → (fin (trip σ p u) ≡ true) ↔ C u

-- the word is in the first set only, or in the second only
pub data Apart (C D : Word → Type 0) (u : Word) : Type 0 where
  in_first : C u → (D u → ⊥) → Apart C D u
  in_second : D u → (C u → ⊥) → Apart C D u

-- the sets are equal, or a word of at most n - 2 moves is in exactly one of them
abbrev pub SameOrShort : ℕ → (Word → Type 0) → (Word → Type 0) → Type 0
SameOrShort n C D = ((u : Word) → C u ↔ D u) ⊎ ((u : Word) × (length u + 2 ≤ n) × Apart C D u)

-- the state n - 1 recognizes no word
trip-stays : {n : ℕ} {σ : ℕ → Move → ℕ} → Closed n σ → (u : Word) → trip σ (n - 1) u ≡ n - 1
unfolding trip
trip-stays A [] = refl
trip-stays {n} {σ} A (m ∷ u) = ap (λ (p : ℕ). trip σ p u) (A.stays m) ∙ trip-stays A u

pub none-recognized : (N : Numbers) {n : ℕ} {σ : ℕ → Move → ℕ} → Closed n σ → (fin : ℕ → Bool) →
    (fin (n - 1) ≡ true → ⊥) → Recognizes N σ fin (n - 1) (λ u. ⊥)
none-recognized N A fin h = record {
  small = λ u c. absurd c;
  accepts = λ u s. ((λ e. h (ap fin (sym (trip-stays A u)) ∙ e)), (λ c. absurd c));
}

-- a word kept last letter first, and read first letter first
after-reversed : (δ : ℕ → ℕ → ℕ) (p : ℕ) (w : List ℕ) → after δ p (reversed w) ≡ walk δ p w
after-reversed δ p w = sym (walk-reversed δ p (reversed w)) ∙ ap (walk δ p) (reversed-reversed w)

-- where a letter leads: to n - 1 if it is the letter of no move
unfoldable leads : (n : ℕ) → (ℕ → Move → ℕ) → {N : Numbers} {x : ℕ} → Unletter N x → ℕ → ℕ
leads n σ (of m s e) p = σ p m
leads n σ (none c) p = n - 1

module _ (N : Numbers) (few : N.z ≤ 125) (n : ℕ) (σ : ℕ → Move → ℕ) where
  abbrev δ : ℕ → ℕ → ℕ
  δ p x = leads n σ (unletter N few x) p

  lead-move : (p : ℕ) (m : Move) → Small N m → δ p (letter N m) ≡ σ p m
  unfolding leads
  lead-move p m h = by (unletter N few (letter N m))
    where
      by : (d : Unletter N (letter N m)) → leads n σ d p ≡ σ p m
      by (of k s e) = ap (σ p) (letter-injective N few k m s h e)
      by (none c) = absurd (c m h refl)

  lead-none : (p x : ℕ) → ((m : Move) → Small N m → letter N m ≡ x → ⊥) → δ p x ≡ n - 1
  unfolding leads
  lead-none p x h = by (unletter N few x)
    where
      by : (d : Unletter N x) → leads n σ d p ≡ n - 1
      by (of m s e) = absurd (h m s e)
      by (none c) = refl

  -- letters from 2 ^ 27 on are letters of no move
  lead_high : (p x : ℕ) → 2 ^ 27 ≤ x → δ p x ≡ n - 1
  lead_high p x h = lead-none p x (λ m s e. omega (arith, letter-below N few m s))

  -- the letters of a word lead where its moves lead
  walk-trip : (u : Word) → AllSmall N u → (p : ℕ) → walk δ p (letters N u) ≡ trip σ p u
  unfolding letters trip AllSmall
  walk-trip [] h p = refl
  walk-trip (m ∷ u) h p =
      ap (λ (k : ℕ). walk δ k (letters N u)) (lead-move p m h.0) ∙ walk-trip u h.1 (σ p m)

  -- letters are those of a word of moves, or lead to n - 1
  data Spelled (w : List ℕ) : Type 0 where
    spells : (u : Word) → AllSmall N u → length u ≡ length w → letters N u ≡ w → Spelled w
    lost : ((p : ℕ) → p < n → walk δ p w ≡ n - 1) → Spelled w

  module _ (A : Closed n σ) where
    lead-below : (p x : ℕ) → p < n → δ p x < n
    unfolding leads
    lead-below p x h = by (unletter N few x)
      where
        by : (d : Unletter N x) → leads n σ d p < n
        by (of m s e) = A.below p m h
        by (none c) = omega (arith, A.some)

    -- no letter leads out of n - 1
    lead-stays : (x : ℕ) → δ (n - 1) x ≡ n - 1
    unfolding leads
    lead-stays x = by (unletter N few x)
      where
        by : (d : Unletter N x) → leads n σ d (n - 1) ≡ n - 1
        by (of m s e) = A.stays m
        by (none c) = refl

    walk-stays : (w : List ℕ) → walk δ (n - 1) w ≡ n - 1
    walk-stays [] = refl
    walk-stays (x ∷ w) = rw (lead-stays x) (walk-stays w)

    spelled : (w : List ℕ) → Spelled w
    unfolding letters AllSmall
    spelled [] = spells [] tt refl refl
    spelled (x ∷ w) = by (unletter N few x) (spelled w)
      where
        by : Unletter N x → Spelled w → Spelled (x ∷ w)
        by (of m s e) (spells u h l f) = spells (m ∷ u) (s, h) (ap suc l) (ap₂ (λ y v. y ∷ v) e f)
        by (of m s e) (lost f) = lost (λ p h. f (δ p x) (lead-below p x h))
        by (none c) d = lost (λ p h. rw (lead-none p x c) (walk-stays w))

    module _ (fin : ℕ → Bool) (p q : ℕ) (p_lt : p < n) (q_lt : q < n) (C D : Word → Type 0)
        (P : Recognizes N σ fin p C) (Q : Recognizes N σ fin q D) where
      -- no word tells the states apart
      same-words : ((x : List ℕ) → fin (after δ p x) ≡ fin (after δ q x)) → (u : Word) → C u ↔ D u
      same-words h u = (
        (λ c. let s = P.small u c in (Q.accepts u s).0 (sym (same s) ∙ (P.accepts u s).1 c)),
        (λ d. let s = Q.small u d in (P.accepts u s).0 (same s ∙ (Q.accepts u s).1 d)),
      )
        where
          read : AllSmall N u → (r : ℕ) → after δ r (reversed (letters N u)) ≡ trip σ r u
          read s r = after-reversed δ r (letters N u) ∙ walk-trip u s r

          same : AllSmall N u → fin (trip σ p u) ≡ fin (trip σ q u)
          same s = ap fin (sym (read s p)) ∙ h (reversed (letters N u)) ∙ ap fin (read s q)

      -- a word of moves that one state accepts and the other does not
      apart-word : (u : Word) → AllSmall N u → (fin (trip σ p u) ≡ fin (trip σ q u) → ⊥) → Apart C D u
      apart-word u s ne = by (fin (trip σ p u)) (fin (trip σ q u)) refl refl
        where
          by : (a b : Bool) → fin (trip σ p u) ≡ a → fin (trip σ q u) ≡ b → Apart C D u
          by true true e f = absurd (ne (e ∙ sym f))
          by true false e f = in_first ((P.accepts u s).0 e) (λ d. no_true (sym f ∙ (Q.accepts u s).1 d))
          by false true e f = in_second ((Q.accepts u s).0 f) (λ c. no_true (sym e ∙ (P.accepts u s).1 c))
          by false false e f = absurd (ne (e ∙ sym f))

      -- the first word that tells the states apart is one of moves
      short-word : (x : List ℕ) → First n δ fin p q x → (u : Word) × (length u + 2 ≤ n) × Apart C D u
      short-word x f = by (spelled (reversed x))
        where
          by : Spelled (reversed x) → (u : Word) × (length u + 2 ≤ n) × Apart C D u
          by (lost h) =
              absurd (f.differ (ap fin (sym (walk-reversed δ p x) ∙ h p p_lt ∙ sym (h q q_lt) ∙ walk-reversed δ q x)))
          by (spells u s l e) =
              let read : (r : ℕ) → after δ r x ≡ trip σ r u =
              λ r. sym (walk-reversed δ r x) ∙ ap (walk δ r) (sym e) ∙ walk-trip u s r in (
                u,
                omega (arith, reversed-length x, f.short),
                apart-word u s (λ g. f.differ (ap fin (read p) ∙ g ∙ ap fin (sym (read q)))),
              )

      -- THEOREM: the sets are equal, or a word of at most n - 2 moves is in exactly one of them
      pub same-or-short : SameOrShort n C D
      same-or-short =
          by (compared n δ fin p q (2 ^ 27) lead-below p_lt q_lt
          (λ x y m hx hy l. lead_high x m l ∙ sym (lead_high y m l)))
        where
          by : ((x : List ℕ) → fin (after δ p x) ≡ fin (after δ q x)) ⊎ ((x : List ℕ) × First n δ fin p q x) →
              SameOrShort n C D
          by (inl h) = inl (same-words h)
          by (inr (x, f)) = inr (short-word x f)
