-- The order of plays, and moves in order: what is among them determines the list.
use mathlib.Core.List.{List, [], ◌++◌, ◌∷◌}
use mathlib.Core.Logic.{◌↔◌, inl, inr}
use mathlib.Core.Path.{◌∙◌, ◌≡◌, ap, ap₂, refl, sym}
use Prim.Native.Nat.{◌<◌, ◌≤◌, suc, zero, ℕ}
use native.Mathlib.Omega.{arith}
use lib.ListN.{get_or, length}
use Rattle.language.specs.declared.Numbers.{Numbers}
use Rattle.language.specs.Move.{Before, Move, Word, move, private, question}
use Rattle.language.specs.Ty.{run}
use Rattle.dfa.specs.Reading as reading
use Rattle.dfa.specs.Reading.{Lex}
use Rattle.states_words.specs.Letter.{AllSmall, Small, letter}
use Rattle.states_words.proofs.LetterLaws.{letter-order}
use Rattle.play_records.specs.Spell.{letters}
use Rattle.serve_compare.proofs.Letters.{letters-before}
use Rattle.serve_card.specs.Positions.{Among, Arc, Ascending}
use Rattle.serve_card.proofs.Bytes.{SmallArcs, same-arc, small-first, small-rest}

lex-apart : (x y : List ℕ) → Lex x y → Lex y x → ⊥
lex-apart [] y h k = h
lex-apart (m ∷ x) [] h k = h
lex-apart (m ∷ x) (n ∷ y) (inl h) (inl k) = omega arith
lex-apart (m ∷ x) (n ∷ y) (inl h) (inr k) = omega (arith, k.0)
lex-apart (m ∷ x) (n ∷ y) (inr h) (inl k) = omega (arith, h.0)
lex-apart (m ∷ x) (n ∷ y) (inr h) (inr k) = lex-apart x y h.1 k.1

letters-apart : (x y : List ℕ) → reading.Before x y → reading.Before y x → ⊥
letters-apart x y (inl h) (inl k) = omega arith
letters-apart x y (inl h) (inr k) = omega (arith, k.0)
letters-apart x y (inr h) (inl k) = omega (arith, h.0)
letters-apart x y (inr h) (inr k) = lex-apart x y h.1 k.1

-- the first of a word whose moves have letters
pub small-begin : (N : Numbers) (b u : Word) → AllSmall N (b ++ u) → AllSmall N b
unfolding AllSmall
small-begin N [] u h = tt
small-begin N (m ∷ b) u h = (h.0, small-begin N b u h.1)

pub small-last : (N : Numbers) (b : Word) (m : Move) → AllSmall N (b ++ (m ∷ [])) → Small N m
unfolding AllSmall
small-last N [] m h = h.0
small-last N (n ∷ b) m h = small-last N b m h.1

order-rest : (N : Numbers) (a : Arc) (xs : List Arc) → Ascending N (a ∷ xs) → Ascending N xs
unfolding Ascending
order-rest N a [] o = tt
order-rest N a (b ∷ xs) o = o.1

among_first : (a : Arc) (xs : List Arc) → Among (a ∷ xs) a.by a.to
unfolding Among
among_first a xs = inl (refl, refl)

among_later : (a : Arc) (xs : List Arc) (m : Move) (j : ℕ) → Among xs m j → Among (a ∷ xs) m j
unfolding Among
among_later a xs m j h = inr h

-- what stands at a place is among them
abbrev pub no-arc : Arc
no-arc = record { by = move (private 0) (question run); to = 0 }

pub among-at : (xs : List Arc) (i : ℕ) → i < length xs → Among xs (get_or xs i no-arc).by (get_or xs i no-arc).to
among-at [] i h = absurd (omega arith)
among-at (a ∷ xs) zero h = among_first a xs
among-at (a ∷ xs) (suc i) h =
    among_later a xs (get_or xs i no-arc).by (get_or xs i no-arc).to (among-at xs i (omega arith))

among_none : (m : Move) (j : ℕ) → Among [] m j → ⊥
unfolding Among
among_none m j h = h

module _ (N : Numbers) (few : N.z ≤ 125) where
  -- no two words are before each other
  pub before-apart : (u v : Word) → AllSmall N u → AllSmall N v → Before N u v → Before N v u → ⊥
  before-apart u v h k a b =
      letters-apart (letters N u) (letters N v) (letters-before N few u v h k a) (letters-before N few v u k h b)

  -- what stands after a move has a greater letter
  later : (a : Arc) (xs : List Arc) → Ascending N (a ∷ xs) → SmallArcs N (a ∷ xs) → (m : Move) (j : ℕ) → Among xs m j
      → letter N a.by < letter N m
  unfolding Ascending Among
  later a [] o s m j h = absurd h
  later a (b ∷ xs) o s m j (inl h) =
      rw (← h.0) (letter-order N few a.by b.by (small-first N a (b ∷ xs) s)
      (small-first N b xs (small-rest N a (b ∷ xs) s)) o.0)
  later a (b ∷ xs) o s m j (inr h) =
      let t = small-rest N a (b ∷ xs) s in
      let l = letter-order N few a.by b.by (small-first N a (b ∷ xs) s) (small-first N b xs t) o.0 in
      let g = later b xs o.1 t m j h in
      omega (arith, l, g)

  -- so the letters rise from place to place
  pub arc-later : (xs : List Arc) → Ascending N xs → SmallArcs N xs → (i j : ℕ) → i < j → j < length xs
      → letter N (get_or xs i no-arc).by < letter N (get_or xs j no-arc).by
  arc-later [] o s i j l h = absurd (omega arith)
  arc-later (a ∷ xs) o s i zero l h = absurd (omega arith)
  arc-later (a ∷ xs) o s zero (suc j) l h =
      later a xs o s (get_or xs j no-arc).by (get_or xs j no-arc).to (among-at xs j (omega arith))
  arc-later (a ∷ xs) o s (suc i) (suc j) l h =
      arc-later xs (order-rest N a xs o) (small-rest N a xs s) i j (omega arith) (omega arith)

  -- a move leads to one position
  pub among_one : (xs : List Arc) → Ascending N xs → SmallArcs N xs → (m : Move) (i j : ℕ) → Among xs m i → Among xs m j
      → i ≡ j
  unfolding Among
  among_one [] o s m i j h k = absurd h
  among_one (a ∷ xs) o s m i j (inl h) (inl k) = sym h.1 ∙ k.1
  among_one (a ∷ xs) o s m i j (inl h) (inr k) =
      absurd (omega (arith, ap (letter N) h.0, later a xs o s m j k))
  among_one (a ∷ xs) o s m i j (inr h) (inl k) =
      absurd (omega (arith, ap (letter N) k.0, later a xs o s m i h))
  among_one (a ∷ xs) o s m i j (inr h) (inr k) =
      among_one xs (order-rest N a xs o) (small-rest N a xs s) m i j h k

  -- the first of two lists with the same moves
  first-same : (a c : Arc) (xs ys : List Arc) → Ascending N (a ∷ xs) → Ascending N (c ∷ ys) → SmallArcs N (a ∷ xs)
      → SmallArcs N (c ∷ ys) → Among (c ∷ ys) a.by a.to → Among (a ∷ xs) c.by c.to → a ≡ c
  unfolding Among
  first-same a c xs ys o p s t (inl h) k = sym (same-arc c a h.0 h.1)
  first-same a c xs ys o p s t (inr h) (inl k) = same-arc a c k.0 k.1
  first-same a c xs ys o p s t (inr h) (inr k) =
      absurd (omega (arith, later c ys p t a.by a.to h, later a xs o s c.by c.to k))

  drop-first : (a c : Arc) (ys : List Arc) (m : Move) (j : ℕ) → a ≡ c → letter N a.by < letter N m
      → Among (c ∷ ys) m j → Among ys m j
  unfolding Among
  drop-first a c ys m j e l (inl h) = absurd (omega (arith, ap (λ (x : Arc). letter N x.by) e, ap (letter N) h.0))
  drop-first a c ys m j e l (inr h) = h

  -- two lists in order with the same moves are the same
  pub arcs-same : (xs ys : List Arc) → Ascending N xs → Ascending N ys → SmallArcs N xs → SmallArcs N ys
      → ((m : Move) (j : ℕ) → Among xs m j ↔ Among ys m j) → xs ≡ ys
  arcs-same [] [] o p s t e = refl
  arcs-same [] (c ∷ ys) o p s t e = absurd (among_none c.by c.to ((e c.by c.to).1 (among_first c ys)))
  arcs-same (a ∷ xs) [] o p s t e = absurd (among_none a.by a.to ((e a.by a.to).0 (among_first a xs)))
  arcs-same (a ∷ xs) (c ∷ ys) o p s t e =
      let q : a ≡ c = first-same a c xs ys o p s t ((e a.by a.to).0 (among_first a xs))
      ((e c.by c.to).1 (among_first c ys)) in
      let r = arcs-same xs ys (order-rest N a xs o) (order-rest N c ys p) (small-rest N a xs s) (small-rest N c ys t)
      (λ m j. (
        (λ h. drop-first a c ys m j q (later a xs o s m j h) ((e m j).0 (among_later a xs m j h))),
        (λ h. drop-first c a xs m j (sym q) (later c ys p t m j h) ((e m j).1 (among_later c ys m j h))),
      )) in
      ap₂ (λ x zs. x ∷ zs) q r
