-- The bytes of a table of positions determine it, where its moves have letters; so do the bytes of a card.
use mathlib.Core.Bool.{Bool, cond, false, true}
use mathlib.Core.List.{List, [], ◌++◌, ◌∷◌, append_assoc}
use mathlib.Core.Logic.{inl, inr}
use mathlib.Core.Path.{◌∙◌, ◌≡◌, ap, ap₂, refl, sym}
use Prim.Native.Nat.{◌%◌, ◌*◌, ◌+◌, ◌/◌, ◌<◌, ◌≤◌, suc, ℕ}
use native.Mathlib.Omega.{arith}
use native.Mathlib.Nat.{mod-add-div'}
use lib.ListN.{get_or, length, take}
use Rattle.language.specs.declared.Numbers.{Numbers}
use Rattle.language.specs.Move.{Move, at, move, private, record_of}
use Rattle.states_words.specs.Letter.{Small}
use Rattle.states_words.proofs.LetterLaws.{letter-injective}
use Rattle.play_records.specs.Bytes.{first_letter}
use Rattle.play_records.proofs.WritingPlays.{record-letter}
use Rattle.serve_card.specs.Positions.{Among, Arc, Position, no_position}
use Rattle.card_bytes.specs.Kinds.{filed, move_kind}
use Rattle.card_bytes.proofs.laws.Kinds.{kind-is, kind-least}
use Rattle.serve_card.specs.Card.{arc_bytes, arcs_bytes, card_bytes, table_bytes}
use Rattle.serve_card.proofs.Length.{four_bytes}
use Rattle.serve_card.proofs.Lists.{head-same, none-some, split-same, tail-same}

-- all moves have letters
abbrev pub SmallArcs : Numbers → List Arc → Type 0
SmallArcs N xs = (m : Move) (j : ℕ) → Among xs m j → Small N m

abbrev pub SmallTable : Numbers → List Position → Type 0
SmallTable N T = (k : ℕ) → k < length T → SmallArcs N (get_or T k no_position).arcs

pub small-first : (N : Numbers) (a : Arc) (xs : List Arc) → SmallArcs N (a ∷ xs) → Small N a.by
unfolding Among
small-first N a xs s = s a.by a.to (inl (refl, refl))

pub small-rest : (N : Numbers) (a : Arc) (xs : List Arc) → SmallArcs N (a ∷ xs) → SmallArcs N xs
unfolding Among
small-rest N a xs s m j h = s m j (inr h)

pub same-arc : (a b : Arc) → a.by ≡ b.by → a.to ≡ b.to → a ≡ b
same-arc a b e f = λ i. record { by = e i; to = f i }

pub same-position : (p q : Position) → p.end ≡ q.end → p.arcs ≡ q.arcs → p ≡ q
same-position p q e f = λ i. record { end = e i; arcs = f i }

-- two bytes determine a number
two_bytes : (a b : ℕ) → a % 256 ≡ b % 256 → a / 256 ≡ b / 256 → a ≡ b
two_bytes a b e f = sym (mod-add-div' a 256) ∙ ap₂ (λ x y. x + y * 256) e f ∙ mod-add-div' b 256

one_end : (a b : Bool) → ◌≡◌ {A = ℕ} (cond a 1 0) (cond b 1 0) → a ≡ b
one_end true true e = refl
one_end true false e = absurd (omega arith)
one_end false true e = absurd (omega arith)
one_end false false e = refl

module _ (N : Numbers) (few : N.z ≤ 125) where
  record-three : (m : Move) → Small N m → 3 ≤ length (record_of N m)
  unfolding Small record_of
  record-three (move (at i j) e) h = omega arith
  record-three (move (private i) e) h = absurd h

  -- different moves have different records
  record-one : (m n : Move) → Small N m → Small N n → record_of N m ≡ record_of N n → m ≡ n
  record-one m n h k e =
      letter-injective N few m n h k (sym (record-letter N few m h) ∙ ap first_letter e ∙ record-letter N few n k)

  arc-one : (a b : Arc) (x y : List ℕ) → Small N a.by → Small N b.by → arc_bytes N a ++ x ≡ arc_bytes N b ++ y
      → (a ≡ b) × (x ≡ y)
  unfolding arc_bytes filed
  arc-one a b x y h k e =
      let r = record_of N a.by in
      let s = record_of N b.by in
      let c = kind-is (length r) (four_bytes N a.by) in
      let d = kind-is (length s) (four_bytes N b.by) in
      let l : length r ≡ length s =
      omega (arith, head-same e, c, d, record-three a.by h, record-three b.by k) in
      let f : r ++ (a.to % 256 ∷ a.to / 256 ∷ x) ≡ s ++ (b.to % 256 ∷ b.to / 256 ∷ y) =
      sym (append_assoc r (a.to % 256 ∷ a.to / 256 ∷ []) x) ∙ tail-same e
      ∙ append_assoc s (b.to % 256 ∷ b.to / 256 ∷ []) y in
      let p = split-same r s (a.to % 256 ∷ a.to / 256 ∷ x) (b.to % 256 ∷ b.to / 256 ∷ y) l f in
      let q = tail-same p.1 in (
        same-arc a b (record-one a.by b.by h k p.0)
            (two_bytes a.to b.to (head-same p.1) (head-same q)),
        tail-same q,
      )

  -- no position begins as a move does
  clash : (T : List Position) (n : ℕ) (x : List ℕ) → 41 ≤ n → table_bytes N T ≡ n ∷ x → ⊥
  unfolding table_bytes
  clash [] n x h e = none-some e
  clash (p ∷ T) n x h e = omega (arith, head-same e)

  clash-arc : (T : List Position) (a : Arc) (x y : List ℕ) → table_bytes N T ≡ (arc_bytes N a ++ x) ++ y → ⊥
  unfolding arc_bytes filed
  clash-arc T a x y e = clash T (move_kind (length (record_of N a.by))) _ (kind-least _) e

  arcs-one : (xs ys : List Arc) (T U : List Position) → SmallArcs N xs → SmallArcs N ys
      → arcs_bytes N xs ++ table_bytes N T ≡ arcs_bytes N ys ++ table_bytes N U
      → (xs ≡ ys) × (table_bytes N T ≡ table_bytes N U)
  unfolding arcs_bytes
  arcs-one [] [] T U s t e = (refl, e)
  arcs-one [] (b ∷ ys) T U s t e = absurd (clash-arc T b (arcs_bytes N ys) (table_bytes N U) e)
  arcs-one (a ∷ xs) [] T U s t e = absurd (clash-arc U a (arcs_bytes N xs) (table_bytes N T) (sym e))
  arcs-one (a ∷ xs) (b ∷ ys) T U s t e =
      let f : arc_bytes N a ++ (arcs_bytes N xs ++ table_bytes N T) ≡ arc_bytes N b ++ (arcs_bytes N ys ++ table_bytes N U) =
      sym (append_assoc (arc_bytes N a) (arcs_bytes N xs) (table_bytes N T)) ∙ e
      ∙ append_assoc (arc_bytes N b) (arcs_bytes N ys) (table_bytes N U) in
      let p = arc-one a b (arcs_bytes N xs ++ table_bytes N T) (arcs_bytes N ys ++ table_bytes N U) (small-first N a xs s)
      (small-first N b ys t) f in
      let q = arcs-one xs ys T U (small-rest N a xs s) (small-rest N b ys t) p.1 in
      (ap₂ (λ c cs. c ∷ cs) p.0 q.0, q.1)

  -- THEOREM: the bytes determine the table
  bytes-table : (T U : List Position) → SmallTable N T → SmallTable N U → table_bytes N T ≡ table_bytes N U → T ≡ U
  unfolding table_bytes
  bytes-table [] [] s t e = refl
  bytes-table [] (q ∷ U) s t e = absurd (none-some e)
  bytes-table (p ∷ T) [] s t e = absurd (none-some (sym e))
  bytes-table (p ∷ T) (q ∷ U) s t e =
      let f = tail-same e in
      let r = arcs-one p.arcs q.arcs T U (s 0 (omega arith)) (t 0 (omega arith)) (tail-same f) in
      let rest = bytes-table T U (λ k h. s (suc k) (omega arith)) (λ k h. t (suc k) (omega arith)) r.1 in
      ap₂ (λ c cs. c ∷ cs) (same-position p q (one_end p.end q.end (head-same f)) r.0) rest

  -- THEOREM: cards with the same heading and type are equal exactly if their tables are
  pub bytes-card : (s u : List ℕ) (heading other ty : ℕ) (T U : List Position) → take heading s ≡ take other u
      → SmallTable N T → SmallTable N U → card_bytes s heading ty N T ≡ card_bytes u other ty N U → T ≡ U
  unfolding card_bytes
  bytes-card s u heading other ty T U f a b e =
      let p = split-same (take heading s) (take other u) (ty ∷ table_bytes N T) (ty ∷ table_bytes N U) (ap length f) e in
      bytes-table T U a b (tail-same p.1)

  pub card-bytes : (s u : List ℕ) (heading other ty : ℕ) (T U : List Position) → take heading s ≡ take other u
      → T ≡ U → card_bytes s heading ty N T ≡ card_bytes u other ty N U
  unfolding card_bytes
  card-bytes s u heading other ty T U f e = ap₂ (λ h x. h ++ (ty ∷ table_bytes N x)) f e
