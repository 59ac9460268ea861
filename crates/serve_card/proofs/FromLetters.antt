-- The smallest table over letters is the table of positions over moves, where the words of the language are the letters
-- of the complete plays, last letter first.
use mathlib.Core.List.{List, [], ◌++◌, ◌∷◌, append_assoc, map}
use mathlib.Core.Logic.{◌↔◌, ◌⊎◌, inl, inr}
use mathlib.Core.Path.{◌∙◌, ◌≡◌, ap, ap₂, refl, subst, sym}
use Prim.Native.Nat.{◌+◌, ◌<◌, ◌≤◌, suc, zero, ℕ}
use native.Mathlib.Omega.{arith}
use lib.ListN.{get_or, length}
use Rattle.language.specs.declared.Numbers.{Numbers}
use Rattle.language.specs.Move.{Before, Earlier, Move, Word, move, private, question}
use Rattle.language.specs.Ty.{run}
use Rattle.dfa.specs.Reading as reading
use Rattle.dfa.specs.Reading.{Lex, reversed}
use Rattle.dfa.specs.Word.{Less}
use Rattle.dfa.proofs.laws.Reading.{reversed-length}
use Rattle.states_words.specs.Letter.{AllSmall, Small, letter}
use Rattle.states_words.proofs.LetterLaws.{letter-injective, letter-order}
use Rattle.states_words.proofs.Ranges.{sheet-small}
use Rattle.play_records.specs.Spell.{letters}
use Rattle.sheet_written.specs.Written.{Sheet}
use Rattle.sheet_reader.specs.Fine.{Accepted}
use Rattle.serve_compare.specs.Plays.{CompletePlay}
use Rattle.serve_compare.proofs.Letters.{letters-before}
use Rattle.serve_compare.proofs.PlayOrder.{before-total}
use Rattle.serve_compare.proofs.Unletter.{Unletter, none, of, unletter}
use Rattle.dfa_smallest.specs.Table as table
use Rattle.dfa_smallest.specs.Table.{Alike, Begins, Has, Leads, Place, Rising, Smallest, nowhere}
use Rattle.dfa_smallest.proofs.Order.{less-irrefl, less-trans}
use Rattle.serve_card.specs.Positions.{Among, Arc, Ascending, Beginning, FirstBeginning, OnePosition, Position, Table}
use Rattle.serve_card.specs.Positions.{no_position}
use Rattle.serve_card.proofs.Order.{small-last}
use Rattle.serve_card.proofs.Tables.{begin-small, few}

-- the letters of a word, last letter first
abbrev pub code : Numbers → Word → List ℕ
code N u = reversed (letters N u)

-- all are letters of moves
unfoldable pub Coded : Numbers → List ℕ → Type 0
Coded N [] = Unit {0}
Coded N (l ∷ x) = ((m : Move) × (Small N m × (letter N m ≡ l))) × Coded N x

code-append : (N : Numbers) (b u : Word) → code N (b ++ u) ≡ code N u ++ code N b
unfolding letters
code-append N [] u = sym (nothing (code N u))
  where
    nothing : (x : List ℕ) → x ++ [] ≡ x
    nothing [] = refl
    nothing (l ∷ x) = ap (λ (y : List ℕ). l ∷ y) (nothing x)
code-append N (m ∷ b) u =
    ap (λ x. x ++ (letter N m ∷ [])) (code-append N b u) ∙ append_assoc (code N u) (code N b) (letter N m ∷ [])

code-last : (N : Numbers) (b : Word) (m : Move) → code N (b ++ (m ∷ [])) ≡ letter N m ∷ code N b
unfolding letters
code-last N b m = code-append N b (m ∷ [])

coded-append : (N : Numbers) (v x : List ℕ) → Coded N (v ++ x) → Coded N v × Coded N x
unfolding Coded
coded-append N [] x h = (tt, h)
coded-append N (l ∷ v) x h = let r = coded-append N v x h.1 in ((h.0, r.0), r.1)

join-coded : (N : Numbers) (v x : List ℕ) → Coded N v → Coded N x → Coded N (v ++ x)
unfolding Coded
join-coded N [] x h k = k
join-coded N (l ∷ v) x h k = (h.0, join-coded N v x h.1 k)

-- the letters of moves that have letters
pub small-coded : (N : Numbers) (u : Word) → AllSmall N u → Coded N (code N u)
unfolding AllSmall Coded letters
small-coded N [] h = tt
small-coded N (m ∷ u) h =
    join-coded N (code N u) (letter N m ∷ []) (small-coded N u h.1) ((m, (h.0, refl)), tt)

-- words whose moves have letters
small-after : (N : Numbers) (b u : Word) → AllSmall N (b ++ u) → AllSmall N u
unfolding AllSmall
small-after N [] u h = h
small-after N (m ∷ b) u h = small-after N b u h.1

only-small : (N : Numbers) (m : Move) → Small N m → AllSmall N (m ∷ [])
unfolding AllSmall
only-small N m h = (h, tt)

-- the order of letters first letter first is that of letters last letter first
less-long : (x y : List ℕ) → length x < length y → Less x y
less-long [] [] h = absurd (omega arith)
less-long [] (n ∷ y) h = tt
less-long (m ∷ x) [] h = absurd (omega arith)
less-long (m ∷ x) (n ∷ y) h = inl (less-long x y (omega arith))

less-first : (p q : List ℕ) (m n : ℕ) → length p ≡ length q → m < n → Less (p ++ (m ∷ [])) (q ++ (n ∷ []))
less-first [] [] m n e l = inr (refl, l)
less-first [] (b ∷ q) m n e l = absurd (omega arith)
less-first (a ∷ p) [] m n e l = absurd (omega arith)
less-first (a ∷ p) (b ∷ q) m n e l = inl (less-first p q m n (omega arith) l)

less_then : (p q : List ℕ) (m : ℕ) → Less p q → Less (p ++ (m ∷ [])) (q ++ (m ∷ []))
less_then [] [] m h = absurd h
less_then [] (b ∷ []) m h = inl tt
less_then [] (b ∷ (c ∷ q)) m h = inl tt
less_then (a ∷ p) [] m h = absurd h
less_then (a ∷ p) (b ∷ q) m (inl h) = inl (less_then p q m h)
less_then (a ∷ p) (b ∷ q) m (inr h) = inr (ap (λ (x : List ℕ). x ++ (m ∷ [])) h.0, h.1)

lex-less : (x y : List ℕ) → length x ≡ length y → Lex x y → Less (reversed x) (reversed y)
lex-less [] y e h = absurd h
lex-less (m ∷ x) [] e h = absurd h
lex-less (m ∷ x) (n ∷ y) e (inl h) =
    less-first (reversed x) (reversed y) m n (omega (arith, reversed-length x, reversed-length y)) h
lex-less (m ∷ x) (n ∷ y) e (inr h) =
    rw h.0 (less_then (reversed x) (reversed y) n (lex-less x y (omega arith) h.1))

before-less : (x y : List ℕ) → reading.Before x y → Less (reversed x) (reversed y)
before-less x y (inl h) = less-long (reversed x) (reversed y) (omega (arith, reversed-length x, reversed-length y))
before-less x y (inr h) = lex-less x y h.0 h.1

-- lists through a function
map-length : {X Y : Type 0} (f : X → Y) (xs : List X) → length (map f xs) ≡ length xs
map-length f [] = refl
map-length f (x ∷ xs) = ap suc (map-length f xs)

map_at : {X Y : Type 0} (f : X → Y) (xs : List X) (k : ℕ) (d : X) → get_or (map f xs) k (f d) ≡ f (get_or xs k d)
map_at f [] k d = refl
map_at f (x ∷ xs) zero d = refl
map_at f (x ∷ xs) (suc k) d = map_at f xs k d

module _ (N : Numbers) (few : N.z ≤ 125) where
  unfoldable pub found : {l : ℕ} → Unletter N l → Move
  found (of m s e) = m
  found (none h) = move (private 0) (question run)

  -- the move of a letter
  unfoldable pub move_of : ℕ → Move
  move_of l = found (unletter N few l)

  found-again : {l : ℕ} (x : Unletter N l) (m : Move) → Small N m → letter N m ≡ l → found x ≡ m
  unfolding found
  found-again (of n s e) m h f = letter-injective N few n m s h (e ∙ sym f)
  found-again (none g) m h f = absurd (g m h f)

  move-again : (m : Move) → Small N m → move_of (letter N m) ≡ m
  unfolding move_of
  move-again m h = found-again (unletter N few (letter N m)) m h refl

  -- the word of letters
  unfoldable pub word_of : List ℕ → Word
  word_of [] = []
  word_of (l ∷ x) = word_of x ++ (move_of l ∷ [])

  pub letter-back : (l : ℕ) → (m : Move) × (Small N m × (letter N m ≡ l))
      → (letter N (move_of l) ≡ l) × Small N (move_of l)
  letter-back l (m, (s, e)) =
      let f : move_of l ≡ m = ap move_of (sym e) ∙ move-again m s in
      (ap (letter N) f ∙ e, subst (Small N) (sym f) s)

  coded-back : (x : List ℕ) → Coded N x → code N (word_of x) ≡ x
  unfolding Coded word_of letters
  coded-back [] h = refl
  coded-back (l ∷ x) h =
      code-last N (word_of x) (move_of l) ∙ ap₂ (λ a b. a ∷ b) (letter-back l h.0).0 (coded-back x h.1)

  join-small : (b u : Word) → AllSmall N b → AllSmall N u → AllSmall N (b ++ u)
  unfolding AllSmall
  join-small [] u h k = k
  join-small (m ∷ b) u h k = (h.0, join-small b u h.1 k)

  coded-small : (x : List ℕ) → Coded N x → AllSmall N (word_of x)
  unfolding Coded word_of AllSmall
  coded-small [] h = tt
  coded-small (l ∷ x) h = join-small (word_of x) (move_of l ∷ []) (coded-small x h.1) ((letter-back l h.0).1, tt)

  -- the positions of a table over letters
  unfoldable pub arc_of : table.Arc → Arc
  arc_of a = record { by = move_of a.letter; to = a.to }

  unfoldable pub position_of : Place → Position
  position_of p = record { end = p.final; arcs = map arc_of p.arcs }

  abbrev pub positions_of : List Place → List Position
  positions_of T = map position_of T

  among-has : (xs : List table.Arc) (m : Move) (j : ℕ) → Among (map arc_of xs) m j
      → (l : ℕ) × ((move_of l ≡ m) × Has xs l j)
  unfolding Among Has arc_of
  among-has [] m j h = absurd h
  among-has (a ∷ xs) m j (inl h) = (a.letter, (h.0, inl (refl, h.1)))
  among-has (a ∷ xs) m j (inr h) = let r = among-has xs m j h in (r.0, (r.1.0, inr r.1.1))

  has-among : (xs : List table.Arc) (l j : ℕ) → Has xs l j → Among (map arc_of xs) (move_of l) j
  unfolding Among Has arc_of
  has-among [] l j h = absurd h
  has-among (a ∷ xs) l j (inl h) = inl (ap move_of h.0, h.1)
  has-among (a ∷ xs) l j (inr h) = inr (has-among xs l j h)

  -- an earlier move has the smaller letter
  earlier-of : (m n : Move) → Small N m → Small N n → letter N m < letter N n → Earlier N m n
  unfolding AllSmall
  earlier-of m n h k l = by (before-total N few (m ∷ []) (n ∷ []) (h, tt) (k, tt))
    where
      by : Before N (m ∷ []) (n ∷ []) ⊎ ((m ∷ [] ≡ n ∷ []) ⊎ Before N (n ∷ []) (m ∷ [])) → Earlier N m n
      by (inl (inl z)) = absurd (omega arith)
      by (inl (inr (e, inl z))) = z
      by (inl (inr (e, inr z))) = absurd z.1
      by (inr (inl e)) = let f : m ≡ n = cc in absurd (omega (arith, ap (letter N) f))
      by (inr (inr (inl z))) = absurd (omega arith)
      by (inr (inr (inr (e, inl z)))) = absurd (omega (arith, letter-order N few n m k h z))
      by (inr (inr (inr (e, inr z)))) = absurd z.1

  -- letters that rise are moves in order
  rising-order : (b : ℕ) (xs : List table.Arc) → Rising b xs
      → ((l j : ℕ) → Has xs l j → (m : Move) × (Small N m × (letter N m ≡ l))) → Ascending N (map arc_of xs)
  unfolding Rising Has Ascending arc_of
  rising-order b [] r c = tt
  rising-order b (a ∷ []) r c = tt
  rising-order b (a ∷ (d ∷ xs)) r c =
      let x = letter-back a.letter (c a.letter a.to (inl (refl, refl))) in
      let y = letter-back d.letter (c d.letter d.to (inr (inl (refl, refl)))) in
      let e = earlier-of (move_of a.letter) (move_of d.letter) x.1 y.1 (omega (arith, x.0, y.0, r.1.0)) in
      (e, rising-order (a.letter + 1) (d ∷ xs) r.1 (λ l j h. c l j (inr h)))

-- the words of L are the letters of the complete plays of S
module _ (S : Sheet) (A : Accepted S) (L : List ℕ → Type 0)
    (spells : (u : Word) → CompletePlay S u → L (code S.numbers u))
    (reads : (u : Word) → AllSmall S.numbers u → L (code S.numbers u) → CompletePlay S u)
    (coded : (x : List ℕ) → L x → Coded S.numbers x) where
  abbrev N : Numbers
  N = S.numbers

  abbrev z : N.z ≤ 125
  z = few S A

  word : List ℕ → Word
  word x = word_of N z x

  -- a complete play by its letters
  play-of : (b : Word) (x : List ℕ) → AllSmall N b → L (x ++ code N b) → CompletePlay S (b ++ word x)
  unfolding word
  play-of b x s h =
      let c = (coded-append N x (code N b) (coded (x ++ code N b) h)).0 in
      let e : x ++ code N b ≡ code N (b ++ word_of N z x) =
      ap (λ y. y ++ code N b) (sym (coded-back N z x c)) ∙ sym (code-append N b (word_of N z x)) in
      reads (b ++ word_of N z x) (join-small N z b (word_of N z x) s (coded-small N z x c)) (subst L e h)

  of-play : (b u : Word) → CompletePlay S (b ++ u) → L (code N u ++ code N b)
  of-play b u h = subst L (code-append N b u) (spells (b ++ u) h)

  begins-of : (b : Word) → Beginning S b → Begins L (code N b)
  begins-of b h = (code N h.0, of-play b h.0 h.1)

  of-begins : (b : Word) → AllSmall N b → Begins L (code N b) → Beginning S b
  of-begins b s h = (word h.0, play-of b h.0 s h.1)

  half-alike : (b c : Word) → AllSmall N b → ((u : Word) → CompletePlay S (b ++ u) → CompletePlay S (c ++ u))
      → (x : List ℕ) → L (x ++ code N b) → L (x ++ code N c)
  unfolding word
  half-alike b c s f x a =
      let k = (coded-append N x (code N b) (coded (x ++ code N b) a)).0 in
      subst (λ y. L (y ++ code N c)) (coded-back N z x k) (of-play c (word x) (f (word x) (play-of b x s a)))

  alike_of : (b c : Word) → AllSmall N b → AllSmall N c → OnePosition S b c → Alike L (code N b) (code N c)
  alike_of b c s t h x = (half-alike b c s (λ u. (h u).0) x, half-alike c b t (λ u. (h u).1) x)

  half-one : (b c u : Word) → AllSmall N c → (L (code N u ++ code N b) → L (code N u ++ code N c))
      → CompletePlay S (b ++ u) → CompletePlay S (c ++ u)
  half-one b c u s f a =
      let t : AllSmall N u = small-after N b u (sheet-small S A.ordered (b ++ u) a) in
      reads (c ++ u) (join-small N z c u s t) (subst L (sym (code-append N c u)) (f (of-play b u a)))

  of-alike : (b c : Word) → AllSmall N b → AllSmall N c → Alike L (code N b) (code N c) → OnePosition S b c
  of-alike b c s t h u = (half-one b c u t (h (code N u)).0, half-one c b u s (h (code N u)).1)

  less-of : (b c : Word) → AllSmall N b → AllSmall N c → Before N b c → Less (code N b) (code N c)
  less-of b c h k l = before-less (letters N b) (letters N c) (letters-before N z b c h k l)

  module _ (T : List Place) (B : Smallest L T) where
    -- the first beginning of a position
    lead : ℕ → Word
    lead k = word (B.word k)

    abbrev U : List Position
    U = positions_of N z T

    coded-at : (k : ℕ) → k < length T → Coded N (B.word k)
    coded-at k h =
        let b = (B.first k h).begins in
        (coded-append N b.0 (B.word k) (coded (b.0 ++ B.word k) b.1)).1

    code_at : (k : ℕ) → k < length T → code N (lead k) ≡ B.word k
    unfolding lead word
    code_at k h = coded-back N z (B.word k) (coded-at k h)

    small_at : (k : ℕ) → k < length T → AllSmall N (lead k)
    unfolding lead word
    small_at k h = coded-small N z (B.word k) (coded-at k h)

    low : (k : ℕ) → k < length U → k < length T
    low k h = omega (arith, map-length (position_of N z) T)

    high : (k : ℕ) → k < length T → k < length U
    high k h = omega (arith, map-length (position_of N z) T)

    arcs-at : (k : ℕ) → (get_or U k no_position).arcs ≡ map (arc_of N z) (get_or T k nowhere).arcs
    unfolding position_of
    arcs-at k = ap (λ (p : Position). p.arcs) (map_at (position_of N z) T k nowhere)

    end-at : (k : ℕ) → (get_or U k no_position).end ≡ (get_or T k nowhere).final
    unfolding position_of
    end-at k = ap (λ (p : Position). p.end) (map_at (position_of N z) T k nowhere)

    first-at : (k : ℕ) → k < length T → FirstBeginning S (lead k)
    first-at k h =
        let b : Beginning S (lead k) = of-begins (lead k) (small_at k h)
        (subst (Begins L) (sym (code_at k h)) (B.first k h).begins) in
        record {
          begins = b;
          least = λ c l o.
              let d : Beginning S c = (b.0, (o b.0).1 b.1) in
              let s = begin-small S A c d in
              let a : Alike L (code N c) (B.word k) =
              subst (Alike L (code N c)) (code_at k h) (alike_of c (lead k) s (small_at k h) o) in
              let q : Less (code N c) (B.word k) =
              subst (Less (code N c)) (code_at k h) (less-of c (lead k) s (small_at k h) l) in
              (B.first k h).least (code N c) q a;
        }

    rising-at : (j k : ℕ) → j < k → k < length T → Before N (lead j) (lead k)
    rising-at j k l h = by (before-total N z (lead j) (lead k) (small_at j g) (small_at k h))
      where
        g : j < length T
        g = omega arith

        r : Less (B.word j) (B.word k)
        r = B.rising j k l h

        by : Before N (lead j) (lead k) ⊎ ((lead j ≡ lead k) ⊎ Before N (lead k) (lead j)) → Before N (lead j) (lead k)
        by (inl b) = b
        by (inr (inl e)) =
            let f : B.word j ≡ B.word k = sym (code_at j g) ∙ ap (code N) e ∙ code_at k h in
            absurd (less-irrefl (B.word k) (subst (λ x. Less x (B.word k)) f r))
        by (inr (inr b)) =
            let q : Less (code N (lead k)) (code N (lead j)) =
            less-of (lead k) (lead j) (small_at k h) (small_at j g) b in
            let t : Less (B.word k) (B.word j) = rw (code_at k h, code_at j g) at q in
            absurd (less-irrefl (B.word j) (less-trans (B.word j) (B.word k) (B.word j) r t))

    all-at : (b : Word) → Beginning S b → (k : ℕ) × ((k < length U) × OnePosition S b (lead k))
    all-at b h =
        let f = B.all (code N b) (begins-of b h) in
        let k = f.0 in (
          k,
          (
            high k f.1.0,
            of-alike b (lead k) (begin-small S A b h) (small_at k f.1.0)
                (subst (Alike L (code N b)) (sym (code_at k f.1.0)) f.1.1),
          ),
        )

    play-at : (k : ℕ) → k < length T → L (B.word k) ↔ CompletePlay S (lead k)
    play-at k h = (
      (λ a. reads (lead k) (small_at k h) (subst L (sym (code_at k h)) a)),
      (λ a. subst L (code_at k h) (spells (lead k) a)),
    )

    -- a letter of a position is that of a move
    pub letter_at : (k : ℕ) → k < length T → (l j : ℕ) → Has (get_or T k nowhere).arcs l j
        → (m : Move) × (Small N m × (letter N m ≡ l))
    unfolding Coded
    letter_at k h l j a =
        let b = ((B.arcs k h l j).0 a).1.begins in
        (coded-append N b.0 (l ∷ B.word k) (coded (b.0 ++ (l ∷ B.word k)) b.1)).1.0

    -- one move more
    step-at : (k : ℕ) → k < length T → (m : Move) → code N (lead k ++ (m ∷ [])) ≡ letter N m ∷ B.word k
    step-at k h m = code-last N (lead k) m ∙ ap (λ (x : List ℕ). letter N m ∷ x) (code_at k h)

    move-to : (k : ℕ) → k < length T → (m : Move) (j : ℕ) → Among (map (arc_of N z) (get_or T k nowhere).arcs) m j
        → (j < length U) × (Beginning S (lead k ++ (m ∷ [])) × OnePosition S (lead k ++ (m ∷ [])) (lead j))
    move-to k h m j x =
        let r = among-has N z (get_or T k nowhere).arcs m j x in
        let l = r.0 in
        let q = letter-back N z l (letter_at k h l j r.1.1) in
        let e : code N (lead k ++ (m ∷ [])) ≡ l ∷ B.word k =
        step-at k h m ∙ ap (λ n. n ∷ B.word k) (ap (letter N) (sym r.1.0) ∙ q.0) in
        let s = (B.arcs k h l j).0 r.1.1 in
        let t : AllSmall N (lead k ++ (m ∷ [])) =
        join-small N z (lead k) (m ∷ []) (small_at k h) (only-small N m (subst (Small N) r.1.0 q.1)) in (
          high j s.0,
          (
            of-begins (lead k ++ (m ∷ [])) t (subst (Begins L) (sym e) s.1.begins),
            of-alike (lead k ++ (m ∷ [])) (lead j) t (small_at j s.0)
                (subst (λ y. Alike L y (code N (lead j))) (sym e)
                (subst (Alike L (l ∷ B.word k)) (sym (code_at j s.0)) s.1.alike)),
          ),
        )

    move-from : (k : ℕ) → k < length T → (m : Move) (j : ℕ)
        → (j < length U) × (Beginning S (lead k ++ (m ∷ [])) × OnePosition S (lead k ++ (m ∷ [])) (lead j))
        → Among (map (arc_of N z) (get_or T k nowhere).arcs) m j
    move-from k h m j x =
        let g = low j x.0 in
        let e = step-at k h m in
        let all = begin-small S A (lead k ++ (m ∷ [])) x.1.0 in
        let s : Small N m = small-last N (lead k) m all in
        let t : Leads L (B.word k) (letter N m) (B.word j) = record {
          begins = subst (Begins L) e (begins-of (lead k ++ (m ∷ [])) x.1.0);
          alike = subst (λ y. Alike L y (B.word j)) e
              (subst (Alike L (code N (lead k ++ (m ∷ [])))) (code_at j g)
              (alike_of (lead k ++ (m ∷ [])) (lead j) all (small_at j g) x.1.1));
        } in
        subst (λ n. Among (map (arc_of N z) (get_or T k nowhere).arcs) n j) (move-again N z m s)
        (has-among N z (get_or T k nowhere).arcs (letter N m) j ((B.arcs k h (letter N m) j).1 (g, t)))

    -- THEOREM: the smallest table over letters is the table of positions
    pub table-of-letters : Table S (positions_of N z T)
    table-of-letters = record {
      leading = lead;
      first = λ k h. first-at k (low k h);
      rising = λ j k l h. rising-at j k l (low k h);
      all = all-at;
      ends = λ k h. (
        (λ t. (play-at k (low k h)).0 ((B.final k (low k h)).0 (sym (end-at k) ∙ t))),
        (λ t. end-at k ∙ (B.final k (low k h)).1 ((play-at k (low k h)).1 t)),
      );
      ordered = λ k h. subst (Ascending N) (sym (arcs-at k))
          (rising-order N z 0 (get_or T k nowhere).arcs (B.order k (low k h)) (letter_at k (low k h)));
      moves = λ k h m j. (
        (λ x. move-to k (low k h) m j (subst (λ y. Among y m j) (arcs-at k) x)),
        (λ x. subst (λ y. Among y m j) (sym (arcs-at k)) (move-from k (low k h) m j x)),
      );
    }
