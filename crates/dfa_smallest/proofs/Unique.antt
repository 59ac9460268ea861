-- A language has one smallest table, and a table is the smallest one of one language. Assumes nothing.
use mathlib.Core.Bool.{Bool, false, true}
use mathlib.Core.List.{List, [], ◌++◌, ◌∷◌, append_assoc}
use mathlib.Core.Logic.{◌↔◌, ◌⊎◌, inl, inr}
use mathlib.Core.Path.{◌∙◌, ◌≡◌, ap, refl, subst, sym}
use Prim.Native.Nat.{◌<◌, ◌≤◌, suc, zero, ℕ}
use native.Mathlib.Decide.{dec_lt, ℕ_discrete}
use native.Mathlib.Omega.{arith}
use lib.ListN.{get_or, length}
use lib.Seq.{ext_get_or}
use Rattle.dfa.specs.Word.{Less}
use Rattle.dfa_smallest.specs.Table.{Alike, Begins, Foremost, Leads, Path, Place, Smallest, nowhere}
use Rattle.dfa_smallest.specs.Table.{start, step}
use Rattle.dfa_smallest.proofs.Order.{less-irrefl, less-total, less-trans}
use Rattle.dfa_smallest.proofs.Arcs.{arcs-same}

-- going on alike is an equivalence, and goes on
module _ (L : List ℕ → Type 0) where
  pub alike_refl : (x : List ℕ) → Alike L x x
  alike_refl x u = (λ h. h, λ h. h)

  pub alike-sym : (x y : List ℕ) → Alike L x y → Alike L y x
  alike-sym x y h u = ((h u).1, (h u).0)

  pub alike-trans : (x y z : List ℕ) → Alike L x y → Alike L y z → Alike L x z
  alike-trans x y z h k u = (λ a. (k u).0 ((h u).0 a), λ a. (h u).1 ((k u).1 a))

  -- x and then m and then u
  pub on : (u : List ℕ) (m : ℕ) (x : List ℕ) → (u ++ (m ∷ [])) ++ x ≡ u ++ (m ∷ x)
  on u m x = append_assoc u (m ∷ []) x

  pub alike-on : (m : ℕ) (x y : List ℕ) → Alike L x y → Alike L (m ∷ x) (m ∷ y)
  alike-on m x y h u = (
    (λ a. subst L (on u m y) ((h (u ++ (m ∷ []))).0 (subst L (sym (on u m x)) a))),
    (λ a. subst L (on u m x) ((h (u ++ (m ∷ []))).1 (subst L (sym (on u m y)) a))),
  )

  pub begins-before : (m : ℕ) (x : List ℕ) → Begins L (m ∷ x) → Begins L x
  begins-before m x h = (h.0 ++ (m ∷ []), subst L (sym (on h.0 m x)) h.1)

  pub begins-alike : (x y : List ℕ) → Alike L x y → Begins L x → Begins L y
  begins-alike x y h b = (b.0, (h b.0).0 b.1)

  -- a position has one first beginning
  pub foremost-one : (x y : List ℕ) → Foremost L x → Foremost L y → Alike L x y → x ≡ y
  foremost-one x y a b h = go (less-total x y)
    where
      go : Less x y ⊎ ((x ≡ y) ⊎ Less y x) → x ≡ y
      go (inl l) = absurd (b.least x l h)
      go (inr (inl e)) = e
      go (inr (inr l)) = absurd (a.least y l (alike-sym x y h))

-- the words of a table tell its positions apart
module _ (L : List ℕ → Type 0) (T : List Place) (S : Smallest L T) where
  pub word-one : (k j : ℕ) → k < length T → j < length T → S.word k ≡ S.word j → k ≡ j
  word-one k j a b e = go (dec_lt k j) (dec_lt j k)
    where
      go : Dec (k < j) → Dec (j < k) → k ≡ j
      go (yes l) d = absurd (less-irrefl (S.word j) (rw e at (S.rising k j l b)))
      go (no l) (yes g) = absurd (less-irrefl (S.word j) (rw e at (S.rising j k g a)))
      go (no l) (no g) = omega arith

  pub word-less : (k j : ℕ) → k < length T → j < length T → Less (S.word k) (S.word j) → k < j
  word-less k j a b l = go (dec_lt k j) (ℕ_discrete k j)
    where
      go : Dec (k < j) → Dec (k ≡ j) → k < j
      go (yes h) d = h
      go (no h) (yes e) = absurd (less-irrefl (S.word j) (rw e at l))
      go (no h) (no e) = absurd (less-irrefl (S.word j)
          (less-trans (S.word j) (S.word k) (S.word j) (S.rising j k (omega arith) a) l))

-- two smallest tables of one language have the same words
module _ (L : List ℕ → Type 0) (T U : List Place) (A : Smallest L T) (B : Smallest L U) where
  -- the position of U with the word of position k of T
  found : (k : ℕ) → k < length T → (j : ℕ) × ((j < length U) × (A.word k ≡ B.word j))
  found k h =
      let at = B.all (A.word k) (A.first k h).begins in (
        at.0,
        (
          at.1.0,
          foremost-one L (A.word k) (B.word at.0) (A.first k h) (B.first at.0 at.1.0)
              at.1.1,
        ),
      )

  pub not-before : (k j : ℕ) → k < length T → j < length U → A.word k ≡ B.word j → k ≤ j
  not-before zero j h g e = omega arith
  not-before (suc k) j h g e =
      let f = found k (omega arith) in
      let le : k ≤ f.0 = not-before k f.0 (omega arith) f.1.0 f.1.1 in
      let less : Less (B.word f.0) (B.word j) = rw (f.1.1, e) at (A.rising k (suc k) (omega arith) h) in
      let lt : f.0 < j = word-less L U B f.0 j f.1.0 g less in
      omega arith

  pub not-longer : length T ≤ length U
  not-longer = go (length T) (omega arith)
    where
      go : (n : ℕ) → n ≤ length T → n ≤ length U
      go zero h = omega arith
      go (suc n) h =
          let f = found n (omega arith) in
          let le : n ≤ f.0 = not-before n f.0 (omega arith) f.1.0 f.1.1 in
          omega (arith, f.1.0)

module _ (L : List ℕ → Type 0) (T U : List Place) (A : Smallest L T) (B : Smallest L U) where
  pub same_length : length T ≡ length U
  same_length = omega (arith, not-longer L T U A B, not-longer L U T B A)

  pub same_word : (k : ℕ) → k < length T → A.word k ≡ B.word k
  same_word k h =
      let f = found L T U A B k h in
      let g = found L U T B A f.0 f.1.0 in
      let le : k ≤ f.0 = not-before L T U A B k f.0 h f.1.0 f.1.1 in
      let ge : f.0 ≤ g.0 = not-before L U T B A f.0 g.0 f.1.0 g.1.0 g.1.1 in
      let back : g.0 ≡ k = word-one L T A g.0 k g.1.0 h (sym (f.1.1 ∙ g.1.1)) in
      let is : f.0 ≡ k = omega arith in
      f.1.1 ∙ ap B.word is

  same_truth : (a b : Bool) (X Y : Type 0) → (a ≡ true) ↔ X → (b ≡ true) ↔ Y → (X → Y) → (Y → X) → a ≡ b
  same_truth true b X Y h k f g = sym (k.1 (f (h.0 refl)))
  same_truth false true X Y h k f g = h.1 (g (k.0 refl))
  same_truth false false X Y h k f g = refl

  same_place : (a b : Place) → a.final ≡ b.final → a.arcs ≡ b.arcs → a ≡ b
  same_place a b e f = λ i. record { final = e i; arcs = f i }

  leads-same : (x x' y y' : List ℕ) (m : ℕ) → x ≡ x' → y ≡ y' → Leads L x m y → Leads L x' m y'
  leads-same x x' y y' m e f l = rw (← e, ← f) l

  -- a language has one smallest table
  pub table-one : T ≡ U
  table-one = ext_get_or nowhere T U same_length places
    where
      places : (k : ℕ) → k < length T → get_or T k nowhere ≡ get_or U k nowhere
      places k h =
          let g : k < length U = omega (arith, same_length) in
          same_place (get_or T k nowhere) (get_or U k nowhere)
          (same_truth (get_or T k nowhere).final (get_or U k nowhere).final (L (A.word k)) (L (B.word k))
          (A.final k h) (B.final k g) (λ x. subst L (same_word k h) x) (λ x. subst L (sym (same_word k h)) x))
          (arcs-same 0 (get_or T k nowhere).arcs (get_or U k nowhere).arcs (A.order k h) (B.order k g)
          (λ m j. (
            (λ x. let l = (A.arcs k h m j).0 x in (B.arcs k g m j).1 (
              omega (arith, same_length, l.0),
              leads-same (A.word k) (B.word k) (A.word j) (B.word j) m (same_word k h) (same_word j l.0) l.1,
            )),
            (λ x. let l = (B.arcs k g m j).0 x in let s : j < length T = omega (arith, same_length, l.0) in
                (A.arcs k h m j).1 (
                  s,
                  leads-same (B.word k) (A.word k) (B.word j) (A.word j) m (sym (same_word k h))
                      (sym (same_word j s)) l.1,
                )),
          )))

-- the smallest table of a language is that of every language with the same words
module _ (L M : List ℕ → Type 0) (e : (x : List ℕ) → L x ↔ M x) where
  alike-to : (x y : List ℕ) → Alike L x y → Alike M x y
  alike-to x y h u = (λ a. (e (u ++ y)).0 ((h u).0 ((e (u ++ x)).1 a)), λ a. (e (u ++ x)).0 ((h u).1 ((e (u ++ y)).1 a)))

  alike_from : (x y : List ℕ) → Alike M x y → Alike L x y
  alike_from x y h u = (λ a. (e (u ++ y)).1 ((h u).0 ((e (u ++ x)).0 a)), λ a. (e (u ++ x)).1 ((h u).1 ((e (u ++ y)).0 a)))

  begins-to : (x : List ℕ) → Begins L x → Begins M x
  begins-to x b = (b.0, (e (b.0 ++ x)).0 b.1)

  begins-from : (x : List ℕ) → Begins M x → Begins L x
  begins-from x b = (b.0, (e (b.0 ++ x)).1 b.1)

  pub smallest-of : (T : List Place) → Smallest L T → Smallest M T
  smallest-of T S = record {
    word = S.word;
    first = λ k h. record {
      begins = begins-to (S.word k) (S.first k h).begins;
      least = λ y l a. (S.first k h).least y l (alike_from y (S.word k) a);
    };
    rising = S.rising;
    all = λ x b. let f = S.all x (begins-from x b) in (f.0, (f.1.0, alike-to x (S.word f.0) f.1.1));
    final = λ k h. (λ t. (e (S.word k)).0 ((S.final k h).0 t), λ t. (S.final k h).1 ((e (S.word k)).1 t));
    order = S.order;
    arcs = λ k h m j. (
      (λ x. let l = (S.arcs k h m j).0 x in (
        l.0,
        record {
          begins = begins-to (m ∷ S.word k) l.1.begins;
          alike = alike-to (m ∷ S.word k) (S.word j) l.1.alike;
        },
      )),
      (λ x. (S.arcs k h m j).1 (
        x.0,
        record {
          begins = begins-from (m ∷ S.word k) x.1.begins;
          alike = alike_from (m ∷ S.word k) (S.word j) x.1.alike;
        },
      )),
    );
  }

-- languages with the same words have the same smallest table
pub table-of-same : (L M : List ℕ → Type 0) (T U : List Place) → ((x : List ℕ) → L x ↔ M x) → Smallest L T
    → Smallest M U → T ≡ U
table-of-same L M T U e A B = table-one M T U (smallest-of L M e T A) B

module _ (L : List ℕ → Type 0) (T : List Place) (S : Smallest L T) where
  -- the first word is empty
  first-empty : (k : ℕ) → k < length T → Alike L [] (S.word k) → k ≡ 0
  first-empty k h a = go (S.word k) refl
    where
      go : (x : List ℕ) → S.word k ≡ x → k ≡ 0
      go (m ∷ x) e = absurd ((S.first k h).least [] (rw e tt) a)
      go [] e = go' (ℕ_discrete k 0)
        where
          go' : Dec (k ≡ 0) → k ≡ 0
          go' (yes z) = z
          go' (no z) = absurd (none (S.word 0) (rw e at (S.rising 0 k (omega arith) h)))
            where
              none : (y : List ℕ) → Less y [] → ⊥
              none [] l = l
              none (n ∷ y) l = l

  -- a beginning leads to the position of its class
  pub path-of : (x : List ℕ) → Begins L x → (k : ℕ) × ((k < length T) × (Path T x k × Alike L x (S.word k)))
  path-of [] b =
      let f = S.all [] b in
      let z : f.0 ≡ 0 = first-empty f.0 f.1.0 f.1.1 in
      (0, (omega (arith, f.1.0), (start, rw z at f.1.1)))
  path-of (m ∷ x) b =
      let p = path-of x (begins-before L m x b) in
      let here = alike-on L m x (S.word p.0) p.1.1.1 in
      let f = S.all (m ∷ x) b in
      let l : Leads L (S.word p.0) m (S.word f.0) = record {
        begins = begins-alike L (m ∷ x) (m ∷ S.word p.0) here b;
        alike = alike-trans L (m ∷ S.word p.0) (m ∷ x) (S.word f.0)
            (alike-sym L (m ∷ x) (m ∷ S.word p.0) here) f.1.1;
      } in
      (f.0, (f.1.0, (step p.1.1.0 p.1.0 ((S.arcs p.0 p.1.0 m f.0).1 (f.1.0, l)), f.1.1)))

  -- where a word leads, the beginning of that position goes on alike
  pub path-alike : (x : List ℕ) (k : ℕ) → k < length T → Path T x k → Alike L x (S.word k)
  path-alike x k h start = alike-first (S.word 0) refl
    where
      alike-first : (y : List ℕ) → S.word 0 ≡ y → Alike L [] (S.word 0)
      alike-first [] e = rw e (alike_refl L [])
      alike-first (n ∷ y) e =
          let b : Begins L [] = whole (S.word 0) (S.first 0 h).begins in
          let f = S.all [] b in
          rw (first-empty f.0 f.1.0 f.1.1) at f.1.1
        where
          whole : (z : List ℕ) → Begins L z → Begins L []
          whole [] c = c
          whole (o ∷ z) c = whole z (begins-before L o z c)
  path-alike x k h (step {m = m} {j = j} {x = y} p g a) =
      let l = (S.arcs j g m k).0 a in
      alike-trans L (m ∷ y) (m ∷ S.word j) (S.word k) (alike-on L m y (S.word j) (path-alike y j g p)) l.1.alike

-- a table is the smallest one of one language
pub language-one : (L M : List ℕ → Type 0) (T : List Place) → Smallest L T → Smallest M T → (x : List ℕ) → L x → M x
language-one L M T A B x h =
    let p = path-of L T A x ([], h) in
    let l : L (A.word p.0) = (p.1.1.1 []).0 h in
    let t = (A.final p.0 p.1.0).1 l in
    let m : M (B.word p.0) = (B.final p.0 p.1.0).0 t in
    (path-alike M T B x p.0 p.1.0 p.1.1.0 []).1 m
