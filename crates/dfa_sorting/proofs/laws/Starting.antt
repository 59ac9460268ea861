-- The first two classes, and the automaton as it was given. Assumes nothing.
use mathlib.Core.List.{List}
use mathlib.Core.Logic.{◌≢◌, ◌⊎◌, inl, inr}
use mathlib.Core.Path.{◌∙◌, ◌≡◌, ap, refl, subst, sym}
use Prim.Native.Nat.{◌%◌, ◌*◌, ◌+◌, ◌-◌, ◌<◌, ◌≤◌, suc, zero, ℕ}
use native.Mathlib.Decide.{dec_lt, ℕ_discrete}
use native.Mathlib.Omega.{arith}
use lib.ListN.{get_or, length, length-set, set}
use lib.Seq.{get_or-set_other, get_or-set_same}
use borrow.Author.Tests.{eq-eqb, ne_eqb}
use Rattle.dfa.specs.Graph.{rest, target}
use Rattle.dfa.proofs.laws.Edges.{first_edge}
use Rattle.dfa.proofs.laws.Rest.{rest_at}
use Rattle.dfa_classes.specs.Packed.{Packed}
use Rattle.dfa_classes.specs.Parted.{Parted}
use Rattle.dfa_classes.specs.Places.{class_at, exchanged, from_at, member_at, place_at, to_at}
use Rattle.dfa_sorting.specs.Sorted.{Sortable, Sorted}
use Rattle.dfa_classes.specs.inner.Linking.{Linking, Zeroed}
use Rattle.dfa_splitting.specs.inner.Refining.{Refinable, Refined}
use Rattle.dfa_sorting.specs.inner.Starting.{Placed, Started, own_of}
use Rattle.dfa_classes.proofs.laws.Linking.{has-source, linked-packed}
use Rattle.dfa_classes.proofs.laws.Packed.{packed_keep}
use Rattle.dfa_classes.proofs.laws.Places.{exchanged-length, exchanged-other, exchanged-parted}
use Rattle.dfa_classes.proofs.laws.Places.{exchanged-place, swap-left}
use Rattle.dfa_classes.proofs.laws.Touching.{few-classes}

-- placing
pub placed_first : (n : ℕ) (ws : List ℕ) → Placed n 0 ws ws
placed_first n ws = record {
  len = refl;
  class = λ p h. absurd (omega arith);
  member = λ p h. absurd (omega arith);
  place = λ p h. absurd (omega arith);
  keeps = λ x h. refl;
}

module _ (n i : ℕ) (ws v : List ℕ) (P : Placed n i ws v) (h : i < n) (room : 5 * n ≤ length ws) where
  abbrev u₁ : List ℕ
  u₁ = set v i 0

  abbrev u₂ : List ℕ
  u₂ = set u₁ (n + i) i

  abbrev u₃ : List ℕ
  u₃ = set u₂ (2 * n + i) i

-- the first two classes
module _ (n f : ℕ) (ws : List ℕ) (P : Placed n n ws ws) (room : 5 * n ≤ length ws) (low : f < n) (ne : f ≢ n - 1) where
  two : 2 ≤ n
  two = go (dec_lt 1 n)
    where
      go : Dec (1 < n) → 2 ≤ n
      go (yes l) = omega arith
      go (no l) = absurd (ne (omega arith))

  abbrev a₁ : List ℕ
  a₁ = set ws (3 * n + 0) 0

  abbrev a₂ : List ℕ
  a₂ = set a₁ (4 * n + 0) n

  a₂-length : length a₂ ≡ length ws
  a₂-length = length-set a₁ (4 * n + 0) n ∙ length-set ws (3 * n + 0) 0

  a₂-other : (x : ℕ) → x ≢ 3 * n + 0 → x ≢ 4 * n + 0 → get_or a₂ x 0 ≡ get_or ws x 0
  a₂-other x a b = get_or-set_other a₁ (4 * n + 0) x n 0 b ∙ get_or-set_other ws (3 * n + 0) x 0 0 a

  a₂-from : from_at n a₂ 0 ≡ 0
  a₂-from = get_or-set_other a₁ (4 * n + 0) (3 * n + 0) n 0 (λ q. omega (arith, two))
      ∙ get_or-set_same ws (3 * n + 0) 0 0 (omega (arith, two))

  a₂-to : to_at n a₂ 0 ≡ n
  a₂-to = get_or-set_same a₁ (4 * n + 0) n 0 (rw length-set (omega (arith, two)))

  a₂-member : (i : ℕ) → i < n → member_at n a₂ i ≡ i
  a₂-member i h = a₂-other (n + i) (λ q. omega arith) (λ q. omega arith) ∙ P.member i h

  a₂-place : (i : ℕ) → i < n → place_at n a₂ i ≡ i
  a₂-place i h = a₂-other (2 * n + i) (λ q. omega arith) (λ q. omega arith) ∙ P.place i h

  one_class : Parted n a₂ (λ p. 0) 1
  one_class = record {
    member_low = λ i h. rw (a₂-member i h) h;
    place_low = λ p h. rw (a₂-place p h) h;
    member_place = λ p h. ap (member_at n a₂) (a₂-place p h) ∙ a₂-member p h;
    place_member = λ i h. ap (place_at n a₂) (a₂-member i h) ∙ a₂-place i h;
    own_low = λ p h. omega arith;
    own_from = λ p h. rw a₂-from (omega arith);
    own_to = λ p h. rw (a₂-to, a₂-place p h) h;
    whole = λ c h i a b. omega arith;
    some = λ c h. subst (λ x. from_at n a₂ x < to_at n a₂ x) {x = 0} {y = c} (omega arith)
        (rw (a₂-from, a₂-to) (omega (arith, two)));
    top = λ c h. subst (λ x. to_at n a₂ x ≤ n) {x = 0} {y = c} (omega arith) (rw a₂-to (omega arith));
  }

  exchange-asks : (v : List ℕ) → v ≡ a₂ → n ≤ 8192 → (n ≤ 8192) × ((f < n) × ((n - 1 < n) × ((5 * n ≤ length v)
      × ((member_at n v f < n) × (member_at n v (n - 1) < n)))))
  exchange-asks v e few = rw e (
    few,
    (
      low,
      (
        omega (arith, two),
        (
          omega (arith, a₂-length),
          (rw (a₂-member f low) low, rw (a₂-member (n - 1) (omega (arith, two))) (omega (arith, two))),
        ),
      ),
    ),
  )

  last-low : n - 1 < n
  last-low = omega (arith, two)

  room₂ : 5 * n ≤ length a₂
  room₂ = omega (arith, a₂-length)

  abbrev a₃ : List ℕ
  a₃ = exchanged n a₂ f (n - 1)

  a₃-length : length a₃ ≡ length ws
  a₃-length = exchanged-length n a₂ (λ p. 0) 1 one_class room₂ f (n - 1) low last-low ∙ a₂-length

  P₃ : Parted n a₃ (λ p. 0) 1
  P₃ = exchanged-parted n a₂ (λ p. 0) 1 one_class room₂ f (n - 1) low last-low refl (omega (arith, two))

  a₃-place : place_at n a₃ f ≡ n - 1
  a₃-place = exchanged-place n a₂ (λ p. 0) 1 one_class room₂ f (n - 1) low last-low f low
      ∙ swap-left f (n - 1) (place_at n a₂ f) (a₂-place f low)

  a₃-other : (x : ℕ) → (x < n) ⊎ (3 * n ≤ x) → get_or a₃ x 0 ≡ get_or a₂ x 0
  a₃-other = exchanged-other n a₂ (λ p. 0) 1 one_class room₂ f (n - 1) low last-low

  abbrev a₄ : List ℕ
  a₄ = set a₃ f 1

  abbrev a₅ : List ℕ
  a₅ = set a₄ (4 * n + 0) (n - 1)

  abbrev a₆ : List ℕ
  a₆ = set a₅ (3 * n + 1) (n - 1)

  abbrev a₇ : List ℕ
  a₇ = set a₆ (4 * n + 1) n

  a₇-length : length a₇ ≡ length ws
  a₇-length = length-set a₆ (4 * n + 1) n ∙ length-set a₅ (3 * n + 1) (n - 1) ∙ length-set a₄ (4 * n + 0) (n - 1)
      ∙ length-set a₃ f 1 ∙ a₃-length

  a₇-other : (x : ℕ) → x ≢ f → x ≢ 4 * n + 0 → x ≢ 3 * n + 1 → x ≢ 4 * n + 1 → get_or a₇ x 0 ≡ get_or a₃ x 0
  a₇-other x a b c d = get_or-set_other a₆ (4 * n + 1) x n 0 d ∙ get_or-set_other a₅ (3 * n + 1) x (n - 1) 0 c
      ∙ get_or-set_other a₄ (4 * n + 0) x (n - 1) 0 b ∙ get_or-set_other a₃ f x 1 0 a

  a₇-mid : (x : ℕ) → n ≤ x → x < 3 * n → get_or a₇ x 0 ≡ get_or a₃ x 0
  a₇-mid x a b = a₇-other x (λ q. omega (arith, low)) (λ q. omega arith) (λ q. omega arith) (λ q. omega arith)

  from-0 : from_at n a₇ 0 ≡ 0
  from-0 = a₇-other (3 * n + 0) (λ q. omega (arith, low)) (λ q. omega (arith, two)) (λ q. omega arith) (λ q. omega
      arith)
      ∙ a₃-other (3 * n + 0) (inr (omega arith)) ∙ a₂-from

  to-0 : to_at n a₇ 0 ≡ n - 1
  to-0 = get_or-set_other a₆ (4 * n + 1) (4 * n + 0) n 0 (λ q. omega arith)
      ∙ get_or-set_other a₅ (3 * n + 1) (4 * n + 0) (n - 1) 0 (λ q. omega (arith, two))
      ∙ get_or-set_same a₄ (4 * n + 0) (n - 1) 0 (rw length-set (omega (arith, a₃-length, two)))

  from-1 : from_at n a₇ 1 ≡ n - 1
  from-1 = get_or-set_other a₆ (4 * n + 1) (3 * n + 1) n 0 (λ q. omega (arith, two))
      ∙ get_or-set_same a₅ (3 * n + 1) (n - 1) 0 (simp length-set (omega (arith, a₃-length, two)))

  to-1 : to_at n a₇ 1 ≡ n
  to-1 = get_or-set_same a₆ (4 * n + 1) n 0 (simp length-set (omega (arith, a₃-length, two)))

  own-f : (p : ℕ) → p ≡ f → own_of f p ≡ 1
  own-f p e = rw (eq-eqb p f e)

  own-not : (p : ℕ) → p ≢ f → own_of f p ≡ 0
  own-not p e = rw (ne_eqb p f e)

  mem : (i : ℕ) → i < n → member_at n a₇ i ≡ member_at n a₃ i
  mem i h = a₇-mid (n + i) (omega arith) (omega arith)

  pla : (p : ℕ) → p < n → place_at n a₇ p ≡ place_at n a₃ p
  pla p h = a₇-mid (2 * n + p) (omega arith) (omega arith)

  -- f is at the last place, and no other state is
  f-last : (i : ℕ) → i < n → member_at n a₃ i ≡ f → i ≡ n - 1
  f-last i h e = sym (P₃.place_member i h) ∙ ap (place_at n a₃) e ∙ a₃-place

  not_last : (p : ℕ) → p < n → p ≢ f → place_at n a₃ p < n - 1
  not_last p h e = go (ℕ_discrete (place_at n a₃ p) (n - 1))
    where
      go : Dec (place_at n a₃ p ≡ n - 1) → place_at n a₃ p < n - 1
      go (yes q) = absurd (e (sym (P₃.member_place p h) ∙ ap (member_at n a₃) (q ∙ sym a₃-place) ∙ P₃.member_place f
          low))
      go (no q) = omega (arith, P₃.place_low p h)

  parted₇ : Parted n a₇ (own_of f) 2
  parted₇ = record {
    member_low = λ i h. rw (mem i h) (P₃.member_low i h);
    place_low = λ p h. rw (pla p h) (P₃.place_low p h);
    member_place = λ p h. ap (member_at n a₇) (pla p h) ∙ mem (place_at n a₃ p) (P₃.place_low p h) ∙ P₃.member_place p
        h;
    place_member = λ i h. ap (place_at n a₇) (mem i h) ∙ pla (member_at n a₃ i) (P₃.member_low i h) ∙ P₃.place_member i
        h;
    own_low = λ p h. own_low p (ℕ_discrete p f);
    own_from = λ p h. own_from p h (ℕ_discrete p f);
    own_to = λ p h. own_to p h (ℕ_discrete p f);
    whole = whole;
    some = some;
    top = top;
  }
    where
      own_low : (p : ℕ) → Dec (p ≡ f) → own_of f p < 2
      own_low p (yes e) = rw (own-f p e) (omega arith)
      own_low p (no e) = rw (own-not p e) (omega arith)

      own_from : (p : ℕ) → p < n → Dec (p ≡ f) → from_at n a₇ (own_of f p) ≤ place_at n a₇ p
      own_from p h (yes e) = omega (arith, ap (from_at n a₇) (own-f p e), from-1, pla p h, ap (place_at n a₃) e, a₃-place)
      own_from p h (no e) = omega (arith, ap (from_at n a₇) (own-not p e), from-0)

      own_to : (p : ℕ) → p < n → Dec (p ≡ f) → place_at n a₇ p < to_at n a₇ (own_of f p)
      own_to p h (yes e) = omega (arith, ap (to_at n a₇) (own-f p e), to-1, pla p h, P₃.place_low p h)
      own_to p h (no e) = omega (arith, ap (to_at n a₇) (own-not p e), to-0, pla p h, not_last p h e)

      is_f : (i : ℕ) → i < n → n - 1 ≤ i → member_at n a₇ i ≡ f
      is_f i h l = mem i h ∙ ap (member_at n a₃) {x = i} {y = n - 1} (omega arith) ∙ ap (member_at n a₃) (sym a₃-place)
          ∙ P₃.member_place f low

      whole : (c : ℕ) → c < 2 → (i : ℕ) → from_at n a₇ c ≤ i → i < to_at n a₇ c → own_of f (member_at n a₇ i) ≡ c
      whole zero h i a b = own-not (member_at n a₇ i) (λ e. let q = f-last i (omega (arith, to-0)) (sym (mem i (omega
          (arith, to-0))) ∙ e) in omega (arith, to-0, two))
      whole (suc zero) h i a b = own-f (member_at n a₇ i) (is_f i (omega (arith, to-1)) (omega (arith, from-1)))
      whole (suc (suc c)) h i a b = absurd (omega arith)

      some : (c : ℕ) → c < 2 → from_at n a₇ c < to_at n a₇ c
      some zero h = omega (arith, from-0, to-0, two)
      some (suc zero) h = omega (arith, from-1, to-1, two)
      some (suc (suc c)) h = absurd (omega arith)

      top : (c : ℕ) → c < 2 → to_at n a₇ c ≤ n
      top zero h = omega (arith, to-0)
      top (suc zero) h = omega (arith, to-1)
      top (suc (suc c)) h = absurd (omega arith)

  started₇ : Started n f ws a₇
  started₇ = record {
    len = a₇-length;
    parted = parted₇;
    class = λ p h. class p h (ℕ_discrete p f);
    keeps = λ x h. a₇-other x (λ q. omega (arith, low)) (λ q. omega (arith, two)) (λ q. omega (arith, two))
        (λ q. omega (arith, two))
        ∙ a₃-other x (inr (omega arith)) ∙ a₂-other x (λ q. omega (arith, two)) (λ q. omega (arith, two));
  }
    where
      class : (p : ℕ) → p < n → Dec (p ≡ f) → class_at a₇ p ≡ own_of f p
      class p h (yes e) = ap (class_at a₇) e ∙ get_or-set_other a₆ (4 * n + 1) f n 0 (λ q. omega (arith, low))
          ∙ get_or-set_other a₅ (3 * n + 1) f (n - 1) 0 (λ q. omega (arith, low))
          ∙ get_or-set_other a₄ (4 * n + 0) f (n - 1) 0 (λ q. omega (arith, low, two))
          ∙ get_or-set_same a₃ f 1 0 (omega (arith, a₃-length, low)) ∙ sym (own-f p e)
      class p h (no e) = a₇-other p e (λ q. omega (arith, two)) (λ q. omega arith) (λ q. omega arith)
          ∙ a₃-other p (inl h) ∙ a₂-other p (λ q. omega (arith, two)) (λ q. omega (arith, two)) ∙ P.class p h
          ∙ sym (own-not p e)

  pub started : (b₁ b₂ b₃ b₄ b₅ b₆ b₇ : List ℕ) → b₁ ≡ set ws (3 * n + 0) 0 → b₂ ≡ set b₁ (4 * n + 0) n
      → b₃ ≡ exchanged n b₂ f (n - 1) → b₄ ≡ set b₃ f 1 → b₅ ≡ set b₄ (4 * n + 0) (n - 1)
      → b₆ ≡ set b₅ (3 * n + 1) (n - 1) → b₇ ≡ set b₆ (4 * n + 1) n → Started n f ws b₇
  started b₁ b₂ b₃ b₄ b₅ b₆ b₇ e₁ e₂ e₃ e₄ e₅ e₆ e₇ = rw (e₇, e₆, e₅, e₄, e₃, e₂, e₁) started₇

-- the automaton as it was given
module _ (n f : ℕ) (ws : List ℕ) (S : Sortable n f ws) where
  abbrev G : List ℕ
  G = rest (5 * n) ws

  at-graph : (i j : ℕ) → i ≡ 5 * n + j → get_or ws i 0 ≡ get_or G j 0
  at-graph i j e = ap (λ x. get_or ws x 0) e ∙ sym (rest_at (5 * n) ws j)

  pub end_is : (e : ℕ) → e ≡ get_or ws (5 * n + n) 0 → e ≡ get_or G n 0
  end_is e q = q ∙ at-graph (5 * n + n) n refl

  pub g-is : (e : ℕ) → e ≡ get_or ws (5 * n + n) 0 → 6 * n + 1 + 2 * e ≡ 6 * n + 1 + 2 * get_or G n 0
  g-is e q = ap (λ x. 6 * n + 1 + 2 * x) (end_is e q)

  module _ (g : ℕ) (eg : g ≡ 6 * n + 1 + 2 * get_or G n 0) where
    pub zero-asks : (g + 2 * n ≤ length ws) × (g + 2 * n < 4294967296)
    zero-asks = (omega (arith, S.room), omega (arith, S.few, S.edges))

    module _ (v : List ℕ) (Z : Zeroed g (2 * n) ws v) where
      same : (x : ℕ) → x < g → get_or v x 0 ≡ get_or ws x 0
      same x h = Z.keeps x (inl h)

      pub linkable : Linking G n g v (get_or G 0 0) v
      linkable = record {
        graph = S.single.graph;
        sized = record {
          some = S.single.graph.some;
          few = S.few;
          edges = S.edges;
          behind = eg;
          room = omega (arith, S.room, Z.len);
        };
        len = refl;
        firsts = λ i h. same (5 * n + i) (omega (arith, eg)) ∙ at-graph (5 * n + i) i refl;
        letters = λ e h. same (6 * n + 1 + 2 * e) (omega (arith, eg))
            ∙ at-graph (6 * n + 1 + 2 * e) (n + 1 + 2 * e) (omega arith);
        targets = targets;
        heads = λ t h. rw (Z.zero t (omega arith)) (record {
          within = omega arith;
          above = λ l. absurd (omega arith);
          leads = λ l. absurd (omega arith);
          later = λ e a b c. absurd (omega arith);
        });
        nexts = λ e a b. absurd (omega arith);
        low = omega arith;
        high = high;
        rest = λ x h. refl;
      }
        where
          small : (e : ℕ) → get_or G 0 0 ≤ e → e < get_or G n 0 → target G n e < n
          small e a b =
              let s = has-source G n S.single.graph n (omega arith) e a b in
              ((S.single.graph.edges s.0 s.1.0).small e s.1.1.0 s.1.1.1).1

          targets : (e : ℕ) → get_or G 0 0 ≤ e → e < get_or G n 0 → get_or v (6 * n + 2 + 2 * e) 0 % 8192 ≡ target G n e
          targets e a b =
              let is = same (6 * n + 2 + 2 * e) (omega (arith, eg))
              ∙ at-graph (6 * n + 2 + 2 * e) (n + 2 + 2 * e) (omega arith) in
              ap (λ y. y % 8192) is ∙ rem (target G n e) (omega (arith, small e a b, S.few))
            where
              rem : (t : ℕ) → t < 8192 → t % 8192 ≡ t
              rem t l = omega arith

          high : get_or G 0 0 ≤ get_or G n 0
          high = first_edge G n S.single.graph 0 n (omega arith) (omega arith)

      module _ (u : List ℕ) (L : Linking G n g v (get_or G n 0) u) where
        module _ (w : List ℕ) (P : Placed n n u w) where
          module _ (y : List ℕ) (T : Started n f w y) where
            pub refinable : Refinable G n g f y
            refinable = let z = L.sized in record {
              single = S.single;
              low = S.low;
              own = own_of f;
              ready = record {
                packed = packed_keep G n g u (linked-packed G n g v u L) y (T.len ∙ P.len)
                    (λ x a b. T.keeps x a ∙ P.keeps x (omega arith));
                parted = T.parted;
                class = T.class;
                zero = λ c h. T.keeps (g + n + c) (omega arith) ∙ P.keeps (g + n + c) (omega arith)
                    ∙ L.rest (g + n + c) (inr (omega arith))
                    ∙ ap (λ x. get_or v x 0) {x = g + n + c} {y = g + (n + c)} (omega arith) ∙ Z.zero (n + c) (omega
                    arith);
              };
              accepts = rw (eq-eqb f f refl);
              others = λ p h e. rw (ne_eqb p f e);
            }

            pub sorted : (count : ℕ) (o : List ℕ) → Refined G n g f count o → Sorted G n f count o
            sorted count o R = record {
              packed = subst (λ x. Packed G n x o) eg R.ready.packed;
              own = R.own;
              class = R.ready.class;
              low = R.ready.parted.own_low;
              few = few-classes n o R.own count R.ready.parted;
              classes = R.classes;
            }
